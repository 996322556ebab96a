-- The losses of the four loss entries are finite: their contracts, and `promises` of the definitions that these name. Assumes nothing.
use mathlib.Core.Path.{◌≡◌, sym, subst}
use Rattle.analytic_v6.specs.Results.{Loss}
use Rattle.laws.specs.Numbers.{Finite}
use Rattle.promises.proofs.Finite.{no_silent_nan}
use Rattle.outcomes.specs.FrozenEntries.{prefix_call, prefix_weights, prefix_input, card_call, card_weights, card_input}
use Rattle.outcomes.specs.FiniteEntries.{FiniteEntries}

by : {x y : Loss} → x ≡ y → Finite y.loss → Finite x.loss
by e h = subst (λ (z : Loss). Finite z.loss) (sym e) h

pub finite_entries : FiniteEntries
finite_entries = record {
  batch_grad = λ L C L1 L2 K G1 D1 G2 D2 κs a o c s. by c.0 (no_silent_nan.0.answer (prefix_call L C L1 L2 K G1 D1 G2 D2 κs a) s);
  batch = λ κs a o c s. by c (no_silent_nan.0.answer_alone (prefix_weights κs a) (prefix_input κs a) s);
  card_grad = λ L C L1 L2 K G1 D1 G2 D2 κs a o c s. by c.0 (no_silent_nan.1.answer (card_call L C L1 L2 K G1 D1 G2 D2 κs a) s);
  card = λ κs a o c s. by c (no_silent_nan.1.answer_alone (card_weights κs a) (card_input κs a) s);
}
