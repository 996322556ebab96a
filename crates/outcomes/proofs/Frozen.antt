-- What the four loss entries do not read does not count: their contracts, and `promises` of the definitions that these name. Assumes nothing.
use mathlib.Core.List.{List}
use mathlib.Core.Path.{sym, ap, ◌∙◌}
use lib.Ieee.{Float}
use Rattle.domain.specs.Weights.{◌!◌}
use Rattle.analytic_v6.proofs.Results.{answered_one}
use Rattle.promises.proofs.Frozen.{demand3}
use Rattle.outcomes.specs.FrozenEntries.{prefix_call, prefix_weights, prefix_input, card_call, card_weights, card_input, FrozenEntries}

pub frozen_entries : FrozenEntries
frozen_entries =
    record {
      batch_grad = λ L C L1 L2 K G1 D1 G2 D2.
          let call = prefix_call L C L1 L2 K G1 D1 G2 D2 in
          record {
            same = λ κs a b o q c d h. let e = demand3.0.same_outcome (call κs a) (call κs b) h in (answered_one _ _ (c.0 ∙ e.0 ∙ sym d.0), c.1.0 ∙ e.1 ∙ sym d.1.0);
            kept = λ κs a o c k z m. ap (λ (xs : List Float). xs ! k) c.1.0 ∙ demand3.0.slot_kept (call κs a) k z m;
          };
      batch = record { same = λ κs a b o q c d h g. answered_one _ _ (c ∙ demand3.0.same_loss (prefix_input κs a) (prefix_input κs b) (prefix_weights κs a) (prefix_weights κs b) h g ∙ sym d) };
      card_grad = λ L C L1 L2 K G1 D1 G2 D2.
          let call = card_call L C L1 L2 K G1 D1 G2 D2 in
          record {
            same = λ κs a b o q c d h. let e = demand3.1.same_outcome (call κs a) (call κs b) h in (answered_one _ _ (c.0 ∙ e.0 ∙ sym d.0), c.1.0 ∙ e.1 ∙ sym d.1.0);
            kept = λ κs a o c k z m. ap (λ (xs : List Float). xs ! k) c.1.0 ∙ demand3.1.slot_kept (call κs a) k z m;
          };
      card = record { same = λ κs a b o q c d h g. answered_one _ _ (c ∙ demand3.1.same_loss (card_input κs a) (card_input κs b) (card_weights κs a) (card_weights κs b) h g ∙ sym d) };
    }
