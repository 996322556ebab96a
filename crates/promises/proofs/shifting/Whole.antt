-- Whole calls behind padding. Assumes nothing.
use Prim.Native.Nat.{ℕ, ◌<◌}
use mathlib.Core.Bool.{true}
use mathlib.Core.Path.{◌≡◌, refl, sym, ◌∙◌, subst}
use Rattle.checks.specs.Batch.{Prefixes, Cards}
use Rattle.checks.specs.Faults.{prefix_column_def, prefix_fault_def, card_column_def, card_fault_def}
use Rattle.checks.specs.Refusals.{prefixes_sized, cards_sized, prefix_grad_refusal_def, card_grad_refusal_def}
use Rattle.analytic_v6.specs.Prefixes.{prefix_loss_def, prefix_slots_def, batch_loss_and_grad_def, batch_slots}
use Rattle.analytic_v6.specs.Cards.{card_loss_def, card_slots_def, cards_loss_and_grad, cards_slots}
use Rattle.promises.specs.Aligned.{ShiftedPrefix, ShiftedCard, ShiftedCall, Same}
use Rattle.promises.specs.LossCalls.{Call, prefixes, cards}
use Rattle.promises.proofs.shifting.Prefix.{prefix_loss, prefix_slots}
use Rattle.promises.proofs.shifting.Card.{card_loss, card_slots}
use Rattle.promises.proofs.shifting.Faults.{each_none, all_none}
use Rattle.promises.proofs.shifting.PrefixFault.{prefix_fault}
use Rattle.promises.proofs.shifting.CardFault.{card_fault}
use Rattle.promises.proofs.shifting.Calls.{Entries, outcome, accepted}

-- ---- prefixes
pub prefix_entries : Entries prefixes prefix_loss_def prefix_slots_def
unfolding batch_loss_and_grad_def batch_slots
prefix_entries = record { answers = λ c. refl; slots = λ c. refl }

module _ (c d : Call Prefixes) (s : ShiftedCall prefixes ShiftedPrefix c d) where
  prefix_none : (prefix_fault_def c.x).refusal ≡ 0 → (prefix_fault_def d.x).refusal ≡ 0
  unfolding prefix_fault_def
  prefix_none h =
      all_none (prefix_column_def d.x) _
      (λ column l. let k = subst (λ (n : ℕ). column < n) (sym s.columns) l in
      prefix_fault c.x d.x column (s.each column k) (each_none (prefix_column_def c.x) _ h column k))

  pub prefix_calls : prefixes.refusal c ≡ 0 → prefixes_sized d.x ≡ true → prefixes.room d ≡ true → Same prefixes c d
  unfolding prefix_grad_refusal_def
  prefix_calls z sized room =
      outcome prefixes prefix_loss_def prefix_slots_def c d prefix_entries
      (record {
        weights = s.weights;
        gradients = s.gradients;
        columns = s.columns;
        refusals = z ∙ sym (accepted c.w d.w c.gw d.gw _ _ _ _ _ _ s.weights s.gradients sized room prefix_none z);
        each = λ z column l p. let e = s.each column l in (prefix_loss c.x d.x column e p, prefix_slots c.x d.x column e p);
      })

-- ---- cards
pub card_entries : Entries cards card_loss_def card_slots_def
unfolding cards_loss_and_grad cards_slots
card_entries = record { answers = λ c. refl; slots = λ c. refl }

module _ (c d : Call Cards) (s : ShiftedCall cards ShiftedCard c d) where
  card_none : (card_fault_def c.x).refusal ≡ 0 → (card_fault_def d.x).refusal ≡ 0
  unfolding card_fault_def
  card_none h =
      all_none (card_column_def d.x) _
      (λ column l. let k = subst (λ (n : ℕ). column < n) (sym s.columns) l in
      card_fault c.x d.x column (s.each column k) (each_none (card_column_def c.x) _ h column k))

  pub card_calls : cards.refusal c ≡ 0 → cards_sized d.x ≡ true → cards.room d ≡ true → Same cards c d
  unfolding card_grad_refusal_def
  card_calls z sized room =
      outcome cards card_loss_def card_slots_def c d card_entries
      (record {
        weights = s.weights;
        gradients = s.gradients;
        columns = s.columns;
        refusals = z ∙ sym (accepted c.w d.w c.gw d.gw _ _ _ _ _ _ s.weights s.gradients sized room card_none z);
        each = λ z column l p. let e = s.each column l in (card_loss c.x d.x column e p, card_slots c.x d.x column e p);
      })
