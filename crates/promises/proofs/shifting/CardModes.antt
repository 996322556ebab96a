-- Cards without padding, whose last ratings are good, are the same in both modes, refusals included. Assumes nothing.
use Prim.Native.Nat.{ℕ, suc, ◌-◌, ◌<◌}
use mathlib.Core.Bool.{Bool, true, false}
use mathlib.Core.Path.{◌≡◌, refl, sym, ap, ◌∙◌, subst}
use native.Mathlib.Nat.{sub-zero}
use native.Mathlib.Omega.{arith}
use borrow.Author.Tests.{eqb-true}
use lib.Dec.{T}
use lib.Ieee.{Float}
use Rattle.checks.specs.Align.{is_end_def}
use Rattle.checks.specs.Batch.{Cards, length_at, at, history, label_at}
use Rattle.checks.specs.Faults.{fault_at_def, rows_fault, card_column_def, card_fault_def}
use Rattle.checks.specs.Reads.{is_last, non_zero, rating_good_def, card_rating, check, card_row_def}
use Rattle.checks.specs.Refusals.{card_grad_refusal_def}
use Rattle.checks.specs.declared.align.Align.{Align}
use Rattle.checks.specs.declared.align.Align.TheVariants.{Start, End}
use Rattle.analytic_v6.specs.Cards.{card_loss_def, card_slots_def}
use Rattle.checks.proofs.align.Counted.{review_kept}
use Rattle.laws.proofs.Agreement.Faults.{faults_same}
use Rattle.promises.specs.Aligned.{ShiftedCard, Same, cards_as, call_with, Reviewed, LastGood}
use Rattle.promises.specs.LossCalls.{Call, cards}
use Rattle.promises.proofs.shifting.Card.{card_loss, card_slots}
use Rattle.promises.proofs.shifting.CardFault.{row_at}
use Rattle.promises.proofs.shifting.Calls.{outcome}
use Rattle.promises.proofs.shifting.Whole.{card_entries}
use Rattle.promises.proofs.shifting.Modes.{table_as, from_0, not_moved, both_modes}

-- the modes differ in whether the last rating is read
end_same :
    (last : Bool) (row : ℕ) (day rating weight label : Float) → (last ≡ true → rating_good_def rating ≡ true) →
    card_row_def false last row day rating weight label ≡ card_row_def true last row day rating weight label
unfolding card_row_def card_rating check
end_same true row day rating weight label h = rw (h refl)
end_same false row day rating weight label h = refl

module _ (x : Cards) (reviewed : Reviewed x.table) (good : LastGood x.table) where
  module _ (column : ℕ) (l : column < x.table.columns) where
    abbrev n : ℕ
    n = length_at x.table column

    abbrev day : (row : ℕ) → Float
    day row = at x.table x.table.days row column

    abbrev rating : (row : ℕ) → Float
    rating row = at x.table x.table.ratings row column

    abbrev weight : (row : ℕ) → Float
    weight row = at x.table x.weights row column

    reviews : (row : ℕ) → row < n → non_zero (rating row) ≡ true
    reviews row k = reviewed row column l k

    last_good : (row : ℕ) → is_last n row ≡ true → rating_good_def (rating row) ≡ true
    unfolding is_last
    last_good row e =
        let z = eqb-true (suc row) n e in
        let last : n - 1 ≡ row = omega arith in
        subst (λ (k : ℕ). rating_good_def (rating k) ≡ true) last (good column l (omega arith))

    -- its cells as they stand
    plain_row :
        (align : Align) (row : ℕ) → row < n →
        row_at (cards_as align x) column n (history (table_as align x.table) column) row ≡
        card_row_def (is_end_def align) (is_last n row) row (day row) (rating row) (weight row) (label_at x column row)
    plain_row align row k =
        rw (from_0 x.table column reviews align, sub-zero row, review_kept align (rating row) (weight row) (reviews row k))

    column_fault : card_column_def (cards_as Start x) column ≡ card_column_def (cards_as End x) column
    unfolding card_column_def rows_fault is_end_def
    column_fault =
        faults_same _ _ n
        (λ row k.
        ap (λ (b : ℕ). fault_at_def b column row)
        (plain_row Start row k ∙ end_same (is_last n row) row (day row) (rating row) (weight row) _ (last_good row) ∙ sym (plain_row End row k)))

    shifted : ShiftedCard (cards_as End x) (cards_as Start x) column
    shifted =
        record {
          table = both_modes x.table column reviews;
          labels = λ row k. not_moved x.table column reviews x.labels row;
          reviews = λ row k e. not_moved x.table column reviews x.weights row;
          padding = λ row k e. absurd (subst T (sym (reviews row k) ∙ e) tt);
        }

  fault_same : card_fault_def (cards_as Start x) ≡ card_fault_def (cards_as End x)
  unfolding card_fault_def
  fault_same = faults_same _ _ _ column_fault

pub card_modes :
    (c : Call Cards) → Reviewed c.x.table → LastGood c.x.table → Same cards (call_with (cards_as Start) c) (call_with (cards_as End) c)
unfolding card_grad_refusal_def
card_modes c reviewed good =
    outcome cards card_loss_def card_slots_def (call_with (cards_as Start) c) (call_with (cards_as End) c) card_entries
    (record {
      weights = refl;
      gradients = refl;
      columns = refl;
      refusals = rw (fault_same c.x reviewed good);
      each = λ z column l p.
          let h = shifted c.x reviewed good column l in (sym (card_loss _ _ column h p), λ gw. sym (card_slots _ _ column h p gw));
    })
