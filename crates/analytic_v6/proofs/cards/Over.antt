-- The walk back over the lent records, in any layout, and step gradients: one card more, and that where they have room for every card's rows the
-- slots are the cards' own. Assumes nothing.
use Prim.Native.Nat.{ℕ, zero, suc, ◌≤◌, ◌<◌}
use mathlib.Core.Bool.{Bool, true, false, cond}
use mathlib.Core.List.{List}
use mathlib.Core.Path.{◌≡◌, refl, sym, ap, subst, ◌∙◌}
use native.Mathlib.Nat.{le_refl, le-suc, lt_of_lt_of_le}
use native.Mathlib.Omega.{arith}
use borrow.Author.Tests.{eqb-false}
use lib.Dec.{eqb}
use lib.Ieee.{Float}
use lib.ListN.{length, length-set, set}
use Rattle.std.proofs.Common.{◌+◌, add-one}
use Rattle.domain.specs.Doubles.{zero64}
use Rattle.forward.specs.declared.parameters.RuntimeParams.{RuntimeParams}
use Rattle.forward.specs.declared.state.StepRecord.{StepRecord}
use Rattle.checks.specs.Batch.{Cards, length_at, history, label_at, weight_at_def}
use Rattle.checks.specs.Columns.{through}
use Rattle.columns.specs.ForwardPass.{run_at, grads_def}
use Rattle.columns.specs.Layouts.{LayoutLaws, steps_room, store_steps, load_steps, steps_laws}
use Rattle.columns.proofs.Kept.{grads_length}
use Rattle.columns.proofs.Left.{left_length, left_read, left_in_steps}
use Rattle.analytic_v6.specs.Cards.{card_slots_def, card_steps_def, card_grads_def, card_left, last_row}
use Rattle.analytic_v6.specs.inner.Over.{card_back, card_slots_over, card_back_in, card_slots_over_in}
use Rattle.analytic_v6.proofs.Left.{through_same}
use Rattle.analytic_v6.proofs.cards.Columns.{slots_of}

else_same : (b : Bool) (xs ys zs : List Float) → (b ≡ false → ys ≡ zs) → cond b xs ys ≡ cond b xs zs
else_same true xs ys zs h = refl
else_same false xs ys zs h = h refl

module _ (p : RuntimeParams) (x : Cards) where
  -- one card more
  module _ {A : Type 0} (store : List A → ℕ → StepRecord → List A) (load : List A → ℕ → StepRecord) (recs : List A) (sg gw : List Float) where
    pub over_none : card_slots_over_in p x store load 0 recs sg gw ≡ gw
    unfolding card_slots_over_in
    over_none = refl

    pub over_next :
        (c : ℕ) (before after : List A) (sg₁ sg₂ gw₁ gw₂ : List Float) → before ≡ through (λ k. card_left p x k store) c recs → sg₁ ≡ through (card_grads_def p x) c sg →
        gw₁ ≡ card_slots_over_in p x store load c recs sg gw → after ≡ card_left p x c store before → sg₂ ≡ card_grads_def p x c sg₁ →
        gw₂ ≡ card_back_in p x store load c after sg₂ gw₁ → gw₂ ≡ card_slots_over_in p x store load (c + 1) recs sg gw
    unfolding card_slots_over_in through
    over_next c before after sg₁ sg₂ gw₁ gw₂ es eg ew left graded back = rw add-one (back ∙ rw (left, graded, es, eg, ew))

  grads_cut : (b : Bool) (c n : ℕ) (ys : List Float) → length (cond b ys (set (grads_def p (history x.table c) (label_at x c) (weight_at_def x c) n ys) n zero64)) ≡ length ys
  grads_cut true c n ys = refl
  grads_cut false c n ys = length-set (grads_def p (history x.table c) (label_at x c) (weight_at_def x c) n ys) n _ ∙ grads_length p (history x.table c) (label_at x c) (weight_at_def x c) n ys

  grads_kept : (columns : ℕ) (sg : List Float) → length (through (card_grads_def p x) columns sg) ≡ length sg
  unfolding through card_grads_def
  grads_kept zero sg = refl
  grads_kept (suc c) sg = grads_cut (eqb (length_at x.table c) 0) c (last_row p x c) (through (card_grads_def p x) c sg) ∙ grads_kept c sg

  module _ {A : Type 0} (room : ℕ → ℕ) (store : List A → ℕ → StepRecord → List A) (load : List A → ℕ → StepRecord) (laws : LayoutLaws room store load) where
    left_kept : (columns : ℕ) (recs : List A) → length (through (λ k. card_left p x k store) columns recs) ≡ length recs
    unfolding through
    left_kept zero recs = refl
    left_kept (suc c) recs = left_length p (history x.table c) store room load laws (last_row p x c) _ ∙ left_kept c recs

    column_own :
        (c : ℕ) (recs : List A) (sg gw : List Float) → last_row p x c ≤ room (length recs) → length_at x.table c ≤ length sg →
        card_back_in p x store load c (card_left p x c store recs) (card_grads_def p x c sg) gw ≡ card_slots_def p x c gw
    unfolding card_back_in card_grads_def card_slots_def run_at
    column_own c recs sg gw l m =
        else_same (eqb (length_at x.table c) 0) _ _ _ (λ e.
        let some : 1 ≤ length_at x.table c = omega (arith, eqb-false _ 0 e) in
        rw e
        (slots_of p x c some (last_row p x c) refl (history x.table c) refl (label_at x c) refl (weight_at_def x c) refl (run_at p (history x.table c) (label_at x c) (weight_at_def x c) (last_row p x c)) _ refl refl
        _ sg gw (λ i h. left_read p (history x.table c) store room load laws (last_row p x c) i recs l h) m ∙
        rw e))

    less : (c m : ℕ) → length_at x.table c ≤ m → last_row p x c ≤ m
    less c m h = omega (arith, h)

    pub over_own_in :
        (columns : ℕ) (recs : List A) (sg gw : List Float) → ((c : ℕ) → c < columns → length_at x.table c ≤ room (length recs)) → ((c : ℕ) → c < columns → length_at x.table c ≤ length sg) →
        card_slots_over_in p x store load columns recs sg gw ≡ through (card_slots_def p x) columns gw
    unfolding card_slots_over_in through
    over_own_in zero recs sg gw fits fits' = refl
    over_own_in (suc c) recs sg gw fits fits' =
        column_own c (through (λ k. card_left p x k store) c recs) (through (card_grads_def p x) c sg) _
        (subst (λ (m : ℕ). last_row p x c ≤ room m) (sym (left_kept c recs)) (less c (room (length recs)) (fits c (le_refl (suc c)))))
        (subst (λ (m : ℕ). length_at x.table c ≤ m) (sym (grads_kept c sg)) (fits' c (le_refl (suc c)))) ∙
        ap (λ (z : List Float). card_slots_def p x c z) (over_own_in c recs sg gw (λ k h. fits k (lt_of_lt_of_le h (le-suc c))) (λ k h. fits' k (lt_of_lt_of_le h (le-suc c))))

  steps_left : (k : ℕ) (ys : List StepRecord) → card_steps_def p x k ys ≡ card_left p x k store_steps ys
  unfolding card_steps_def
  steps_left k ys = sym (left_in_steps p (history x.table k) (last_row p x k) ys)

  over_steps : (columns : ℕ) (recs : List StepRecord) (sg gw : List Float) → card_slots_over p x columns recs sg gw ≡ card_slots_over_in p x store_steps load_steps columns recs sg gw
  unfolding card_slots_over card_slots_over_in card_back card_back_in
  over_steps zero recs sg gw = refl
  over_steps (suc c) recs sg gw = rw (over_steps c recs sg gw, through_same (card_steps_def p x) (λ k. card_left p x k store_steps) steps_left (suc c) recs)

  pub over_own :
      (columns : ℕ) (recs : List StepRecord) (sg gw : List Float) → ((c : ℕ) → c < columns → length_at x.table c ≤ length recs) → ((c : ℕ) → c < columns → length_at x.table c ≤ length sg) →
      card_slots_over p x columns recs sg gw ≡ through (card_slots_def p x) columns gw
  over_own columns recs sg gw room room' = over_steps columns recs sg gw ∙ over_own_in steps_room store_steps load_steps steps_laws columns recs sg gw room room'
