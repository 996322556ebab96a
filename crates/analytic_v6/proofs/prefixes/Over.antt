-- The walk back over the lent records, in any layout: one column more, and that where they have room for every column's rows the slots are the columns' own. Assumes nothing.
use Prim.Native.Nat.{ℕ, zero, suc, ◌≤◌, ◌<◌}
use mathlib.Core.List.{List}
use mathlib.Core.Path.{◌≡◌, refl, sym, ap, subst, ◌∙◌}
use native.Mathlib.Nat.{le_refl, le-suc, lt_of_lt_of_le}
use lib.Ieee.{Float}
use lib.ListN.{length}
use Rattle.std.proofs.Common.{◌+◌, add-one}
use Rattle.forward.specs.declared.parameters.RuntimeParams.{RuntimeParams}
use Rattle.forward.specs.declared.state.StepRecord.{StepRecord}
use Rattle.checks.specs.Batch.{Prefixes, length_at, history}
use Rattle.checks.specs.Columns.{through}
use Rattle.columns.specs.Layouts.{LayoutLaws, steps_room, store_steps, load_steps, steps_laws}
use Rattle.columns.proofs.Left.{left_length, left_read, left_in_steps}
use Rattle.analytic_v6.specs.Prefixes.{prefix_slots_def, prefix_steps_def, prefix_left}
use Rattle.analytic_v6.specs.inner.Over.{prefix_back, slots_over, prefix_back_in, slots_over_in}
use Rattle.analytic_v6.proofs.Left.{through_same}
use Rattle.analytic_v6.proofs.prefixes.Columns.{slots_of}

module _ (p : RuntimeParams) (x : Prefixes) where
  -- one column more
  module _ {A : Type 0} (store : List A → ℕ → StepRecord → List A) (load : List A → ℕ → StepRecord) (recs : List A) (gw : List Float) where
    pub over_none : slots_over_in p x store load 0 recs gw ≡ gw
    unfolding slots_over_in
    over_none = refl

    pub over_next :
        (c : ℕ) (before after : List A) (gw₁ gw₂ : List Float) → before ≡ through (λ k. prefix_left p x k store) c recs → gw₁ ≡ slots_over_in p x store load c recs gw →
        after ≡ prefix_left p x c store before → gw₂ ≡ prefix_back_in p x store load c after gw₁ → gw₂ ≡ slots_over_in p x store load (c + 1) recs gw
    unfolding slots_over_in through
    over_next c before after gw₁ gw₂ es eg left back = rw add-one (back ∙ rw (left, es, eg))

  module _ {A : Type 0} (room : ℕ → ℕ) (store : List A → ℕ → StepRecord → List A) (load : List A → ℕ → StepRecord) (laws : LayoutLaws room store load) where
    left_kept : (columns : ℕ) (recs : List A) → length (through (λ k. prefix_left p x k store) columns recs) ≡ length recs
    unfolding through
    left_kept zero recs = refl
    left_kept (suc c) recs = left_length p (history x.table c) store room load laws (length_at x.table c) _ ∙ left_kept c recs

    column_own : (c : ℕ) (recs : List A) (gw : List Float) → length_at x.table c ≤ room (length recs) → prefix_back_in p x store load c (prefix_left p x c store recs) gw ≡ prefix_slots_def p x c gw
    unfolding prefix_back_in
    column_own c recs gw l =
        slots_of p x c (length_at x.table c) (history x.table c) _ _ _ gw refl refl refl refl (λ i h. left_read p (history x.table c) store room load laws (length_at x.table c) i recs l h)

    pub over_own_in : (columns : ℕ) (recs : List A) (gw : List Float) → ((c : ℕ) → c < columns → length_at x.table c ≤ room (length recs)) → slots_over_in p x store load columns recs gw ≡ through (prefix_slots_def p x) columns gw
    unfolding slots_over_in through
    over_own_in zero recs gw fits = refl
    over_own_in (suc c) recs gw fits =
        column_own c (through (λ k. prefix_left p x k store) c recs) _ (subst (λ (m : ℕ). length_at x.table c ≤ room m) (sym (left_kept c recs)) (fits c (le_refl (suc c)))) ∙
        ap (λ (z : List Float). prefix_slots_def p x c z) (over_own_in c recs gw (λ k h. fits k (lt_of_lt_of_le h (le-suc c))))

  steps_left : (k : ℕ) (ys : List StepRecord) → prefix_steps_def p x k ys ≡ prefix_left p x k store_steps ys
  unfolding prefix_steps_def
  steps_left k ys = sym (left_in_steps p (history x.table k) (length_at x.table k) ys)

  over_steps : (columns : ℕ) (recs : List StepRecord) (gw : List Float) → slots_over p x columns recs gw ≡ slots_over_in p x store_steps load_steps columns recs gw
  unfolding slots_over slots_over_in prefix_back prefix_back_in
  over_steps zero recs gw = refl
  over_steps (suc c) recs gw = rw (over_steps c recs gw, through_same (prefix_steps_def p x) (λ k. prefix_left p x k store_steps) steps_left (suc c) recs)

  pub over_own : (columns : ℕ) (recs : List StepRecord) (gw : List Float) → ((c : ℕ) → c < columns → length_at x.table c ≤ length recs) → slots_over p x columns recs gw ≡ through (prefix_slots_def p x) columns gw
  over_own columns recs gw room = over_steps columns recs gw ∙ over_own_in steps_room store_steps load_steps steps_laws columns recs gw room
