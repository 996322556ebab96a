-- One row more of a pass, and what it leaves in its records: each row is read back. Assumes nothing.
use Rattle.std.proofs.Common.{◌≡◌, ℕ, zero, suc, ◌+◌, ◌-◌, ◌<◌, ◌≤◌, List, length, set, refl, sym, ◌∙◌, subst, add-one, arith, ◌⊎◌, inl, inr, le_of_lt, not-suc-le-zero, ne_of_lt}
use lib.Ieee.{Float}
use Rattle.domain.specs.Doubles.{◌+ᵈ◌}
use Rattle.checks.specs.Batch.{History}
use Rattle.forward.specs.declared.parameters.RuntimeParams.{RuntimeParams}
use Rattle.forward.specs.declared.state.State.{State}
use Rattle.forward.specs.declared.state.StepRecord.{StepRecord}
use Rattle.forward.specs.declared.state.Stepped.{Stepped}
use Rattle.columns.specs.ForwardPass.{step_at, state_at, record_at, carried_def, stored_def, row_score_def, score_at_def, loss_at, run_at, grads_def}
use Rattle.columns.specs.declared.forward_pass.Run.{Run}
use Rattle.columns.specs.declared.scores.Score.{Score}
use Rattle.columns.proofs.records.ReadBack.{step_read}
use Rattle.columns.specs.StepRecords.{steps_def}
use Rattle.columns.specs.Layouts.{IsStored, LayoutLaws, left_by, store_steps, store_columns}

module _ (p : RuntimeParams) (h : History) where
  pub state_next : (row : ℕ) (q : State) (next : Stepped) (after : State) → q ≡ state_at p h row → next ≡ step_at p h q row → after ≡ carried_def row h.first next.state → after ≡ state_at p h (row + 1)
  unfolding state_at
  state_next row q next after before is moved = rw add-one (moved ∙ rw (is, before))

  pub record_here : (row : ℕ) (q : State) (next : Stepped) → q ≡ state_at p h row → next ≡ step_at p h q row → next.step ≡ record_at p h row
  unfolding record_at
  record_here row q next before is = rw (is, before)

  -- a stepped record is all in its ten numbers
  pub is_stored : (row : ℕ) → IsStored (record_at p h row)
  unfolding record_at step_at
  is_stored row = step_read p _ _ _ _

  module _ {A : Type 0} (store : List A → ℕ → StepRecord → List A) where
    pub left_next : (row : ℕ) (start xs zs : List A) (c : StepRecord) → xs ≡ left_by store p h row start → c ≡ record_at p h row → zs ≡ store xs row c → zs ≡ left_by store p h (row + 1) start
    unfolding left_by
    left_next row start xs zs c before is stored = rw add-one (stored ∙ rw (before, is))

    module _ (room : ℕ → ℕ) (load : List A → ℕ → StepRecord) (laws : LayoutLaws room store load) where
      pub left_length : (n : ℕ) (xs : List A) → length (left_by store p h n xs) ≡ length xs
      unfolding left_by
      left_length zero xs = refl
      left_length (suc n) xs = laws.keeps_length _ n _ ∙ left_length n xs

      before_or_here : (i n : ℕ) → i < suc n → (i < n) ⊎ (i ≡ n)
      before_or_here i n l = grind (arith, l)

      -- row i of the first n rows
      pub left_read : (n i : ℕ) (xs : List A) → n ≤ room (length xs) → i < n → load (left_by store p h n xs) i ≡ record_at p h i
      unfolding left_by
      left_read zero i xs l k = absurd (not-suc-le-zero k)
      left_read (suc n) i xs l k =
          let fits : n < room (length (left_by store p h n xs)) = subst (λ (m : ℕ). n < room m) (sym (left_length n xs)) l in
          elim (before_or_here i n k) [
            | inl b ↦ laws.keeps_others (left_by store p h n xs) n i (record_at p h n) fits (omega (arith, fits, b)) (ne_of_lt b) ∙ left_read n i xs (le_of_lt l) b
            | inr e ↦ rw e (laws.reads_back (left_by store p h n xs) n (record_at p h n) (is_stored n) fits)
          ]

  -- what is left under the names that the entries' definitions have
  pub left_in_columns : (n : ℕ) (xs : List Float) → left_by store_columns p h n xs ≡ stored_def p h n xs
  unfolding left_by stored_def
  left_in_columns zero xs = refl
  left_in_columns (suc n) xs = rw (left_in_columns n xs)

  pub left_in_steps : (n : ℕ) (xs : List StepRecord) → left_by store_steps p h n xs ≡ steps_def p h n xs
  unfolding left_by steps_def
  left_in_steps zero xs = refl
  left_in_steps (suc n) xs = rw (left_in_steps n xs)

  module _ (label weight : ℕ → Float) where
    pub score_here : (row : ℕ) (q : State) (next : Stepped) (s : Score) → q ≡ state_at p h row → next ≡ step_at p h q row → s ≡ row_score_def (row - h.first) next.step.retrievability (label row) (weight row) → s ≡ score_at_def p h label weight row
    unfolding score_at_def record_at
    score_here row q next s before is scored = scored ∙ rw (is, before)

    pub run_state : (row : ℕ) (run : Run) → run ≡ run_at p h label weight row → run.state ≡ state_at p h row
    unfolding run_at
    run_state row run e = rw e

    pub run_more : (row : ℕ) (run : Run) (s : Score) (after : State) → run ≡ run_at p h label weight row → s ≡ score_at_def p h label weight row → after ≡ state_at p h (row + 1) →
        record { state = after; loss = run.loss +ᵈ s.loss } ≡ run_at p h label weight (row + 1)
    unfolding run_at loss_at
    run_more row run s after before scored moved = rw (moved, scored, before, add-one)

    pub grads_more : (row : ℕ) (start xs zs : List Float) (s : Score) → xs ≡ grads_def p h label weight row start → s ≡ score_at_def p h label weight row → zs ≡ set xs row s.g_r → zs ≡ grads_def p h label weight (row + 1) start
    unfolding grads_def
    grads_more row start xs zs s before scored stored = rw add-one (stored ∙ rw (before, scored))
