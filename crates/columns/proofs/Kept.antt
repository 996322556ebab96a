-- What was stored is what is walked back over, where there is room for it. Assumes nothing.
use Rattle.std.proofs.Common.{◌≡◌, ℕ, zero, suc, ◌<◌, ◌≤◌, Bool, true, false, leb, List, length, get_or, set, sym, refl, ap, ◌∙◌, subst, le_refl, lt_of_lt_of_le, not-suc-le-zero, le_of_lt, ne_of_gt, ne_of_lt, arith, length-set, get_or-set_other, get_or-set_same, leb-false, leb-true}
use lib.Ieee.{Float}
use Rattle.domain.specs.Doubles.{zero64}
use Rattle.checks.specs.Batch.{History}
use Rattle.forward.specs.declared.parameters.RuntimeParams.{RuntimeParams}
use Rattle.forward.specs.declared.state.StepRecord.{StepRecord}
use Rattle.domain.specs.Weights.{◌!◌}
use Rattle.columns.specs.Records.{Field, column_of_def, number_of, place, room_def, store_def, load_def}
use Rattle.columns.specs.StepRecords.{no_step_def, steps_def}
use Rattle.columns.specs.Layouts.{steps_room, store_steps, load_steps, steps_laws, store_columns, load_columns, columns_laws}
use Rattle.columns.proofs.Left.{left_length, left_read, left_in_columns, left_in_steps}
use Rattle.columns.specs.laws.Stored.{kept, field_read}
use Rattle.backward.specs.declared.step.StateGrad.{StateGrad}
use Rattle.columns.specs.BackwardPass.{back_def}
use Rattle.columns.specs.ForwardPass.{record_at, stored_def, score_at_def, grads_def}

module _ (p : RuntimeParams) (hist : History) where
  pub path_length : (n : ℕ) (xs : List Float) → length (stored_def p hist n xs) ≡ length xs
  path_length n xs = ap length (sym (left_in_columns p hist n xs)) ∙ left_length p hist store_columns room_def load_columns columns_laws n xs

  room_kept : (n k : ℕ) (xs : List Float) → k < room_def (length xs) → k < room_def (length (stored_def p hist n xs))
  room_kept n k xs h = subst (λ (m : ℕ). k < room_def m) (sym (path_length n xs)) h

  -- row i of the first n rows
  pub path_read : (n i : ℕ) (xs : List Float) → n ≤ room_def (length xs) → i < n → load_def i (stored_def p hist n xs) ≡ record_at p hist i
  path_read n i xs l h = ap (load_def i) (sym (left_in_columns p hist n xs)) ∙ left_read p hist store_columns room_def load_columns columns_laws n i xs l h

  pub steps_length : (n : ℕ) (xs : List StepRecord) → length (steps_def p hist n xs) ≡ length xs
  steps_length n xs = ap length (sym (left_in_steps p hist n xs)) ∙ left_length p hist store_steps steps_room load_steps steps_laws n xs

  pub steps_read : (n i : ℕ) (xs : List StepRecord) → n ≤ length xs → i < n → get_or (steps_def p hist n xs) i no_step_def ≡ record_at p hist i
  steps_read n i xs l h = ap (λ (z : List StepRecord). get_or z i no_step_def) (sym (left_in_steps p hist n xs)) ∙ left_read p hist store_steps steps_room load_steps steps_laws n i xs l h

  -- the rows behind are kept
  pub steps_kept : (n i : ℕ) (xs : List StepRecord) → n ≤ i → get_or (steps_def p hist n xs) i no_step_def ≡ get_or xs i no_step_def
  unfolding steps_def
  steps_kept zero i xs l = refl
  steps_kept (suc n) i xs l = get_or-set_other (steps_def p hist n xs) n i _ no_step_def (ne_of_gt l) ∙ steps_kept n i xs (le_of_lt l)

  -- the same by the field: each number of a stepped row, and that the rows behind keep theirs
  record_field : (row : ℕ) (xs : List Float) → row < room_def (length xs) → (f : Field) → store_def row (record_at p hist row) xs ! place (length xs) (column_of_def f) row ≡ number_of f (record_at p hist row)
  record_field row xs l f = field_read row (record_at p hist row) xs l f

  pub path_kept :
      (n i : ℕ) (xs : List Float) → n ≤ i → i < room_def (length xs) → (k : ℕ) → stored_def p hist n xs ! place (length xs) k i ≡ xs ! place (length xs) k i
  unfolding stored_def
  path_kept zero i xs l h k = refl
  path_kept (suc n) i xs l h k =
      subst (λ (m : ℕ). store_def n (record_at p hist n) (stored_def p hist n xs) ! place m k i ≡ stored_def p hist n xs ! place m k i) (path_length n xs)
      (kept n (record_at p hist n) (stored_def p hist n xs) (room_kept n n xs (lt_of_lt_of_le l (le_of_lt h))) i (room_kept n i xs h) (ne_of_gt l) k) ∙
      path_kept n i xs (le_of_lt l) h k

  field_turn :
      (n i : ℕ) (xs : List Float) → n < room_def (length xs) → i < suc n → (f : Field) →
      (i < n → stored_def p hist n xs ! place (length xs) (column_of_def f) i ≡ number_of f (record_at p hist i)) → (b : Bool) → b ≡ leb n i →
      store_def n (record_at p hist n) (stored_def p hist n xs) ! place (length xs) (column_of_def f) i ≡ number_of f (record_at p hist i)
  field_turn n i xs l h f before true e =
      let same : n ≡ i = omega (arith, leb-true n i (sym e), h) in
      subst (λ (k : ℕ). store_def n (record_at p hist n) (stored_def p hist n xs) ! place (length xs) (column_of_def f) k ≡ number_of f (record_at p hist k)) same
      (subst (λ (m : ℕ). store_def n (record_at p hist n) (stored_def p hist n xs) ! place m (column_of_def f) n ≡ number_of f (record_at p hist n)) (path_length n xs)
      (record_field n (stored_def p hist n xs) (room_kept n n xs l) f))
  field_turn n i xs l h f before false e =
      let less = leb-false n i (sym e) in
      subst (λ (m : ℕ). store_def n (record_at p hist n) (stored_def p hist n xs) ! place m (column_of_def f) i ≡ stored_def p hist n xs ! place m (column_of_def f) i) (path_length n xs)
      (kept n (record_at p hist n) (stored_def p hist n xs) (room_kept n n xs l) i (room_kept n i xs (lt_of_lt_of_le less (le_of_lt l))) (ne_of_lt less) (column_of_def f)) ∙
      before less

  pub path_field :
      (n i : ℕ) (xs : List Float) → n ≤ room_def (length xs) → i < n → (f : Field) → stored_def p hist n xs ! place (length xs) (column_of_def f) i ≡ number_of f (record_at p hist i)
  unfolding stored_def
  path_field zero i xs l h f = absurd (not-suc-le-zero h)
  path_field (suc n) i xs l h f = field_turn n i xs l h f (λ k. path_field n i xs (le_of_lt l) k f) (leb n i) refl

  module _ (label weight : ℕ → Float) where
    pub grads_length : (n : ℕ) (xs : List Float) → length (grads_def p hist label weight n xs) ≡ length xs
    unfolding grads_def
    grads_length zero xs = refl
    grads_length (suc n) xs = length-set (grads_def p hist label weight n xs) n _ ∙ grads_length n xs

    grads_turn :
        (n i : ℕ) (xs : List Float) → n < length xs → i < suc n → (i < n → get_or (grads_def p hist label weight n xs) i zero64 ≡ (score_at_def p hist label weight i).g_r) → (b : Bool) → b ≡ leb n i →
        get_or (set (grads_def p hist label weight n xs) n (score_at_def p hist label weight n).g_r) i zero64 ≡ (score_at_def p hist label weight i).g_r
    grads_turn n i xs l h before true e =
        let same : n ≡ i = omega (arith, leb-true n i (sym e), h) in
        subst (λ (k : ℕ). get_or (set (grads_def p hist label weight n xs) n (score_at_def p hist label weight n).g_r) k zero64 ≡ (score_at_def p hist label weight k).g_r) same
        (get_or-set_same (grads_def p hist label weight n xs) n _ zero64 (subst (λ (m : ℕ). n < m) (sym (grads_length n xs)) l))
    grads_turn n i xs l h before false e =
        let less = leb-false n i (sym e) in get_or-set_other (grads_def p hist label weight n xs) n i _ zero64 (ne_of_lt less) ∙ before less

    pub grads_read : (n i : ℕ) (xs : List Float) → n ≤ length xs → i < n → get_or (grads_def p hist label weight n xs) i zero64 ≡ (score_at_def p hist label weight i).g_r
    unfolding grads_def
    grads_read zero i xs l h = absurd (not-suc-le-zero h)
    grads_read (suc n) i xs l h = grads_turn n i xs l h (grads_read n i xs (le_of_lt l)) (leb n i) refl

-- the walk back asks for nothing else
module _ (p : RuntimeParams) (a b : ℕ → StepRecord) (g h : ℕ → Float) where
  pub back_same :
      (n : ℕ) → ((i : ℕ) → i < n → a i ≡ b i) → ((i : ℕ) → i < n → g i ≡ h i) → (s : StateGrad) (gw : List Float) → back_def p a g n s gw ≡ back_def p b h n s gw
  unfolding back_def
  back_same zero ea eg s gw = refl
  back_same (suc n) ea eg s gw =
      rw (ea n (le_refl (suc n)), eg n (le_refl (suc n))) (back_same n (λ i l. ea i (lt_of_lt_of_le l (le_of_lt (le_refl (suc n))))) (λ i l. eg i (lt_of_lt_of_le l (le_of_lt (le_refl (suc n))))) _ _)
