-- A stored record is found again, and those of the other rows are kept. Assumes nothing.
use Rattle.std.proofs.Common.{◌≡◌, ℕ, zero, suc, ◌+◌, ◌<◌, ◌≤◌, ◌≢◌, List, [], ◌∷◌, length, set, sym, refl, ◌∙◌, subst, le_refl, lt_of_lt_of_le, le_of_suc-le-suc, not-suc-le-zero, add-zero, le_of_lt, add-suc, suc-add, zero-add, arith, length-set, get_or-set_other, get_or-set_same}
use lib.Ieee.{Float, nan}
use Rattle.domain.specs.Weights.{◌!◌}
use Rattle.forward.specs.declared.state.StepRecord.{StepRecord}
use Rattle.columns.specs.Records.{Field, STABILITY, DIFFICULTY, DAY, RATING, RETRIEVABILITY, PRE-STABILITY, PRE-DIFFICULTY, BRANCH, BRANCH-RAW, BRANCH-OTHER, column_of_def, number_of, place, room_def, step_values, branch_values, put_all, store_def, load_branch_def, load_def, read_back_def}
use Rattle.columns.specs.laws.Apart.{other_row, later_field, inside}

module _ (cells row : ℕ) where
  put_length : (f : ℕ) (given xs : List Float) → length (put_all cells row f given xs) ≡ length xs
  unfolding put_all
  put_length f [] xs = refl
  put_length f (x ∷ given) xs = put_length (suc f) given _ ∙ length-set xs _ x

  -- a cell that is none of these keeps its number
  elsewhere : (k f : ℕ) (given xs : List Float) → ((g : ℕ) → f ≤ g → k ≢ place cells g row) → put_all cells row f given xs ! k ≡ xs ! k
  unfolding put_all
  elsewhere k f [] xs h = refl
  elsewhere k f (x ∷ given) xs h = elsewhere k (suc f) given _ (λ g l. h g (le_of_lt l)) ∙ get_or-set_other xs _ k x nan (h f (le_refl f))

  module _ (l : row < room_def cells) where
    -- the j-th given number stands in the j-th column from f on
    found :
        (j f : ℕ) (given xs : List Float) → j < length given → f + j < 10 → cells ≡ length xs →
        put_all cells row f given xs ! place cells (f + j) row ≡ given ! j
    unfolding put_all
    found j f [] xs h t e = absurd (not-suc-le-zero h)
    found zero f (x ∷ given) xs h t e =
        rw (add-zero f)
        (elsewhere (place cells f row) (suc f) given _ (λ g k. later_field cells row l f g k) ∙
        get_or-set_same xs (place cells f row) x nan (subst (λ (n : ℕ). place cells f row < n) e (inside cells row l f (omega (arith, t)))))
    found (suc j) f (x ∷ given) xs h t e =
        rw (add-suc f j ∙ sym (suc-add f j))
        (found j (suc f) given (set xs (place cells f row) x) (le_of_suc-le-suc h) (omega (arith, t, suc-add f j)) (e ∙ sym (length-set xs _ x)))

pub stored_length : (row : ℕ) (c : StepRecord) (xs : List Float) → length (store_def row c xs) ≡ length xs
unfolding store_def
stored_length row c xs = put_length _ row 7 _ _ ∙ put_length _ row 0 _ xs

module _ (row : ℕ) (c : StepRecord) (xs : List Float) (l : row < room_def (length xs)) where
  value : (j : ℕ) → j < 7 → store_def row c xs ! place (length xs) j row ≡ step_values c ! j
  unfolding store_def step_values
  value j h =
      elsewhere (length xs) row (place (length xs) j row) 7 _ _ (λ g k. later_field (length xs) row l j g (lt_of_lt_of_le h k)) ∙
      subst
      (λ (f : ℕ). put_all (length xs) row 0 (step_values c) xs ! place (length xs) f row ≡ step_values c ! j)
      (zero-add j)
      (found (length xs) row l j 0 (step_values c) xs h (omega (arith, h)) refl)

  branch_value : (j : ℕ) → j < 3 → store_def row c xs ! place (length xs) (7 + j) row ≡ branch_values c.branch ! j
  unfolding store_def branch_values
  branch_value j h = found (length xs) row l j 7 (branch_values c.branch) _ h (omega (arith, h)) (sym (put_length _ row 0 _ xs))

  -- each column holds the number of its name
  pub field_read : (f : Field) → store_def row c xs ! place (length xs) (column_of_def f) row ≡ number_of f c
  unfolding step_values branch_values
  field_read STABILITY = value 0 (omega arith)
  field_read DIFFICULTY = value 1 (omega arith)
  field_read DAY = value 2 (omega arith)
  field_read RATING = value 3 (omega arith)
  field_read RETRIEVABILITY = value 4 (omega arith)
  field_read PRE-STABILITY = value 5 (omega arith)
  field_read PRE-DIFFICULTY = value 6 (omega arith)
  field_read BRANCH = branch_value 0 (omega arith)
  field_read BRANCH-RAW = branch_value 1 (omega arith)
  field_read BRANCH-OTHER = branch_value 2 (omega arith)

  pub stored_read : load_def row (store_def row c xs) ≡ read_back_def c
  unfolding load_def load_branch_def read_back_def step_values branch_values
  stored_read =
      rw (
        stored_length row c xs,
        value 0 (omega arith),
        value 1 (omega arith),
        value 2 (omega arith),
        value 3 (omega arith),
        value 4 (omega arith),
        value 5 (omega arith),
        value 6 (omega arith),
        branch_value 0 (omega arith),
        branch_value 1 (omega arith),
        branch_value 2 (omega arith),
      )

  module _ (other : ℕ) (h : other < room_def (length xs)) (d : other ≢ row) where
    pub kept : (f : ℕ) → store_def row c xs ! place (length xs) f other ≡ xs ! place (length xs) f other
    unfolding store_def
    kept f =
        elsewhere (length xs) row (place (length xs) f other) 7 _ _ (λ g k. other_row (length xs) row l f g other h d) ∙
        elsewhere (length xs) row (place (length xs) f other) 0 _ _ (λ g k. other_row (length xs) row l f g other h d)

    pub others_kept : load_def other (store_def row c xs) ≡ load_def other xs
    unfolding load_def load_branch_def
    others_kept = rw (stored_length row c xs, kept 0, kept 1, kept 2, kept 3, kept 4, kept 5, kept 6, kept 7, kept 8, kept 9)
