-- Through the columns, in each layout: a row holds the record of the last column that stepped on it. Assumes nothing.
use Prim.Native.Nat.{ℕ, zero, suc, ◌≤◌, ◌<◌}
use mathlib.Core.Bool.{Bool, true, false, cond}
use mathlib.Core.List.{List}
use mathlib.Core.Path.{◌≡◌, refl, sym, subst, ◌∙◌}
use native.Mathlib.Nat.{le_refl, le_of_suc-le-suc, le-suc, lt_irrefl, lt_of_lt_of_le, not-suc-le-zero}
use native.Mathlib.Omega.{arith}
use borrow.Author.Tests.{leb-true, leb-false, eq-eqb}
use lib.Dec.{leb, eqb}
use lib.Ieee.{Float}
use lib.ListN.{length, get_or}
use Rattle.domain.specs.Weights.{◌!◌}
use Rattle.forward.specs.declared.parameters.RuntimeParams.{RuntimeParams}
use Rattle.forward.specs.declared.state.StepRecord.{StepRecord}
use Rattle.checks.specs.Batch.{History}
use Rattle.checks.specs.Columns.{through}
use Rattle.columns.specs.ForwardPass.{record_at, stored_def}
use Rattle.columns.specs.Records.{Field, column_of_def, number_of, place, room_def, load_branch_def, load_def}
use Rattle.columns.specs.StepRecords.{no_step_def, steps_def}
use Rattle.columns.proofs.Kept.{path_length, path_read, path_kept, path_field, steps_length, steps_read, steps_kept}

-- columns c of n c steps each
module _ (p : RuntimeParams) (hist : ℕ → History) (n : ℕ → ℕ) where
  abbrev pub Steps : ℕ → List StepRecord → List StepRecord
  Steps c xs = steps_def p (hist c) (n c) xs

  abbrev pub Cells : ℕ → List Float → List Float
  Cells c xs = stored_def p (hist c) (n c) xs

  steps_len : (m : ℕ) (xs : List StepRecord) → length (through Steps m xs) ≡ length xs
  unfolding through
  steps_len zero xs = refl
  steps_len (suc c) xs = steps_length p (hist c) (n c) _ ∙ steps_len c xs

  cells_len : (m : ℕ) (xs : List Float) → length (through Cells m xs) ≡ length xs
  unfolding through
  cells_len zero xs = refl
  cells_len (suc c) xs = path_length p (hist c) (n c) _ ∙ cells_len c xs

  -- the last of m columns that stepped on a row
  pub record Last (m row : ℕ) : Type 0 where
    pub column : ℕ
    pub inside : column < m
    pub steps : row < n column
    pub later : (k : ℕ) → column < k → k < m → n k ≤ row

  last_turn : (c row : ℕ) → n c ≤ row → Last c row → Last (suc c) row
  last_turn c row less l =
      record { column = l.column; inside = lt_of_lt_of_le l.inside (le-suc c); steps = l.steps; later = λ k a b. at k a b (leb c k) refl }
    where
      at : (k : ℕ) → l.column < k → k < suc c → (b : Bool) → b ≡ leb c k → n k ≤ row
      at k a h true e = let same : c ≡ k = omega (arith, leb-true c k (sym e), h) in subst (λ (j : ℕ). n j ≤ row) same less
      at k a h false e = l.later k a (leb-false c k (sym e))

  last_here : (c row : ℕ) → row < n c → Last (suc c) row
  last_here c row h = record { column = c; inside = le_refl (suc c); steps = h; later = λ k a b. absurd (lt_irrefl c (lt_of_lt_of_le a (le_of_suc-le-suc b))) }

  pub last_of : (m column row : ℕ) → column < m → row < n column → Last m row
  last_of zero column row l h = absurd (not-suc-le-zero l)
  last_of (suc c) column row l h = by_test (λ less. last_of c column row less h) (leb (n c) row) refl
    where
      before : n c ≤ row → (b : Bool) → b ≡ leb c column → column < c
      before less true e = let same : c ≡ column = omega (arith, leb-true c column (sym e), l) in absurd (lt_irrefl row (lt_of_lt_of_le h (subst (λ (j : ℕ). n j ≤ row) same less)))
      before less false e = leb-false c column (sym e)

      by_test : (column < c → Last c row) → (b : Bool) → b ≡ leb (n c) row → Last (suc c) row
      by_test rest true e = let less = leb-true (n c) row (sym e) in last_turn c row less (rest (before less (leb c column) refl))
      by_test rest false e = last_here c row (leb-false (n c) row (sym e))

  -- a later column that does not reach the row leaves it, in each layout
  module _ (xs : List StepRecord) where
    pub record_kept : (m row : ℕ) → ((k : ℕ) → k < m → n k ≤ row) → get_or (through Steps m xs) row no_step_def ≡ get_or xs row no_step_def
    unfolding through
    record_kept zero row h = refl
    record_kept (suc c) row h = steps_kept p (hist c) (n c) row _ (h c (le_refl (suc c))) ∙ record_kept c row (λ k l. h k (lt_of_lt_of_le l (le-suc c)))

    pub record_whose :
        (m column row : ℕ) → column < m → row < n column → ((k : ℕ) → column < k → k < m → n k ≤ row) → ((k : ℕ) → k < m → n k ≤ length xs) →
        get_or (through Steps m xs) row no_step_def ≡ record_at p (hist column) row
    unfolding through
    record_whose zero column row l h later room = absurd (not-suc-le-zero l)
    record_whose (suc c) column row l h later room = turn (λ less. record_whose c column row less h (λ k a b. later k a (lt_of_lt_of_le b (le-suc c))) (λ k a. room k (lt_of_lt_of_le a (le-suc c)))) (leb c column) refl
      where
        turn : (column < c → get_or (through Steps c xs) row no_step_def ≡ record_at p (hist column) row) → (b : Bool) → b ≡ leb c column → get_or (Steps c (through Steps c xs)) row no_step_def ≡ record_at p (hist column) row
        turn rest true e =
            let same : c ≡ column = omega (arith, leb-true c column (sym e), l) in
            subst (λ (k : ℕ). row < n k → get_or (Steps c (through Steps c xs)) row no_step_def ≡ record_at p (hist k) row) same
            (λ k. steps_read p (hist c) (n c) row (through Steps c xs) (subst (λ (j : ℕ). n c ≤ j) (sym (steps_len c xs)) (room c (le_refl (suc c)))) k)
            h
        turn rest false e =
            let less = leb-false c column (sym e) in
            steps_kept p (hist c) (n c) row _ (later c less (le_refl (suc c))) ∙
            rest less

  module _ (xs : List Float) where
    abbrev At : ℕ → ℕ → ℕ → Float
    At m field row = through Cells m xs ! place (length xs) field row

    one_kept : (c row field : ℕ) → n c ≤ row → row < room_def (length xs) → Cells c (through Cells c xs) ! place (length xs) field row ≡ At c field row
    one_kept c row field l r =
        subst (λ (m : ℕ). row < room_def m → Cells c (through Cells c xs) ! place m field row ≡ through Cells c xs ! place m field row) (cells_len c xs)
        (λ h. path_kept p (hist c) (n c) row (through Cells c xs) l h field)
        r

    pub cell_kept : (m row field : ℕ) → row < room_def (length xs) → ((k : ℕ) → k < m → n k ≤ row) → At m field row ≡ xs ! place (length xs) field row
    unfolding through
    cell_kept zero row field r h = refl
    cell_kept (suc c) row field r h = one_kept c row field (h c (le_refl (suc c))) r ∙ cell_kept c row field r (λ k l. h k (lt_of_lt_of_le l (le-suc c)))

    pub cell_whose :
        (m column row : ℕ) (f : Field) → column < m → row < n column → ((k : ℕ) → column < k → k < m → n k ≤ row) → ((k : ℕ) → k < m → n k ≤ room_def (length xs)) →
        At m (column_of_def f) row ≡ number_of f (record_at p (hist column) row)
    unfolding through
    cell_whose zero column row f l h later room = absurd (not-suc-le-zero l)
    cell_whose (suc c) column row f l h later room = turn (λ less. cell_whose c column row f less h (λ k a b. later k a (lt_of_lt_of_le b (le-suc c))) (λ k a. room k (lt_of_lt_of_le a (le-suc c)))) (leb c column) refl
      where
        turn : (column < c → At c (column_of_def f) row ≡ number_of f (record_at p (hist column) row)) → (b : Bool) → b ≡ leb c column → Cells c (through Cells c xs) ! place (length xs) (column_of_def f) row ≡ number_of f (record_at p (hist column) row)
        turn rest true e =
            let same : c ≡ column = omega (arith, leb-true c column (sym e), l) in
            subst (λ (k : ℕ). row < n k → Cells c (through Cells c xs) ! place (length xs) (column_of_def f) row ≡ number_of f (record_at p (hist k) row)) same
            (subst (λ (m : ℕ). n c ≤ room_def m → row < n c → Cells c (through Cells c xs) ! place m (column_of_def f) row ≡ number_of f (record_at p (hist c) row)) (cells_len c xs)
            (λ r k. path_field p (hist c) (n c) row (through Cells c xs) r k f)
            (room c (le_refl (suc c))))
            h
        turn rest false e =
            let less = leb-false c column (sym e) in
            one_kept c row (column_of_def f) (later c less (le_refl (suc c))) (lt_of_lt_of_le h (room column l)) ∙
            rest less

    -- the record as it is read from the columns
    load_kept : (c row : ℕ) → n c ≤ row → row < room_def (length xs) → load_def row (Cells c (through Cells c xs)) ≡ load_def row (through Cells c xs)
    unfolding load_def load_branch_def
    load_kept c row l r =
        let len = path_length p (hist c) (n c) (through Cells c xs) in
        let kept : (field : ℕ) → Cells c (through Cells c xs) ! place (length (through Cells c xs)) field row ≡ through Cells c xs ! place (length (through Cells c xs)) field row =
        λ field. path_kept p (hist c) (n c) row (through Cells c xs) l (subst (λ (m : ℕ). row < room_def m) (sym (cells_len c xs)) r) field in
        rw (len, kept 0, kept 1, kept 2, kept 3, kept 4, kept 5, kept 6, kept 7, kept 8, kept 9)

    pub load_whose :
        (m column row : ℕ) → column < m → row < n column → ((k : ℕ) → column < k → k < m → n k ≤ row) → ((k : ℕ) → k < m → n k ≤ room_def (length xs)) →
        load_def row (through Cells m xs) ≡ record_at p (hist column) row
    unfolding through
    load_whose zero column row l h later room = absurd (not-suc-le-zero l)
    load_whose (suc c) column row l h later room = turn (λ less. load_whose c column row less h (λ k a b. later k a (lt_of_lt_of_le b (le-suc c))) (λ k a. room k (lt_of_lt_of_le a (le-suc c)))) (leb c column) refl
      where
        turn : (column < c → load_def row (through Cells c xs) ≡ record_at p (hist column) row) → (b : Bool) → b ≡ leb c column → load_def row (Cells c (through Cells c xs)) ≡ record_at p (hist column) row
        turn rest true e =
            let same : c ≡ column = omega (arith, leb-true c column (sym e), l) in
            subst (λ (k : ℕ). row < n k → load_def row (Cells c (through Cells c xs)) ≡ record_at p (hist k) row) same
            (λ k. path_read p (hist c) (n c) row (through Cells c xs) (subst (λ (j : ℕ). n c ≤ room_def j) (sym (cells_len c xs)) (room c (le_refl (suc c)))) k)
            h
        turn rest false e =
            let less = leb-false c column (sym e) in
            load_kept c row (later c less (le_refl (suc c))) (lt_of_lt_of_le h (room column l)) ∙
            rest less

-- an accepted call went through its columns
pub went : {E : Type 0} (refusal : ℕ) (xs ys : List E) → refusal ≡ 0 → cond (eqb refusal 0) ys xs ≡ ys
went refusal xs ys z = rw (eq-eqb refusal 0 z)

-- whether or not
pub either : {E : Type 0} (P : List E → Type 0) (b : Bool) (xs ys : List E) → P xs → P ys → P (cond b ys xs)
either P true xs ys a h = h
either P false xs ys a h = a
