-- The first fault of a prefix's column and of a card's, at the places where they are bad. Assumes nothing.
use Prim.Native.Nat.{ℕ, ◌-◌, ◌<◌}
use mathlib.Core.Bool.{Bool, true, false, ◌&&◌, cond}
use mathlib.Core.Path.{◌≡◌, refl, sym, ap, ◌∙◌, subst}
use native.Mathlib.Nat.{not-suc-le-zero, lt_irrefl, lt_trans}
use borrow.Author.Tests.{eq-eqb, eqb-true, eqb-false, lt-ltb, ltb-true}
use lib.Dec.{T, eqb, ltb}
use lib.Ieee.{Float, lt, eq, le, of_bits}
use Rattle.domain.specs.Limits.{decimal, zero32}
use Rattle.domain.specs.Weights.{◌!◌}
use Rattle.checks.specs.Align.{target_weight_def}
use Rattle.checks.specs.Batch.{Prefixes, Cards, length_at, history, target_read_at, target_weight_at}
use Rattle.checks.specs.Faults.{Fault, fault_at_def, or_else, rows_fault, target_fault, prefix_column_def, card_column_def}
use Rattle.checks.specs.Reads.{weight_max_def, non_zero, check, first, prefix_row_def, target_def}
use Rattle.promises.specs.FirstFault.{prefix_bad, card_bad}
use Rattle.promises.proofs.shifting.Faults.{number}
use Rattle.promises.proofs.placing.Search.{InColumn, at_blank, at_bad, rows_blank, rows_none, rows_found}

-- n rows, and nothing behind them
module _ (bad : ℕ → ℕ) (column n : ℕ) where
  abbrev pub rows_only : ℕ → ℕ
  rows_only row = cond (ltb row n) (bad row) 0

  within_rows : (row : ℕ) → row < n → rows_only row ≡ bad row
  within_rows row l = rw (lt-ltb row n l)

  no_rows : ((row : ℕ) → row < n → bad row ≡ 0) → (row : ℕ) → rows_only row ≡ 0
  no_rows h row = go (ltb row n) refl
    where
      go : (t : Bool) → t ≡ ltb row n → cond t (bad row) 0 ≡ 0
      go true e = h row (ltb-true row n (sym e))
      go false e = refl

  pub rows_in : InColumn rows_only column (rows_fault bad column n)
  rows_in =
      record {
        blank = rows_blank bad column n;
        none = λ h. no_rows (rows_none bad column n h);
        of_column = λ h. ap (λ (x : Fault). x.column) (rows_found bad column n h).is;
        is_bad = λ h. let a = rows_found bad column n h in rw a.is (within_rows a.row a.inside);
        none_before = λ h row l.
            let a = rows_found bad column n h in
            let k = subst (λ (x : Fault). row < x.row) a.is l in
            within_rows row (lt_trans k a.inside) ∙ a.none_before row k;
      }

  -- and a target behind them
  module _ (target : ℕ) where
    abbrev pub with_target : ℕ → ℕ
    with_target row = cond (ltb row n) (bad row) (cond (eqb row n) target 0)

    abbrev rows : Fault
    rows = rows_fault bad column n

    abbrev last : Fault
    last = fault_at_def target column n

    in_rows : (row : ℕ) → row < n → with_target row ≡ bad row
    in_rows row l = rw (lt-ltb row n l)

    at_target : with_target n ≡ target
    at_target = go (ltb n n) (eqb n n) refl (eq-eqb n n refl)
      where
        go : (p q : Bool) → p ≡ ltb n n → q ≡ true → cond p (bad n) (cond q target 0) ≡ target
        go true q d e = absurd (lt_irrefl n (ltb-true n n (sym d)))
        go false q d e = rw e

    nothing : ((row : ℕ) → row < n → bad row ≡ 0) → target ≡ 0 → (row : ℕ) → with_target row ≡ 0
    nothing h z row = go (ltb row n) (eqb row n) refl
      where
        go : (p q : Bool) → p ≡ ltb row n → cond p (bad row) (cond q target 0) ≡ 0
        go true q d = h row (ltb-true row n (sym d))
        go false true d = z
        go false false d = refl

    in_the_rows : (rows.refusal ≡ 0 → ⊥) → InColumn with_target column rows
    in_the_rows k =
        let a = rows_found bad column n k in
        record {
          blank = rows_blank bad column n;
          none = λ h. absurd (k h);
          of_column = λ h. ap (λ (x : Fault). x.column) a.is;
          is_bad = λ h. rw a.is (in_rows a.row a.inside);
          none_before = λ h row l.
              let j = subst (λ (x : Fault). row < x.row) a.is l in
              in_rows row (lt_trans j a.inside) ∙ a.none_before row j;
        }

    at_the_target : rows.refusal ≡ 0 → InColumn with_target column last
    at_the_target z =
        let good = rows_none bad column n z in
        let is : (last.refusal ≡ 0 → ⊥) → last ≡ record { refusal = target; column = column; row = n } = λ h. at_bad target column n (λ e. h (number target column n ∙ e)) in
        record {
          blank = at_blank target column n;
          none = λ h. nothing good (sym (number target column n) ∙ h);
          of_column = λ h. ap (λ (x : Fault). x.column) (is h);
          is_bad = λ h. rw (is h) at_target;
          none_before = λ h row l. let j = subst (λ (x : Fault). row < x.row) (is h) l in in_rows row j ∙ good row j;
        }

    pub target_in : InColumn with_target column (or_else rows last)
    unfolding or_else
    target_in = go (eqb rows.refusal 0) refl
      where
        go : (t : Bool) → t ≡ eqb rows.refusal 0 → InColumn with_target column (cond t last rows)
        go true e = at_the_target (eqb-true _ 0 (sym e))
        go false e = in_the_rows (eqb-false _ 0 (sym e))

-- ---- a column by the numbers of its places
pub same_places : (a b : ℕ → ℕ) (column : ℕ) (x : Fault) → ((row : ℕ) → a row ≡ b row) → InColumn a column x → InColumn b column x
same_places a b column x e i =
    record {
      blank = i.blank;
      none = λ h row. sym (e row) ∙ i.none h row;
      of_column = i.of_column;
      is_bad = λ h. sym (e x.row) ∙ i.is_bad h;
      none_before = λ h row l. sym (e row) ∙ i.none_before h row l;
    }

-- ---- a card
pub card_in : (x : Cards) (column : ℕ) → InColumn (card_bad x column) column (card_column_def x column)
unfolding card_bad card_column_def
card_in x column = rows_in _ column (length_at x.table column)

-- ---- a prefix: a target that is not read has the weight 0, and is never bad
unread : (label day : Float) → target_def zero32 label day ≡ 0
unfolding target_def first check non_zero weight_max_def decimal le eq lt of_bits
unread label day = refl

read_or_not : (at_n read : Bool) (weight label day : Float) →
    cond at_n (target_def (cond read weight zero32) label day) 0 ≡ cond (at_n && read) (target_def weight label day) 0
read_or_not true true weight label day = refl
read_or_not true false weight label day = unread label day
read_or_not false read weight label day = refl

nine : (column : ℕ) (bad : ℕ → ℕ) → bad 0 ≡ 9 → InColumn bad column (record { refusal = 9; column = column; row = 0 })
nine column bad e =
    let some : ◌≡◌ {A = ℕ} 9 0 → ⊥ = λ h. subst (λ (n : ℕ). T (eqb n 9)) h tt in
    record {
      blank = λ h. absurd (some h);
      none = λ h. absurd (some h);
      of_column = λ h. refl;
      is_bad = λ h. e;
      none_before = λ h row l. absurd (not-suc-le-zero l);
    }

module _ (x : Prefixes) (column : ℕ) where
  abbrev n : ℕ
  n = length_at x.table column

  abbrev row_bad : ℕ → ℕ
  row_bad row = let h = history x.table column in prefix_row_def (row - h.first) (h.day row) (h.rating row)

  abbrev target_bad : ℕ
  target_bad = target_def (target_weight_at x column) (x.labels ! column) (x.days ! column)

  places : (row : ℕ) → with_target row_bad column n target_bad row ≡
      cond (ltb row n) (row_bad row) (cond (eqb row n && target_read_at x column) (target_def (x.weights ! column) (x.labels ! column) (x.days ! column)) 0)
  unfolding target_weight_def
  places row = ap (λ (b : ℕ). cond (ltb row n) (row_bad row) b) (read_or_not (eqb row n) (target_read_at x column) (x.weights ! column) (x.labels ! column) (x.days ! column))

  pub prefix_in : InColumn (prefix_bad x column) column (prefix_column_def x column)
  unfolding prefix_bad prefix_column_def target_fault
  prefix_in = go (eqb n 0)
    where
      go : (t : Bool) →
          InColumn
          (λ row. cond t (cond (eqb row 0) 9 0)
          (cond (ltb row n) (row_bad row) (cond (eqb row n && target_read_at x column) (target_def (x.weights ! column) (x.labels ! column) (x.days ! column)) 0)))
          column
          (cond t (record { refusal = 9; column = column; row = 0 }) (or_else (rows_fault row_bad column n) (fault_at_def target_bad column n)))
      go true = nine column _ refl
      go false = same_places _ _ column _ places (target_in row_bad column n target_bad)
