-- What a search for the first fault finds: none, where no place has one; or that of a place, where none before it has one. Assumes nothing.
use Prim.Native.Nat.{ℕ, zero, suc, ◌<◌}
use mathlib.Core.Bool.{Bool, true, false, ◌&&◌, ◌||◌, cond, true≢false}
use mathlib.Core.Path.{◌≡◌, refl, sym, ap, ap₂, ◌∙◌}
use native.Mathlib.Nat.{le-suc, lt_of_lt_of_le, lt-suc_self}
use borrow.Author.Tests.{ne_eqb, eqb-true, eqb-false, ltb-true}
use lib.Dec.{eqb, ltb}
use Rattle.checks.specs.Faults.{Fault, no_fault_def, fault_at_def, or_else, first_fault_def, rows_fault}
use Rattle.promises.specs.FirstFault.{before}
use Rattle.promises.proofs.shifting.Faults.{each_none, number}

-- ---- over any places
pub record At (f : ℕ → Fault) (n : ℕ) (x : Fault) : Type 0 where
  pub place : ℕ
  pub inside : place < n
  pub is : x ≡ f place
  pub none_before : (k : ℕ) → k < place → (f k).refusal ≡ 0

module _ (f : ℕ → Fault) where
  further : (n : ℕ) (x : Fault) → At f n x → At f (suc n) x
  further n x a = record { place = a.place; inside = lt_of_lt_of_le a.inside (le-suc n); is = a.is; none_before = a.none_before }

  next : (n : ℕ) (x : Fault) → (x.refusal ≡ 0 → (k : ℕ) → k < n → (f k).refusal ≡ 0) → ((x.refusal ≡ 0 → ⊥) → At f n x) → At f (suc n) (or_else x (f n))
  unfolding or_else
  next n x none some = go (eqb x.refusal 0) refl
    where
      go : (t : Bool) → t ≡ eqb x.refusal 0 → At f (suc n) (cond t (f n) x)
      go true e = record { place = n; inside = lt-suc_self n; is = refl; none_before = none (eqb-true _ 0 (sym e)) }
      go false e = further n x (some (eqb-false _ 0 (sym e)))

  pub found : (n : ℕ) → ((first_fault_def f n).refusal ≡ 0 → ⊥) → At f n (first_fault_def f n)
  unfolding first_fault_def no_fault_def
  found zero h = absurd (h refl)
  found (suc n) h = next n (first_fault_def f n) (each_none f n) (found n)

-- a fault without a number is none
abbrev pub Blank : Fault → Type 0
Blank x = x.refusal ≡ 0 → x ≡ no_fault_def

pub else_blank : (x y : Fault) → Blank x → Blank y → Blank (or_else x y)
unfolding or_else
else_blank x y h k = go (eqb x.refusal 0)
  where
    go : (t : Bool) → Blank (cond t y x)
    go true = k
    go false = h

pub first_blank : (f : ℕ → Fault) → ((k : ℕ) → Blank (f k)) → (n : ℕ) → Blank (first_fault_def f n)
unfolding first_fault_def
first_blank f h zero = λ e. refl
first_blank f h (suc k) = else_blank (first_fault_def f k) (f k) (first_blank f h k) (h k)

pub at_blank : (n column row : ℕ) → Blank (fault_at_def n column row)
unfolding fault_at_def
at_blank n column row = go (eqb n 0) refl
  where
    go : (t : Bool) → t ≡ eqb n 0 → Blank (cond t no_fault_def (record { refusal = n; column = column; row = row }))
    go true e h = refl
    go false e h = absurd (eqb-false n 0 (sym e) h)

pub at_bad : (n column row : ℕ) → (n ≡ 0 → ⊥) → fault_at_def n column row ≡ record { refusal = n; column = column; row = row }
unfolding fault_at_def
at_bad n column row h = rw (ne_eqb n 0 h)

-- ---- the rows of a column: `bad` has each row's number
pub record InColumn (bad : ℕ → ℕ) (column : ℕ) (x : Fault) : Type 0 where
  pub blank : Blank x
  pub none : x.refusal ≡ 0 → (row : ℕ) → bad row ≡ 0
  pub of_column : (x.refusal ≡ 0 → ⊥) → x.column ≡ column
  pub is_bad : (x.refusal ≡ 0 → ⊥) → bad x.row ≡ x.refusal
  pub none_before : (x.refusal ≡ 0 → ⊥) → (row : ℕ) → row < x.row → bad row ≡ 0

module _ (bad : ℕ → ℕ) (column n : ℕ) where
  abbrev placed : ℕ → Fault
  placed row = fault_at_def (bad row) column row

  pub rows_blank : Blank (rows_fault bad column n)
  unfolding rows_fault
  rows_blank = first_blank placed (λ row. at_blank (bad row) column row) n

  pub rows_none : (rows_fault bad column n).refusal ≡ 0 → (row : ℕ) → row < n → bad row ≡ 0
  unfolding rows_fault
  rows_none h row l = sym (number (bad row) column row) ∙ each_none placed n h row l

  pub record Row (x : Fault) : Type 0 where
    pub row : ℕ
    pub inside : row < n
    pub is : x ≡ record { refusal = bad row; column = column; row = row }
    pub none_before : (k : ℕ) → k < row → bad k ≡ 0

  pub rows_found : ((rows_fault bad column n).refusal ≡ 0 → ⊥) → Row (rows_fault bad column n)
  unfolding rows_fault
  rows_found h =
      let a = found placed n h in
      let e = ap (λ (x : Fault). x.refusal) a.is ∙ number (bad a.place) column a.place in
      record {
        row = a.place;
        inside = a.inside;
        is = a.is ∙ at_bad (bad a.place) column a.place (λ z. h (e ∙ z));
        none_before = λ k l. sym (number (bad k) column k) ∙ a.none_before k l;
      }

-- ---- the columns of a table
pub record InTable (bad : (column row : ℕ) → ℕ) (columns : ℕ) (x : Fault) : Type 0 where
  pub blank : Blank x
  pub none : x.refusal ≡ 0 → (column row : ℕ) → column < columns → bad column row ≡ 0
  pub inside : (x.refusal ≡ 0 → ⊥) → x.column < columns
  pub is_bad : (x.refusal ≡ 0 → ⊥) → bad x.column x.row ≡ x.refusal
  pub none_before : (x.refusal ≡ 0 → ⊥) → (column row : ℕ) → before column row x.column x.row ≡ true → bad column row ≡ 0

module _ (bad : (column row : ℕ) → ℕ) (f : ℕ → Fault) (right : (column : ℕ) → InColumn (bad column) column (f column)) (n : ℕ) where
  earlier : (k column row : ℕ) → ((f k).refusal ≡ 0 → ⊥) → ((j : ℕ) → j < k → (f j).refusal ≡ 0) → before column row k (f k).row ≡ true → bad column row ≡ 0
  earlier k column row h b = go (ltb column k) (eqb column k) refl refl
    where
      go : (p q : Bool) → p ≡ ltb column k → q ≡ eqb column k → p || (q && ltb row (f k).row) ≡ true → bad column row ≡ 0
      go true q d e t = (right column).none (b column (ltb-true column k (sym d))) row
      go false true d e t =
          rw (eqb-true column k (sym e)) ((right k).none_before h row (ltb-true row (f k).row t))
      go false false d e t = absurd (true≢false (sym t))

  pub first_in_table : InTable bad n (first_fault_def f n)
  first_in_table =
      record {
        blank = first_blank f (λ column. (right column).blank) n;
        none = λ h column row l. (right column).none (each_none f n h column l) row;
        inside = λ h. let a = found f n h in rw (column_is a h) a.inside;
        is_bad = λ h. let a = found f n h in rw (column_is a h, a.is) ((right a.place).is_bad (bad_there a h));
        none_before = λ h column row t. let a = found f n h in earlier a.place column row (bad_there a h) a.none_before (sym (order_is a h column row) ∙ t);
      }
    where
      bad_there : (a : At f n (first_fault_def f n)) → ((first_fault_def f n).refusal ≡ 0 → ⊥) → (f a.place).refusal ≡ 0 → ⊥
      bad_there a h z = h (ap (λ (x : Fault). x.refusal) a.is ∙ z)

      column_is : (a : At f n (first_fault_def f n)) → ((first_fault_def f n).refusal ≡ 0 → ⊥) → (first_fault_def f n).column ≡ a.place
      column_is a h = ap (λ (x : Fault). x.column) a.is ∙ (right a.place).of_column (bad_there a h)

      order_is :
          (a : At f n (first_fault_def f n)) → ((first_fault_def f n).refusal ≡ 0 → ⊥) → (column row : ℕ) →
          before column row (first_fault_def f n).column (first_fault_def f n).row ≡ before column row a.place (f a.place).row
      order_is a h column row = ap₂ (λ (c r : ℕ). before column row c r) (column_is a h) (ap (λ (x : Fault). x.row) a.is)
