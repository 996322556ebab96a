-- No fault is found exactly where no place has one. Assumes nothing.
use Prim.Native.Nat.{ℕ, zero, suc, ◌+◌, ◌<◌}
use mathlib.Core.Bool.{Bool, true, false, cond}
use mathlib.Core.Path.{◌≡◌, refl, sym, ◌∙◌, subst}
use native.Mathlib.Nat.{le-suc, lt_of_lt_of_le, lt-suc_self, not-suc-le-zero}
use native.Mathlib.Omega.{arith}
use borrow.Author.Tests.{eq-eqb, eqb-true, eqb-false}
use lib.Dec.{eqb, eqb-suc-zero}
use Rattle.checks.specs.Faults.{Fault, no_fault_def, fault_at_def, or_else, first_fault_def, rows_fault}

pub else_both : (a b : Fault) → (or_else a b).refusal ≡ 0 → (a.refusal ≡ 0) × (b.refusal ≡ 0)
unfolding or_else
else_both a b = go (eqb a.refusal 0) refl
  where
    go : (t : Bool) → t ≡ eqb a.refusal 0 → (cond t b a).refusal ≡ 0 → (a.refusal ≡ 0) × (b.refusal ≡ 0)
    go true e h = (eqb-true _ 0 (sym e), h)
    go false e h = absurd (eqb-false _ 0 (sym e) h)

pub else_neither : (a b : Fault) → a.refusal ≡ 0 → b.refusal ≡ 0 → (or_else a b).refusal ≡ 0
unfolding or_else
else_neither a b h k = rw (eq-eqb _ 0 h) k

module _ (f : ℕ → Fault) where
  last_none : (n k : ℕ) → k < suc n → (f n).refusal ≡ 0 → (k < n → (f k).refusal ≡ 0) → (f k).refusal ≡ 0
  last_none n k l h before = go (eqb k n) refl
    where
      go : (t : Bool) → t ≡ eqb k n → (f k).refusal ≡ 0
      go true e = subst (λ (i : ℕ). (f i).refusal ≡ 0) (sym (eqb-true k n (sym e))) h
      go false e = let d = eqb-false k n (sym e) in before (omega arith)

  pub each_none : (n : ℕ) → (first_fault_def f n).refusal ≡ 0 → (k : ℕ) → k < n → (f k).refusal ≡ 0
  unfolding first_fault_def
  each_none zero h k l = absurd (not-suc-le-zero l)
  each_none (suc n) h k l = let d = else_both (first_fault_def f n) (f n) h in last_none n k l d.1 (each_none n d.0 k)

  pub all_none : (n : ℕ) → ((k : ℕ) → k < n → (f k).refusal ≡ 0) → (first_fault_def f n).refusal ≡ 0
  unfolding first_fault_def no_fault_def
  all_none zero h = refl
  all_none (suc n) h =
      else_neither (first_fault_def f n) (f n) (all_none n (λ k l. h k (lt_of_lt_of_le l (le-suc n)))) (h n (lt-suc_self n))

pub number : (n column row : ℕ) → (fault_at_def n column row).refusal ≡ n
unfolding fault_at_def no_fault_def
number zero column row = refl
number (suc n) column row = rw (eqb-suc-zero n)

-- m rows of b are those of a from row f on
pub rows_none :
    (a b : ℕ → ℕ) (column m f n : ℕ) → m + f ≡ n → ((row : ℕ) → row < m → a (row + f) ≡ 0 → b row ≡ 0) →
    (rows_fault a column n).refusal ≡ 0 → (rows_fault b column m).refusal ≡ 0
unfolding rows_fault
rows_none a b column m f n e rows h =
    all_none _ m
    (λ row l. number (b row) column row ∙ rows row l (sym (number (a (row + f)) column (row + f)) ∙ each_none _ n h (row + f) (omega arith)))
