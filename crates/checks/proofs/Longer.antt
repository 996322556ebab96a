-- The longest of one more column, and that none is longer. Assumes nothing.
use Prim.Native.Nat.{ℕ, zero, suc, ◌+◌, ◌≤◌, ◌<◌}
use mathlib.Core.Bool.{Bool, true, false, cond}
use mathlib.Core.List.{List}
use mathlib.Core.Path.{◌≡◌, refl, sym, ap, ◌∙◌}
use native.Mathlib.Nat.{le_trans, le_refl, le_of_lt, not-suc-le-zero}
use native.Mathlib.Numerals.{add-one}
use native.Mathlib.Omega.{arith}
use borrow.Author.Tests.{leb-true, leb-false, le-ltb, lt-ltb}
use lib.Dec.{leb, ltb}
use Rattle.checks.specs.Tables.{cut_at, least}
use Rattle.checks.specs.Sizes.{most, longest_def}
use Rattle.std.specs.Ordering.{ord_max, ord_min}
use Rattle.std.proofs.Common.{is_lt, Less, Equal, Greater, nat_cmp}

-- std's order of two numbers, by one test
by_less : (t u : Bool) → is_lt (cond t Less (cond u Equal Greater)) ≡ t
by_less true u = refl
by_less false true = refl
by_less false false = refl

pub max_most : (a b : ℕ) → ord_max nat_cmp a b ≡ most a b
unfolding most
max_most a b = ap (λ (t : Bool). cond t a b) (by_less (ltb b a) _) ∙ by_test (leb a b) refl
  where
    by_test : (t : Bool) → t ≡ leb a b → cond (ltb b a) a b ≡ cond t b a
    by_test true e = rw (le-ltb _ _ (leb-true a b (sym e)))
    by_test false e = rw (lt-ltb _ _ (leb-false a b (sym e)))

pub min_least : (a b : ℕ) → ord_min nat_cmp a b ≡ least a b
min_least a b = ap (λ (t : Bool). cond t b a) (by_less (ltb b a) _) ∙ by_test (leb a b) refl
  where
    by_test : (t : Bool) → t ≡ leb a b → cond (ltb b a) b a ≡ cond t a b
    by_test true e = rw (le-ltb _ _ (leb-true a b (sym e)))
    by_test false e = rw (lt-ltb _ _ (leb-false a b (sym e)))

pub none_longer : (lengths : List ℕ) (rows : ℕ) → 0 ≡ longest_def lengths rows 0
unfolding longest_def
none_longer lengths rows = refl

pub longer :
    (lengths : List ℕ) (rows k best b : ℕ) → best ≡ longest_def lengths rows k → b ≡ ord_max nat_cmp best (cut_at lengths rows k) →
    b ≡ longest_def lengths rows (k + 1)
unfolding longest_def
longer lengths rows k best b e h = rw (add-one k, ← e) (h ∙ max_most best _)

bounds : (a b : ℕ) (t : Bool) → t ≡ leb a b → (a ≤ cond t b a) × (b ≤ cond t b a)
bounds a b true e = (leb-true a b (sym e), le_refl b)
bounds a b false e = (le_refl a, le_of_lt (leb-false a b (sym e)))

most_bounds : (a b : ℕ) → (a ≤ most a b) × (b ≤ most a b)
unfolding most
most_bounds a b = bounds a b (leb a b) refl

reach : (lengths : List ℕ) (rows n c : ℕ) (t : Bool) → t ≡ leb n c → c < suc n → (c < n → cut_at lengths rows c ≤ longest_def lengths rows n) →
    cut_at lengths rows c ≤ most (longest_def lengths rows n) (cut_at lengths rows n)
reach lengths rows n c true e h before =
    let same : c ≡ n = omega (arith, leb-true n c (sym e), h) in
    rw same (most_bounds (longest_def lengths rows n) (cut_at lengths rows n)).1
reach lengths rows n c false e h before =
    le_trans (before (leb-false n c (sym e))) (most_bounds (longest_def lengths rows n) (cut_at lengths rows n)).0

pub under_longest : (lengths : List ℕ) (rows n c : ℕ) → c < n → cut_at lengths rows c ≤ longest_def lengths rows n
unfolding longest_def
under_longest lengths rows zero c h = absurd (not-suc-le-zero h)
under_longest lengths rows (suc n) c h = reach lengths rows n c (leb n c) refl h (under_longest lengths rows n c)
