-- How many binary digits a number has, from bounds of it; of a number of two words, from the upper one. Assumes nothing.
use Rattle.std.proofs.Common.{◌≡◌, ℕ, suc, ◌+◌, ◌-◌, ◌*◌, ◌^◌, ◌<◌, ◌≤◌, sym, ◌∙◌, subst, le_trans, le_of_suc-le-suc, le_antisymm, lt_of_not-le, arith, pow_mono}
use native.Mathlib.Nat.{two-pow-succ}
use lib.Count.{count_leading_zeros, leading_length}
use lib.Ieee.{size}
use lib.Ieee.Digits.{size-lt, size-le}

-- m digits: n is below 2 ^ m, and its double is not
size_is : (n m : ℕ) → n < 2 ^ m → 2 ^ m ≤ 2 * n + 1 → size n ≡ m
size_is n m f g = le_antisymm (size-le n m f) (le_of_suc-le-suc
    (lt_of_not-le (λ (h : suc (size n) ≤ m). clash (2 ^ size n) (size-lt n)
    (le_trans (subst (λ (x : ℕ). x ≤ 2 ^ m) (two-pow-succ (size n)) (pow_mono h)) g))))
  where
    clash : (p : ℕ) → n < p → p + p ≤ 2 * n + 1 → ⊥
    clash p a b = omega arith

pub digits_of : (n : ℕ) → n < 2 ^ 64 → 64 - count_leading_zeros 64 n ≡ size n
digits_of n f =
    let t = leading_length 64 n f in
    back (count_leading_zeros 64 n) t.0 t.1 ∙ sym (size_is n t.0 t.2 t.3)
  where
    back : (z m : ℕ) → z + m ≡ 64 → 64 - z ≡ m
    back z m e = omega arith
