-- A test of some number below n. Assumes nothing.
use Prim.Native.Nat.{ℕ, zero, suc, ◌<◌}
use mathlib.Core.Bool.{Bool, true, false}
use mathlib.Core.Path.{◌≡◌, refl, sym, ◌∙◌, subst}
use native.Mathlib.Nat.{le-suc, lt_of_lt_of_le, lt-suc_self, not-suc-le-zero}
use native.Mathlib.Omega.{arith}
use borrow.Author.Tests.{ltb-true, ltb-false}
use lib.Dec.{T, ltb}
use Rattle.backward.proofs.Keeps.{or_left, or_right}
use Rattle.promises.specs.CallReads.{some}

-- all or none below n, the last or one before it
last_or : (P : ℕ → Type 0) (n i : ℕ) → i < suc n → P n → ((j : ℕ) → j < n → P j) → P i
last_or P n i l here before = by (ltb i n) refl
  where
    by : (b : Bool) → b ≡ ltb i n → P i
    by true e = before i (ltb-true i n (sym e))
    by false e = subst P (omega (arith, ltb-false i n (sym e), l)) here

pub none_of : (test : ℕ → Bool) (n : ℕ) → some test n ≡ false → (i : ℕ) → i < n → test i ≡ false
unfolding some
none_of test zero e i l = absurd (not-suc-le-zero l)
none_of test (suc n) e i l = last_or (λ j. test j ≡ false) n i l (or_right (some test n) (test n) e) (none_of test n (or_left (some test n) (test n) e))

pub none-some : (test : ℕ → Bool) (n : ℕ) → ((i : ℕ) → i < n → test i ≡ false) → some test n ≡ false
unfolding some
none-some test zero h = refl
none-some test (suc n) h = rw (none-some test n (λ i l. h i (lt_of_lt_of_le l (le-suc n))), h n (lt-suc_self n))

pub some_of : (test : ℕ → Bool) (n i : ℕ) → i < n → test i ≡ true → some test n ≡ true
some_of test n i l e = by (some test n) refl
  where
    by : (b : Bool) → b ≡ some test n → some test n ≡ true
    by true f = sym f
    by false f = absurd (subst T (sym (sym (none_of test n (sym f) i l) ∙ e)) tt)

pub some_same : (f g : ℕ → Bool) (n : ℕ) → ((i : ℕ) → i < n → f i ≡ g i) → some f n ≡ some g n
unfolding some
some_same f g zero h = refl
some_same f g (suc n) h = rw (some_same f g n (λ i l. h i (lt_of_lt_of_le l (le-suc n))), h n (lt-suc_self n))
