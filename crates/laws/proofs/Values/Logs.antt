-- The logarithm behind pow, of a single from 2 ^ -c to 2 ^ c, is below (c + 6) ln 2 in size, and ln of it below c + 5; an exponent of at most 16 in size is in pow's domain. Assumes nothing.
use mathlib.Core.Path.{◌≡◌, sym, subst}
use mathlib.Core.Bool.{Bool, true, false, ◌&&◌, ◌||◌, cond}
use mathlib.Core.Logic.{inl, inr}
use Prim.Native.Nat.{ℕ, zero, suc, ◌+◌, ◌-◌, ◌*◌, ◌^◌, ◌≤◌, ◌<◌}
use native.Mathlib.Nat.{le_trans, le_of_eq, lt_of_le_of_lt, lt_of_lt_of_le, eq-or-lt_of_le, mul-one, mul-le-mul_right, mul-lt-mul_of_pos_right, zero-lt-suc}
use native.Mathlib.Omega.{arith}
use lib.Dec.{T, ltb, eqb, ltb→lt, lt→ltb}
use lib.IntN.{ℤ, pos, negsuc, nat_abs, ◌+ℤ◌}
use lib.Pow.{pow-add, pow_pos}
use lib.Ieee.{Float, nan, inf, fin, binary32, size, up, down, le}
use lib.Ieee.Digits.{size-lt, size_reaches}
use lib.Ieee.Fits.{and_i, eq→eqb, down_pos}
use lib.Ieee.Positive.{positive}
use Rattle.table.specs.Whole.{below0}
use Rattle.kernels.specs.Calls.{ln32}
use Rattle.kernels.specs.Logarithm.{binade, logarithm, step_log_def}
use Rattle.kernels.specs.Kernels.{powered, ln_def}
use Rattle.kernels.proofs.Definitions.Sizes.{log_most, step_most}
use Rattle.soft.proofs.Rounding.Pattern.{pow_lt_back, pow_le_back}
use Rattle.laws.proofs.Values.Sizes.{Size, round_size}
use Rattle.laws.proofs.Values.Operations.{Least}

-- ---- the exponent of the leading digit
split : (c b a : ℕ) (t : Bool) → (T t → b < suc a) → b ≤ c + suc a → suc a ≤ b + c → nat_abs (cond t (negsuc (suc a - suc b)) (pos (b - suc a))) ≤ c
split c b a true l p q = less c b a (l tt) q
  where
    less : (c b a : ℕ) → b < suc a → suc a ≤ b + c → suc (suc a - suc b) ≤ c
    less c b a l q = omega arith
split c b a false l p q = omega arith

-- b is the place of the leading digit: 2 ^ b ≤ m < 2 ^ (b + 1)
near : (c m : ℕ) (e : ℤ) (b : ℕ) → 2 ^ b ≤ m → m < 2 ^ (b + 1) → m * up e ≤ 2 ^ c * down e → down e ≤ m * up e * 2 ^ c → nat_abs (e +ℤ pos b) ≤ c
near c m (pos a) b lo hi u d =
    turn c a b (pow_le_back (b + a) c (le_trans (le_of_eq (pow-add 2 b a)) (le_trans (mul-le-mul_right (2 ^ a) lo) (le_trans u (le_of_eq (mul-one (2 ^ c)))))))
  where
    turn : (c a b : ℕ) → b + a ≤ c → a + b ≤ c
    turn c a b h = omega arith
near c m (negsuc a) b lo hi u d =
    split c b a (ltb b (suc a)) (ltb→lt b (suc a))
    (pow_le_back b (c + suc a) (le_trans lo (le_trans (le_of_eq (sym (mul-one m))) (le_trans u (le_of_eq (sym (pow-add 2 c (suc a))))))))
    (less c a b (pow_lt_back (suc a) (b + 1 + c) (lt_of_le_of_lt d (lt_of_lt_of_le (mul-lt-mul_of_pos_right (lt_of_le_of_lt (le_of_eq (mul-one m)) hi) (pow_pos c)) (le_of_eq (sym (pow-add 2 (b + 1) c)))))))
  where
    less : (c a b : ℕ) → suc a < b + 1 + c → suc a ≤ b + c
    less c a b h = omega arith

lead_most : (c m : ℕ) (e : ℤ) → Size c (fin false (suc m) e) → Least c (fin false (suc m) e) → nat_abs (binade (suc m) e) ≤ c
lead_most c m e u d =
    let z = size (suc m) in
    let p : 0 < z = some m in
    near c (suc m) e (z - 1) (size_reaches (suc m) (z - 1) (less z p)) (subst (λ (x : ℕ). suc m < 2 ^ x) (back z p) (size-lt (suc m))) u d
  where
    less : (z : ℕ) → 0 < z → z - 1 < z
    less z h = omega arith

    back : (z : ℕ) → 0 < z → z ≡ z - 1 + 1
    back z h = omega arith

    some : (m : ℕ) → 0 < size (suc m)
    some m = pow_lt_back 0 (size (suc m)) (lt_of_le_of_lt (zero-lt-suc m) (size-lt (suc m)))

pub log_size : (c m : ℕ) (e : ℤ) → Size c (fin false (suc m) e) → Least c (fin false (suc m) e) → nat_abs (step_log_def binary32 (suc m) e) < (c + 6) * 256 * 2 ^ 22
log_size c m e u d = lt_of_le_of_lt (step_most (suc m) e) (few (nat_abs (binade (suc m) e)) c (lead_most c m e u d))
  where
    few : (k c : ℕ) → k ≤ c → (k * 256 + 256) * 2 ^ 22 + 2 ^ 32 < (c + 6) * 256 * 2 ^ 22
    few k c h = omega arith

-- ln itself: c + 5 is above every logarithm there
pub ln_size : (c j : ℕ) (x : Float) → T (positive x) → j < 128 → c + 5 ≤ 2 ^ j → Size c x → Least c x → Size j (ln32 x)
unfolding ln_def
ln_size c j nan p l b u d = absurd p
ln_size c j (inf s) p l b u d = absurd p
ln_size c j (fin true m e) p l b u d = absurd p
ln_size c j (fin false zero e) p l b u d = absurd p
ln_size c j (fin false (suc m) e) p l b u d =
    let z = logarithm binary32 (suc m) e in
    round_size (below0 z) (nat_abs z) (2 ^ 56) j (pow_pos 56) l
    (le_trans (log_most (suc m) e) (le_trans (few (nat_abs (binade (suc m) e)) c (lead_most c m e u d)) (mul-le-mul_right (2 ^ 56) b)))
  where
    few : (k c : ℕ) → k ≤ c → (k * 256 + 256) * 2 ^ 48 + 2 ^ 58 ≤ (c + 5) * 2 ^ 56
    few k c h = omega arith

-- ---- pow's domain
or_l : (a b : Bool) → T a → T (a || b)
or_l true b t = tt
or_l false b t = absurd t

or_r : (a b : Bool) → T b → T (a || b)
or_r true b t = tt
or_r false b t = t

pub of_below : (a b : ℕ) → a ≤ b → T (ltb a b || (eqb a b && true))
of_below a b h = elim (eq-or-lt_of_le h) [ inl p ↦ or_r (ltb a b) (eqb a b && true) (and_i (eqb a b) true (eq→eqb p) tt) | inr q ↦ or_l (ltb a b) (eqb a b && true) (lt→ltb a b q) ]

pub below_of : (a b : ℕ) → a ≤ b → T (ltb a b || (eqb b a && true))
below_of a b h = elim (eq-or-lt_of_le h) [ inl p ↦ or_r (ltb a b) (eqb b a && true) (and_i (eqb b a) true (eq→eqb (sym p)) tt) | inr q ↦ or_l (ltb a b) (eqb b a && true) (lt→ltb a b q) ]

pub in_reach : (y : Float) → Size 4 y → T (powered y)
unfolding le
in_reach nan h = absurd h
in_reach (inf t) h = absurd h
in_reach (fin true n d) h =
    and_i (le (fin true 1 (pos 4)) (fin true n d)) (le (fin true n d) (fin false 1 (pos 4)))
    (below_of (n * up d * 1) (1 * 2 ^ 4 * down d) (le_trans (le_of_eq (mul-one (n * up d))) h))
    (or_l (ltb 0 (n * up d * 1 + 1 * 2 ^ 4 * down d)) _ (lt→ltb 0 (n * up d * 1 + 1 * 2 ^ 4 * down d) (some (n * up d * 1) (down d) (down_pos d))))
  where
    some : (a d : ℕ) → 0 < d → 0 < a + 16 * d
    some a d h = omega arith
in_reach (fin false n d) h =
    and_i (le (fin true 1 (pos 4)) (fin false n d)) (le (fin false n d) (fin false 1 (pos 4)))
    (or_l (ltb 0 (1 * 2 ^ 4 * down d + n * up d * 1)) _ (lt→ltb 0 (1 * 2 ^ 4 * down d + n * up d * 1) (some (n * up d * 1) (down d) (down_pos d))))
    (of_below (n * up d * 1) (1 * 2 ^ 4 * down d) (le_trans (le_of_eq (mul-one (n * up d))) h))
  where
    some : (a d : ℕ) → 0 < d → 0 < 16 * d + a
    some a d h = omega arith
