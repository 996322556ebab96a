-- A float's digits and exponent are within its format's, and so its logarithm's size is at most 1075. Assumes nothing.
use mathlib.Core.Path.{◌≡◌}
use mathlib.Core.Bool.{Bool, true, false, not, cond, ◌&&◌}
use Prim.Native.Nat.{ℕ, zero, suc, ◌+◌, ◌-◌, ◌*◌, ◌%◌, ◌^◌, ◌≤◌, ◌<◌}
use native.Mathlib.Nat.{mul-one, lt_of_le_of_lt, lt_of_lt_of_le, mul-le-mul_right, zero-lt-suc}
use native.Mathlib.Omega.{arith}
use lib.Dec.{T, ltb, leb, eqb, ltb→lt, nltb→le, leb→le, lit≤}
use lib.IntN.{ℤ, pos, negsuc, ◌+ℤ◌}
use lib.Ieee.{fin, Format, binary32, binary64, prec, emax, low, up, down, size, fits}
use lib.Ieee.Digits.{size_reaches}
use lib.Ieee.Fits.{and_l, and_r}
use lib.Pow.{pow-add, pow_mono}
use Rattle.table.specs.Exact.{N, lead, series_num, series_den, L, log_at}
use Rattle.soft.proofs.Rounding.Pattern.{pow_lt_back, pow_le_back}
use Rattle.soft.proofs.Rounding.Place.{size_pos}
use Rattle.laws.proofs.Distances.logarithm.Double.{parts}
use Rattle.laws.proofs.Distances.logarithm.Near.{from_one, below_one}

-- ---- what a value of the format says of its significand and its exponent
module _ (f : Format) (m : ℕ) (e : ℤ) (k : T (fits f (fin false (suc m) e))) where
  held : T (ltb (suc m) (2 ^ prec f)) × T (leb (down e) (2 ^ low f)) × T (ltb (suc m * up e) (2 ^ suc (emax f) * down e))
  unfolding fits
  held =
      let a = eqb (suc m % 2) 1 in
      let b = ltb (suc m) (2 ^ prec f) in
      let c = leb (down e) (2 ^ low f) in
      let d = ltb (suc m * up e) (2 ^ suc (emax f) * down e) in
      (and_r a b (and_l (a && b) c (and_l (a && b && c) d k)), and_r (a && b) c (and_l (a && b && c) d k), and_r (a && b && c) d k)

  pub digits_below : suc m < 2 ^ prec f
  digits_below = ltb→lt (suc m) (2 ^ prec f) held.0

  not_low : down e ≤ 2 ^ low f
  not_low = leb→le (down e) (2 ^ low f) held.1

  not_high : suc m * up e < 2 ^ suc (emax f) * down e
  not_high = ltb→lt (suc m * up e) (2 ^ suc (emax f) * down e) held.2

-- ---- the exponents of the floats' leading digits
abbrev Exponent : ℤ → Type 0
Exponent (pos k) = k < 1024
Exponent (negsuc k) = k < 1074

limits : (f : Format) → (emax f ≤ 1023) × (low f ≤ 1074) × (prec f ≤ 53)
limits binary32 = (lit≤ tt, lit≤ tt, lit≤ tt)
limits binary64 = (lit≤ tt, lit≤ tt, lit≤ tt)

lead_le : (m : ℕ) → zero < m → lead m ≤ m
lead_le m z = size_reaches m (size m - 1) (omega (arith, size_pos m z))

split : (b a : ℕ) (t : Bool) → (T t → b < suc a) → a < 1074 → (T (not t) → b - suc a < 1024) → Exponent (cond t (negsuc (suc a - suc b)) (pos (b - suc a)))
split b a true p q r = omega arith
split b a false p q r = r tt

exponent : (f : Format) (m : ℕ) (e : ℤ) → zero < m → down e ≤ 2 ^ low f → m * up e < 2 ^ suc (emax f) * down e → Exponent (e +ℤ pos (size m - 1))
exponent f m (pos a) z l h = omega (
  arith,
  (limits f).0,
  pow_lt_back ((size m - 1) + a) (suc (emax f)) (rw (pow-add 2 (size m - 1) a) (lt_of_le_of_lt (mul-le-mul_right (2 ^ a) (lead_le m z)) (rw mul-one at h))),
)
exponent f m (negsuc a) z l h =
    split b a (ltb b (suc a)) (ltb→lt b (suc a)) (omega (arith, (limits f).1, pow_le_back (suc a) (low f) l))
    (λ (t : T (not (ltb b (suc a)))). most b a (emax f) (limits f).0 (nltb→le b (suc a) t)
    (pow_lt_back b (suc (emax f) + suc a) (rw (pow-add 2 (suc (emax f)) (suc a)) (lt_of_le_of_lt (lead_le m z) (rw mul-one at h)))))
  where
    b : ℕ
    b = size m - 1

    most : (b a t : ℕ) → t ≤ 1023 → suc a ≤ b → b < suc t + suc a → b - suc a < 1024
    most b a t p q r = omega arith

-- ---- L's size
log_size : (k : ℤ) (n d : ℕ) → 2 ^ 64 * n < N * d → Exponent k → (log_at k n d).size.num ≤ 1075 * (log_at k n d).size.den
log_size (pos k) n d s h = from_one k n d (λ (b : Bool) (u : ℕ). u ≤ 1075 * (2 ^ 64 * d)) (λ (u : ℕ) e. go k n d u N (2 ^ 64) e s h (lit≤ tt))
  where
    go : (k n d u v w : ℕ) → u ≡ k * v * d + w * n → w * n < v * d → k < 1024 → v ≤ w → u ≤ 1075 * (w * d)
    go k n d u v w e s h l = omega (arith, mul-le-mul_right (v * d) h, mul-le-mul_right d l)
log_size (negsuc k) n d s h = below_one k n d (λ (b : Bool) (u : ℕ). u ≤ 1075 * (2 ^ 64 * d)) s (λ (u : ℕ) e. go (suc k) n d u N (2 ^ 64) e h (lit≤ tt))
  where
    go : (K n d u v w : ℕ) → u + w * n ≡ K * v * d → K ≤ 1074 → v ≤ w → u ≤ 1075 * (w * d)
    go K n d u v w e h l = omega (arith, mul-le-mul_right (v * d) h, mul-le-mul_right d l)

pub L-size : (f : Format) (m : ℕ) (e : ℤ) → T (fits f (fin false (suc m) e)) → (L (suc m) e).size.num ≤ 1075 * (L (suc m) e).size.den
unfolding L
L-size f m e k =
    log_size (e +ℤ pos (size (suc m) - 1)) (series_num (suc m)) (series_den (suc m))
    (parts (suc m) (zero-lt-suc m) (lt_of_lt_of_le (digits_below f m e k) (pow_mono (limits f).2))).under
    (exponent f (suc m) e (zero-lt-suc m) (not_low f m e k) (not_high f m e k))
