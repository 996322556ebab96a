-- A significand rounded by one shift and added to its exponent's field is the pattern of the nearest float in the normal range. Assumes nothing.
use Rattle.std.proofs.Common.{◌≡◌, ℕ, suc, ◌+◌, ◌-◌, ◌*◌, ◌/◌, ◌%◌, ◌^◌, ◌<◌, ◌≤◌, min, false, not, T, ℤ, pos, negsuc, ◌+ℤ◌, nat_abs, sym, refl, ap, ◌∙◌, subst, mod-lt, mul_assoc, mul_comm, mul-pos, one-mul, zero-add, mul-one, arith, lit<, pow_pos, pow-add, to_z-of_z, w64, Fits, SFits, ltb-false}
use native.Mathlib.Nat.{sub-zero}
use lib.IntN.{sub_ℕ}
use lib.Signed.{lt_z, non_neg}
use lib.Ieee.{Format, binary32, binary64, prec, emax, low, hid, ones, up, down, round, of_bits, nan_bits}
use lib.Ieee.Fits.{down_pos}
use lib.Ieee.Nearest.{closest, closest_same}
use lib.Ieee.Scale.{round_same}
use Rattle.soft.proofs.Rounding.Closest.{by_shift}
use Rattle.soft.proofs.Rounding.Pattern.{pattern_not_nan}
use Rattle.soft.proofs.Rounding.Place.{Range, placed}
use Rattle.kernels.specs.Power.{places, finish}
use Rattle.kernels.specs.inner.Power.{Normal}
use Rattle.kernels.proofs.whole.Divide.{sub_is}
use Rattle.kernels.proofs.whole.Words.{word, cast_of}

-- ---- the format's numbers: half a unit of the last digit that is kept, and the exponent's bias, less one for the leading digit
abbrev half : Format → ℕ
half binary32 = 2 ^ 7
half binary64 = 2 ^ 9

abbrev bias : Format → ℕ
bias f = emax f - 1

-- one less is added than half a unit, and one more at an odd digit
abbrev rounded : Format → ℕ → ℕ
rounded f m = (m + (half f - 1) + m / (half f * 2) % 2) / (half f * 2)

range : (f : Format) → Range f (63 - prec f) 0
range binary32 = record { is = refl }
range binary64 = record { is = refl }

numbers : (f : Format) → (0 < half f) × (0 < half f * 2) × (half f * 2 * 2 ^ (62 - places f) ≡ 2 ^ (63 - prec f)) × (low f + (63 - prec f) ≡ places f + bias f + (62 - places f))
numbers binary32 = (lit< tt, lit< tt, refl, refl)
numbers binary64 = (lit< tt, lit< tt, refl, refl)

moved : (f : Format) (m : ℕ) → 2 ^ places f ≤ m → m < 2 ^ suc (places f) → (2 ^ 62 ≤ m * 2 ^ (62 - places f)) × (m * 2 ^ (62 - places f) < 2 ^ 63)
moved binary32 m a b = (omega arith, omega arith)
moved binary64 m a b = (omega arith, omega arith)

fit : (f : Format) (n m : ℕ) → suc n ≤ 2 * emax f → m < 2 ^ suc (places f) → n * hid f + rounded f m ≤ ones f * hid f
fit binary32 n m a b = let r : m / 2 ^ 8 % 2 < 2 = mod-lt (m / 2 ^ 8) (lit< tt) in omega arith
fit binary64 n m a b = let r : m / 2 ^ 10 % 2 < 2 = mod-lt (m / 2 ^ 10) (lit< tt) in omega arith

-- ---- the exponent's field
pub record Field (f : Format) (k : ℤ) (n : ℕ) : Type 0 where
  pub sum : k +ℤ pos (bias f) ≡ pos n
  pub most : suc n ≤ 2 * emax f
  pub power : 2 ^ n * down k ≡ up k * 2 ^ bias f

up_to : (f : Format) (a : ℕ) → lt_z (pos (emax f)) (pos a) ≡ false → suc (a + bias f) ≤ 2 * emax f
up_to binary32 a h = let l = ltb-false 127 a h in omega arith
up_to binary64 a h = let l = ltb-false 1023 a h in omega arith

down_to : (f : Format) (b : ℕ) → lt_z (negsuc b) (sub_ℕ 1 (emax f)) ≡ false → (suc b ≤ bias f) × (suc (bias f - suc b) ≤ 2 * emax f) × (bias f - suc b + suc b ≡ bias f)
down_to binary32 b h = let l = ltb-false 125 b h in (omega arith, omega arith, omega arith)
down_to binary64 b h = let l = ltb-false 1021 b h in (omega arith, omega arith, omega arith)

field : (f : Format) (k : ℤ) → Normal f k → Field f k (nat_abs (k +ℤ pos (bias f)))
field f (pos a) h = record { sum = refl; most = up_to f a h.1; power = mul-one (2 ^ (a + bias f)) ∙ pow-add 2 a (bias f) }
field f (negsuc b) h =
    let d = down_to f b h.0 in
    subst (Field f (negsuc b)) (sym (ap nat_abs (sub_is (bias f) (suc b) d.0)))
    (record {
      sum = sub_is (bias f) (suc b) d.0;
      most = d.1;
      power = sym (pow-add 2 (bias f - suc b) (suc b)) ∙ ap (λ (x : ℕ). 2 ^ x) d.2 ∙ sym (one-mul (2 ^ bias f));
    })

-- ---- in range: the tests that `finish` makes
within : (f : Format) (k : ℤ) (M : ℕ) → Normal f k → finish f k M ≡ round f false (M * up k) (2 ^ places f * down k)
unfolding finish
within f k M (a, b) = rw (a, b)

-- ---- the pattern
shift : (n g : ℕ) → g + (n - 0) - n ≡ g
shift n g = omega arith

min_left : (a b : ℕ) → a ≤ b → min a b ≡ a
min_left a b h = omega arith

module _ (f : Format) (k : ℤ) (n m : ℕ) (r : Field f k n) (lo : 2 ^ places f ≤ m) (hi : m < 2 ^ suc (places f)) where
  abbrev v : ℕ
  v = m * 2 ^ (62 - places f)

  kept : rounded f m ≡ closest v (2 ^ (63 - prec f + (n - 0) - n))
  kept =
      by_shift m (half f) (numbers f).0
      ∙ closest_same m (half f * 2) v (2 ^ (63 - prec f)) (numbers f).1 (pow_pos (63 - prec f))
      (ap (λ (x : ℕ). m * x) (sym (numbers f).2) ∙ ap (λ (x : ℕ). m * x) (mul_comm (half f * 2) (2 ^ (62 - places f))) ∙ sym (mul_assoc m (2 ^ (62 - places f)) (half f * 2)))
      ∙ ap (λ (x : ℕ). closest v (2 ^ x)) (sym (shift n (63 - prec f)))

  pub fits : n * hid f + rounded f m ≤ ones f * hid f
  fits = fit f n m r.most hi

  same : round f false (v * 2 ^ n) (2 ^ (low f + (63 - prec f))) ≡ round f false (m * up k) (2 ^ places f * down k)
  same =
      round_same f false (v * 2 ^ n) (2 ^ (low f + (63 - prec f))) (m * up k) (2 ^ places f * down k) (pow_pos (low f + (63 - prec f))) (mul-pos (pow_pos (places f)) (down_pos k))
      (join m (2 ^ (62 - places f)) (2 ^ n) (2 ^ places f) (down k) (up k) (2 ^ bias f) r.power
      ∙ ap (λ (x : ℕ). m * up k * x) (sym (ap (λ (x : ℕ). 2 ^ x) (numbers f).3 ∙ pow-add 2 (places f + bias f) (62 - places f) ∙ ap (λ (x : ℕ). x * 2 ^ (62 - places f)) (pow-add 2 (places f) (bias f)))))
    where
      join : (m s n p d u b : ℕ) → n * d ≡ u * b → m * s * n * (p * d) ≡ m * u * (p * b * s)
      join m s n p d u b e = omega (arith, ap (λ (x : ℕ). m * s * p * x) e)

  pub is : of_bits f (n * hid f + rounded f m) ≡ round f false (m * up k) (2 ^ places f * down k)
  is =
      let top = ones f * hid f in
      let d = moved f m lo hi in
      ap (of_bits f)
      (sym (min_left (n * hid f + rounded f m) top fits)
      ∙ ap (λ (x : ℕ). min (x * hid f + rounded f m) top) (sym (sub-zero n))
      ∙ ap (λ (x : ℕ). min ((n - 0) * hid f + x) top) kept
      ∙ sym (zero-add (min ((n - 0) * hid f + closest v (2 ^ (63 - prec f + (n - 0) - n))) top)))
      ∙ placed f (63 - prec f) 0 v n (range f) d.0 d.1 false
      ∙ same

-- ---- as the code forms the field from a signed word
pub record Pattern (f : Format) (k : ℤ) (m n : ℕ) : Type 0 where
  pub le : n * hid f + rounded f m ≤ ones f * hid f
  pub nearest : of_bits f (n * hid f + rounded f m) ≡ finish f k m
  pub number : T (not (nan_bits f (n * hid f + rounded f m)))

module _ (f : Format) (k : ℤ) (held : SFits w64 k) (h : Normal f k) where
  sum_is : word k +ℤ pos (bias f) ≡ pos (nat_abs (k +ℤ pos (bias f)))
  sum_is = ap (λ (x : ℤ). x +ℤ pos (bias f)) (to_z-of_z held) ∙ (field f k h).sum

  small : nat_abs (k +ℤ pos (bias f)) < 2 ^ 63
  small = go f (nat_abs (k +ℤ pos (bias f))) (field f k h).most
    where
      go : (f : Format) (n : ℕ) → suc n ≤ 2 * emax f → n < 2 ^ 63
      go binary32 n h = omega arith
      go binary64 n h = omega arith

  pub sum_fits : SFits w64 (word k +ℤ pos (bias f))
  sum_fits = subst (SFits w64) (sym sum_is) (record { sfits = small })

  word_is : word (word k +ℤ pos (bias f)) ≡ pos (nat_abs (k +ℤ pos (bias f)))
  word_is = to_z-of_z sum_fits ∙ sum_is

  pub sum_cast : T (non_neg (word (word k +ℤ pos (bias f)))) × Fits w64 (nat_abs (word (word k +ℤ pos (bias f))))
  sum_cast = cast_of word_is small

  pub pattern : (m : ℕ) → 2 ^ places f ≤ m → m < 2 ^ suc (places f) → Pattern f k m (nat_abs (word (word k +ℤ pos (bias f))))
  pattern m lo hi =
      let n = nat_abs (k +ℤ pos (bias f)) in
      let r = field f k h in
      let e = is f k n m r lo hi in
      subst (Pattern f k m) (sym (ap nat_abs word_is))
      (record {
        le = fits f k n m r lo hi;
        nearest = e ∙ sym (within f k m h);
        number = pattern_not_nan f false (m * up k) (2 ^ places f * down k) (n * hid f + rounded f m) e;
      })
