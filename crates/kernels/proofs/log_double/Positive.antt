-- 0 < x, as the code tests it, and x up to the largest number of its format. Assumes nothing.
use Rattle.std.proofs.Common.{◌≡◌, ℕ, zero, suc, ◌-◌, ◌*◌, ◌^◌, ◌<◌, ◌≤◌, true, false, T, ℤ, pos, sym, refl, ◌∙◌, true≢false, le_trans, le_of_eq, lt_of_lt_of_le, lt_irrefl, mul-le-mul_right, zero-lt-suc, mul-le-mul, mul-pos, arith, lit<, lt→ltb, pow_pos, pow_mono, ltb-false, ltb-true, lt-ltb}
use mathlib.Core.Bool.{false≢true}
use lib.Pow.{le_ones}
use lib.Ieee.{Float, nan, inf, fin, Format, binary32, binary64, prec, emax, low, up, down, lt, le, fits}
use lib.Ieee.Bits.{is_true}
use lib.Ieee.Fits.{up_pos}
use lib.Ieee.Positive.{positive, cross→le, through}
use Rattle.soft.specs.Units.{units_def}
use Rattle.soft.proofs.units.Value.{measured, digits_lt, places_lt}

abbrev most : Format → Float
most binary32 = fin false 0xff_ffff (pos 104)
most binary64 = fin false 0x1f_ffff_ffff_ffff (pos 971)

-- its digits are ones, and its place is the last
at_most : (f : Format) (m : ℕ) (e : ℤ) → T (fits f (fin false (suc m) e)) → T (le (fin false (suc m) e) (most f))
at_most f m e h = go f (le_trans (le_of_eq (measured f x h tt).1) (mul-le-mul_right (down e) (mul-le-mul (le_ones (prec f) (digits_lt f x)) (pow_mono (last f (units_def f x).places (places_lt f x h tt))))))
  where
    x : Float
    x = fin false (suc m) e

    last : (f : Format) (n : ℕ) → n < 2 * emax f → n ≤ 2 * emax f - 1
    last f n l = omega arith

    go : (f : Format) → suc m * up e * 2 ^ low f ≤ (2 ^ prec f - 1) * 2 ^ (2 * emax f - 1) * down e → T (le x (most f))
    go binary32 l = cross→le x (most binary32) (lt→ltb 0 (suc m) (zero-lt-suc m)) tt (through (suc m * up e) ((2 ^ 24 - 1) * 2 ^ 253) (0xff_ffff * 2 ^ 104) (down e) (2 ^ 149) 1 (pow_pos 149) l (le_of_eq refl))
    go binary64 l = cross→le x (most binary64) (lt→ltb 0 (suc m) (zero-lt-suc m)) tt (through (suc m * up e) ((2 ^ 53 - 1) * 2 ^ 2045) (0x1f_ffff_ffff_ffff * 2 ^ 971) (down e) (2 ^ 1074) 1 (pow_pos 1074) l (le_of_eq refl))

none : (d u : ℕ) → 0 * 1 * d < 0 * u * 1 → ⊥
none d u h = omega arith

pub above_zero : (f : Format) (x : Float) → T (fits f x) → lt (fin false 0 (pos 0)) x ≡ true → le x (most f) ≡ positive x
unfolding lt le
above_zero f nan k h = refl
above_zero f (inf true) k h = absurd (false≢true h)
above_zero binary32 (inf false) k h = refl
above_zero binary64 (inf false) k h = refl
above_zero f (fin true m e) k h = absurd (false≢true h)
above_zero f (fin false zero e) k h = absurd (none (down e) (up e) (ltb-true (0 * 1 * down e) (0 * up e * 1) h))
above_zero f (fin false (suc m) e) k h = is_true (le (fin false (suc m) e) (most f)) (at_most f m e k) ∙ sym (lt-ltb 0 (suc m) (zero-lt-suc m))

pub not_above : (x : Float) → lt (fin false 0 (pos 0)) x ≡ false → lt (fin false 0 (pos 0)) x ≡ positive x
unfolding lt
not_above nan h = refl
not_above (inf true) h = refl
not_above (inf false) h = absurd (true≢false h)
not_above (fin true m e) h = refl
not_above (fin false zero e) h = h
not_above (fin false (suc m) e) h = absurd (lt_irrefl 0 (lt_of_lt_of_le (mul-pos (mul-pos (zero-lt-suc m) (up_pos e)) (lit< tt)) (le_trans (ltb-false (0 * 1 * down e) (suc m * up e * 1) h) (le_of_eq (nothing (down e))))))
  where
    nothing : (n : ℕ) → 0 * 1 * n ≡ 0
    nothing n = omega arith
