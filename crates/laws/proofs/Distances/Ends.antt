-- The power at its ends and at 0: +infinity and +0 from 128 or 1024 factors of 2 on, 1 at 0, at most 1 below 0, never a NaN; and exp's. Assumes nothing.
use mathlib.Core.Path.{◌≡◌, refl, sym, ap, ◌∙◌, subst}
use mathlib.Core.Bool.{Bool, true, false, not, cond}
use mathlib.Core.Logic.{inl, inr}
use Prim.Native.Nat.{ℕ, zero, suc, ◌+◌, ◌-◌, ◌*◌, ◌/◌, ◌%◌, ◌^◌, ◌≤◌, ◌<◌}
use native.Mathlib.Nat.{le_trans, le_of_eq, le_of_lt, lt_of_lt_of_le, lt_of_le_of_lt, lt_of_mul-lt-mul_right, mul-one, one-mul, mul_right_comm, mul-le-mul_right, le-div_iff_mul-le}
use native.Mathlib.Omega.{arith}
use lib.Dec.{T, ltb, lit<, lit≤}
use lib.IntN.{pos}
use lib.Pow.{pow_pos, pow_mono, shl_lt}
use lib.Ieee.{Float, nan, inf, fin, Format, binary32, binary64, emax, up, down, round, le, is_nan}
use lib.Ieee.Bits.{is_false}
use lib.Ieee.Fits.{down_pos}
use lib.Ieee.Order.{round_mono}
use lib.Ieee.Scale.{finite}
use Rattle.table.specs.Exact.{N, P, taylor, fact}
use Rattle.table.specs.Entry.{entry}
use Rattle.soft.proofs.Rounding.Pattern.{round_not_nan}
use Rattle.kernels.specs.Power.{hi, coef, double4, double3, double2, double1, single1, part, significand}
use Rattle.kernels.specs.Kernels.{turns, exp_def, kernel_refusal}
use Rattle.kernels.proofs.Definitions.Hi.{hi_ge}
use Rattle.kernels.proofs.Definitions.Natural.{lift, biased, whole, index, finish_n, power_n, at_low, at_high, at_mid, lt-or-ge, power_is}
use Rattle.laws.specs.Distances.{float_one, ended, edge, ExpZero, ExpEnds}
use Rattle.laws.proofs.Distances.power.Near.{M-high}

-- ---- at 0
pub power_zero : (f : Format) (s : Bool) → power_n f s 0 ≡ float_one
unfolding power_n finish_n significand part double1 double2 double3 double4 single1 hi coef entry P taylor fact round
power_zero binary32 true = refl
power_zero binary32 false = refl
power_zero binary64 true = refl
power_zero binary64 false = refl

-- ---- far from 0
abbrev pub least : Format → ℕ
least binary32 = 128 * 2 ^ 52
least binary64 = 1024 * 2 ^ 52

high_enough : (f : Format) (z : ℕ) → least f ≤ z → 2048 + emax f < whole (2 ^ 63 + z)
high_enough binary32 z h = omega arith
high_enough binary64 z h = omega arith

low_enough : (f : Format) (z : ℕ) → least f ≤ z → whole (2 ^ 63 - z) + emax f < 2049
low_enough binary32 z h = omega arith
low_enough binary64 z h = omega arith

pub power_ends : (f : Format) (s : Bool) (z : ℕ) → least f ≤ z → power_n f s z ≡ ended s
unfolding power_n
power_ends f true z h = let Y = 2 ^ 63 - z in at_low f (whole Y) (significand f (index Y) (Y % 2 ^ 44) * lift f) (low_enough f z h)
power_ends f false z h = let Y = 2 ^ 63 + z in at_high f (whole Y) (significand f (index Y) (Y % 2 ^ 44) * lift f) (high_enough f z h)

-- ---- below 0
round_one : (f : Format) → round f false 1 1 ≡ float_one
unfolding round
round_one binary32 = refl
round_one binary64 = refl

zero_below : T (le (fin false 0 (pos 0)) float_one)
unfolding le
zero_below = tt

under_one : (f : Format) (K M : ℕ) → M < 2 ^ 63 → K ≤ 2047 → T (le (round f false (M * 2 ^ K) (2 ^ 2110)) float_one)
under_one f K M a b =
    subst (λ (x : Float). T (le (round f false (M * 2 ^ K) (2 ^ 2110)) x)) (round_one f)
    (round_mono f (M * 2 ^ K) (2 ^ 2110) 1 1 (pow_pos 2110) (lit< tt)
    (le_trans (le_of_eq (mul-one (M * 2 ^ K))) (le_trans (le_of_lt (lt_of_lt_of_le (shl_lt 63 K a) (pow_mono (reach K b)))) (le_of_eq (sym (one-mul (2 ^ 2110)))))))
  where
    reach : (K : ℕ) → K ≤ 2047 → 63 + K ≤ 2110
    reach K h = omega arith

finish_under : (f : Format) (K M : ℕ) → M < 2 ^ 63 → K ≤ 2047 → T (le (finish_n f K M) float_one)
finish_under f K M a b = elim (lt-or-ge (K + emax f) 2049) [
  | inl l ↦ subst (λ (x : Float). T (le x float_one)) (sym (at_low f K M l)) zero_below
  | inr g ↦ subst (λ (x : Float). T (le x float_one)) (sym (at_mid f K M g (wide K (emax f) b))) (under_one f K M a b)
]
  where
    wide : (K E : ℕ) → K ≤ 2047 → K ≤ 2048 + E
    wide K E h = omega arith

pub one_below : T (le float_one float_one)
unfolding le
one_below = tt

pub under_power : (f : Format) (z : ℕ) → T (le (power_n f true z) float_one)
unfolding power_n
under_power f zero = subst (λ (x : Float). T (le x float_one)) (sym (power_zero f true)) one_below
under_power f (suc n) =
    let Y : ℕ = 2 ^ 63 - suc n in
    finish_under f (whole Y) (significand f (index Y) (Y % 2 ^ 44) * lift f) (M-high f Y) (omega arith)

-- ---- no NaN
-- a NaN exactly outside a domain is refusal 10 exactly there
pub refusal_10 : (y : Float) (good : Bool) → is_nan y ≡ not good → kernel_refusal y ≡ cond good 0 10
refusal_10 y true h = rw h
refusal_10 y false h = rw h

pub either : (b : Bool) (x y : Float) → is_nan x ≡ false → is_nan y ≡ false → is_nan (cond b x y) ≡ false
either true x y h g = h
either false x y h g = g

finish_number : (f : Format) (K M : ℕ) → is_nan (finish_n f K M) ≡ false
unfolding finish_n is_nan
finish_number f K M =
    either (ltb (K + emax f) 2049) (fin false 0 (pos 0)) (cond (ltb (2048 + emax f) K) (inf false) (round f false (M * 2 ^ K) (2 ^ 2110))) refl
    (either (ltb (2048 + emax f) K) (inf false) (round f false (M * 2 ^ K) (2 ^ 2110)) refl
    (is_false (is_nan (round f false (M * 2 ^ K) (2 ^ 2110))) (round_not_nan f false (M * 2 ^ K) (2 ^ 2110))))

pub power_number : (f : Format) (neg : Bool) (z : ℕ) → is_nan (power_n f neg z) ≡ false
unfolding power_n
power_number f neg z = let Y = biased neg z in finish_number f (whole Y) (significand f (index Y) (Y % 2 ^ 44) * lift f)

-- ---- exp
turns_zero : (f : Format) → turns f 0 1 ≡ 0
unfolding turns hi
turns_zero binary32 = refl
turns_zero binary64 = refl

pub exp_zero : (f : Format) → ExpZero f
unfolding exp_def
exp_zero f s = power_is f s (turns f 0 1) ∙ ap (power_n f s) (turns_zero f) ∙ power_zero f s

pub exp_nan : (f : Format) (x : Float) → is_nan (exp_def f x) ≡ not (finite x)
unfolding exp_def is_nan
exp_nan f nan = refl
exp_nan f (inf s) = refl
exp_nan f (fin s m e) = ap is_nan (power_is f s (turns f (m * up e) (down e))) ∙ power_number f s (turns f (m * up e) (down e))

pub quotient : (r s b k : ℕ) → zero < b → r * b ≤ s → r * k ≤ s * k / b
quotient r s b k z h = (le-div_iff_mul-le z).1 (le_trans (le_of_eq (mul_right_comm r k b)) (mul-le-mul_right k h))

pub past_three : (h g v k u w : ℕ) → v * k < (h + 3) * w → u ≤ v → (g + 3) * w ≤ u * k → g ≤ h
past_three h g v k u w l m c = omega (arith, lt_of_mul-lt-mul_right w (lt_of_le_of_lt (le_trans c (mul-le-mul_right k m)) l))

turns_far : (f : Format) (s b : ℕ) → zero < b → edge f * b ≤ s → least f ≤ turns f s b
unfolding turns
turns_far binary32 s b z h = le_trans (lit≤ tt) (quotient 89 s b (2 ^ 103 / N * 2 ^ 13) z h)
turns_far binary64 s b z h =
    past_three (hi (s * 2 ^ 53 / b) (2 ^ 127 / N)) (1024 * 2 ^ 52) (s * 2 ^ 53 / b) (2 ^ 127 / N) (710 * 2 ^ 53) (2 ^ 64) (hi_ge (s * 2 ^ 53 / b) (2 ^ 127 / N))
    (quotient 710 s b (2 ^ 53) z h) (lit≤ tt)

pub exp_ends : (f : Format) → ExpEnds f
unfolding exp_def
exp_ends f s m e k h = power_is f s (turns f (m * up e) (down e)) ∙ power_ends f s (turns f (m * up e) (down e)) (turns_far f (m * up e) (down e) (down_pos e) h)
