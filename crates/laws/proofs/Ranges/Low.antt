-- exp is not below 2 ^ -k, for an argument of either sign of at most k ln 2 in size. Assumes nothing.
use mathlib.Core.Path.{sym}
use mathlib.Core.Bool.{Bool, true, false, cond}
use Prim.Native.Nat.{ℕ, suc, ◌*◌, ◌/◌, ◌^◌, ◌≤◌, ◌<◌}
use native.Mathlib.Nat.{le_trans, le_of_eq, lt_of_le_of_lt, mul-one, one-mul, mul-pos, mul-le-mul, div-lt_iff_lt-mul}
use native.Mathlib.Omega.{arith}
use lib.Dec.{T, ltb→lt, lit<, lit≤}
use lib.IntN.{ℤ, pos, negsuc, nat_abs, sub_ℕ}
use lib.Pow.{pow_pos, pow_mono}
use lib.Signed.{lt_z, shr_z}
use lib.Ieee.{Float, nan, inf, fin, binary32, up, down, round, le}
use lib.Ieee.Fits.{down_pos}
use lib.Ieee.Order.{round_mono}
use lib.Ieee.Positive.{positive, above, above_of_le}
use lib.Ieee.Scale.{finite}
use Rattle.table.specs.Whole.{signed, rest_z}
use Rattle.kernels.specs.Calls.{exp32}
use Rattle.kernels.specs.Kernels.{turns, exp_def}
use Rattle.kernels.specs.Power.{significand, finish, power}
use Rattle.kernels.proofs.Definitions.Sizes.{nat_abs_signed, rest_lt, significand_low}
use Rattle.laws.proofs.Values.Sizes.{Size, size_finite}
use Rattle.laws.proofs.Values.Operations.{Least}
use Rattle.laws.proofs.Values.Between.{least_of}
use Rattle.laws.proofs.Values.Powers.{exp_size, turns_less}

-- a finite number that is not below one above 0
pub above_finite : (low x : Float) → T (positive low) → T (finite x) → T (le low x) → T (positive x)
above_finite low x p a h = go x a (above_of_le low x p h)
  where
    go : (x : Float) → T (finite x) → T (above x) → T (positive x)
    go nan a h = absurd a
    go (inf s) a h = absurd a
    go (fin true m e) a h = absurd h
    go (fin false m e) a h = h

-- 2 ^ -24
abbrev floor : Float
floor = round binary32 false 1 (2 ^ 24)

floor_above : T (positive floor)
unfolding round
floor_above = tt

floor_least : Least 24 floor
unfolding round
floor_least = lit≤ tt

choose : (b : Bool) (x y : Float) → (T b → ⊥) → T (le floor y) → T (le floor (cond b x y))
choose true x y h g = absurd (h tt)
choose false x y h g = g

top : T (le floor (inf false))
unfolding round le
top = tt

else_top : (b : Bool) (y : Float) → T (le floor y) → T (le floor (cond b (inf false) y))
else_top true y g = top
else_top false y g = g

not_under : (Z : ℤ) → nat_abs Z < 24 * 2 ^ 52 → T (lt_z (shr_z Z (2 ^ 52)) (negsuc 125)) → ⊥
not_under (pos z) h t = t
not_under (negsuc z) h t = less (z / 2 ^ 52) ((div-lt_iff_lt-mul (pow_pos 52)).1 (lt_of_le_of_lt (below z) h)) (ltb→lt 125 (z / 2 ^ 52) t)
  where
    below : (z : ℕ) → z ≤ suc z
    below z = omega arith

    less : (q : ℕ) → q < 24 → 125 < q → ⊥
    less q h t = omega arith

over : (Z : ℤ) (M : ℕ) → nat_abs Z < 24 * 2 ^ 52 → 2 ^ 31 ≤ M → 1 * (2 ^ 31 * down (shr_z Z (2 ^ 52))) ≤ M * up (shr_z Z (2 ^ 52)) * 2 ^ 24
over (pos z) M h a = le_trans (le_trans (le_of_eq (one-mul (2 ^ 31 * 1))) (mul-le-mul a (pow_pos (z / 2 ^ 52)))) (more (M * 2 ^ (z / 2 ^ 52)))
  where
    more : (x : ℕ) → x ≤ x * 2 ^ 24
    more x = omega arith
over (negsuc z) M h a =
    le_trans (le_of_eq (one-mul (2 ^ 31 * 2 ^ suc (z / 2 ^ 52)))) (mul-le-mul (le_trans a (le_of_eq (sym (mul-one M)))) (pow_mono {i = suc (z / 2 ^ 52)} {j = 24} ((div-lt_iff_lt-mul (pow_pos 52)).1 (lt_of_le_of_lt (below z) h))))
  where
    below : (z : ℕ) → z ≤ suc z
    below z = omega arith

power_low : (Z : ℤ) → nat_abs Z < 24 * 2 ^ 52 → T (le floor (power binary32 Z))
unfolding power finish
power_low Z h =
    let K = shr_z Z (2 ^ 52) in
    let M = significand binary32 (rest_z (shr_z Z (2 ^ 44)) 256) (rest_z Z (2 ^ 44)) in
    let r = round binary32 false (M * up K) (2 ^ 31 * down K) in
    choose (lt_z K (sub_ℕ 1 127)) (fin false 0 (pos 0)) (cond (lt_z (pos 127) K) (inf false) r) (not_under Z h)
    (else_top (lt_z (pos 127) K) r
    (round_mono binary32 1 (2 ^ 24) (M * up K) (2 ^ 31 * down K) (pow_pos 24) (mul-pos (pow_pos 31) (down_pos K))
    (over Z M h (significand_low (rest_z (shr_z Z (2 ^ 44)) 256) (rest_z Z (2 ^ 44)) (rest_lt (shr_z Z (2 ^ 44)) 256 (lit< tt))))))

above_floor : (x : Float) → Size 4 x → T (le floor (exp32 x))
unfolding exp_def
above_floor nan h = absurd h
above_floor (inf s) h = absurd h
above_floor (fin s m e) h =
    let t = turns binary32 (m * up e) (down e) in
    power_low (signed s t) (lt_of_le_of_lt (le_of_eq (nat_abs_signed s t)) (turns_less binary32 4 24 (m * up e) (down e) (down_pos e) h (lit< tt)))

-- an argument from -16 to 16: 16 is below 24 ln 2
module _ (x : Float) (h : Size 4 x) where
  pub exp_above : T (positive (exp32 x))
  exp_above = above_finite floor (exp32 x) floor_above (size_finite 24 (exp32 x) (exp_size 4 24 x (lit< tt) (lit< tt) h)) (above_floor x h)

  pub exp_low : Least 24 (exp32 x)
  exp_low = least_of 24 floor (exp32 x) floor_above exp_above (above_floor x h) floor_least
