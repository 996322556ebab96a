-- The power of two behind exp and pow, over whole numbers. N / 2 ^ 72 is ln 2 / 256, a step, and an argument is a whole number Z of either sign,
-- 2 ^ 44 units to a step, so that 2 ^ 52 of them make a factor of 2. docs/KERNELS.md says all of this in words. Assumes nothing.
use Rattle.std.specs.Prelude.{ℕ, ◌+◌, ◌*◌, ◌/◌, ◌%◌, ◌^◌, false, cond, ℤ, pos, int_lt, Float}
use Rattle.std.proofs.Math.IntN.{sub_ℕ}
use Rattle.std.specs.Int.Signed.{shr_z}
use Rattle.std.specs.Float.{inf, fin, Format, binary32, binary64}
use Rattle.std.specs.Float.Ieee.{emax, round, up, down}
use Rattle.table.specs.Exact.{N, fact}
use Rattle.table.specs.Entry.{entry}
use Rattle.table.specs.Whole.{rest_z}

-- a b / 2 ^ 64 by three half-width products: the product of the lower halves is left out, and each cross product is cut. Never above the whole
-- part, and at most 2 below it
unfoldable pub hi : (a b : ℕ) → ℕ
hi a b = a / 2 ^ 32 * (b / 2 ^ 32) + a / 2 ^ 32 * (b % 2 ^ 32) / 2 ^ 32 + a % 2 ^ 32 * (b / 2 ^ 32) / 2 ^ 32

-- the term s ^ j / j! of e ^ s at one step, in units of 2 ^ -u, cut
unfoldable pub coef : (u j : ℕ) → ℕ
unfolding fact
coef u j = 2 ^ u * N ^ j / (2 ^ (72 * j) * fact j)

-- e ^ s - 1 for s = f / 2 ^ 44 steps, f below 2 ^ 44, by Horner's rule: two terms in units of 2 ^ -40, five in units of 2 ^ -64. The inner products are
-- of 32 digits, since their place in the sum asks for no more
abbrev pub upper : ℕ → ℕ
upper f = f / 2 ^ 12

unfoldable pub single1 : ℕ → ℕ
unfolding coef
single1 f = coef 40 1 + upper f * coef 40 2 / 2 ^ 32

unfoldable pub double4 : ℕ → ℕ
unfolding coef
double4 f = coef 64 4 + upper f * coef 64 5 / 2 ^ 32

unfoldable pub double3 : ℕ → ℕ
unfolding coef double4
double3 f = coef 64 3 + upper f * double4 f / 2 ^ 32

unfoldable pub double2 : ℕ → ℕ
unfolding coef double3
double2 f = coef 64 2 + upper f * (double3 f / 2 ^ 8) / 2 ^ 24

unfoldable pub double1 : ℕ → ℕ
unfolding coef double2 hi
double1 f = coef 64 1 + hi (2 ^ 20 * f) (double2 f)

unfoldable pub part : Format → ℕ → ℕ
unfolding single1 hi double1
part binary32 f = upper f * single1 f / 2 ^ 32
part binary64 f = hi (2 ^ 20 * f) (double1 f)

-- 2 ^ (i / 256) e ^ s: 32 digits of a single, 63 of a double
unfoldable pub significand : Format → (i f : ℕ) → ℕ
unfolding part entry hi
significand binary32 i f = entry i / 2 ^ 31 + entry i / 2 ^ 31 * part binary32 f / 2 ^ 40
significand binary64 i f = entry i + hi (entry i) (part binary64 f)

-- the places of its digits after the first
abbrev pub places : Format → ℕ
places binary32 = 31
places binary64 = 62

-- M / 2 ^ places 2 ^ k: +0 below the normal range, +infinity above it, the nearest one within
unfoldable pub finish : Format → ℤ → ℕ → Float
finish f k M =
    cond (int_lt k (sub_ℕ 1 (emax f))) (fin false 0 (pos 0)) (cond (int_lt (pos (emax f)) k) (inf false) (round f false (M * up k) (2 ^ places f * down k)))

-- 2 ^ (Z / 2 ^ 52): k is rounded down, so that a negative Z gives a negative k
unfoldable pub power : Format → ℤ → Float
unfolding finish significand
power f Z = finish f (shr_z Z (2 ^ 52)) (significand f (rest_z (shr_z Z (2 ^ 44)) 256) (rest_z Z (2 ^ 44)))
