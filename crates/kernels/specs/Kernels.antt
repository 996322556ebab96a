-- exp, ln and pow, and exp less 1, to the last bit. A refusal (10) is the NaN, and nothing else is. Assumes nothing.
use Rattle.std.specs.Prelude.{ℕ, zero, suc, ◌*◌, ◌/◌, ◌^◌, Bool, true, false, cond, ◌&&◌, ℤ, pos, ◌*ℤ◌, from_bits, is_nan, unsigned_abs, Float}
use Rattle.std.specs.Int.Signed.{shr_z}
use Rattle.std.specs.Float.{nan, inf, fin, Format, binary32, binary64}
use Rattle.std.specs.Float.Ieee.{unlike, up, down, round, neg, sub, le, lt}
use Rattle.soft.specs.Narrow.{narrow_def}
use Rattle.table.specs.Exact.{N}
use Rattle.table.specs.Whole.{signed, below0}
use Rattle.kernels.specs.Power.{hi, power}
use Rattle.kernels.specs.Logarithm.{logarithm, log_units, step_log_def}

-- s / b in units of 2 ^ -44 of a step
unfoldable pub turns : Format → (s b : ℕ) → ℕ
unfolding hi
turns binary32 s b = s * (2 ^ 103 / N * 2 ^ 13) / b
turns binary64 s b = hi (s * 2 ^ 53 / b) (2 ^ 127 / N)

unfoldable pub exp_def : Format → Float → Float
unfolding power turns
exp_def f nan = nan
exp_def f (inf s) = nan
exp_def f (fin s m e) = power f (signed s (turns f (m * up e) (down e)))

-- 2 ^ -24
abbrev pub tiny_def : Float
tiny_def = from_bits binary32 0x3380_0000

abbrev pub one64 : Float
one64 = from_bits binary64 0x3ff0_0000_0000_0000

-- between -2 ^ -24 and 2 ^ -24
abbrev pub tiny : Float → Bool
tiny x = lt (neg tiny_def) x && lt x tiny_def

-- exp x - 1 of a single: next to 0 the argument itself, elsewhere exp in double, less 1, rounded to single
unfoldable pub expm1_def : Float → Float
expm1_def x = cond (tiny x) x (narrow_def binary32 (sub binary64 (exp_def binary64 x) one64))

-- z / 2 ^ u, rounded once
abbrev pub nearest_of : Format → ℤ → ℕ → Float
nearest_of f z u = round f (below0 z) (unsigned_abs z) (2 ^ u)

unfoldable pub ln_def : Format → Float → Float
unfolding logarithm
ln_def f nan = nan
ln_def f (inf s) = nan
ln_def f (fin s zero e) = nan
ln_def f (fin true (suc m) e) = nan
ln_def f (fin false (suc m) e) = nearest_of f (logarithm f (suc m) e) (log_units f)

-- y from -16 to 16
abbrev pub powered : Float → Bool
powered y = le (fin true 1 (pos 4)) y && le y (fin false 1 (pos 4))

-- y Λ for y = ±x / b, in units of 2 ^ -44 of a step: in single eight times a whole part, downward for either sign; in double the size is cut
unfoldable pub raised : Format → (t : Bool) → (x b : ℕ) → ℤ → ℤ
raised binary32 t x b l = shr_z (signed t x *ℤ l *ℤ pos (2 ^ 19)) b *ℤ pos 8
raised binary64 t x b l = signed (unlike (below0 l) t) (x * unsigned_abs l / (b * 64))

abbrev pub pow_at_def : Format → ℤ → Float → Float
pow_at_def f l nan = nan
pow_at_def f l (inf t) = nan
pow_at_def f l (fin t n d) = power f (raised f t (n * up d) (down d) l)

unfoldable pub pow_def : Format → Float → Float → Float
unfolding power raised step_log_def
pow_def f nan y = nan
pow_def f (inf s) y = nan
pow_def f (fin s zero e) y = nan
pow_def f (fin true (suc m) e) y = nan
pow_def f (fin false (suc m) e) y = cond (powered y) (pow_at_def f (step_log_def f (suc m) e) y) nan

-- refusal 10 is shown as a NaN
abbrev pub kernel_refusal : Float → ℕ
kernel_refusal y = cond (is_nan y) 10 0
