-- `pow::eighths_f32` meets its contract, by the range of v. Assumes nothing.
use Rattle.std.proofs.Common.{◌≡◌, ◌-◌, ◌*◌, ◌^◌, true, false, ℤ, pos, negsuc, ◌*ℤ◌, sym, ap, ◌∙◌, subst, to_z-of_z, w64, SFits}
use lib.Signed.{lt_z, le_z}
use lib.Ieee.{binary32, of_bits, div}
use Rattle.kernels.specs.Power.{power}
use Rattle.kernels.proofs.pow.Single.{is_low, is_high, is_between}
use Rattle.kernels.proofs.whole.Words.{word, tested}
use Rattle.kernels.proofs.pow_single.eighths.Goals as goal

fits : (v : ℤ) → SFits w64 v → lt_z (word v) (negsuc (126 * 2 ^ 49 - 1)) ≡ false → le_z (pos (2 ^ 56)) (word v) ≡ false → SFits w64 (word v *ℤ pos 8)
fits v f a b =
    subst (λ (z : ℤ). SFits w64 (z *ℤ pos 8)) (sym (to_z-of_z f))
    (record { sfits = is_between v (tested (λ (z : ℤ). lt_z z (negsuc (126 * 2 ^ 49 - 1))) false v f a) (tested (le_z (pos (2 ^ 56))) false v f b) })

pub returns-then-v-ltminus70931694131085312 : goal.returns-then-v-ltminus70931694131085312
unfolding of_bits
returns-then-v-ltminus70931694131085312 c = is_low c.args.v (tested (λ (z : ℤ). lt_z z (negsuc (126 * 2 ^ 49 - 1))) true c.args.v c.ranges.v c.if-v-ltminus70931694131085312.true)

pub returns-then-v-ge72057594037927936 : goal.returns-then-v-ge72057594037927936
unfolding of_bits div
returns-then-v-ge72057594037927936 c = is_high c.args.v (tested (le_z (pos (2 ^ 56))) true c.args.v c.ranges.v c.if-v-ge72057594037927936.true)

pub overflow_mul-z : goal.overflow_mul-z
overflow_mul-z c = fits c.args.v c.ranges.v c.if-v-ltminus70931694131085312.false c.if-v-ge72057594037927936.false

pub returns : goal.returns
returns c =
    c.power.ensures
    ∙ ap (power binary32) (to_z-of_z (fits c.args.v c.ranges.v c.if-v-ltminus70931694131085312.false c.if-v-ge72057594037927936.false) ∙ ap (λ (z : ℤ). z *ℤ pos 8) (to_z-of_z c.ranges.v))
