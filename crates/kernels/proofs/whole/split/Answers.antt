-- `whole::split` meets its contract. Assumes nothing.
use Rattle.std.proofs.Common.{ℕ, ◌^◌, ◌<◌, ℤ, sym, refl, ◌∙◌, subst, lit<, to_z-of_z, w64, SFits}
use lib.Signed.{shr_z}
use Rattle.table.specs.Whole.{rest_z}
use Rattle.kernels.proofs.Definitions.Sizes.{rest_lt}
use Rattle.kernels.proofs.whole.Divide.{shr_twice}
use Rattle.kernels.proofs.whole.Words.{word, shifted, shift_fits, Rests, rests}
use Rattle.kernels.proofs.whole.split.Goals as goal

-- the steps within a factor of 2, and the units within a step
steps : (z : ℤ) → SFits w64 z → Rests (word (shr_z (word z) (2 ^ 44))) (word (shr_z (word z) (2 ^ 52))) 256 (rest_z (shr_z z (2 ^ 44)) 256)
steps z f =
    rests (shr_z z (2 ^ 44)) 256 (2 ^ 55) (lit< tt) (lit< tt) refl (shift_fits z (2 ^ 44) f) (word (shr_z (word z) (2 ^ 44))) (word (shr_z (word z) (2 ^ 52))) (shifted z (2 ^ 44) f)
    (shifted z (2 ^ 52) f ∙ sym (shr_twice z (2 ^ 44) 256))

units : (z : ℤ) → SFits w64 z → Rests (word z) (word (shr_z (word z) (2 ^ 44))) (2 ^ 44) (rest_z z (2 ^ 44))
units z f = rests z (2 ^ 44) (2 ^ 19) (lit< tt) (lit< tt) refl f (word z) (word (shr_z (word z) (2 ^ 44))) (to_z-of_z f) (shifted z (2 ^ 44) f)

pub returns : goal.returns
returns c =
    let z = c.args.z in
    let i = (steps z c.ranges.z).is in
    let f = (units z c.ranges.z).is in
    record {
      k_is = shifted z (2 ^ 52) c.ranges.z;
      i_is = i;
      f_is = f;
      i_lt = subst (λ (n : ℕ). n < 256) (sym i) (rest_lt (shr_z z (2 ^ 44)) 256 (lit< tt));
      f_lt = subst (λ (n : ℕ). n < 2 ^ 44) (sym f) (rest_lt z (2 ^ 44) (lit< tt));
    }

pub overflow_mul-i : goal.overflow_mul-i
overflow_mul-i c = (steps c.args.z c.ranges.z).part

pub overflow_sub-i : goal.overflow_sub-i
overflow_sub-i c = (steps c.args.z c.ranges.z).left

pub overflow_mul-f : goal.overflow_mul-f
overflow_mul-f c = (units c.args.z c.ranges.z).part

pub overflow_sub-f : goal.overflow_sub-f
overflow_sub-f c = (units c.args.z c.ranges.z).left

pub overflow_cast-result : goal.overflow_cast-result
overflow_cast-result c = (steps c.args.z c.ranges.z).cast

pub overflow_cast-result-2 : goal.overflow_cast-result-2
overflow_cast-result-2 c = (units c.args.z c.ranges.z).cast
