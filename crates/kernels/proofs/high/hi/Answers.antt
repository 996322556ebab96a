-- `high::hi` meets its contract. Assumes nothing.
use Rattle.std.proofs.Common.{◌/◌, ◌%◌, ◌^◌, refl, arith}
use Rattle.kernels.specs.Power as Power
use Rattle.kernels.proofs.high.Halves.{half_fits, high_half, low_half, sum_fits}
use Rattle.kernels.proofs.high.hi.Goals as goal

pub overflow_mul-p : goal.overflow_mul-p
overflow_mul-p c = record { fits = half_fits (c.args.a / 2 ^ 32) (c.args.b / 2 ^ 32) (high_half c.args.a c.ranges.a.fits) (high_half c.args.b c.ranges.b.fits) }

pub overflow_mul-q : goal.overflow_mul-q
overflow_mul-q c = record { fits = half_fits (c.args.a / 2 ^ 32) (c.args.b % 2 ^ 32) (high_half c.args.a c.ranges.a.fits) (low_half c.args.b) }

pub overflow_mul-r : goal.overflow_mul-r
overflow_mul-r c = record { fits = half_fits (c.args.a % 2 ^ 32) (c.args.b / 2 ^ 32) (low_half c.args.a) (high_half c.args.b c.ranges.b.fits) }

pub overflow_add-result : goal.overflow_add-result
overflow_add-result c = record { fits = sum_fits c.args.a c.args.b c.ranges.a.fits c.ranges.b.fits }

pub overflow_add-s : goal.overflow_add-s
overflow_add-s c = omega (arith, (overflow_add-result c).fits)

pub returns : goal.returns
unfolding Power.hi
returns c = refl
