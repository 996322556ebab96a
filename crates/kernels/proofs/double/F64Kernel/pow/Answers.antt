-- `pow` of doubles meets its contract. Assumes nothing.
use Rattle.std.proofs.Common.{◌∙◌}
use lib.Ieee.{of_bits}
use lib.Ieee.Bits.{is_true}
use Rattle.soft.proofs.units.Value.{holds}
use Rattle.kernels.specs.Kernels.{powered}
use Rattle.kernels.proofs.log_double.Pattern.{no_nan}
use Rattle.kernels.proofs.pow.One.{pow-one, raised_is}
use Rattle.kernels.proofs.double.F64Kernel.pow.Goals as goal

pub float_to_bits-x : goal.float_to_bits-x
float_to_bits-x c = no_nan c.args.x c.requires.0

pub returns-then-x-eq4607182418800017408 : goal.returns-then-x-eq4607182418800017408
unfolding of_bits
returns-then-x-eq4607182418800017408 c = pow-one c.args.x c.args.y (holds c.well_formed.0.1) c.if-x-eq4607182418800017408.true c.requires.1

pub returns : goal.returns
returns c =
    c.raised.ensures
    ∙ raised_is c.args.x c.log.result c.requires.0 c.if-x-eq4607182418800017408.false c.log.ensures c.args.y (is_true (powered c.args.y) c.requires.1)
