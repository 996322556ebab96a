-- `ln` of a double meets its contract. Assumes nothing.
use Rattle.std.proofs.Common.{◌∙◌}
use lib.Ieee.{of_bits}
use Rattle.soft.proofs.units.Value.{holds}
use Rattle.kernels.proofs.log_double.Pattern.{no_nan}
use Rattle.kernels.proofs.ln.One.{at_one, ln_double}
use Rattle.kernels.proofs.double.F64Kernel.ln.Goals as goal

pub float_to_bits-x : goal.float_to_bits-x
float_to_bits-x c = no_nan c.args.x c.requires

pub returns-then-x-eq4607182418800017408 : goal.returns-then-x-eq4607182418800017408
unfolding of_bits
returns-then-x-eq4607182418800017408 c = at_one c.args.x (holds c.well_formed.0.1) c.if-x-eq4607182418800017408.true

pub returns : goal.returns
returns c = c.nearest.ensures ∙ ln_double c.args.x c.log.result c.requires c.log.ensures c.if-x-eq4607182418800017408.false
