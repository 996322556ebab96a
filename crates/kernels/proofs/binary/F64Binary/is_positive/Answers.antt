-- `is_positive` meets its contract. Assumes nothing.
use lib.Ieee.{binary64, of_bits}
use Rattle.soft.proofs.units.Value.{holds}
use Rattle.kernels.proofs.log_double.Positive.{above_zero, not_above}
use Rattle.kernels.proofs.binary.F64Binary.is_positive.Goals as goal

pub returns-then-self-clause-test : goal.returns-then-self-clause-test
unfolding of_bits
returns-then-self-clause-test c = above_zero binary64 c.args.self (holds c.well_formed.0.1) c.if-self.true

pub returns-else-self-clause-test : goal.returns-else-self-clause-test
unfolding of_bits
returns-else-self-clause-test c = not_above c.args.self c.if-self.false
