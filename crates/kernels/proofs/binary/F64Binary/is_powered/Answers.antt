-- `is_powered` meets its contract. Assumes nothing.
use lib.Ieee.{of_bits, neg}
use Rattle.kernels.proofs.binary.F64Binary.is_powered.Goals as goal

pub returns-then-self-clause-test : goal.returns-then-self-clause-test
unfolding of_bits neg
returns-then-self-clause-test c = rw c.if-self.true

pub returns-else-self-clause-test : goal.returns-else-self-clause-test
unfolding of_bits neg
returns-else-self-clause-test c = rw c.if-self.false
