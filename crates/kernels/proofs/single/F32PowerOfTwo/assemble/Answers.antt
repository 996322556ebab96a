-- `power::assemble_f32` meets its contract. Assumes nothing.
use Rattle.std.proofs.Common.{pos, ◌+ℤ◌, nat_abs, arith}
use lib.Ieee.{binary32}
use Rattle.kernels.proofs.whole.Words.{word}
use Rattle.kernels.proofs.power.Assemble.{sum_fits, sum_cast, Pattern, pattern}
use Rattle.kernels.proofs.single.F32PowerOfTwo.assemble.Goals.{Start}
use Rattle.kernels.proofs.single.F32PowerOfTwo.assemble.Goals as goal

made : (c : goal.Start) → Pattern binary32 c.args.k c.args.m (nat_abs (word (word c.args.k +ℤ pos 126)))
made c = pattern binary32 c.args.k c.ranges.k c.requires.0 c.args.m c.requires.1 c.requires.2

pub overflow_add-field : goal.overflow_add-field
overflow_add-field c = sum_fits binary32 c.args.k c.ranges.k c.requires.0

pub overflow_cast-field : goal.overflow_cast-field
overflow_cast-field c = sum_cast binary32 c.args.k c.ranges.k c.requires.0

pub overflow_mul-result : goal.overflow_mul-result
overflow_mul-result c = omega (arith, (made c).le)

pub overflow_add-result : goal.overflow_add-result
overflow_add-result c = omega (arith, (made c).le)

pub overflow_cast-result : goal.overflow_cast-result
overflow_cast-result c = omega (arith, (made c).le)

pub float_from_bits-result : goal.float_from_bits-result
float_from_bits-result c = (made c).number

pub returns : goal.returns
returns c = (made c).nearest
