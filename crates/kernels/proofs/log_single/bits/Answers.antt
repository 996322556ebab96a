-- `ln::bits_f32` meets its contract. Assumes nothing.
use Rattle.std.proofs.Common.{lt_of_le_of_lt, arith, lit<}
use Rattle.kernels.proofs.ln.Single.{Bits, bits}
use Rattle.kernels.proofs.log_single.bits.Goals.{After-digits64-z}
use Rattle.kernels.proofs.log_single.bits.Goals as goal

met : (c : goal.After-digits64-z) → Bits c.args.a c.digits64-z.result
met c = bits c.args.a c.digits64-z.result c.requires.0 c.requires.1 c.digits64-z.ensures

pub overflow_sub-n : goal.overflow_sub-n
overflow_sub-n c = (met c).digits

pub overflow_add-q : goal.overflow_add-q
overflow_add-q c = omega (arith, (met c).short)

pub overflow_add-q-2 : goal.overflow_add-q-2
overflow_add-q-2 c = omega (arith, (met c).short)

pub overflow_add-result : goal.overflow_add-result
overflow_add-result c = omega (arith, (met c).digits)

pub overflow_mul-result : goal.overflow_mul-result
overflow_mul-result c = omega (arith, (met c).digits)

pub overflow_add-result-2 : goal.overflow_add-result-2
overflow_add-result-2 c = record { fits = lt_of_le_of_lt (met c).most (lit< tt) }

pub returns : goal.returns
returns c = ((met c).plus, (met c).minus, (met c).most)
