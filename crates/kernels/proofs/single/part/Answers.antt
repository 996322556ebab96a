-- `power_part` meets its contract. Assumes nothing.
use Rattle.kernels.proofs.power.Sizes.{single_sizes, single_is}
use Rattle.kernels.proofs.single.part.Goals as goal

pub overflow_mul-q : goal.overflow_mul-q
overflow_mul-q c = record { fits = (single_sizes c.args.parts.f c.args.parts.f_lt).0 }

pub returns : goal.returns
returns c = (single_is c.args.parts.f, (single_sizes c.args.parts.f c.args.parts.f_lt).1)
