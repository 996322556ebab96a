-- `power::significand_f32` meets its contract. Assumes nothing.
use Rattle.std.proofs.Common.{lt_trans, lit<}
use Rattle.kernels.proofs.power.Sizes.{single_fits, single}
use Rattle.kernels.proofs.single.F32PowerOfTwo.significand.Goals as goal

pub overflow_mul-v : goal.overflow_mul-v
overflow_mul-v c = record { fits = single_fits c.args.parts.i c.entry_at-t.result c.part-d.result c.args.parts.i_lt c.entry_at-t.ensures c.part-d.ensures.1 }

pub returns : goal.returns
returns c = single c.args.parts.i c.args.parts.f c.entry_at-t.result c.part-d.result c.args.parts.i_lt c.args.parts.f_lt c.entry_at-t.ensures c.part-d.ensures.0

pub overflow_add-result : goal.overflow_add-result
overflow_add-result c = record { fits = lt_trans (returns c).2 (lit< tt) }
