-- `power::significand_f64` meets its contract. Assumes nothing.
use Rattle.std.proofs.Common.{lt_trans, lit<}
use Rattle.kernels.proofs.power.Sizes.{double}
use Rattle.kernels.proofs.double.F64PowerOfTwo.significand.Goals as goal

pub returns : goal.returns
returns c =
    let d = c.part-d in
    let t = c.entry_at-t in
    double c.args.parts.i c.args.parts.f t.result d.result c.hi.result c.args.parts.i_lt t.ensures d.ensures.0 d.ensures.1 c.hi.ensures

pub overflow_add-result : goal.overflow_add-result
overflow_add-result c = record { fits = lt_trans (returns c).2 (lit< tt) }
