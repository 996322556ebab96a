-- `log_double::below` meets its contract. Assumes nothing.
use Rattle.kernels.proofs.log_double.Low.{Low, chain, sum2, low_given}
use Rattle.kernels.proofs.log_double.below.Goals.{After-hi-2}
use Rattle.kernels.proofs.log_double.below.Goals as goal

low : (c : goal.After-hi-2) → Low c.args.g c.hi-2.result
low c =
    let a = c.hi-h2 in
    let b = c.hi in
    low_given c.args.g c.requires a.result a.ensures b.result c.hi-2.result b.ensures c.hi-2.ensures

pub overflow_mul-p7 : goal.overflow_mul-p7
overflow_mul-p7 c = record { fits = (chain c.args.g c.requires).0 }

pub overflow_add-h6 : goal.overflow_add-h6
overflow_add-h6 c = record { fits = (chain c.args.g c.requires).1 }

pub overflow_mul-p6 : goal.overflow_mul-p6
overflow_mul-p6 c = record { fits = (chain c.args.g c.requires).2 }

pub overflow_add-h5 : goal.overflow_add-h5
overflow_add-h5 c = record { fits = (chain c.args.g c.requires).3 }

pub overflow_mul-p5 : goal.overflow_mul-p5
overflow_mul-p5 c = record { fits = (chain c.args.g c.requires).4 }

pub overflow_add-h4 : goal.overflow_add-h4
overflow_add-h4 c = record { fits = (chain c.args.g c.requires).5 }

pub overflow_mul-p4 : goal.overflow_mul-p4
overflow_mul-p4 c = record { fits = (chain c.args.g c.requires).6 }

pub overflow_add-h3 : goal.overflow_add-h3
overflow_add-h3 c = record { fits = (chain c.args.g c.requires).7 }

pub overflow_add-h2 : goal.overflow_add-h2
overflow_add-h2 c = record { fits = sum2 c.args.g c.requires c.hi-h2.result c.hi-h2.ensures }

pub overflow_add-result : goal.overflow_add-result
overflow_add-result c = record { fits = (low c).fits }

pub returns : goal.returns
returns c = ((low c).is, (low c).short)
