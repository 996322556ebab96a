-- `log_single::below_ln` meets its contract. Assumes nothing.
use Rattle.kernels.proofs.log_single.Low.{units, units_is}
use Rattle.kernels.proofs.log_single.below_ln.Goals as goal

pub overflow_mul-p : goal.overflow_mul-p
overflow_mul-p c = record { fits = (units c.args.g c.requires).0 }

pub overflow_add-w : goal.overflow_add-w
overflow_add-w c = record { fits = (units c.args.g c.requires).1 }

pub overflow_mul-q : goal.overflow_mul-q
overflow_mul-q c = record { fits = (units c.args.g c.requires).2 }

pub overflow_mul-s : goal.overflow_mul-s
overflow_mul-s c = record { fits = (units c.args.g c.requires).3 }

pub overflow_add-result : goal.overflow_add-result
overflow_add-result c = record { fits = (units c.args.g c.requires).4 }

pub returns : goal.returns
returns c = (units_is c.args.g, (units c.args.g c.requires).5)
