-- `log_single::below_steps` meets its contract. Assumes nothing.
use Rattle.kernels.proofs.log_single.Low.{steps, steps_is}
use Rattle.kernels.proofs.log_single.below_steps.Goals as goal

pub overflow_add-w : goal.overflow_add-w
overflow_add-w c = record { fits = (steps c.args.g c.requires).0 }

pub overflow_mul-q : goal.overflow_mul-q
overflow_mul-q c = record { fits = (steps c.args.g c.requires).1 }

pub overflow_mul-s : goal.overflow_mul-s
overflow_mul-s c = record { fits = (steps c.args.g c.requires).2 }

pub overflow_add-l : goal.overflow_add-l
overflow_add-l c = record { fits = (steps c.args.g c.requires).3 }

pub returns : goal.returns
returns c = (steps_is c.args.g, (steps c.args.g c.requires).4)
