-- `shifts::digits64` meets its contract: what is not a leading zero is a digit. Assumes nothing.
use Rattle.std.proofs.Common.{◌∙◌}
use lib.Count.{leading_le}
use Rattle.soft.proofs.shifts.Sizes.{digits_of}
use Rattle.soft.proofs.shifts.digits64.Goals as goal

pub overflow_sub-x : goal.overflow_sub-x
overflow_sub-x c = leading_le 64 c.args.x

pub returns : goal.returns
returns c = c.from.ensures ∙ digits_of c.args.x c.ranges.x.fits
