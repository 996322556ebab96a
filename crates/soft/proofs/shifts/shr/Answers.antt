-- `shifts::shr` meets its contract: nothing is left of 128 bits. Assumes nothing.
use Rattle.std.proofs.Common.{sym, lt_of_lt_of_le, pow_mono}
use native.Mathlib.Nat.{div-eq_of_lt}
use Rattle.soft.proofs.shifts.shr.Goals as goal

pub returns-else-n-lt128 : goal.returns-else-n-lt128
returns-else-n-lt128 c = sym (div-eq_of_lt (lt_of_lt_of_le c.ranges.w.fits (pow_mono c.if-n-lt128.false)))
