-- `log_single::digits_of` meets its contract: a normal single by its pattern. Assumes nothing.
use Rattle.std.proofs.Common.{lt_of_lt_of_le, lit≤}
use lib.Ieee.{binary32}
use lib.Ieee.Bits.{to_bits-lt}
use Rattle.kernels.proofs.log_double.Pattern.{no_nan, field_lt}
use Rattle.kernels.proofs.log_single.Pattern.{field_in, normal_known}
use Rattle.kernels.proofs.log_single.digits_of.Goals as goal

pub float_to_bits-b : goal.float_to_bits-b
float_to_bits-b c = no_nan c.args.x.number c.args.x.is_positive

pub overflow_cast-b : goal.overflow_cast-b
overflow_cast-b c = record { fits = lt_of_lt_of_le (to_bits-lt binary32 c.args.x.number c.args.x.holds) (lit≤ tt) }

pub overflow_cast-k : goal.overflow_cast-k
overflow_cast-k c = record { sfits = lt_of_lt_of_le (field_lt binary32 c.args.x.number c.args.x.holds c.args.x.is_positive) (lit≤ tt) }

pub overflow_sub-k : goal.overflow_sub-k
overflow_sub-k c = field_in c.args.x.number c.args.x.holds c.args.x.is_positive

pub invariant_of-result : goal.invariant_of-result
invariant_of-result c =
    let a = (normal_known c.args.x.number c.args.x.holds c.args.x.is_positive c.if-b-lt8388608.false).asks in
    record { least = a.0; most = a.1; few = a.2 }

pub returns : goal.returns
returns c = let w = normal_known c.args.x.number c.args.x.holds c.args.x.is_positive c.if-b-lt8388608.false in (w.digits, w.place)
