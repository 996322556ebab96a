-- `log_double::log_f64` meets its contract: by its units, or straight from a normal double's pattern. Assumes nothing.
use Rattle.std.proofs.Common.{lt_of_lt_of_le, lit≤}
use lib.Ieee.{binary64}
use Rattle.kernels.proofs.log_double.Pattern.{no_nan, field_lt}
use Rattle.kernels.proofs.log_double.Steps.{field_in, normal_known}
use Rattle.kernels.proofs.log_double.log.Goals as goal

pub float_to_bits-b : goal.float_to_bits-b
float_to_bits-b c = no_nan c.args.x.number c.args.x.is_positive

pub overflow_cast-k : goal.overflow_cast-k
overflow_cast-k c = record { sfits = lt_of_lt_of_le (field_lt binary64 c.args.x.number c.args.x.holds c.args.x.is_positive) (lit≤ tt) }

pub overflow_sub-k : goal.overflow_sub-k
overflow_sub-k c = field_in c.args.x.number c.args.x.holds c.args.x.is_positive

pub log_at-requires : goal.log_at-requires
log_at-requires c = (normal_known c.args.x.number c.args.x.holds c.args.x.is_positive c.if-field-eq0.false).asks

pub returns : goal.returns
returns c = (normal_known c.args.x.number c.args.x.holds c.args.x.is_positive c.if-field-eq0.false).logged c.log_at.result (c.log_at.ensures.0, c.log_at.ensures.1, c.log_at.result.few, c.log_at.result.short)
