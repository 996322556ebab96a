-- `log_single::log` meets its contract: next to 1, and by the digits. Assumes nothing.
use Rattle.std.proofs.Common.{lt_of_lt_of_le, lit≤}
use lib.Ieee.{binary32}
use lib.Ieee.Bits.{to_bits-lt}
use Rattle.kernels.proofs.log_double.Pattern.{no_nan}
use Rattle.kernels.proofs.log_single.Pattern.{apart}
use Rattle.kernels.proofs.log_single.Joined.{log_given, one_given}
use Rattle.kernels.proofs.log_single.log.Goals as goal

pub float_to_bits-b : goal.float_to_bits-b
float_to_bits-b c = no_nan c.args.x.number c.args.x.is_positive

pub overflow_cast-b : goal.overflow_cast-b
overflow_cast-b c = record { fits = lt_of_lt_of_le (to_bits-lt binary32 c.args.x.number c.args.x.holds) (lit≤ tt) }

pub returns-then-b-eq65024 : goal.returns-then-b-eq65024
returns-then-b-eq65024 c =
    let a = c.log_one in
    one_given c.args.x.number c.args.x.is_positive a.result c.args.x.holds c.if-b-eq65024.true a.ensures.0 a.ensures.1

pub returns : goal.returns
returns c =
    let a = c.log_at in
    let d = c.digits_of-d in
    log_given c.args.x.number c.args.x.is_positive a.result _ _
    (record { digits = d.ensures.0; place = d.ensures.1; asks = (d.result.least, d.result.most, d.result.few) })
    a.ensures.0 a.ensures.1 (apart c.args.x.number c.args.x.holds c.args.x.is_positive c.if-b-eq65024.false)
