-- `log_double::log_small` meets its contract. Assumes nothing.
use Rattle.std.proofs.Common.{arith}
use Rattle.kernels.proofs.log_double.Steps.{Measured, measured_is, exponent_in, small_known}
use Rattle.kernels.proofs.log_double.log_small.Goals.{After-digits64-z}
use Rattle.kernels.proofs.log_double.log_small.Goals as goal

met : (c : goal.After-digits64-z) → Measured c.args.x.number c.args.x.holds c.args.x.is_positive c.measure-u.result c.digits64-z.result
met c =
    let u = c.measure-u in
    measured_is c.args.x.number c.args.x.holds c.args.x.is_positive u.result c.digits64-z.result u.ensures c.digits64-z.ensures

pub overflow_add-n : goal.overflow_add-n
overflow_add-n c = record { fits = omega (arith, (met (goal.at.overflow_add-n c).After-digits64-z).few, (met (goal.at.overflow_add-n c).After-digits64-z).far) }

pub overflow_sub-m : goal.overflow_sub-m
overflow_sub-m c = omega (arith, (met (goal.at.overflow_sub-m c).After-digits64-z).few)

pub overflow_shl-m : goal.overflow_shl-m
overflow_shl-m c = omega (arith, (met (goal.at.overflow_shl-m c).After-digits64-z).some)

pub overflow_cast-k : goal.overflow_cast-k
overflow_cast-k c = record { sfits = omega (arith, (met (goal.at.overflow_cast-k c).After-digits64-z).few, (met (goal.at.overflow_cast-k c).After-digits64-z).far) }

pub overflow_sub-k : goal.overflow_sub-k
overflow_sub-k c =
    exponent_in c.args.x.number c.args.x.holds c.args.x.is_positive c.measure-u.result c.digits64-z.result (met (goal.at.overflow_sub-k c).After-digits64-z)

pub log_at-requires : goal.log_at-requires
log_at-requires c =
    (small_known c.args.x.number c.args.x.holds c.args.x.is_positive c.measure-u.result c.digits64-z.result (met (goal.at.log_at-requires c).After-digits64-z)).asks

pub returns : goal.returns
returns c =
    (small_known c.args.x.number c.args.x.holds c.args.x.is_positive c.measure-u.result c.digits64-z.result (met (goal.at.returns c).After-digits64-z)).logged c.log_at.result (c.log_at.ensures.0, c.log_at.ensures.1, c.log_at.result.few, c.log_at.result.short)
