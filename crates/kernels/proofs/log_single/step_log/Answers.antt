-- `log_single::step_log` meets its contract. Assumes nothing.
use Rattle.kernels.proofs.log_single.Joined.{step_given}
use Rattle.kernels.proofs.log_single.step_log.Goals as goal

pub returns : goal.returns
returns c =
    let a = c.step_log_at in
    let d = c.digits_of-d in
    step_given c.args.x.number c.args.x.is_positive a.result _ _
    (record { digits = d.ensures.0; place = d.ensures.1; asks = (d.result.least, d.result.most, d.result.few) }) a.ensures.0 a.ensures.1
