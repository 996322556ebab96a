-- `pow::far_f64` meets its contract. Assumes nothing.
use Rattle.std.proofs.Common.{◌+◌, ◌*◌, ◌^◌, ◌∙◌, arith}
use Rattle.kernels.proofs.whole.Words.{signed_word}
use Rattle.kernels.proofs.pow.Double.{unlike_is}
use Rattle.kernels.proofs.pow.Far.{ready, far_is, cap_lt}
use Rattle.kernels.proofs.pow_double.far.Goals as goal

pub times-w-requires : goal.times-w-requires
times-w-requires c =
    let r = ready c.args.y.number c.measure-u.result c.args.y.holds c.args.y.is_powered c.measure-u.ensures in
    (r.0, r.1, c.requires.0, c.requires.1)

pub signed-z-requires : goal.signed-z-requires
signed-z-requires c = cap_lt c.times-w.result c.min-size.result c.min-size.ensures

pub returns : goal.returns
returns c =
    let v = c.times-w.result in
    let e = signed_word _ c.min-size.result c.signed-z.result (cap_lt v c.min-size.result c.min-size.ensures) c.signed-z.ensures in
    c.power.ensures
    ∙ far_is c.args.y.number c.measure-u.result c.args.y.holds c.args.y.is_powered c.measure-u.ensures
    c.args.negative _ (c.args.high * 2 ^ 32 + c.args.low) v c.min-size.result _ (omega (arith, c.requires.2))
    c.times-w.ensures (unlike_is _ _) c.min-size.ensures e
