-- `power_part` meets its contract. Assumes nothing.
use Rattle.std.proofs.Common.{◌+◌, ◌*◌, ◌^◌, ◌<◌, ◌∙◌, le_trans, le_of_eq, arith}
use Rattle.kernels.proofs.high.Halves.{hi_small}
use Rattle.kernels.proofs.power.Sizes.{wide, h_le, double_is}
use Rattle.kernels.proofs.double.part.Goals as goal

pub overflow_add-h : goal.overflow_add-h
overflow_add-h c =
    let k = c.chain-c in
    record { fits = wide (h_le (2 ^ 20 * c.args.parts.f) k.result c.hi-h.result (omega (arith, c.args.parts.f_lt)) k.ensures.1 c.hi-h.ensures) }

pub returns : goal.returns
returns c =
    let k = c.chain-c in
    let u = c.hi-h in
    let x : 2 ^ 20 * c.args.parts.f < 2 ^ 64 = omega (arith, c.args.parts.f_lt) in (
      c.hi.ensures ∙ double_is c.args.parts.f k.result u.result k.ensures.0 u.ensures,
      le_trans (le_of_eq c.hi.ensures) (le_trans (hi_small (2 ^ 20 * c.args.parts.f) (0xb17217f7d1cf79 + u.result) x) (h_le (2 ^ 20 * c.args.parts.f) k.result u.result x k.ensures.1 u.ensures)),
    )
