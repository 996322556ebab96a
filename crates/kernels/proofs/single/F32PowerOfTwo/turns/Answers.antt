-- `turns` meets its contract. Assumes nothing.
use Rattle.std.proofs.Common.{◌+◌, ◌-◌, ◌*◌, ◌^◌, arith}
use Rattle.kernels.specs.Kernels.{turns}
use Rattle.kernels.proofs.exp.Turns.{counted, halved}
use Rattle.kernels.proofs.single.F32PowerOfTwo.turns.Goals as goal

pub returns : goal.returns
unfolding turns
returns c =
    let t = c.args.digits in
    let F = c.args.exponent in
    (counted (2 ^ 23 + t) 0xb8aa3b295c (F - 1) 13 (137 - F) 149 (omega arith), halved ((2 ^ 23 + t) * 0xb8aa3b295c) (137 - F) (omega arith) (omega arith))
