-- `turns` meets its contract. Assumes nothing.
use Rattle.std.proofs.Common.{ℕ, ◌+◌, ◌-◌, ◌*◌, ◌/◌, ◌^◌, ap, ◌∙◌, le_trans, le_of_eq, lt_of_le_of_lt, arith, lit<}
use Rattle.kernels.specs.Power as Power
use Rattle.kernels.specs.Kernels.{turns}
use Rattle.kernels.proofs.high.Halves.{hi_first}
use Rattle.kernels.proofs.exp.Turns.{counted, halved}
use Rattle.kernels.proofs.double.F64PowerOfTwo.turns.Goals as goal

pub returns : goal.returns
unfolding turns
returns c =
    let t = c.args.digits in
    let F = c.args.exponent in
    let n = (2 ^ 52 + t) * 2048 / 2 ^ (1033 - F) in (
      c.hi.ensures ∙ ap (λ (x : ℕ). Power.hi x 0xb8aa3b295c17f0bc) (counted (2 ^ 52 + t) 2048 (F - 1) 42 (1033 - F) 1074 (omega arith)),
      lt_of_le_of_lt (le_trans (le_of_eq c.hi.ensures) (hi_first n 0xb8aa3b295c17f0bc (lit< tt))) (halved ((2 ^ 52 + t) * 2048) (1033 - F) (omega arith) (omega arith)),
    )
