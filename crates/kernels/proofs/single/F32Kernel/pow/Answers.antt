-- `pow` of singles meets its contract. Assumes nothing.
use Rattle.std.proofs.Common.{ℤ, ap, ◌∙◌}
use lib.Ieee.{binary32}
use lib.Ieee.Bits.{is_true}
use Rattle.kernels.specs.Kernels.{powered, pow_at_def}
use Rattle.kernels.proofs.pow.Domain.{within}
use Rattle.kernels.proofs.whole.Words.{back, kept}
use Rattle.kernels.proofs.single.F32Kernel.pow.Goals as goal

pub raised-requires : goal.raised-requires
raised-requires c = kept c.step_log.result 38 tt c.step_log.ensures.1

pub returns : goal.returns
returns c =
    let r = c.step_log in
    c.raised.ensures ∙ ap (λ (z : ℤ). pow_at_def binary32 z c.args.y) (back r.result 38 tt r.ensures.1 ∙ r.ensures.0) ∙ within binary32 c.args.x c.args.y c.requires.0 (is_true (powered c.args.y) c.requires.1)
