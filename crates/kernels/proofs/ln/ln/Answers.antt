-- `ln::ln` meets its contract. Assumes nothing.
use Rattle.std.proofs.Common.{ap, ◌∙◌}
use lib.Ieee.{of_bits, div}
use Rattle.kernels.proofs.pow.Domain.{failed}
use Rattle.kernels.proofs.ln.One.{no_log}
use Rattle.kernels.proofs.ln.ln.Goals as goal

pub returns-then-not-is_positive : goal.returns-then-not-is_positive
unfolding of_bits div
returns-then-not-is_positive g c =
    c.exact.ensures ∙ ap g.F.Binary.of (no_log g.F.Binary.format (g.F.Binary.float c.args.x) (failed c.is_positive.ensures.test c.if-not-is_positive.true-raw))
