-- `pow::pow` meets its contract. Assumes nothing.
use Rattle.std.proofs.Common.{ap, ◌∙◌}
use lib.Ieee.{of_bits, div}
use Rattle.soft.proofs.units.Value.{holds}
use Rattle.kernels.proofs.pow.Domain.{passed, failed, no_base, no_exponent}
use Rattle.kernels.proofs.pow.pow.Goals as goal

pub returns-then-not-is_positive : goal.returns-then-not-is_positive
unfolding of_bits div
returns-then-not-is_positive g c =
    c.exact.ensures ∙ ap g.F.Binary.of (no_base g.F.Binary.format (g.F.Binary.float c.args.x) (g.F.Binary.float c.args.y) (failed c.is_positive.ensures.test c.if-not-is_positive.true-raw))

pub returns-then-not-is_powered : goal.returns-then-not-is_powered
unfolding of_bits div
returns-then-not-is_powered g c =
    c.exact-then-not-is_powered.ensures
    ∙ ap g.F.Binary.of
    (no_exponent g.F.Binary.format (g.F.Binary.float c.args.x) (g.F.Binary.float c.args.y) (holds (passed c.is_positive.ensures.test c.if-not-is_positive.false-raw)) (failed c.is_powered.ensures.test c.if-not-is_powered.true-raw))
