-- `expm1::expm1_f32` meets its contract, by its one test. Assumes nothing.
use Rattle.std.proofs.Common.{sym, ◌∙◌}
use Rattle.kernels.specs.Kernels.{expm1_def}
use Rattle.kernels.proofs.expm1.expm1_f32.Goals as goal

pub returns-then-is_tiny : goal.returns-then-is_tiny
unfolding expm1_def
returns-then-is_tiny c = rw (sym c.is_tiny.ensures ∙ c.if-is_tiny.true)

pub returns : goal.returns
unfolding expm1_def
returns c =
    rw (sym c.is_tiny.ensures ∙ c.if-is_tiny.false, c.narrow.ensures, c.exp-y.ensures, c.from.ensures)
