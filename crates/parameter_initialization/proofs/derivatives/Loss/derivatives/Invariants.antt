use Rattle.std.proofs.Common.{◌≡◌}
use Rattle.checks.specs.Columns.{total}
use Rattle.parameter_initialization.specs.Derivatives.{row_of}
use Rattle.parameter_initialization.proofs.derivatives.Loss.derivatives.Given as goal

abbrev pub invariant-loop-i : goal.invariant-loop-i
invariant-loop-i l =
    let r = l.self.recalls in (
    l.slope ≡ total (λ k. (row_of l.self.decay l.self.factor r.days.now r.shares.now r.counts.now l.s k).slope) l.i ×
    l.curvature ≡ total (λ k. (row_of l.self.decay l.self.factor r.days.now r.shares.now r.counts.now l.s k).curvature) l.i
    )
