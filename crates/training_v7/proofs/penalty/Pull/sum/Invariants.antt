use Rattle.std.proofs.Common.{◌≡◌}
use Rattle.domain.specs.Weights.{◌!◌}
use Rattle.checks.specs.Columns.{total}
use Rattle.training_v7.specs.Penalty.{term_def}
use Rattle.training_v7.proofs.penalty.Pull.sum.Given as goal

abbrev pub invariant-loop-i : goal.invariant-loop-i
invariant-loop-i l = l.sum ≡ total (λ k. term_def (l.self.weights ! k) (l.self.old ! k) (l.self.spreads ! k)) l.i
