use Rattle.std.proofs.Common.{◌-◌, ◌≤◌}
use Rattle.parameter_initialization.specs.Derivatives.{derivatives_def}
use Rattle.parameter_initialization.specs.Search.{rounds_def}
use Rattle.parameter_initialization.proofs.Rounds.{Reached}
use Rattle.parameter_initialization.proofs.search.search.Given as goal

abbrev pub invariant-loop-round : goal.invariant-loop-round
invariant-loop-round l =
    let r = l.loss.recalls in
    (l.round ≤ rounds_def) × Reached (derivatives_def r.days.now r.shares.now r.counts.now) l.prior rounds_def l.initial.b l.round l.b

abbrev pub decreases-loop-round : goal.decreases-loop-round
decreases-loop-round l = rounds_def - l.round
