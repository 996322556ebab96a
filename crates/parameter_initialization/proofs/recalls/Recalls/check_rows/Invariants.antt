use Rattle.std.proofs.Common.{◌≡◌}
use Rattle.parameter_initialization.specs.Start.{number_at, first_number}
use Rattle.parameter_initialization.proofs.recalls.Recalls.check_rows.Given as goal

abbrev pub invariant-loop-i : goal.invariant-loop-i
invariant-loop-i l = first_number (number_at l.self.days.now l.self.shares.now l.self.counts.now) l.i ≡ 0
