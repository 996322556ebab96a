use mathlib.Core.Path.{◌≡◌}
use Rattle.checks.specs.Decks.{prefixes_now}
use Rattle.checks.specs.Faults.{first_fault_def, prefix_column_def}
use Rattle.checks.proofs.faults.First.{none}
use Rattle.checks.proofs.deck.Prefixes.check_cells.Given as goal

abbrev pub invariant-loop-column : goal.invariant-loop-column
invariant-loop-column l = none ≡ first_fault_def (prefix_column_def (prefixes_now l.self)) l.column
