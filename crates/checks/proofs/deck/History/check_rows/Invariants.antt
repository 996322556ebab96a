use mathlib.Core.Path.{◌≡◌}
use Rattle.checks.specs.Faults.{prefix_rows_def}
use Rattle.checks.specs.Decks.{history_at}
use Rattle.checks.proofs.faults.First.{none}
use Rattle.checks.proofs.deck.History.check_rows.Given as goal

abbrev pub invariant-loop-row : goal.invariant-loop-row
invariant-loop-row l = none ≡ prefix_rows_def (history_at l.self) l.column l.row
