use mathlib.Core.Path.{◌≡◌}
use Rattle.checks.specs.Decks.{cards_now}
use Rattle.checks.specs.Faults.{first_fault_def, card_column_def}
use Rattle.checks.proofs.faults.First.{none}
use Rattle.checks.proofs.deck.Cards.check_cells.Given as goal

abbrev pub invariant-loop-column : goal.invariant-loop-column
invariant-loop-column l = none ≡ first_fault_def (card_column_def (cards_now l.self)) l.column
