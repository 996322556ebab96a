use mathlib.Core.Path.{◌≡◌}
use Rattle.checks.specs.Sizes.{longest_def}
use Rattle.checks.proofs.deck.Table.longest.Given as goal

abbrev pub invariant-loop-column : goal.invariant-loop-column
invariant-loop-column l = l.longest ≡ longest_def l.self.lengths.now l.self.rows l.column
