use mathlib.Core.Path.{◌≡◌}
use Rattle.checks.specs.Align.{first_non_zero}
use Rattle.checks.specs.Decks.{rows_of}
use Rattle.checks.proofs.align.Align.first_review.Given as goal

abbrev pub invariant-loop-row : goal.invariant-loop-row
invariant-loop-row l = first_non_zero (rows_of l.ratings) l.row ≡ l.row
