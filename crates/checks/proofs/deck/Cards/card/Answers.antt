use mathlib.Core.Path.{ap}
use Rattle.checks.specs.Batch.{History}
use Rattle.checks.specs.Decks.{rows_of}
use Rattle.checks.proofs.align.Counted.{weights_same}
use Rattle.checks.proofs.deck.Cards.card.Goals as goal

pub returns-clause-weights : goal.returns-clause-weights
returns-clause-weights c = weights_same _ _ _ _ _ (ap (λ (h : History). h.rating) c.history.ensures.history) (ap rows_of c.column_of-2.ensures)
