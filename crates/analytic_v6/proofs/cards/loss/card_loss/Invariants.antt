use Rattle.std.proofs.Common.{◌≡◌}
use Rattle.checks.specs.Columns.{total}
use Rattle.checks.specs.Decks.{cards_now}
use Rattle.analytic_v6.specs.Cards.{card_loss_def}
use Rattle.analytic_v6.proofs.cards.loss.card_loss.Given as goal

abbrev pub invariant-loop-column : goal.invariant-loop-column
invariant-loop-column l = l.loss ≡ total (card_loss_def l.p (cards_now l.deck)) l.column
