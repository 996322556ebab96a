use Rattle.checks.specs.Decks.{cards_now, history_at, rows_of, weights_at}
use Rattle.analytic_v6.proofs.cards.Columns.{empty_loss, loss_of}
use Rattle.analytic_v6.proofs.cards.loss.column_loss.Goals as goal

pub returns-in_default : goal.returns-in_default
returns-in_default c = empty_loss _ (cards_now c.args.deck.now) _ (rw c.length.ensures at c.in_default.ensures)

pub returns : goal.returns
returns c =
    let card = c.card-card in
    let found = rw c.length.ensures at c.in-Some.ensures in
    rw (c.last_loss.ensures, c.saturating_sub-number.ensures)
    (loss_of _ (cards_now c.args.deck.now) c.args.column found.0 _ found.1 (history_at card.result.history) card.ensures.history
    (rows_of card.result.labels) card.ensures.labels (weights_at card.result) card.ensures.weights c.card_forward-run.result c.target.result c.card_forward-run.ensures c.target.ensures)
