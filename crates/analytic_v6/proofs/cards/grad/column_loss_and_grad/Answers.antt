use Rattle.checks.specs.Decks.{cards_now, history_at, rows_of, weights_at}
use Rattle.analytic_v6.proofs.cards.Columns.{empty_loss, empty_back, empty_left, empty_grads, loss_of, back_of, grads_of}
use Rattle.analytic_v6.proofs.cards.grad.column_loss_and_grad.Goals as goal

pub returns-in_default : goal.returns-in_default
returns-in_default g c =
    let x = cards_now c.args.deck.now in
    let none = rw c.length.ensures at c.in_default.ensures in
    record {
      loss = empty_loss _ x _ none;
      slots = empty_back _ x _ none _ _ _ _ _;
      records = empty_left _ x _ none _ _;
      step_grads = empty_grads _ x _ none _;
    }

pub returns-clause-loss : goal.returns-clause-loss
returns-clause-loss g c =
    let card = c.card-card in
    let run = c.card_forward_recorded-run in
    let found = rw c.length.ensures at c.in-Some.ensures in
    rw (c.last_end-end.ensures.end, c.saturating_sub-number.ensures)
    (loss_of _ (cards_now c.args.deck.now) c.args.column found.0 _ found.1 (history_at card.result.history) card.ensures.history
    (rows_of card.result.labels) card.ensures.labels (weights_at card.result) card.ensures.weights run.result c.target.result run.ensures.run c.target.ensures)

pub returns-clause-slots : goal.returns-clause-slots
returns-clause-slots g c =
    let p = c.args.p.now in
    let card = c.card-card in
    let h = history_at card.result.history in
    let run = c.card_forward_recorded-run in
    let found = rw c.length.ensures at c.in-Some.ensures in
    rw (c.column_backward.ensures, c.last_end-end.ensures.end, c.last_end-end.ensures.slots, c.saturating_sub-number.ensures)
    (back_of p (cards_now c.args.deck.now) c.args.column found.0 c.in-Some.last found.1 h card.ensures.history
    (rows_of card.result.labels) card.ensures.labels (weights_at card.result) card.ensures.weights run.result c.target.result run.ensures.run c.target.ensures
    g.L.Layout.store g.L.Layout.load run.new.records c.put_cell.new.xs c.args.gw.now)

pub returns-clause-step_grads : goal.returns-clause-step_grads
returns-clause-step_grads g c =
    let card = c.card-card in
    let found = rw c.length.ensures at c.in-Some.ensures in
    rw (c.put_cell.ensures, c.card_forward_recorded-run.ensures.step_grads)
    (grads_of _ (cards_now c.args.deck.now) c.args.column found.0 _ found.1 (history_at card.result.history) card.ensures.history
    (rows_of card.result.labels) card.ensures.labels (weights_at card.result) card.ensures.weights _)
