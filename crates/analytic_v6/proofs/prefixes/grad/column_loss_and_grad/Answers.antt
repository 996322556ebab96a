use Rattle.checks.specs.Decks.{history_at, prefixes_now}
use Rattle.analytic_v6.proofs.prefixes.Columns.{back_of}
use Rattle.analytic_v6.proofs.prefixes.grad.column_loss_and_grad.Goals as goal

pub returns-clause-slots : goal.returns-clause-slots
returns-clause-slots g c =
    let run = c.prefix_forward_recorded-state in
    rw (c.column_backward.ensures, c.target_end-end.ensures.end, c.target_end-end.ensures.slots)
    (back_of c.args.p.now (prefixes_now c.args.deck.now) c.args.column c.length-n.result (history_at c.history-history.result) run.result c.target.result
    c.length-n.ensures c.history-history.ensures.history run.ensures.state c.target.ensures g.L.Layout.store g.L.Layout.load run.new.records c.args.gw.now)
