use Rattle.std.proofs.Common.{rules}
use Rattle.checks.specs.Decks.{cards_now}
use Rattle.analytic_v6.proofs.Calls.{cards_slots_yes}
use Rattle.analytic_v6.proofs.cards.grad.card_loss_and_grad.Goals as goal

pub returns-clause-slots : goal.returns-clause-slots
returns-clause-slots g c =
    cards_slots_yes c.args.w.now (cards_now c.args.deck.now) g.L.Layout.room g.L.Layout.store g.L.Layout.load g.met.L.Layout.laws c.args.records.now c.args.gw.now c.args.step_grads.now c.loop-column.gw
    (rw c.room.ensures at c.in_ok-card_loss_and_grad_fault.ensures.refusal) (search rules)
