use Rattle.std.proofs.Common.{◌≡◌}
use Rattle.checks.specs.Columns.{total, through}
use Rattle.checks.specs.Decks.{cards_now}
use Rattle.analytic_v6.specs.Cards.{card_loss_def, card_grads_def, card_left}
use Rattle.analytic_v6.specs.inner.Over.{card_slots_over_in}
use Rattle.analytic_v6.proofs.cards.grad.card_loss_and_grad.Given as goal

abbrev pub invariant-loop-column : goal.invariant-loop-column
invariant-loop-column g l =
    let x = cards_now l.deck in
    record {
      loss : l.loss ≡ total (card_loss_def l.p x) l.column;
      slots : l.gw ≡ card_slots_over_in l.p x g.L.Layout.store g.L.Layout.load l.column l.initial.records l.initial.step_grads l.initial.gw;
      records : l.records ≡ through (λ column. card_left l.p x column g.L.Layout.store) l.column l.initial.records;
      step_grads : l.step_grads ≡ through (card_grads_def l.p x) l.column l.initial.step_grads;
    }
