use Rattle.std.proofs.Common.{◌≡◌}
use Rattle.checks.specs.Columns.{total, through}
use Rattle.checks.specs.Decks.{prefixes_now}
use Rattle.analytic_v6.specs.Prefixes.{prefix_loss_def, prefix_left}
use Rattle.analytic_v6.specs.inner.Over.{slots_over_in}
use Rattle.analytic_v6.proofs.prefixes.grad.batch_loss_and_grad.Given as goal

abbrev pub invariant-loop-column : goal.invariant-loop-column
invariant-loop-column g l =
    let x = prefixes_now l.deck in
    record {
      loss : l.loss ≡ total (prefix_loss_def l.p x) l.column;
      slots : l.gw ≡ slots_over_in l.p x g.L.Layout.store g.L.Layout.load l.column l.initial.records l.initial.gw;
      records : l.records ≡ through (λ column. prefix_left l.p x column g.L.Layout.store) l.column l.initial.records;
    }
