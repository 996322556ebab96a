use Rattle.std.proofs.Common.{◌≡◌}
use Rattle.checks.specs.Columns.{total}
use Rattle.checks.specs.Decks.{prefixes_now}
use Rattle.analytic_v6.specs.Prefixes.{prefix_loss_def}
use Rattle.analytic_v6.proofs.prefixes.loss.batch_loss.Given as goal

abbrev pub invariant-loop-column : goal.invariant-loop-column
invariant-loop-column l = l.loss ≡ total (prefix_loss_def l.p (prefixes_now l.deck)) l.column
