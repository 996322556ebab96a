use Rattle.std.proofs.Common.{◌≡◌}
use Rattle.columns.specs.ForwardPass.{run_at, grads_def}
use Rattle.columns.specs.Layouts.{left_by}
use Rattle.checks.specs.Decks.{rows_of, history_at, weights_at}
use Rattle.columns.proofs.forward_pass.card_forward_recorded.Given as goal

abbrev pub invariant-loop-row : goal.invariant-loop-row
invariant-loop-row g l =
    let h = history_at l.card.history in
    let labels = rows_of l.card.labels in
    let weights = weights_at l.card in
    record {
      run : l.run ≡ run_at l.p h labels weights l.row;
      records : l.records ≡ left_by g.L.Layout.store l.p h l.row l.initial.records;
      step_grads : l.step_grads ≡ grads_def l.p h labels weights l.row l.initial.step_grads;
    }
