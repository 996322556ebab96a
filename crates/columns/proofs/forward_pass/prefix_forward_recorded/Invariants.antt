use Rattle.std.proofs.Common.{◌≡◌}
use Rattle.columns.specs.ForwardPass.{state_at}
use Rattle.columns.specs.Layouts.{left_by}
use Rattle.checks.specs.Decks.{history_at}
use Rattle.columns.proofs.forward_pass.prefix_forward_recorded.Given as goal

abbrev pub invariant-loop-row : goal.invariant-loop-row
invariant-loop-row g l =
    let h = history_at l.history in
    record { state : l.state ≡ state_at l.p h l.row; records : l.records ≡ left_by g.L.Layout.store l.p h l.row l.initial.records }
