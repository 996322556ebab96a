use Rattle.std.proofs.Common.{◌≡◌, get_or}
use Rattle.domain.specs.Doubles.{zero64}
use Rattle.columns.specs.BackwardPass.{start_grad, back_def}
use Rattle.columns.proofs.backward_pass.column_backward.Given as goal

abbrev pub invariant-loop-row : goal.invariant-loop-row
invariant-loop-row g l =
    back_def l.p (λ i. g.L.Layout.load l.records i) (λ i. get_or l.step_grads i zero64) l.row l.g l.gw ≡
    back_def l.p (λ i. g.L.Layout.load l.records i) (λ i. get_or l.step_grads i zero64) l.n (start_grad l.g_s) l.initial.gw
