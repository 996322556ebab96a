-- Backward over a column's records: the loops over caches.iter().rev() of analytic_v6.rs. Assumes nothing.
use Rattle.std.specs.Prelude.{ℕ, zero, suc, List, Float}
use Rattle.domain.specs.Doubles.{zero64}
use Rattle.forward.specs.declared.parameters.RuntimeParams.{RuntimeParams}
use Rattle.forward.specs.declared.state.StepRecord.{StepRecord}
use Rattle.backward.specs.Step.{step_grad, step_moved}
use Rattle.backward.specs.declared.step.StateGrad.{StateGrad}

-- let mut g_d = 0.0
unfoldable pub start_grad : (g-s : Float) → StateGrad
start_grad g-s = record { s = g-s; d = zero64 }

-- the slots after the last record, the one before it, and so on to the first; step_grads: g_r_losses
unfoldable pub back_def : (p : RuntimeParams) (records : ℕ → StepRecord) (step_grads : ℕ → Float) (n : ℕ) (g : StateGrad) (gw : List Float) → List Float
back_def p records step_grads zero g gw = gw
back_def p records step_grads (suc i) g gw =
    back_def p records step_grads i (step_grad p (records i) g.s g.d (step_grads i)) (step_moved p (records i) g.s g.d (step_grads i) gw)
