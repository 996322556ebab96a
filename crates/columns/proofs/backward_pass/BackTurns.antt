-- One more record of a column, backward. Assumes nothing.
use Rattle.std.proofs.Common.{◌≡◌, ℕ, zero, suc, ◌-◌, ◌<◌, List, ◌∙◌, not-suc-le-zero, suc-ne-zero, arith}
use lib.Ieee.{Float}
use Rattle.forward.specs.declared.parameters.RuntimeParams.{RuntimeParams}
use Rattle.forward.specs.declared.state.StepRecord.{StepRecord}
use Rattle.backward.specs.Step.{step_grad, step_moved}
use Rattle.backward.specs.declared.step.StateGrad.{StateGrad}
use Rattle.columns.specs.BackwardPass.{back_def}

module _ (p : RuntimeParams) (records : ℕ → StepRecord) (step_grads : ℕ → Float) where
  pred : (i : ℕ) → suc i - 1 ≡ i
  pred i = omega arith

  step_back : (i : ℕ) (g : StateGrad) (gw : List Float) → 0 < i →
      back_def p records step_grads (i - 1) (step_grad p (records (i - 1)) g.s g.d (step_grads (i - 1))) (step_moved p (records (i - 1)) g.s g.d (step_grads (i - 1)) gw) ≡
      back_def p records step_grads i g gw
  unfolding back_def
  step_back zero g gw h = absurd (not-suc-le-zero h)
  step_back (suc i) g gw h = rw (pred i)

  pub back_turn : (i : ℕ) (g g' : StateGrad) (gw gw' whole : List Float) (c : StepRecord) (r : Float) → 0 < i → c ≡ records (i - 1) →
      r ≡ step_grads (i - 1) → g' ≡ step_grad p c g.s g.d r → gw' ≡ step_moved p c g.s g.d r gw →
      back_def p records step_grads i g gw ≡ whole → back_def p records step_grads (i - 1) g' gw' ≡ whole
  back_turn i g g' gw gw' whole c r l ec er eg em e = rw (eg, em, ec, er) (step_back i g gw l ∙ e)

  pub back_done : (i : ℕ) (g : StateGrad) (gw whole : List Float) → i ≡ 0 → back_def p records step_grads i g gw ≡ whole → gw ≡ whole
  unfolding back_def
  back_done zero g gw whole e h = h
  back_done (suc i) g gw whole e h = absurd (suc-ne-zero i e)
