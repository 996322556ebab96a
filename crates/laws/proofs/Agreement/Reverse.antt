-- Back over a column's records: what the walk depends on, and the slots that it leaves. Assumes nothing.
use Prim.Native.Nat.{ℕ, zero, suc, ◌<◌}
use mathlib.Core.Bool.{false}
use mathlib.Core.List.{List}
use mathlib.Core.Path.{◌≡◌, refl, ◌∙◌}
use native.Mathlib.Nat.{le-suc, lt_of_lt_of_le, lt-suc_self}
use lib.Ieee.{Float}
use Rattle.domain.specs.Weights.{◌!◌}
use Rattle.forward.specs.Params.{params_def}
use Rattle.forward.specs.declared.parameters.RuntimeParams.{RuntimeParams}
use Rattle.forward.specs.WeightsRead.{Agree}
use Rattle.forward.specs.declared.state.StepRecord.{StepRecord}
use Rattle.backward.specs.Moves.{step_may_move, reverse_reads}
use Rattle.backward.specs.declared.step.StateGrad.{StateGrad}
use Rattle.backward.proofs.Keeps.{step_keeps}
use Rattle.backward.proofs.Same.{same_grad, same_moved}
use Rattle.columns.specs.BackwardPass.{back_def}

module _ (records : ℕ → StepRecord) (step_grads : ℕ → Float) where
  pub back_weights :
      (w v : List Float) (n : ℕ) → ((i : ℕ) → i < n → Agree (reverse_reads (records i).branch (records i).rating) w v) → (g : StateGrad) (gw : List Float) →
      back_def (params_def w) records step_grads n g gw ≡ back_def (params_def v) records step_grads n g gw
  unfolding back_def
  back_weights w v zero h g gw = refl
  back_weights w v (suc n) h g gw =
      let here = h n (lt-suc_self n) in
      rw (same_grad w v (records n) g.s g.d (step_grads n) here, same_moved w v (records n) g.s g.d (step_grads n) gw here)
      (back_weights w v n (λ i l. h i (lt_of_lt_of_le l (le-suc n))) _ _)

  pub back_keeps :
      (k : ℕ) (p : RuntimeParams) (n : ℕ) → ((i : ℕ) → i < n → step_may_move (records i) (step_grads i) k ≡ false) → (g : StateGrad) (gw : List Float) →
      back_def p records step_grads n g gw ! k ≡ gw ! k
  unfolding back_def
  back_keeps k p zero h g gw = refl
  back_keeps k p (suc n) h g gw =
      back_keeps k p n (λ i l. h i (lt_of_lt_of_le l (le-suc n))) _ _ ∙ step_keeps k p (records n) g.s g.d (step_grads n) gw (h n (lt-suc_self n))
