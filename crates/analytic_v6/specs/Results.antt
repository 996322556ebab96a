-- What an entry answers, as a number and a value: 0 and the value, or the refusal's number and +0.0 in every number beside it. Assumes nothing.
use Rattle.std.specs.Prelude.{ℕ, Float, Result, Ok, Err}
use Rattle.domain.specs.Doubles.{zero64}
use Rattle.domain.specs.Refusals.{number}
use Rattle.domain.specs.declared.refusal.Refusal.{Refusal}
use Rattle.forward.specs.Step.{no_state_def}
use Rattle.forward.specs.declared.state.State.{State}
use Rattle.forward.specs.declared.state.StepRecord.{StepRecord}
use Rattle.forward.specs.declared.state.Stepped.{Stepped}
use Rattle.backward.specs.declared.step.StateGrad.{StateGrad}
use Rattle.columns.specs.StepRecords.{no_step_def}

-- of a loss call
pub record Loss : Type 0 where
  pub refusal : ℕ
  pub loss : Float

abbrev pub answered : Result Float Refusal → Loss
answered (Ok x) = record { refusal = 0; loss = x }
answered (Err e) = record { refusal = number e; loss = zero64 }

-- of a step: the state after it and its record
pub record TrainingStep : Type 0 where
  pub refusal : ℕ
  pub state : State
  pub step : StepRecord

abbrev pub step_answered : Result Stepped Refusal → TrainingStep
step_answered (Ok t) = record { refusal = 0; state = t.state; step = t.step }
step_answered (Err e) = record { refusal = number e; state = no_state_def; step = no_step_def }

-- of its reverse: the gradient by the state before it
pub record TrainingReverse : Type 0 where
  pub refusal : ℕ
  pub grad : StateGrad

abbrev pub reverse_answered : Result StateGrad Refusal → TrainingReverse
reverse_answered (Ok g) = record { refusal = 0; grad = g }
reverse_answered (Err e) = record { refusal = number e; grad = record { s = zero64; d = zero64 } }
