-- An explained step, and a fault with its place, as a C caller reads them: a number for each case of an enum. Assumes nothing.
use Rattle.std.specs.Prelude.{ℕ, List, Float}
use Rattle.checks.specs.Batch.{Prefixes, Cards}
use Rattle.checks.specs.Faults.{Fault}
use Rattle.checks.specs.Refusals as refusals
use Rattle.checks.specs.Refusals.{prefix_loss_fault, prefix_grad_fault, card_loss_fault_def}
use Rattle.columns.specs.Records.{room_def}
use Rattle.forward.specs.declared.state.State.{State}
use Rattle.explain.specs.Reasons.{reason_number_def, held_number_def}
use Rattle.explain.specs.Results.{Explained}
use Rattle.explain.specs.Step.{explain_def}
use Rattle.batch.specs.File.{file_fault_def}
use Rattle.fsrs6.specs.declared.why.ReasonNumbers.{ReasonNumbers}
use Rattle.fsrs6.specs.declared.why.FaultNumbers.{FaultNumbers}

unfoldable pub numbered : Explained → ReasonNumbers
numbered a =
    record {
      refusal = a.refusal;
      reason = reason_number_def a.reason;
      stability_held = held_number_def a.stability;
      difficulty_held = held_number_def a.difficulty;
    }

-- the struct that is declared for C, whose fields are those of the record that the definitions speak of
abbrev pub told : Fault → FaultNumbers
told a = record { refusal = a.refusal; column = a.column; row = a.row }

-- ---- each function's answer
abbrev pub explained_step : (w : List Float) (stability difficulty day rating : Float) (row : ℕ) → ReasonNumbers
explained_step w stability difficulty day rating row =
    let q : State = record { s = stability; d = difficulty } in numbered (explain_def w q day rating row)

abbrev pub batch_fault : (w : List Float) (x : Prefixes) → FaultNumbers
batch_fault w x = told (prefix_loss_fault w x)

-- the records are counted in singles, ten for each
abbrev pub batch_grad_fault : (w : List Float) (x : Prefixes) (slots records : ℕ) → FaultNumbers
batch_grad_fault w x slots records = told (prefix_grad_fault w x slots (room_def records))

abbrev pub card_fault : (w : List Float) (x : Cards) → FaultNumbers
card_fault w x = told (card_loss_fault_def w x)

abbrev pub card_grad_fault : (w : List Float) (x : Cards) (slots records step_grads : ℕ) → FaultNumbers
card_grad_fault w x slots records step_grads = told (refusals.card_grad_fault w x slots (room_def records) step_grads)

abbrev pub file_fault : (file : List ℕ) → FaultNumbers
file_fault file = told (file_fault_def file)
