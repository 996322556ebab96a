-- batch_loss_and_grad and batch_loss of analytic_v6.rs, with document 01's refusals in its order: 1, 2, 5, 3, 4, then the first
-- fault. Assumes nothing.
use Rattle.std.specs.Prelude.{ℕ, List, ◌≡◌, Float, length}
use Rattle.domain.specs.Weights.{◌!◌}
use Rattle.domain.specs.Doubles.{zero64}
use Rattle.forward.specs.Params.{params_def}
use Rattle.forward.specs.declared.parameters.RuntimeParams.{RuntimeParams}
use Rattle.forward.specs.declared.state.StepRecord.{StepRecord}
use Rattle.checks.specs.Batch.{Prefixes, length_at, history, target_weight_at}
use Rattle.checks.specs.Columns.{total}
use Rattle.checks.specs.Refusals.{prefix_loss_refusal_def, prefix_grad_refusal_def}
use Rattle.columns.specs.Layouts.{left_by}
use Rattle.columns.specs.Records.{room_def}
use Rattle.columns.specs.StepRecords.{steps_def}
use Rattle.columns.specs.BackwardPass.{start_grad, back_def}
use Rattle.columns.specs.LastReview.{target_loss_def, target_grad, target_slots}
use Rattle.columns.specs.ForwardPass.{state_at, record_at, stored_def}
use Rattle.analytic_v6.specs.Answers.{answer, leaves}
use Rattle.analytic_v6.specs.Results.{Loss}

-- prefix_loss_and_grad, for one column
module _ (p : RuntimeParams) (x : Prefixes) (column : ℕ) where
  -- the stability that its target is scored at
  abbrev pub target_stability : Float
  target_stability = (state_at p (history x.table column) (length_at x.table column)).s

  unfoldable pub prefix_loss_def : Float
  prefix_loss_def = target_loss_def p target_stability (x.days ! column) (x.labels ! column) (target_weight_at x column)

  -- first the target's curve, then its steps, the last first; no step of a prefix is scored
  unfoldable pub prefix_slots_def : (gw : List Float) → List Float
  prefix_slots_def gw =
      back_def p (record_at p (history x.table column)) (λ row. zero64) (length_at x.table column)
      (start_grad (target_grad p target_stability (x.days ! column) (x.labels ! column) (target_weight_at x column)))
      (target_slots p target_stability (x.days ! column) (x.labels ! column) (target_weight_at x column) gw)

  -- the records that it leaves: one for each row, and the same as columns of singles
  unfoldable pub prefix_steps_def : (records : List StepRecord) → List StepRecord
  prefix_steps_def records = steps_def p (history x.table column) (length_at x.table column) records

  unfoldable pub prefix_records_def : (records : List Float) → List Float
  prefix_records_def records = stored_def p (history x.table column) (length_at x.table column) records

  -- and in any layout
  abbrev pub prefix_left : {A : Type 0} (store : List A → ℕ → StepRecord → List A) (records : List A) → List A
  prefix_left store records = left_by store p (history x.table column) (length_at x.table column) records

-- 'column losses add in column order in double'
abbrev pub prefixes_total : (w : List Float) (x : Prefixes) → Float
prefixes_total w x = total (prefix_loss_def (params_def w) x) x.table.columns

-- a lent slice stands for its length where only that counts, and records for the rows that they have room for
unfoldable pub batch_loss_and_grad_def : (w : List Float) (x : Prefixes) (gw room : ℕ) → Loss
batch_loss_and_grad_def w x gw room = answer (prefix_grad_refusal_def w x gw room) (prefixes_total w x)

-- the slots are added to
unfoldable pub batch_slots : (w : List Float) (x : Prefixes) (gw : List Float) (room : ℕ) → List Float
batch_slots w x gw room = leaves (prefix_grad_refusal_def w x (length gw) room) (prefix_slots_def (params_def w) x) x.table.columns gw

unfoldable pub batch_steps : (w : List Float) (x : Prefixes) (gw : ℕ) (records : List StepRecord) → List StepRecord
batch_steps w x gw records =
    leaves (prefix_grad_refusal_def w x gw (length records)) (prefix_steps_def (params_def w) x) x.table.columns records

-- ten singles make a record
unfoldable pub batch_records : (w : List Float) (x : Prefixes) (gw : ℕ) (records : List Float) → List Float
batch_records w x gw records =
    leaves (prefix_grad_refusal_def w x gw (room_def (length records))) (prefix_records_def (params_def w) x) x.table.columns records

-- in any layout: batch_steps and batch_records where it is that of step records and that of columns (proofs/Left.antt)
unfoldable pub batch_left : {A : Type 0} (room : ℕ → ℕ) (store : List A → ℕ → StepRecord → List A) (w : List Float) (x : Prefixes) (gw : ℕ) (records : List A) → List A
batch_left room store w x gw records =
    leaves (prefix_grad_refusal_def w x gw (room (length records))) (λ column. prefix_left (params_def w) x column store) x.table.columns records

-- what batch_loss_and_grad leaves in what it was lent, over step records
abbrev pub BatchLeaves : (w : List Float) (x : Prefixes) (gw : List Float) (records : List StepRecord) (gw-exit : List Float) (records-exit : List StepRecord) → Type 0
BatchLeaves w x gw records gw-exit records-exit =
    (gw-exit ≡ batch_slots w x gw (length records)) × (records-exit ≡ batch_steps w x (length gw) records)

-- and over columns of singles
abbrev pub BatchColumnsLeave : (w : List Float) (x : Prefixes) (gw records gw-exit records-exit : List Float) → Type 0
BatchColumnsLeave w x gw records gw-exit records-exit =
    (gw-exit ≡ batch_slots w x gw (room_def (length records))) × (records-exit ≡ batch_records w x (length gw) records)

unfoldable pub batch_loss_def : (w : List Float) (x : Prefixes) → Loss
batch_loss_def w x = answer (prefix_loss_refusal_def w x) (prefixes_total w x)
