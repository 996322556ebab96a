-- card_loss_and_grad of analytic_v6.rs and its loss alone, with document 01's refusals in its order: 1, 2, 5, 3, 4, then the first
-- fault. Assumes nothing.
use Rattle.std.specs.Prelude.{ℕ, ◌-◌, cond, List, ◌≡◌, eqb, Float, length, set}
use Rattle.domain.specs.Doubles.{zero64}
use Rattle.forward.specs.Params.{params_def}
use Rattle.forward.specs.declared.parameters.RuntimeParams.{RuntimeParams}
use Rattle.forward.specs.declared.state.StepRecord.{StepRecord}
use Rattle.checks.specs.Batch.{Cards, length_at, history, label_at, weight_at_def}
use Rattle.checks.specs.Columns.{total}
use Rattle.checks.specs.Refusals.{card_loss_refusal_def, card_grad_refusal_def}
use Rattle.columns.specs.Layouts.{left_by}
use Rattle.columns.specs.Records.{room_def}
use Rattle.columns.specs.StepRecords.{steps_def}
use Rattle.columns.specs.BackwardPass.{start_grad, back_def}
use Rattle.columns.specs.LastReview.{last_loss_def, last_grad, last_slots}
use Rattle.columns.specs.ForwardPass.{state_at, record_at, stored_def, score_at_def, loss_at, grads_def}
use Rattle.analytic_v6.specs.Answers.{answer, leaves}
use Rattle.analytic_v6.specs.Results.{Loss}

-- card_column_loss_and_grad, for one column
module _ (p : RuntimeParams) (x : Cards) (column : ℕ) where
  abbrev pub card_length : ℕ
  card_length = length_at x.table column

  -- 't + 1 == seq_len': steps run on the rows before it
  abbrev pub last_row : ℕ
  last_row = card_length - 1

  -- from the first review
  abbrev pub last_number_def : ℕ
  last_number_def = last_row - (history x.table column).first

  abbrev pub last_stability : Float
  last_stability = (state_at p (history x.table column) last_row).s

  abbrev pub last_day_def : Float
  last_day_def = (history x.table column).day last_row

  abbrev pub loss_before_def : Float
  loss_before_def = loss_at p (history x.table column) (label_at x column) (weight_at_def x column) last_row

  unfoldable pub card_loss_def : Float
  card_loss_def =
      cond (eqb card_length 0) zero64
      (last_loss_def p last_number_def last_stability last_day_def (label_at x column last_row) (weight_at_def x column last_row) loss_before_def)

  -- first the last row's curve, then the steps, the last first, each with the gradient of its own score
  unfoldable pub card_slots_def : (gw : List Float) → List Float
  card_slots_def gw =
      cond (eqb card_length 0) gw
      (back_def p (record_at p (history x.table column))
      (λ row. (score_at_def p (history x.table column) (label_at x column) (weight_at_def x column) row).g_r)
      last_row
      (start_grad (last_grad p last_number_def last_stability last_day_def (label_at x column last_row) (weight_at_def x column last_row)))
      (last_slots p last_number_def last_stability last_day_def (label_at x column last_row) (weight_at_def x column last_row) gw))

  unfoldable pub card_steps_def : (records : List StepRecord) → List StepRecord
  card_steps_def records = steps_def p (history x.table column) last_row records

  unfoldable pub card_records_def : (records : List Float) → List Float
  card_records_def records = stored_def p (history x.table column) last_row records

  -- in any layout
  abbrev pub card_left : {A : Type 0} (store : List A → ℕ → StepRecord → List A) (records : List A) → List A
  card_left store records = left_by store p (history x.table column) last_row records

  -- 'its last row 0'
  unfoldable pub card_grads_def : (step_grads : List Float) → List Float
  card_grads_def step_grads =
      cond (eqb card_length 0) step_grads
      (set (grads_def p (history x.table column) (label_at x column) (weight_at_def x column) last_row step_grads) last_row zero64)

-- 'column losses add in column order in double'
abbrev pub cards_total : (w : List Float) (x : Cards) → Float
cards_total w x = total (card_loss_def (params_def w) x) x.table.columns

-- a lent slice stands for its length where only that counts, and records for the rows that they have room for
unfoldable pub cards_loss_and_grad : (w : List Float) (x : Cards) (gw room step_grads : ℕ) → Loss
cards_loss_and_grad w x gw room step_grads = answer (card_grad_refusal_def w x gw room step_grads) (cards_total w x)

-- the slots are added to
unfoldable pub cards_slots : (w : List Float) (x : Cards) (gw : List Float) (room step_grads : ℕ) → List Float
cards_slots w x gw room step_grads =
    leaves (card_grad_refusal_def w x (length gw) room step_grads) (card_slots_def (params_def w) x) x.table.columns gw

unfoldable pub cards_steps : (w : List Float) (x : Cards) (gw : ℕ) (records : List StepRecord) (step_grads : ℕ) → List StepRecord
cards_steps w x gw records step_grads =
    leaves (card_grad_refusal_def w x gw (length records) step_grads) (card_steps_def (params_def w) x) x.table.columns records

-- ten singles make a record
unfoldable pub cards_records : (w : List Float) (x : Cards) (gw : ℕ) (records : List Float) (step_grads : ℕ) → List Float
cards_records w x gw records step_grads =
    leaves (card_grad_refusal_def w x gw (room_def (length records)) step_grads) (card_records_def (params_def w) x) x.table.columns records

-- in any layout: cards_steps and cards_records where it is that of step records and that of columns (proofs/Left.antt)
unfoldable pub cards_left : {A : Type 0} (room : ℕ → ℕ) (store : List A → ℕ → StepRecord → List A) (w : List Float) (x : Cards) (gw : ℕ) (records : List A) (step_grads : ℕ) → List A
cards_left room store w x gw records step_grads =
    leaves (card_grad_refusal_def w x gw (room (length records)) step_grads) (λ column. card_left (params_def w) x column store) x.table.columns records

unfoldable pub cards_grads : (w : List Float) (x : Cards) (gw room : ℕ) (step_grads : List Float) → List Float
cards_grads w x gw room step_grads =
    leaves (card_grad_refusal_def w x gw room (length step_grads)) (card_grads_def (params_def w) x) x.table.columns step_grads

-- what card_loss_and_grad leaves in what it was lent, over step records
abbrev pub CardsLeave : (w : List Float) (x : Cards) (gw : List Float) (records : List StepRecord) (step_grads gw-exit : List Float) (records-exit : List StepRecord) (step-grads-exit : List Float) → Type 0
CardsLeave w x gw records step_grads gw-exit records-exit step-grads-exit =
    (gw-exit ≡ cards_slots w x gw (length records) (length step_grads)) ×
    (records-exit ≡ cards_steps w x (length gw) records (length step_grads)) ×
    (step-grads-exit ≡ cards_grads w x (length gw) (length records) step_grads)

-- and over columns of singles
abbrev pub CardsColumnsLeave : (w : List Float) (x : Cards) (gw records step_grads gw-exit records-exit step-grads-exit : List Float) → Type 0
CardsColumnsLeave w x gw records step_grads gw-exit records-exit step-grads-exit =
    (gw-exit ≡ cards_slots w x gw (room_def (length records)) (length step_grads)) ×
    (records-exit ≡ cards_records w x (length gw) records (length step_grads)) ×
    (step-grads-exit ≡ cards_grads w x (length gw) (room_def (length records)) step_grads)

unfoldable pub cards_loss : (w : List Float) (x : Cards) → Loss
cards_loss w x = answer (card_loss_refusal_def w x) (cards_total w x)
