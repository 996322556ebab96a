-- Change request K10: the gradient losses over a slice of step records and over plain columns of singles. Assumes nothing.
use Rattle.std.specs.Prelude.{ℕ, ◌≤◌, ◌<◌, List, ◌≡◌, Float, length, get_or}
use Rattle.domain.specs.Weights.{◌!◌}
use Rattle.forward.specs.Params.{params_def}
use Rattle.forward.specs.declared.state.StepRecord.{StepRecord}
use Rattle.checks.specs.Batch.{history}
use Rattle.columns.specs.ForwardPass.{record_at}
use Rattle.columns.specs.Records.{Field, column_of_def, number_of, place, room_def, load_def}
use Rattle.columns.specs.StepRecords.{no_step_def}
use Rattle.analytic_v6.specs.Prefixes.{batch_steps, batch_records}
use Rattle.analytic_v6.specs.Cards.{cards_steps, cards_records, cards_grads}
use Rattle.promises.specs.LossCalls.{Call, Kind, prefixes, cards}

-- What the entries of a kind leave in the records that they are lent, in either layout, and in the step gradients, of which a prefix is lent none: the equations of their contracts
pub record Lent : Type 1 where
  pub kind : Kind
  pub columns : Call kind.Input → List Float → List Float
  pub records : Call kind.Input → List StepRecord → List StepRecord
  pub step_grads : Call kind.Input → List Float → List Float

abbrev pub prefixes_lent : Lent
prefixes_lent =
    record {
      kind = prefixes;
      columns = λ c cells. batch_records c.w c.x (length c.gw) cells;
      records = λ c steps. batch_steps c.w c.x (length c.gw) steps;
      step_grads = λ c grads. grads;
    }

abbrev pub cards_lent : Lent
cards_lent =
    record {
      kind = cards;
      columns = λ c cells. cards_records c.w c.x (length c.gw) cells c.step_grads;
      records = λ c steps. cards_steps c.w c.x (length c.gw) steps c.step_grads;
      step_grads = λ c grads. cards_grads c.w c.x (length c.gw) c.records grads;
    }

-- the call with room for so many rows of records
abbrev pub with_room : {Input : Type 0} (c : Call Input) (rows : ℕ) → Call Input
with_room c rows = record { w = c.w; x = c.x; gw = c.gw; records = rows; step_grads = c.step_grads }

module _ (L : Lent) where
  abbrev K : Kind
  K = L.kind

  -- room is counted in rows, in either layout
  abbrev pub in_columns : (c : Call K.Input) (cells : List Float) → Call K.Input
  in_columns c cells = with_room c (room_def (length cells))

  abbrev pub in_records : (c : Call K.Input) (steps : List StepRecord) → Call K.Input
  in_records c steps = with_room c (length steps)

  -- a column's rows that are steps
  abbrev pub steps_of : (c : Call K.Input) (column : ℕ) → ℕ
  steps_of c column = K.steps c.x column

  pub record Layouts : Type 0 where
    -- 'both layouts give the same loss, slots and refusals for the same inputs', and the same step gradients: where both have room for the longest column, or neither
    pub same :
        (c : Call K.Input) (cells : List Float) (steps : List StepRecord) → K.room (in_columns c cells) ≡ K.room (in_records c steps) →
        (K.refusal (in_columns c cells) ≡ K.refusal (in_records c steps)) ×
        (K.answer (in_columns c cells) ≡ K.answer (in_records c steps)) ×
        (K.slots (in_columns c cells) ≡ K.slots (in_records c steps)) ×
        ((grads : List Float) → length grads ≡ c.step_grads → L.step_grads (in_columns c cells) grads ≡ L.step_grads (in_records c steps) grads)
    -- document 01's 'one record per row, reused for every column': after an accepted call record i is that of the last column that stepped on row i
    pub whose :
        (c : Call K.Input) (steps : List StepRecord) → K.refusal (in_records c steps) ≡ 0 →
        (column row : ℕ) → column < (K.table c.x).columns → row < steps_of c column →
        ((later : ℕ) → column < later → later < (K.table c.x).columns → steps_of c later ≤ row) →
        get_or (L.records c steps) row no_step_def ≡ record_at (params_def c.w) (history (K.table c.x) column) row
    -- 'each record can be read back from the columns': the number of each name, and the record as a whole
    pub numbers :
        (c : Call K.Input) (cells : List Float) (steps : List StepRecord) → K.refusal (in_columns c cells) ≡ 0 → K.refusal (in_records c steps) ≡ 0 →
        (column row : ℕ) → column < (K.table c.x).columns → row < steps_of c column →
        (f : Field) → L.columns c cells ! place (length cells) (column_of_def f) row ≡ number_of f (get_or (L.records c steps) row no_step_def)
    pub read_back :
        (c : Call K.Input) (cells : List Float) (steps : List StepRecord) → K.refusal (in_columns c cells) ≡ 0 → K.refusal (in_records c steps) ≡ 0 →
        (column row : ℕ) → column < (K.table c.x).columns → row < steps_of c column →
        load_def row (L.columns c cells) ≡ get_or (L.records c steps) row no_step_def
    -- a row that no column stepped on is as it was, in each layout
    pub untouched_columns :
        (c : Call K.Input) (cells : List Float) → K.refusal (in_columns c cells) ≡ 0 →
        (row : ℕ) → row < room_def (length cells) → ((column : ℕ) → column < (K.table c.x).columns → steps_of c column ≤ row) →
        (field : ℕ) → L.columns c cells ! place (length cells) field row ≡ cells ! place (length cells) field row
    pub untouched_records :
        (c : Call K.Input) (steps : List StepRecord) →
        (row : ℕ) → ((column : ℕ) → column < (K.table c.x).columns → steps_of c column ≤ row) → get_or (L.records c steps) row no_step_def ≡ get_or steps row no_step_def

-- for both losses, and in both padding modes, of which an input has one; demands 2 and 3 are said of both layouts by the contracts, which are equations with the same definitions, and by
-- `FrozenEntries` of crates/outcomes
abbrev pub TwoLayouts : Type 0
TwoLayouts = Layouts prefixes_lent × Layouts cards_lent
