-- The weights that the steps of a call read, row by row, and the slots that they may move. Assumes nothing.
use Prim.Native.Nat.{ℕ, zero, suc, ◌-◌, ◌<◌}
use mathlib.Core.Bool.{Bool, true, false, ◌&&◌, ◌||◌}
use mathlib.Core.List.{List}
use mathlib.Core.Path.{◌≡◌, refl, sym, ap, ◌∙◌, subst}
use native.Mathlib.Nat.{suc-ne-zero}
use borrow.Author.Tests.{ne_eqb}
use lib.Dec.{eqb}
use lib.Ieee.{Float, eq, of_bits}
use Rattle.std.proofs.lemmas.Bool.{or_right as or-true}
use Rattle.domain.specs.Limits.{zero32}
use Rattle.domain.specs.Weights.{◌!◌}
use Rattle.checks.specs.Reads.{later, non_zero, prefix_day}
use Rattle.checks.specs.Batch.{Table, History, first_at, at, history}
use Rattle.forward.specs.Params.{params_def}
use Rattle.forward.specs.declared.parameters.RuntimeParams.{RuntimeParams}
use Rattle.forward.specs.WeightsRead.{among, review_reads, step_reads, Agree}
use Rattle.forward.specs.Step.{no_state_def, is_first_def}
use Rattle.forward.specs.declared.state.State.{State}
use Rattle.forward.specs.declared.state.StepRecord.{StepRecord}
use Rattle.forward.proofs.Agreement.{by_cases}
use Rattle.backward.specs.Moves.{slots_of}
use Rattle.backward.proofs.Keeps.{or_left, or_right}
use Rattle.columns.specs.ForwardPass.{state_at, record_at}
use Rattle.columns.proofs.Before.{none_before}
use Rattle.laws.proofs.Agreement.Walk.{Still, still_unread}
use Rattle.promises.specs.CallReads.{some, row_reads, steps_read_def, call_reads, column_moves, call_moves}
use Rattle.promises.proofs.reading.Some.{none_of, none-some, some_of, some_same}

-- the row is numbered from the first review, where the state is (0, 0)
numbered : (q : State) (row : ℕ) (day rating : Float) → (row ≡ 0 → q ≡ no_state_def) → step_reads q day rating row ≡ row_reads row day rating
unfolding step_reads row_reads is_first_def no_state_def eq of_bits
numbered q zero day rating z = rw (z refl)
numbered q (suc row) day rating z = rw (ne_eqb (suc row) 0 (suc-ne-zero row))

-- in a loss call the first step is that of the first review
pub reads_are :
    (p : RuntimeParams) (h : History) (row : ℕ) (day rating : Float) →
    step_reads (state_at p h row) day rating (row - h.first) ≡ row_reads (row - h.first) day rating
reads_are p h row day rating = numbered (state_at p h row) (row - h.first) day rating (none_before p h row)

-- the list depends on no day but a read one
read_later : (row : ℕ) (rating : Float) → eq rating zero32 ≡ false → eqb row 0 ≡ false → prefix_day row rating ≡ true
unfolding prefix_day later non_zero
read_later row rating e z = rw (e, z)

row_same : (row : ℕ) (day day' rating : Float) → (prefix_day row rating ≡ true → day ≡ day') → row_reads row day rating ≡ row_reads row day' rating
unfolding row_reads
row_same row day day' rating h =
    by_cases (eq rating zero32) _ _ _ _ (λ e. refl)
    (λ e. by_cases (eqb row 0) _ _ _ _ (λ z. refl) (λ z. ap (λ (d : Float). review_reads d rating) (h (read_later row rating e z))))

-- two tables whose steps read the same cells
pub record SameSteps (t u : Table) (steps steps' : ℕ → ℕ) : Type 0 where
  pub columns : t.columns ≡ u.columns
  pub counts : (column : ℕ) → column < t.columns → steps column ≡ steps' column
  pub firsts : (column : ℕ) → column < t.columns → first_at t column ≡ first_at u column
  pub ratings : (row column : ℕ) → column < t.columns → row < steps column → at t t.ratings row column ≡ at u u.ratings row column
  pub days :
      (row column : ℕ) → column < t.columns → row < steps column → prefix_day (row - first_at t column) (at t t.ratings row column) ≡ true →
      at t t.days row column ≡ at u u.days row column

module _ (t u : Table) (steps steps' : ℕ → ℕ) (same : SameSteps t u steps steps') (k : ℕ) where
  abbrev row_of : (t : Table) (row column : ℕ) → Bool
  row_of t row column = among k (row_reads (row - first_at t column) (at t t.days row column) (at t t.ratings row column))

  row_read : (row column : ℕ) → column < t.columns → row < steps column → row_of t row column ≡ row_of u row column
  row_read row column c l =
      ap (among k)
      (row_same (row - first_at t column) _ _ _ (same.days row column c l) ∙ (rw (same.ratings row column c l, same.firsts column c)))

  column_read : (column : ℕ) → column < t.columns → some (λ row. row_of t row column) (steps column) ≡ some (λ row. row_of u row column) (steps' column)
  column_read column c =
      some_same _ _ (steps column) (λ row l. row_read row column c l) ∙ ap (some (λ row. row_of u row column)) (same.counts column c)

  pub steps_read_same : steps_read_def t steps k ≡ steps_read_def u steps' k
  unfolding steps_read_def
  steps_read_same = some_same _ _ t.columns column_read ∙ ap (some (λ column. some (λ row. row_of u row column) (steps' column))) same.columns

-- an accepted call reads what its steps read, and weight 20
module _ (t : Table) (steps : ℕ → ℕ) (refusal : ℕ) (accepted : eqb refusal 0 ≡ true) where
  reads_all : (k : ℕ) → call_reads refusal t steps k ≡ eqb k 20 || steps_read_def t steps k
  unfolding call_reads
  reads_all k = rw accepted

  pub reads_20 : call_reads refusal t steps 20 ≡ true
  unfolding call_reads
  reads_20 = rw accepted

  pub reads_row : (k row column : ℕ) → column < t.columns → row < steps column →
      among k (row_reads (row - first_at t column) (at t t.days row column) (at t t.ratings row column)) ≡ true →
      call_reads refusal t steps k ≡ true
  unfolding call_reads steps_read_def
  reads_row k row column c l e = rw accepted (or-true (eqb k 20) _ (some_of _ t.columns column c (some_of _ (steps column) row l e)))

  -- two weight sets that agree on what the call reads agree on what each step reads
  pub agree_row :
      (w v : List Float) → ((k : ℕ) → call_reads refusal t steps k ≡ true → w ! k ≡ v ! k) → (p : RuntimeParams) (row column : ℕ) → column < t.columns → row < steps column →
      Agree (step_reads (state_at p (history t column) row) (at t t.days row column) (at t t.ratings row column) (row - first_at t column)) w v
  agree_row w v h p row column c l k e =
      h k (reads_row k row column c l (subst (λ (ks : List ℕ). among k ks ≡ true) (reads_are p (history t column) row _ _) e))

  -- no slot moves but of a weight that is read
  module _ (w : List Float) (scored : ℕ → Bool) (k : ℕ) (unread : call_reads refusal t steps k ≡ false) where
    neither : eqb k 20 || steps_read_def t steps k ≡ false
    neither = sym (reads_all k) ∙ unread

    no_steps : steps_read_def t steps k ≡ false
    no_steps = or_right (eqb k 20) (steps_read_def t steps k) neither

    row_unread : (row column : ℕ) → column < t.columns → row < steps column →
        among k (row_reads (row - first_at t column) (at t t.days row column) (at t t.ratings row column)) ≡ false
    unfolding steps_read_def
    row_unread row column c l = none_of _ (steps column) (none_of _ t.columns no_steps column c) row l

    row_still : (row column : ℕ) → column < t.columns → row < steps column →
        Still (params_def w) (history t column) k row
    row_still row column c l =
        still_unread (params_def w) (history t column) k row
        (subst (λ (ks : List ℕ). among k ks ≡ false) (sym (reads_are (params_def w) (history t column) row _ _)) (row_unread row column c l))

    column_still : (column : ℕ) → column < t.columns → column_moves w t column (steps column) (scored column) k ≡ false
    unfolding column_moves
    column_still column c = rw (none-some _ (steps column) (λ row l. row_still row column c l), or_left (eqb k 20) (steps_read_def t steps k) neither)

    pub moves_none : call_moves w t steps scored k ≡ false
    unfolding call_moves
    moves_none = none-some _ t.columns column_still

-- where no column moves a slot, no step and no scored end does
module _ (w : List Float) (t : Table) (steps : ℕ → ℕ) (scored : ℕ → Bool) (k : ℕ) (none : call_moves w t steps scored k ≡ false) (column : ℕ) (c : column < t.columns) where
  no_column : column_moves w t column (steps column) (scored column) k ≡ false
  unfolding call_moves
  no_column = none_of _ t.columns none column c

  pub no_step : (row : ℕ) → row < steps column →
      Still (params_def w) (history t column) k row
  unfolding column_moves
  no_step row l = none_of _ (steps column) (or_left _ _ no_column) row l

  pub no_end : eqb k 20 && scored column ≡ false
  unfolding column_moves
  no_end = or_right (some _ (steps column)) (eqb k 20 && scored column) no_column

-- two calls whose steps leave the same records, and whose ends are scored alike
module _ (w v : List Float) (t u : Table) (steps steps' : ℕ → ℕ) (scored scored' : ℕ → Bool) (columns : t.columns ≡ u.columns)
    (counts : (column : ℕ) → column < t.columns → steps column ≡ steps' column) (ends : (column : ℕ) → column < t.columns → scored column ≡ scored' column)
    (records :
    (row column : ℕ) → column < t.columns → row < steps column →
    record_at (params_def w) (history t column) row ≡ record_at (params_def v) (history u column) row) (k : ℕ) where
  abbrev moved : (w : List Float) (t : Table) (column row : ℕ) → Bool
  moved w t column row = let c = record_at (params_def w) (history t column) row in among k (slots_of c.branch c.rating)

  column_same : (column : ℕ) → column < t.columns → column_moves w t column (steps column) (scored column) k ≡ column_moves v u column (steps' column) (scored' column) k
  unfolding column_moves
  column_same column l =
      rw (
        some_same (moved w t column) (moved v u column) (steps column) (λ row m. ap (λ (c : StepRecord). among k (slots_of c.branch c.rating)) (records row column l m)),
        counts column l,
        ends column l,
      )

  pub moves_same : call_moves w t steps scored k ≡ call_moves v u steps' scored' k
  unfolding call_moves
  moves_same = some_same _ _ t.columns column_same ∙ ap (some (λ column. column_moves v u column (steps' column) (scored' column) k)) columns
