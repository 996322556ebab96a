-- Why a loss call is refused, and where, change request K7: 'For a loss call refused with 6, 7, 8 or 9 it names the first offending column and row in 01's order, none before them being bad;
-- the row is 0 for 9 and the cut length for a target.' Said of the faults that the entries are proved to equal (checks/specs/Refusals.antt), for all four loss entries, in both padding
-- modes. What is bad at a place is written here with no search. Assumes nothing.
use Rattle.std.specs.Prelude.{ℕ, ◌-◌, ◌<◌, Bool, true, false, ◌&&◌, ◌||◌, cond, List, ◌≡◌, eqb, ltb, leb, Float}
use Rattle.domain.specs.Weights.{◌!◌}
use Rattle.checks.specs.Align.{is_end_def}
use Rattle.checks.specs.Batch.{Prefixes, Cards, length_at, history, target_read_at, label_at, weight_at_def}
use Rattle.checks.specs.Reads.{is_last, prefix_row_def, card_row_def, target_def}
use Rattle.checks.specs.Refusals.{prefix_loss_fault, prefix_grad_fault, card_loss_fault_def, card_grad_fault}
use Rattle.checks.specs.Faults.{Fault}
use Rattle.analytic_v6.specs.Prefixes.{batch_loss_def, batch_loss_and_grad_def}
use Rattle.analytic_v6.specs.Cards.{cards_loss, cards_loss_and_grad}

-- ---- the number of what is bad at one place, 0 where nothing is
-- A prefix: 9 at row 0 of an empty one; else its rows, and its target at the cut length, if it is read
unfoldable pub prefix_bad : (x : Prefixes) (column row : ℕ) → ℕ
prefix_bad x column row =
    let n = length_at x.table column in
    let h = history x.table column in
    cond (eqb n 0) (cond (eqb row 0) 9 0)
    (cond (ltb row n) (prefix_row_def (row - h.first) (h.day row) (h.rating row))
    (cond (eqb row n && target_read_at x column) (target_def (x.weights ! column) (x.labels ! column) (x.days ! column)) 0))

-- A card: its rows
unfoldable pub card_bad : (x : Cards) (column row : ℕ) → ℕ
card_bad x column row =
    let n = length_at x.table column in
    let h = history x.table column in
    cond (ltb row n)
    (card_row_def (is_end_def x.table.align) (is_last n row) (row - h.first) (h.day row) (h.rating row) (weight_at_def x column row) (label_at x column row))
    0

-- '01's order': 'columns ascending .. then rows ascending', the target behind them
abbrev pub before : (column row column' row' : ℕ) → Bool
before column row column' row' = ltb column column' || (eqb column column' && ltb row row')

-- '6, 7, 8 or 9'
abbrev pub of_cell : (refusal : ℕ) → Bool
of_cell refusal = leb 6 refusal && leb refusal 9

-- ---- what a fault f says of a call that is refused with `refusal`, 0 where it is accepted
pub record Explains (refusal : ℕ) (bad : (column row : ℕ) → ℕ) (columns : ℕ) (f : Fault) : Type 0 where
  -- 'Refusals: those of the .. call explained'
  pub number : f.refusal ≡ refusal
  -- 'refused with 6, 7, 8 or 9': its place is one of the call's and bad, by that number
  pub placed : of_cell f.refusal ≡ true → (f.column < columns) × (bad f.column f.row ≡ f.refusal)
  -- 'none before them being bad'
  pub first : of_cell f.refusal ≡ true → (column row : ℕ) → before column row f.column f.row ≡ true → bad column row ≡ 0
  -- every other number has no place
  pub unplaced : of_cell f.refusal ≡ false → (f.column ≡ 0) × (f.row ≡ 0)
  -- an accepted call has nothing bad anywhere
  pub none_bad : refusal ≡ 0 → (column row : ℕ) → column < columns → bad column row ≡ 0

pub record FirstFault : Type 0 where
  pub batch_loss : (w : List Float) (x : Prefixes) → Explains (batch_loss_def w x).refusal (prefix_bad x) x.table.columns (prefix_loss_fault w x)
  -- slots, records, step_grads: how many are lent
  pub batch_loss_and_grad :
      (w : List Float) (x : Prefixes) (slots records : ℕ)
      → Explains (batch_loss_and_grad_def w x slots records).refusal (prefix_bad x) x.table.columns (prefix_grad_fault w x slots records)
  pub card_loss : (w : List Float) (x : Cards) → Explains (cards_loss w x).refusal (card_bad x) x.table.columns (card_loss_fault_def w x)
  pub card_loss_and_grad :
      (w : List Float) (x : Cards) (slots records step_grads : ℕ)
      → Explains (cards_loss_and_grad w x slots records step_grads).refusal (card_bad x) x.table.columns (card_grad_fault w x slots records step_grads)
