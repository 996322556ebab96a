-- Document 01, 'Which cells and weights are read', for whole loss calls: the cells and the weights that count as read, and the
-- slots that the taken branches may move. Rows are numbered from the column's first review: change request K5, 'with 'row 0' read as
-- 'first nonzero row' in the new' mode, and as it stands in the crate's. Its table, by step, stands in forward/specs/WeightsRead.antt ('weights read') and
-- backward/specs/Moves.antt ('slots it may move'); the rules for one row's cells in checks/specs/Reads.antt. Assumes nothing.
use Rattle.std.specs.Prelude.{ℕ, zero, suc, ◌-◌, Bool, false, ◌&&◌, ◌||◌, cond, List, [], eqb, ltb, Float}
use Rattle.std.specs.Float.Ieee.{eq}
use Rattle.domain.specs.Limits.{zero32}
use Rattle.domain.specs.Weights.{◌!◌}
use Rattle.checks.specs.Align.{is_end_def, counts}
use Rattle.checks.specs.Reads.{later, is_last, non_zero, prefix_day, card_day_def, card_rating, card_label}
use Rattle.checks.specs.Batch.{Table, Prefixes, Cards, length_at, first_at, at, history, target_read_at, target_weight_at, label_at, weight_at_def}
use Rattle.forward.specs.Params.{params_def}
use Rattle.forward.specs.WeightsRead.{among, first_weights, review_reads}
use Rattle.forward.specs.Step.{rating_number_def}
use Rattle.backward.specs.Moves.{slots_of}
use Rattle.columns.specs.ForwardPass.{record_at}

-- some i below n passes the test
unfoldable pub some : (test : ℕ → Bool) (n : ℕ) → Bool
some test zero = false
some test (suc i) = some test i || test i

-- ---- cells
-- the slices of numbers that a loss call is lent to read; a card has no target days
pub data Slice : Type 0 where
  days ratings targets labels weights : Slice

-- the row lies in the column's length, cut to the rows, and the column in the table
abbrev pub inside : (t : Table) (row column : ℕ) → Bool
inside t row column = ltb column t.columns && ltb row (length_at t column)

-- a prefix has one target day, label and review weight for each column, so that there the row is of no account
unfoldable pub prefix_cell : (x : Prefixes) (s : Slice) (row column : ℕ) → Float
prefix_cell x days row column = at x.table x.table.days row column
prefix_cell x ratings row column = at x.table x.table.ratings row column
prefix_cell x targets row column = x.days ! column
prefix_cell x labels row column = x.labels ! column
prefix_cell x weights row column = x.weights ! column

-- 'Prefix: every rating in the length; days of rows 1 onward with rating not 0; the target's weight; its label and day only if that weight is not 0.'
-- K5: 'An all-padding prefix scores nothing, its target unread.'
unfoldable pub prefix_reads : (x : Prefixes) (s : Slice) (row column : ℕ) → Bool
prefix_reads x days row column =
    inside x.table row column && prefix_day (row - first_at x.table column) (at x.table x.table.ratings row column)
prefix_reads x ratings row column = inside x.table row column
prefix_reads x targets row column = ltb column x.table.columns && non_zero (target_weight_at x column)
prefix_reads x labels row column = ltb column x.table.columns && non_zero (target_weight_at x column)
prefix_reads x weights row column = ltb column x.table.columns && target_read_at x column

unfoldable pub card_cell : (x : Cards) (s : Slice) (row column : ℕ) → Float
card_cell x days row column = at x.table x.table.days row column
card_cell x ratings row column = at x.table x.table.ratings row column
card_cell x targets row column = zero32
card_cell x labels row column = label_at x column row
card_cell x weights row column = at x.table x.weights row column

-- 'Card, length n: ratings of rows 0..n-2; days of rows 1..n-2 with rating not 0; weights of rows 1..n-1; a label only if its
-- weight is not 0; the last row's day if n > 1 and its weight is not 0. The last rating is never read.' K5: 'padding rows are neither
-- scored nor read beyond their rating. In a card the last row's rating does become read'.
unfoldable pub card_reads : (x : Cards) (s : Slice) (row column : ℕ) → Bool
card_reads x days row column =
    let t = x.table in
    inside t row column && card_day_def (is_last (length_at t column) row) (row - first_at t column) (at t t.ratings row column) (weight_at_def x column row)
card_reads x ratings row column =
    let t = x.table in inside t row column && card_rating (is_end_def t.align) (is_last (length_at t column) row)
card_reads x targets row column = false
card_reads x labels row column =
    let t = x.table in inside t row column && card_label (row - first_at t column) (weight_at_def x column row)
card_reads x weights row column =
    let t = x.table in inside t row column && (later (row - first_at t column) && counts t.align (at t t.ratings row column))

-- ---- weights
-- 'padding (rating 0): none'; 'first (row 0, rating 1-4): rating-1, 4, 5'; 'every other: 4-7, 20', and those of its day and rating
unfoldable pub row_reads : (row : ℕ) (day rating : Float) → List ℕ
row_reads row day rating = cond (eq rating zero32) [] (cond (eqb row 0) (first_weights (rating_number_def rating)) (review_reads day rating))

-- 'Steps run on all prefix rows, and on rows 0..n-2 of a card': of each column the first `steps column`
unfoldable pub steps_read_def : (t : Table) (steps : ℕ → ℕ) (k : ℕ) → Bool
steps_read_def t steps k =
    some (λ column. some (λ row. among k (row_reads (row - first_at t column) (at t t.days row column) (at t t.ratings row column))) (steps column))
    t.columns

-- 'Weight 20 counts as read in every accepted call; a refused call reads no weight beyond the box test.'
unfoldable pub call_reads : (refusal : ℕ) (t : Table) (steps : ℕ → ℕ) (k : ℕ) → Bool
call_reads refusal t steps k = eqb refusal 0 && (eqb k 20 || steps_read_def t steps k)

-- ---- slots
-- the slots of one column: those of the branches that its steps take, and 20 where its end is scored: 'A scored curve may move slot 20.'
unfoldable pub column_moves : (w : List Float) (t : Table) (column steps : ℕ) (scored : Bool) (k : ℕ) → Bool
column_moves w t column steps scored k =
    some (λ row. let c = record_at (params_def w) (history t column) row in among k (slots_of c.branch c.rating)) steps ||
    (eqb k 20 && scored)

unfoldable pub call_moves : (w : List Float) (t : Table) (steps : ℕ → ℕ) (scored : ℕ → Bool) (k : ℕ) → Bool
call_moves w t steps scored k = some (λ column. column_moves w t column (steps column) (scored column) k) t.columns
