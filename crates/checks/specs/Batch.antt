-- What a loss call is lent, as one value. Assumes nothing.
use Rattle.std.specs.Prelude.{ℕ, Bool, List, Float}
use Rattle.domain.specs.Weights.{◌!◌}
use Rattle.checks.specs.Align.{first_of, weighed, target_read_def, target_weight_def}
use Rattle.checks.specs.Tables.{cell, cut_at}
use Rattle.checks.specs.declared.align.Align.{Align}
use Rattle.checks.specs.declared.align.Align.TheVariants.{Start}

-- t_hist, r_hist, seq_len, batch, seq_lens: both histories are time-major tables; and where the histories stand in them
pub record Table : Type 0 where
  pub days : List Float
  pub ratings : List Float
  pub rows : ℕ
  pub columns : ℕ
  pub lengths : List ℕ
  pub align : Align

-- a column's length, cut to the rows
abbrev pub length_at : (t : Table) (column : ℕ) → ℕ
length_at t column = cut_at t.lengths t.rows column

-- 'a column is read through a view that takes every batch-th cell'
abbrev pub view : (xs : List Float) (columns column row : ℕ) → Float
view xs columns column row = xs ! cell columns row column

-- the cell of any table of that shape
abbrev pub at : (t : Table) (xs : List Float) (row column : ℕ) → Float
at t xs row column = view xs t.columns column row

-- a column's days and ratings, as functions of the row, and the row of its first review
pub record History : Type 0 where
  pub day : ℕ → Float
  pub rating : ℕ → Float
  pub first : ℕ

abbrev pub history_of : (days ratings : List Float) (columns column first : ℕ) → History
history_of days ratings columns column first = record { day = view days columns column; rating = view ratings columns column; first = first }

abbrev pub first_at : (t : Table) (column : ℕ) → ℕ
first_at t column = first_of t.align (view t.ratings t.columns column) (length_at t column)

abbrev pub history : (t : Table) (column : ℕ) → History
history t column = history_of t.days t.ratings t.columns column (first_at t column)

-- a prefix's target follows its history: delta_ts, labels, weights, one for each column
pub record Prefixes : Type 0 where
  pub table : Table
  pub days : List Float
  pub labels : List Float
  pub weights : List Float

-- whether its target's weight is read, and what it counts for
abbrev pub target_read_at : (x : Prefixes) (column : ℕ) → Bool
target_read_at x column = target_read_def x.table.align (first_at x.table column) (length_at x.table column)

abbrev pub target_weight_at : (x : Prefixes) (column : ℕ) → Float
target_weight_at x column = target_weight_def x.table.align (first_at x.table column) (length_at x.table column) (x.weights ! column)

-- a card's rows are scored themselves: labels and weights are tables too
pub record Cards : Type 0 where
  pub table : Table
  pub labels : List Float
  pub weights : List Float

-- a card's labels and review weights, as functions of the row: the weights as they count
abbrev pub label_at : (x : Cards) (column row : ℕ) → Float
label_at x column row = view x.labels x.table.columns column row

abbrev pub weights_of : (align : Align) (ratings weights : List Float) (columns column row : ℕ) → Float
weights_of align ratings weights columns column row = weighed align (view ratings columns column row) (view weights columns column row)

abbrev pub weight_at_def : (x : Cards) (column row : ℕ) → Float
weight_at_def x column row = weights_of x.table.align x.table.ratings x.weights x.table.columns column row

-- the arguments of an entry, in its order
abbrev pub table_in : (align : Align) (t-hist r-hist : List Float) (seq-len batch : ℕ) (seq-lens : List ℕ) → Table
table_in align t-hist r-hist seq-len batch seq-lens =
    record { days = t-hist; ratings = r-hist; rows = seq-len; columns = batch; lengths = seq-lens; align = align }

abbrev pub prefixes_in_def : (align : Align) (t-hist r-hist : List Float) (seq-len batch : ℕ) (seq-lens : List ℕ) (delta-ts labels weights : List Float) → Prefixes
prefixes_in_def align t-hist r-hist seq-len batch seq-lens delta-ts labels weights =
    record { table = table_in align t-hist r-hist seq-len batch seq-lens; days = delta-ts; labels = labels; weights = weights }

abbrev pub cards_in_def : (align : Align) (t-hist r-hist : List Float) (seq-len batch : ℕ) (seq-lens : List ℕ) (labels weights : List Float) → Cards
cards_in_def align t-hist r-hist seq-len batch seq-lens labels weights =
    record { table = table_in align t-hist r-hist seq-len batch seq-lens; labels = labels; weights = weights }

-- of an entry that takes no mode: the crate's
abbrev pub prefixes_of : (t-hist r-hist : List Float) (seq-len batch : ℕ) (seq-lens : List ℕ) (delta-ts labels weights : List Float) → Prefixes
prefixes_of t-hist r-hist seq-len batch seq-lens delta-ts labels weights = prefixes_in_def Start t-hist r-hist seq-len batch seq-lens delta-ts labels weights

abbrev pub cards_of : (t-hist r-hist : List Float) (seq-len batch : ℕ) (seq-lens : List ℕ) (labels weights : List Float) → Cards
cards_of t-hist r-hist seq-len batch seq-lens labels weights = cards_in_def Start t-hist r-hist seq-len batch seq-lens labels weights
