-- Refusals 3 and 4: 'rows or columns over limit, or an input slice shorter than its table or column count', and the longest cut
-- length. Assumes nothing.
use Rattle.std.specs.Prelude.{ℕ, zero, suc, ◌*◌, Bool, ◌&&◌, cond, List, leb}
use Rattle.checks.specs.Tables.{cut_at}

-- 'Rows 0..2048, columns 0..512'
abbrev pub max_rows : ℕ
max_rows = 2048

abbrev pub max_columns : ℕ
max_columns = 512

unfoldable pub most : ℕ → ℕ → ℕ
most a b = cond (leb a b) b a

-- over the first columns
unfoldable pub longest_def : (lengths : List ℕ) (rows columns : ℕ) → ℕ
longest_def lengths rows zero = 0
longest_def lengths rows (suc c) = most (longest_def lengths rows c) (cut_at lengths rows c)

-- each argument that is a slice stands for its length
unfoldable pub table_sized_def : (days ratings rows columns lengths : ℕ) → Bool
table_sized_def days ratings rows columns lengths =
    (leb rows max_rows && leb columns max_columns) && ((leb (rows * columns) days && leb (rows * columns) ratings) && leb columns lengths)

unfoldable pub prefix_sized_def : (days ratings rows columns lengths target-days labels weights : ℕ) → Bool
prefix_sized_def days ratings rows columns lengths target-days labels weights =
    table_sized_def days ratings rows columns lengths && (leb columns target-days && (leb columns labels && leb columns weights))

unfoldable pub card_sized_def : (days ratings rows columns lengths labels weights : ℕ) → Bool
card_sized_def days ratings rows columns lengths labels weights =
    table_sized_def days ratings rows columns lengths && (leb (rows * columns) labels && leb (rows * columns) weights)
