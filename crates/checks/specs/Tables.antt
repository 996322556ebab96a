-- The cells of a time-major table, and a column's length cut to the rows, 'as in the Rust'. Assumes nothing.
use Rattle.std.specs.Prelude.{ℕ, ◌+◌, ◌*◌, cond, List, leb, get_or}

-- 'Table cells are time-major: row × columns + column.'
unfoldable pub cell : (columns row column : ℕ) → ℕ
cell columns row column = row * columns + column

abbrev pub least : ℕ → ℕ → ℕ
least a b = cond (leb a b) a b

-- column_seq_len.min(seq_len)
unfoldable pub cut_at : (lengths : List ℕ) (rows column : ℕ) → ℕ
cut_at lengths rows column = least (get_or lengths column 0) rows
