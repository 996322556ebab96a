-- The first fault among the cells that a loss call reads, with its place: 'columns ascending: 9, then rows ascending (rating, day,
-- weight, label), then a prefix target (weight, label, day)'. Assumes nothing.
use Rattle.std.specs.Prelude.{ℕ, zero, suc, ◌-◌, Bool, cond, List, eqb, Float, Result, Ok, Err, Option, Some, None, is_some, ◌≡◌}
use Rattle.domain.specs.Refusals.{number}
use Rattle.domain.specs.Weights.{◌!◌}
use Rattle.checks.specs.Align.{is_end_def}
use Rattle.checks.specs.Reads.{is_last, prefix_row_def, card_row_def, target_def}
use Rattle.checks.specs.Batch.{History, Prefixes, Cards, length_at, history, target_weight_at, label_at, weight_at_def}
use Rattle.checks.specs.declared.fault.Fault as found
use Rattle.checks.specs.declared.fault.Place.{Place}

-- A fault as three numbers, which a C function gives: that of its refusal, 0 where there is none, and its column and row. These are 0
-- unless the number is 6, 7, 8 or 9; the row is 0 for a 9, and the length for a target.
pub record Fault : Type 0 where
  pub refusal : ℕ
  pub column : ℕ
  pub row : ℕ

unfoldable pub no_fault_def : Fault
no_fault_def = record { refusal = 0; column = 0; row = 0 }

-- a refusal that no cell gives
unfoldable pub unplaced : (n : ℕ) → Fault
unplaced n = record { refusal = n; column = 0; row = 0 }

-- what a test answers, as three numbers
abbrev pub placed : (n : ℕ) (place : Option Place) → Fault
placed n None = record { refusal = n; column = 0; row = 0 }
placed n (Some p) = record { refusal = n; column = p.column; row = p.row }

abbrev pub fault_of : {A : Type 0} → Result A found.Fault → Fault
fault_of (Ok x) = record { refusal = 0; column = 0; row = 0 }
fault_of (Err e) = placed (number e.refusal) e.place

-- its number alone
abbrev pub refusal_of : {A : Type 0} → Result A found.Fault → ℕ
refusal_of (Ok x) = 0
refusal_of (Err e) = number e.refusal

-- a fault has a place exactly where b: which it has is not in the three numbers, where these are 0
abbrev pub PlacedWhere : {A : Type 0} (b : Bool) → Result A found.Fault → Type 0
PlacedWhere b (Ok x) = Unit
PlacedWhere b (Err e) = is_some e.place ≡ b

-- none where the number is 0
unfoldable pub fault_at_def : (n column row : ℕ) → Fault
unfolding no_fault_def
fault_at_def n column row = cond (eqb n 0) no_fault_def (record { refusal = n; column = column; row = row })

unfoldable pub or_else : Fault → Fault → Fault
or_else a b = cond (eqb a.refusal 0) b a

-- the first among f 0, f 1, .. of n
unfoldable pub first_fault_def : (f : ℕ → Fault) (n : ℕ) → Fault
first_fault_def f zero = no_fault_def
first_fault_def f (suc k) = or_else (first_fault_def f k) (f k)

-- the first of n rows of a column that is bad: `bad` has each row's number
unfoldable pub rows_fault : (bad : ℕ → ℕ) (column n : ℕ) → Fault
rows_fault bad column n = first_fault_def (λ row. fault_at_def (bad row) column row) n

abbrev pub prefix_rows_def : (h : History) (column n : ℕ) → Fault
prefix_rows_def h column n = rows_fault (λ row. prefix_row_def (row - h.first) (h.day row) (h.rating row)) column n

-- its row is the cut length
unfoldable pub target_fault : (days labels : List Float) (weight : Float) (column n : ℕ) → Fault
target_fault days labels weight column n = fault_at_def (target_def weight (labels ! column) (days ! column)) column n

unfoldable pub prefix_column_def : (x : Prefixes) (column : ℕ) → Fault
prefix_column_def x column =
    let t = x.table in
    let n = length_at t column in
    cond (eqb n 0)
    (record { refusal = 9; column = column; row = 0 })
    (or_else (prefix_rows_def (history t column) column n) (target_fault x.days x.labels (target_weight_at x column) column n))

unfoldable pub prefix_fault_def : Prefixes → Fault
prefix_fault_def x = first_fault_def (prefix_column_def x) x.table.columns

abbrev pub card_rows_def : (end : Bool) (h : History) (label weight : ℕ → Float) (column n : ℕ) → Fault
card_rows_def end h label weight column n =
    rows_fault (λ row. card_row_def end (is_last n row) (row - h.first) (h.day row) (h.rating row) (weight row) (label row)) column n

unfoldable pub card_column_def : (x : Cards) (column : ℕ) → Fault
card_column_def x column =
    let t = x.table in card_rows_def (is_end_def t.align) (history t column) (label_at x column) (weight_at_def x column) column (length_at t column)

unfoldable pub card_fault_def : Cards → Fault
card_fault_def x = first_fault_def (card_column_def x) x.table.columns
