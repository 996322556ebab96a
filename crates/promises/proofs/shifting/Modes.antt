-- A column without padding is the same in both modes: its first row is its first review. Assumes nothing.
use Prim.Native.Nat.{ℕ, zero, suc, ◌+◌, ◌<◌}
use mathlib.Core.Bool.{true}
use mathlib.Core.List.{List}
use mathlib.Core.Path.{◌≡◌, refl}
use native.Mathlib.Nat.{add-zero, zero-lt-suc}
use lib.Ieee.{Float}
use Rattle.checks.specs.Align.{is_end_def, first_of}
use Rattle.checks.specs.Batch.{Table, length_at, view, at}
use Rattle.checks.specs.Reads.{non_zero}
use Rattle.checks.specs.declared.align.Align.{Align}
use Rattle.checks.specs.declared.align.Align.TheVariants.{Start, End}
use Rattle.checks.proofs.align.First.{none_found, found_at}
use Rattle.promises.specs.Aligned.{Shifted}

first_none :
    (align : Align) (rating : ℕ → Float) (n : ℕ) → ((row : ℕ) → row < n → non_zero (rating row) ≡ true) → first_of align rating n ≡ 0
unfolding first_of is_end_def
first_none Start rating n h = refl
first_none End rating zero h = none_found rating
first_none End rating (suc n) h = found_at rating 0 (suc n) (zero-lt-suc n) (none_found rating) (h 0 (zero-lt-suc n))

abbrev pub table_as : (align : Align) → Table → Table
table_as align t =
    record { days = t.days; ratings = t.ratings; rows = t.rows; columns = t.columns; lengths = t.lengths; align = align }

module _ (t : Table) (column : ℕ) (reviews : (row : ℕ) → row < length_at t column → non_zero (at t t.ratings row column) ≡ true) where
  -- where the column starts
  abbrev from : (align : Align) → ℕ
  from align = first_of align (view t.ratings t.columns column) (length_at t column)

  pub from_0 : (align : Align) → from align ≡ 0
  from_0 align = first_none align (view t.ratings t.columns column) (length_at t column) reviews

  pub not_moved : (xs : List Float) (row : ℕ) → at t xs row column ≡ at t xs (row + from End) column
  not_moved xs row = rw (from_0 End, add-zero row)

  pub both_modes : Shifted (table_as End t) (table_as Start t) column
  both_modes =
      record {
        modes = (refl, refl);
        shorter = rw (from_0 End, add-zero (length_at t column));
        days = λ row l. not_moved t.days row;
        ratings = λ row l. not_moved t.ratings row;
      }
