-- A file's call has room for every row: it is never refused for its records or step gradients. Assumes nothing.
use Prim.Native.Nat.{ℕ, zero, suc, zero-le, ◌≤◌}
use mathlib.Core.Path.{◌≡◌, refl, sym}
use mathlib.Core.Bool.{Bool, true, false, cond}
use mathlib.Core.List.{List}
use native.Mathlib.Nat.{le_trans, le_refl}
use borrow.Author.Tests.{leb-true}
use lib.Dec.{leb}
use lib.ListN.{length}
use Rattle.checks.specs.Tables.{cut_at}
use Rattle.checks.specs.Sizes.{most, longest_def}
use Rattle.batch.specs.Words.{word_at_def}
use Rattle.batch.specs.Header.{well_formed_def, sections_def, sections_of, placed}
use Rattle.batch.proofs.sections.Sizes.{left_of, rows_small}
use Rattle.batch.specs.File.{rows_of}

either_of : (a b n : ℕ) (t : Bool) → a ≤ n → b ≤ n → cond t b a ≤ n
either_of a b n true p q = q
either_of a b n false p q = p

cut_rows : (lengths : List ℕ) (rows column : ℕ) → cut_at lengths rows column ≤ rows
unfolding cut_at
cut_rows lengths rows column = smaller _ rows
  where
    by : (a b : ℕ) (t : Bool) → t ≡ leb a b → cond t a b ≤ b
    by a b true e = leb-true a b (sym e)
    by a b false e = le_refl b

    smaller : (a b : ℕ) → cond (leb a b) a b ≤ b
    smaller a b = by a b (leb a b) refl

longest_rows : (lengths : List ℕ) (rows columns : ℕ) → longest_def lengths rows columns ≤ rows
unfolding longest_def most
longest_rows lengths rows zero = zero-le
longest_rows lengths rows (suc c) = either_of _ _ rows (leb (longest_def lengths rows c) (cut_at lengths rows c)) (longest_rows lengths rows c) (cut_rows lengths rows c)

rows_under : (file : List ℕ) → well_formed_def file ≡ true → (sections_of file).rows ≤ rows_of
unfolding well_formed_def sections_def
rows_under file w = rows_small (word_at_def file 0) (word_at_def file 1) (length file) (left_of _ (placed file (sections_of file)) w)

pub room_for : (file : List ℕ) → well_formed_def file ≡ true → (lengths : List ℕ) (columns : ℕ) → longest_def lengths (sections_of file).rows columns ≤ rows_of
room_for file w lengths columns = le_trans (longest_rows lengths (sections_of file).rows columns) (rows_under file w)
