-- A time-major table is its rows, one after the other, and a column's view takes one cell of each. Assumes nothing.
use Prim.Native.Nat.{ℕ, zero, suc, ◌+◌, ◌<◌}
use mathlib.Core.List.{List, [], ◌∷◌, ◌++◌}
use mathlib.Core.Path.{◌≡◌, refl, ap, ◌∙◌, subst}
use native.Mathlib.Omega.{arith}
use lib.Ieee.{Float, nan}
use lib.ListN.{length, get_or, get_or-append}
use lib.Seq.{get_or-append-add}
use Rattle.domain.specs.Weights.{◌!◌}
use Rattle.checks.specs.Batch.{view}
use Rattle.checks.specs.Tables.{cell}

abbrev pub stacked : List (List Float) → List Float
stacked [] = []
stacked (r ∷ rs) = r ++ stacked rs

-- each row has n cells
abbrev pub Even : ℕ → List (List Float) → Type 0
Even n [] = Unit {0}
Even n (r ∷ rs) = (length r ≡ n) × Even n rs

cell_first : (columns column : ℕ) → cell columns 0 column ≡ column
unfolding cell
cell_first columns column = omega arith

cell_next : (columns row column : ℕ) → cell columns (suc row) column ≡ columns + cell columns row column
unfolding cell
cell_next columns row column = omega arith

beyond : (columns : ℕ) (r xs : List Float) (k : ℕ) → length r ≡ columns → (r ++ xs) ! (columns + k) ≡ xs ! k
beyond columns r xs k e = subst (λ (n : ℕ). (r ++ xs) ! (n + k) ≡ xs ! k) e (get_or-append-add r xs k nan)

-- a view's stride is the number of cells in a row; past the last row a NaN
pub view_row :
    (columns column : ℕ) → column < columns → (rows : List (List Float)) → Even columns rows → (row : ℕ) →
    view (stacked rows) columns column row ≡ get_or rows row [] ! column
view_row columns column h [] e row = refl
view_row columns column h (r ∷ rs) e zero =
    ap (λ (k : ℕ). (r ++ stacked rs) ! k) (cell_first columns column) ∙ get_or-append r (stacked rs) nan column (rw e.0 h)
view_row columns column h (r ∷ rs) e (suc row) =
    ap (λ (k : ℕ). (r ++ stacked rs) ! k) (cell_next columns row column) ∙
    (beyond columns r (stacked rs) (cell columns row column) e.0 ∙ view_row columns column h rs e.1 row)
