-- Column after column of a batch. Assumes nothing.
use Rattle.std.specs.Prelude.{ℕ, zero, suc, List, Float}
use Rattle.domain.specs.Doubles.{◌+ᵈ◌, zero64}

-- 'column losses add in column order in double'
unfoldable pub total : (part : ℕ → Float) (columns : ℕ) → Float
total part zero = zero64
total part (suc column) = total part column +ᵈ part column

-- what each column leaves in a lent slice, in column order
unfoldable pub through : {E : Type 0} (change : ℕ → List E → List E) (columns : ℕ) (xs : List E) → List E
through change zero xs = xs
through change (suc column) xs = change column (through change column xs)
