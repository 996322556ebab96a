-- Which slots a step's reverse may move: document 01's table, 'slots it may move'. Assumes nothing.
use Rattle.std.specs.Prelude.{ℕ, Bool, cond, not, ◌&&◌, ◌||◌, List, [], ◌∷◌, ◌==◌, Float}
use Rattle.std.specs.Float.Ieee.{eq}
use Rattle.domain.specs.Doubles.{zero64}
use Rattle.forward.specs.WeightsRead.{among, first_weights, common, success_weights}
use Rattle.forward.specs.declared.state.Branch.{Branch}
use Rattle.forward.specs.declared.state.Branch.TheVariants.{Padding, First, SameDay, Lapse, Success}
use Rattle.forward.specs.declared.state.StepRecord.{StepRecord}

-- 'padding: none'; 'first: the same'; every other 4-7, 20, and '17-19, if the raw multiplier counts', '11-14, or 17, 18 if floored',
-- or a success's own
unfoldable pub slots_of : (branch : Branch) (rating : Float) → List ℕ
slots_of Padding rating = []
slots_of (First n) rating = first_weights n
slots_of (SameDay raw value active) rating = cond active (17 ∷ 18 ∷ 19 ∷ common) common
slots_of (Lapse raw floor floored) rating = cond floored (17 ∷ 18 ∷ common) (11 ∷ 12 ∷ 13 ∷ 14 ∷ common)
slots_of Success rating = success_weights rating

-- 'A scored curve may move slot 20': g-r is the gradient that comes in by the retrievability
unfoldable pub step_may_move : (c : StepRecord) (g-r : Float) (k : ℕ) → Bool
step_may_move c g-r k = among k (slots_of c.branch c.rating) || (k == 20 && not (eq g-r zero64))

-- The weights that a step's reverse reads: those of its branch, and 20, by which every curve goes.
unfoldable pub reverse_reads : (branch : Branch) (rating : Float) → List ℕ
reverse_reads Padding rating = 20 ∷ []
reverse_reads (First n) rating = 4 ∷ 5 ∷ 20 ∷ []
reverse_reads (SameDay raw value active) rating = 17 ∷ 18 ∷ 19 ∷ common
reverse_reads (Lapse raw floor floored) rating = 11 ∷ 12 ∷ 13 ∷ 14 ∷ 17 ∷ 18 ∷ common
reverse_reads Success rating = success_weights rating
