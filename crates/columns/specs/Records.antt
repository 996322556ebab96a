-- Step records as plain columns of singles: where each number stands, what a stored record leaves in the slice, and what is read
-- back. Assumes nothing.
use Rattle.std.specs.Prelude.{◌≡◌, ℕ, suc, ◌+◌, ◌*◌, ◌/◌, Bool, true, false, cond, List, [], ◌∷◌, length, slice_set, refl, Float}
use Rattle.std.specs.Float.{binary32}
use Rattle.std.specs.Float.Ieee.{eq, of_bits}
use Rattle.domain.specs.Limits.{decimal, zero32, one, two, three, four}
use Rattle.domain.specs.Weights.{◌!◌}
use Rattle.forward.specs.Step.{clamp_state_def, rating_number_def}
use Rattle.forward.specs.declared.state.Branch.{Branch}
use Rattle.forward.specs.declared.state.Branch.TheVariants.{Padding, First, SameDay, Lapse, Success}
use Rattle.forward.specs.declared.state.State.{State}
use Rattle.forward.specs.declared.state.StepRecord.{StepRecord}
use Rattle.columns.specs.declared.records.BranchCells.{BranchCells}

-- ten columns of equal length: how many rows each has
unfoldable pub room_def : (cells : ℕ) → ℕ
room_def cells = cells / 10

-- the columns stand one after another
unfoldable pub place : (cells field row : ℕ) → ℕ
place cells field row = field * (cells / 10) + row

abbrev pub five : Float
five = of_bits binary32 0x40a0_0000

abbrev pub six : Float
six = of_bits binary32 0x40c0_0000

-- each is the number that it is called
pub named : (five ≡ decimal 5 1) × (six ≡ decimal 6 1)
unfolding decimal of_bits
named = (refl, refl)

unfoldable pub plain_cells : (number : Float) → BranchCells
plain_cells number = record { number = number; a = zero32; b = zero32 }

unfoldable pub chosen_cells : (first : Bool) (x y a b : Float) → BranchCells
chosen_cells first x y a b = record { number = cond first x y; a = a; b = b }

-- 0 padding, 1 first, 2 same-day with the raw multiplier, 3 with the 1, 4 lapse with the raw value, 5 with the floor, 6 success;
-- and the two numbers of a branch that has them
unfoldable pub branch_cells_def : Branch → BranchCells
branch_cells_def Padding = plain_cells zero32
branch_cells_def (First rating) = plain_cells one
branch_cells_def (SameDay raw value active) = chosen_cells active two three raw value
branch_cells_def (Lapse raw floor floored) = chosen_cells floored five four raw floor
branch_cells_def Success = plain_cells six

unfoldable pub branch_of_def : (number rating a b : Float) → Branch
branch_of_def number rating a b =
    cond (eq number zero32) Padding
    (cond (eq number one) (First (rating_number_def rating))
    (cond (eq number two) (SameDay a b true)
    (cond (eq number three) (SameDay a b false)
    (cond (eq number four) (Lapse a b false)
    (cond (eq number five) (Lapse a b true) Success)))))

-- A record's ten numbers by their names, in the order of the columns (include/fsrs6.h has the same names). The clamped state is not among them: it is worked out again
-- when a record is read
pub data Field : Type 0 where
  STABILITY : Field
  DIFFICULTY : Field
  DAY : Field
  RATING : Field
  RETRIEVABILITY : Field
  PRE-STABILITY : Field
  PRE-DIFFICULTY : Field
  BRANCH : Field
  BRANCH-RAW : Field
  BRANCH-OTHER : Field

-- which column a name is
abbrev pub column_of_def : Field → ℕ
column_of_def STABILITY = 0
column_of_def DIFFICULTY = 1
column_of_def DAY = 2
column_of_def RATING = 3
column_of_def RETRIEVABILITY = 4
column_of_def PRE-STABILITY = 5
column_of_def PRE-DIFFICULTY = 6
column_of_def BRANCH = 7
column_of_def BRANCH-RAW = 8
column_of_def BRANCH-OTHER = 9

-- and which number of a record
abbrev pub number_of : Field → StepRecord → Float
number_of STABILITY c = c.state.s
number_of DIFFICULTY c = c.state.d
number_of DAY c = c.day
number_of RATING c = c.rating
number_of RETRIEVABILITY c = c.retrievability
number_of PRE-STABILITY c = c.pre_s
number_of PRE-DIFFICULTY c = c.pre_d
number_of BRANCH c = (branch_cells_def c.branch).number
number_of BRANCH-RAW c = (branch_cells_def c.branch).a
number_of BRANCH-OTHER c = (branch_cells_def c.branch).b

-- columns 0 to 6
unfoldable pub step_values : StepRecord → List Float
step_values c =
    number_of STABILITY c ∷ number_of DIFFICULTY c ∷ number_of DAY c ∷ number_of RATING c ∷ number_of RETRIEVABILITY c ∷ number_of PRE-STABILITY c ∷ number_of PRE-DIFFICULTY c ∷ []

-- columns 7 to 9
unfoldable pub branch_values : Branch → List Float
branch_values branch = (branch_cells_def branch).number ∷ (branch_cells_def branch).a ∷ (branch_cells_def branch).b ∷ []

-- the given numbers of a row, from a column on
unfoldable pub put_all : (cells row field : ℕ) (given xs : List Float) → List Float
put_all cells row field [] xs = xs
put_all cells row field (x ∷ given) xs = put_all cells row (suc field) given (slice_set xs (place cells field row) x)

unfoldable pub store_def : (row : ℕ) (c : StepRecord) (xs : List Float) → List Float
store_def row c xs = put_all (length xs) row 7 (branch_values c.branch) (put_all (length xs) row 0 (step_values c) xs)

unfoldable pub load_branch_def : (cells row : ℕ) (rating : Float) (xs : List Float) → Branch
load_branch_def cells row rating xs = branch_of_def (xs ! place cells 7 row) rating (xs ! place cells 8 row) (xs ! place cells 9 row)

unfoldable pub load_def : (row : ℕ) (xs : List Float) → StepRecord
load_def row xs =
    let cells = length xs in
    let state : State = record { s = xs ! place cells 0 row; d = xs ! place cells 1 row } in
    let rating = xs ! place cells 3 row in
    record {
      state = state;
      last = clamp_state_def state;
      day = xs ! place cells 2 row;
      rating = rating;
      retrievability = xs ! place cells 4 row;
      pre_s = xs ! place cells 5 row;
      pre_d = xs ! place cells 6 row;
      branch = load_branch_def cells row rating xs;
    }

-- what is read back of a stored record
unfoldable pub read_back_def : StepRecord → StepRecord
read_back_def c =
    record {
      state = c.state;
      last = clamp_state_def c.state;
      day = c.day;
      rating = c.rating;
      retrievability = c.retrievability;
      pre_s = c.pre_s;
      pre_d = c.pre_d;
      branch = branch_of_def (branch_cells_def c.branch).number c.rating (branch_cells_def c.branch).a (branch_cells_def c.branch).b;
    }
