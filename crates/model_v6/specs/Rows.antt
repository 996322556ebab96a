-- Change request K9: a review that an app has worked out for itself, held to our scalar formulas. Assumes nothing.
use Rattle.std.specs.Prelude.{ℕ, cond, ◌&&◌, List, ◌==◌, to_bits, Float}
use Rattle.std.specs.Float.{binary32}
use Rattle.std.specs.Float.Ieee.Scale.{finite}
use Rattle.domain.specs.Limits.{day_good_def}
use Rattle.model_v6.specs.Answers.{scalar_refusal_def, finite_memory}
use Rattle.model_v6.specs.Curve.{interval_def}
use Rattle.model_v6.specs.NextState.{next_state_def}
use Rattle.model_v6.specs.declared.rows.Claimed.{Claimed}
use Rattle.model_v6.specs.declared.rows.Field.{Field}
use Rattle.model_v6.specs.declared.rows.Field.TheVariants.{Stability, Difficulty, Interval}
use Rattle.model_v6.specs.declared.state.MemoryState.{MemoryState}

-- what a row is held to be: refused, by a number, or judged. Wrong: the first field that has not our bits. A refused row has no verdict
pub data RowCheck : Type 0 where
  Refused : ℕ → RowCheck
  Accepted : RowCheck
  Wrong : Field → RowCheck

-- 'state after and next interval at a stated retention', by 'our scalar formulas': the bits of next_state_scalar, and of next_interval_scalar from the
-- stability that it gives
unfoldable pub ours_def : (w : List Float) (state : MemoryState) (day : Float) (rating : ℕ) (retention : Float) → Claimed
ours_def w state day rating retention =
    let after = next_state_def w state day rating in
    record {
      stability = to_bits binary32 after.stability;
      difficulty = to_bits binary32 after.difficulty;
      interval = to_bits binary32 (interval_def w after.stability retention);
    }

-- 'name the first wrong field', in 'The field order [..] stability, difficulty, interval'
unfoldable pub verdict_def : (claimed ours : Claimed) → RowCheck
verdict_def claimed ours =
    cond (claimed.stability == ours.stability)
    (cond (claimed.difficulty == ours.difficulty)
    (cond (claimed.interval == ours.interval) Accepted (Wrong Interval))
    (Wrong Difficulty))
    (Wrong Stability)

-- 'Refusals: 1, 2, 13 as before': an argument of either formula. The claimed values 'may be any bits'
unfoldable pub row_refusal_def : (w : List Float) (state : MemoryState) (day retention : Float) → ℕ
row_refusal_def w state day retention = scalar_refusal_def w ((finite_memory state && day_good_def day) && finite retention)

-- 'given before any verdict'
unfoldable pub row_check : (w : List Float) (state : MemoryState) (day : Float) (rating : ℕ) (retention : Float) (claimed : Claimed) → RowCheck
row_check w state day rating retention claimed =
    let n = row_refusal_def w state day retention in
    cond (n == 0) (verdict_def claimed (ours_def w state day rating retention)) (Refused n)

-- ---- the numbers of an answer: its refusal's, 0 where there is none, and its verdict's, 0 for an accepted row. A refused row has no verdict; from C
-- nothing is then written
unfoldable pub refusal_of_def : RowCheck → ℕ
refusal_of_def (Refused n) = n
refusal_of_def Accepted = 0
refusal_of_def (Wrong field) = 0

unfoldable pub field_number_def : Field → ℕ
field_number_def Stability = 1
field_number_def Difficulty = 2
field_number_def Interval = 3

unfoldable pub verdict_of_def : RowCheck → ℕ
verdict_of_def (Refused n) = 0
verdict_of_def Accepted = 0
verdict_of_def (Wrong field) = field_number_def field
