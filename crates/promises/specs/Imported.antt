-- A deck from SM-2, change request K1: which retentions are refused, and what an accepted card is given. Said of `sm2_scalar`, which the entry is
-- proved to equal (model_v6/specs/Answers.antt). Assumes nothing.
use Rattle.std.specs.Prelude.{◌≡◌, true, ◌&&◌, List, T, Float}
use Rattle.std.specs.Float.{binary32}
use Rattle.std.specs.Float.Ieee.{fits, le}
use Rattle.std.specs.Float.Ieee.Scale.{finite}
use Rattle.domain.specs.Limits.{zero32, one, difficulty_good_def}
use Rattle.domain.specs.Weights.{weights_refusal_def}
use Rattle.laws.specs.Distances.{positive}
use Rattle.model_v6.specs.Answers.{sm2_scalar}
use Rattle.promises.specs.Twelve.{Weights}

pub record Imported : Type 0 where
  -- 'new 14 where those tests fail over the port's kernels, a retention of 0 or below included'
  pub none_kept :
      (w : List Float) (ease interval retention : Float) → weights_refusal_def w ≡ 0 → T (finite ease && finite interval && finite retention)
      → T (le retention zero32) → (sm2_scalar w ease interval retention).refusal ≡ 14
  -- and one of 1 or above, as 90 for 90 percent
  pub all_kept :
      (w : List Float) (ease interval retention : Float) → Weights w → fits binary32 retention ≡ true
      → T (finite ease && finite interval && finite retention) → T (le one retention) → (sm2_scalar w ease interval retention).refusal ≡ 14
  -- an accepted card has a stability above 0, and finite, and a difficulty from 1 to 10
  pub accepted :
      (w : List Float) (ease interval retention : Float) → (sm2_scalar w ease interval retention).refusal ≡ 0
      → T (positive (sm2_scalar w ease interval retention).state.stability) × T (difficulty_good_def (sm2_scalar w ease interval retention).state.difficulty)
