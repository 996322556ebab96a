-- A starting stability from first recalls, change request K6: where an accepted one lies, and what no rows give. Said of `start_answer`, which the entry is
-- proved to equal (parameter_initialization/specs/Start.antt). Nothing is asked of the slopes: a NaN or an infinity may be among them. Assumes nothing.
use Rattle.std.specs.Prelude.{List, [], ◌≡◌, T, Float}
use Rattle.std.specs.Float.{binary32}
use Rattle.soft.specs.Narrow.{narrow_def}
use Rattle.domain.specs.Floats.{within}
use Rattle.domain.specs.Limits.{decimal, s_min_def}
use Rattle.parameter_initialization.specs.Start.{start_answer}

pub record Starting : Type 0 where
  -- 'the answer is shown to lie between 0.0001 and 100', both ends included, whatever an accepted call is
  pub in_range :
      (days shares counts : List Float) (default : Float) → (start_answer days shares counts default).refusal ≡ 0
      → T (within (start_answer days shares counts default).value s_min_def (decimal 100 1))
  -- 'No rows gives the default', as the single nearest to it
  pub no_rows :
      (default : Float) → T (within default s_min_def (decimal 100 1))
      → start_answer [] [] [] default ≡ record { refusal = 0; value = narrow_def binary32 default }
