-- How check_row goes on by its `?`. Assumes nothing.
use Rattle.std.proofs.Common.{◌≡◌, ℕ, true, false, ◌&&◌, List, ne_eqb}
use lib.Ieee.{Float}
use lib.Ieee.Scale.{finite}
use Rattle.domain.proofs.Refusals.{never_0}
use Rattle.domain.specs.Limits.{day_good_def}
use Rattle.domain.specs.Refusals.{number}
use Rattle.domain.specs.Weights.{weights_refusal_def}
use Rattle.domain.specs.declared.refusal.Refusal.{Refusal}
use Rattle.model_v6.specs.Answers.{scalar_refusal_def, finite_memory}
use Rattle.model_v6.specs.Rows.{Refused, ours_def, verdict_def, row_refusal_def, row_check}
use Rattle.model_v6.specs.declared.rows.Claimed.{Claimed}
use Rattle.model_v6.specs.declared.state.MemoryState.{MemoryState}

module _ (w : List Float) (state : MemoryState) (day : Float) (rating : ℕ) (retention : Float) (claimed : Claimed) where
  pub row_weights : (e : Refusal) → number e ≡ weights_refusal_def w → Refused (number e) ≡ row_check w state day rating retention claimed
  unfolding row_check row_refusal_def scalar_refusal_def
  row_weights e h = rw (← h, ne_eqb _ 0 (never_0 e), ne_eqb _ 0 (never_0 e))

  pub row_argument : weights_refusal_def w ≡ 0 → (finite_memory state && day_good_def day) && finite retention ≡ false → Refused 13 ≡ row_check w state day rating retention claimed
  unfolding row_check row_refusal_def scalar_refusal_def
  row_argument h g = rw (h, g)

  pub row_taken :
      weights_refusal_def w ≡ 0 → (finite_memory state && day_good_def day) && finite retention ≡ true
      → verdict_def claimed (ours_def w state day rating retention) ≡ row_check w state day rating retention claimed
  unfolding row_check row_refusal_def scalar_refusal_def
  row_taken h g = rw (h, g)

pub ruleset row = (row_weights, row_argument, row_taken)
