-- How a card from SM-2 goes on: 1, 2, 13 and 14 in turn, then its state. Assumes nothing.
use Rattle.std.proofs.Common.{◌≡◌, true, false, ◌&&◌, List, ne_eqb}
use lib.Ieee.{Float}
use lib.Ieee.Scale.{finite}
use Rattle.domain.proofs.Refusals.{never_0}
use Rattle.domain.specs.Refusals.{number}
use Rattle.domain.specs.Weights.{weights_refusal_def}
use Rattle.domain.specs.declared.refusal.Refusal.{Refusal}
use Rattle.model_v6.specs.Answers.{scalar_refusal_def, refused_state_def, accepted_state, finite_memory, sm2_refusal, sm2_held, sm2_scalar}
use Rattle.model_v6.specs.Sm2.{sm2_raw}

module _ (w : List Float) (ease interval retention : Float) where
  pub sm2_weights : (e : Refusal) → number e ≡ weights_refusal_def w → refused_state_def (number e) ≡ sm2_scalar w ease interval retention
  unfolding sm2_scalar sm2_refusal scalar_refusal_def
  sm2_weights e h = rw (← h, ne_eqb _ 0 (never_0 e), ne_eqb _ 0 (never_0 e), ne_eqb _ 0 (never_0 e))

  pub sm2_argument : weights_refusal_def w ≡ 0 → (finite ease && finite interval) && finite retention ≡ false → refused_state_def 13 ≡ sm2_scalar w ease interval retention
  unfolding sm2_scalar sm2_refusal scalar_refusal_def
  sm2_argument h g = rw (h, g)

  pub sm2_import :
      weights_refusal_def w ≡ 0 → (finite ease && finite interval) && finite retention ≡ true → finite_memory (sm2_raw w ease interval retention) ≡ false
      → refused_state_def 14 ≡ sm2_scalar w ease interval retention
  unfolding sm2_scalar sm2_refusal scalar_refusal_def
  sm2_import h g f = rw (h, g, f)

  pub sm2_taken :
      weights_refusal_def w ≡ 0 → (finite ease && finite interval) && finite retention ≡ true → finite_memory (sm2_raw w ease interval retention) ≡ true
      → accepted_state (sm2_held (sm2_raw w ease interval retention)) ≡ sm2_scalar w ease interval retention
  unfolding sm2_scalar sm2_refusal scalar_refusal_def
  sm2_taken h g f = rw (h, g, f)

pub ruleset sm2 = (sm2_weights, sm2_argument, sm2_import, sm2_taken)
