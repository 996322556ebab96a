-- One outcome: weight sets and the study screen's formulas. A line for each function: its answer, then each parameter in turn. Assumes nothing.
use mathlib.Core.Path.{refl}
use denote.RattleType.{RattleType}
use denote.Param.Laws.{Laws, IsCopy}
use mir.Syntax.{Dict}
use Rattle.std.specs.declared.clone.Clone
use Rattle.outcomes.specs.Outcome.{One, one, one_by}
use Rattle.outcomes.proofs.Tuples.{◌⨾◌, none, end}
use Rattle.domain.proofs.floats.clamp
use Rattle.domain.proofs.floats.max
use Rattle.domain.proofs.floats.min
use Rattle.domain.proofs.floats.is_finite
use Rattle.domain.proofs.floats.is_within
use Rattle.domain.proofs.difficulty.rating_offset
use Rattle.domain.proofs.limits.floor_stability
use Rattle.domain.proofs.limits.clamp_stability
use Rattle.domain.proofs.limits.clamp_interval
use Rattle.domain.proofs.difficulty.clamp_difficulty
use Rattle.domain.proofs.limits.is_stability
use Rattle.domain.proofs.difficulty.is_difficulty
use Rattle.domain.proofs.limits.is_day
use Rattle.domain.proofs.Refusals.{same_answer, taken_one}
use Rattle.domain.proofs.refusal.Refusal.number
use Rattle.domain.proofs.refusal.U32FromRefusal.from
use Rattle.domain.proofs.refusal.RefusalFromRefused.from as refused_from
use Rattle.domain.proofs.weights.check_weights
use Rattle.domain.proofs.weights.WeightsTryFromRefSliceF32.try_from
use Rattle.model_v6.proofs.Results.{answered_one, state_answered_one, step_answered_one, seen_answered_one, filled_answered_one, row_answered_one}
use Rattle.domain.proofs.weights.copy_weights
use Rattle.domain.proofs.defaults.all_finite
use Rattle.domain.proofs.defaults.default_weights
use Rattle.model_v6.proofs.filling.check_and_fill_parameters_fsrs6
use Rattle.model_v6.proofs.curve.power_forgetting_curve_scalar
use Rattle.model_v6.proofs.curve.next_interval_scalar
use Rattle.model_v6.proofs.difficulty.init_difficulty_scalar
use Rattle.model_v6.proofs.difficulty.mean_reversion_scalar
use Rattle.model_v6.proofs.difficulty.next_difficulty_scalar
use Rattle.model_v6.proofs.stability.stability_after_success_scalar
use Rattle.model_v6.proofs.stability.stability_after_failure_scalar
use Rattle.model_v6.proofs.stability.stability_short_term_scalar
use Rattle.model_v6.proofs.state.next_state_scalar
use Rattle.model_v6.proofs.state.first_state_scalar
use Rattle.model_v6.proofs.seen.next_state_on_scalar
use Rattle.model_v6.proofs.rows.check_row
use Rattle.model_v6.proofs.rows.Field.number as field_number
use Rattle.model_v6.proofs.rows.Verdict.number as verdict_number
use Rattle.model_v6.proofs.sm2.memory_state_from_sm2_scalar

-- domain::floats
pub one_clamp : One clamp.Kinds.ps clamp.Kinds.r clamp.Reads.Post
one_clamp = one (λ κs a o c. c ⨾ none ⨾ none ⨾ none ⨾ end)

pub one_max : One max.Kinds.ps max.Kinds.r max.Reads.Post
one_max = one (λ κs a o c. c ⨾ none ⨾ none ⨾ end)

pub one_min : One min.Kinds.ps min.Kinds.r min.Reads.Post
one_min = one (λ κs a o c. c ⨾ none ⨾ none ⨾ end)

pub one_is_finite : One is_finite.Kinds.ps is_finite.Kinds.r is_finite.Reads.Post
one_is_finite = one (λ κs a o c. c ⨾ none ⨾ end)

pub one_is_within : One is_within.Kinds.ps is_within.Kinds.r is_within.Reads.Post
one_is_within = one (λ κs a o c. c ⨾ none ⨾ none ⨾ none ⨾ end)

-- domain::difficulty
pub one_rating_offset : One rating_offset.Kinds.ps rating_offset.Kinds.r rating_offset.Reads.Post
one_rating_offset = one (λ κs a o c. c ⨾ none ⨾ end)

-- domain::limits
pub one_floor_stability : One floor_stability.Kinds.ps floor_stability.Kinds.r floor_stability.Reads.Post
one_floor_stability = one (λ κs a o c. c ⨾ none ⨾ end)

pub one_clamp_stability : One clamp_stability.Kinds.ps clamp_stability.Kinds.r clamp_stability.Reads.Post
one_clamp_stability = one (λ κs a o c. c ⨾ none ⨾ end)

pub one_clamp_interval : One clamp_interval.Kinds.ps clamp_interval.Kinds.r clamp_interval.Reads.Post
one_clamp_interval = one (λ κs a o c. c ⨾ none ⨾ end)

-- domain::difficulty
pub one_clamp_difficulty : One clamp_difficulty.Kinds.ps clamp_difficulty.Kinds.r clamp_difficulty.Reads.Post
one_clamp_difficulty = one (λ κs a o c. c ⨾ none ⨾ end)

-- domain::limits
pub one_is_stability : One is_stability.Kinds.ps is_stability.Kinds.r is_stability.Reads.Post
one_is_stability = one (λ κs a o c. c ⨾ none ⨾ end)

-- domain::difficulty
pub one_is_difficulty : One is_difficulty.Kinds.ps is_difficulty.Kinds.r is_difficulty.Reads.Post
one_is_difficulty = one (λ κs a o c. c ⨾ none ⨾ end)

-- domain::limits
pub one_is_day : One is_day.Kinds.ps is_day.Kinds.r is_day.Reads.Post
one_is_day = one (λ κs a o c. c ⨾ none ⨾ end)

-- domain::weights
pub one_copy_weights : One copy_weights.Kinds.ps copy_weights.Kinds.r copy_weights.Reads.Post
one_copy_weights = one (λ κs a o c. c ⨾ none ⨾ end)

-- domain::defaults
pub one_all_finite : One all_finite.Kinds.ps all_finite.Kinds.r all_finite.Reads.Post
one_all_finite = one (λ κs a o c. c ⨾ none ⨾ end)

pub one_default_weights : One default_weights.Kinds.ps default_weights.Kinds.r default_weights.Reads.Post
one_default_weights = one (λ κs a o c. c ⨾ end)

-- model_v6::filling
pub one_check_and_fill_parameters_fsrs6 : One check_and_fill_parameters_fsrs6.Kinds.ps check_and_fill_parameters_fsrs6.Kinds.r check_and_fill_parameters_fsrs6.Reads.Post
one_check_and_fill_parameters_fsrs6 = one_by (λ κs. filled_answered_one) (λ κs a o c. c ⨾ none ⨾ end)

-- model_v6::curve
pub one_power_forgetting_curve_scalar : One power_forgetting_curve_scalar.Kinds.ps power_forgetting_curve_scalar.Kinds.r power_forgetting_curve_scalar.Reads.Post
one_power_forgetting_curve_scalar = one_by (λ κs. answered_one) (λ κs a o c. c ⨾ none ⨾ none ⨾ none ⨾ end)

pub one_next_interval_scalar : One next_interval_scalar.Kinds.ps next_interval_scalar.Kinds.r next_interval_scalar.Reads.Post
one_next_interval_scalar = one_by (λ κs. answered_one) (λ κs a o c. c ⨾ none ⨾ none ⨾ none ⨾ end)

-- model_v6::difficulty
pub one_init_difficulty_scalar : One init_difficulty_scalar.Kinds.ps init_difficulty_scalar.Kinds.r init_difficulty_scalar.Reads.Post
one_init_difficulty_scalar = one_by (λ κs. answered_one) (λ κs a o c. c ⨾ none ⨾ none ⨾ end)

pub one_mean_reversion_scalar : One mean_reversion_scalar.Kinds.ps mean_reversion_scalar.Kinds.r mean_reversion_scalar.Reads.Post
one_mean_reversion_scalar = one_by (λ κs. answered_one) (λ κs a o c. c ⨾ none ⨾ none ⨾ none ⨾ end)

pub one_next_difficulty_scalar : One next_difficulty_scalar.Kinds.ps next_difficulty_scalar.Kinds.r next_difficulty_scalar.Reads.Post
one_next_difficulty_scalar = one_by (λ κs. answered_one) (λ κs a o c. c ⨾ none ⨾ none ⨾ none ⨾ end)

-- model_v6::stability
pub one_stability_after_success_scalar : One stability_after_success_scalar.Kinds.ps stability_after_success_scalar.Kinds.r stability_after_success_scalar.Reads.Post
one_stability_after_success_scalar = one_by (λ κs. answered_one) (λ κs a o c. c ⨾ none ⨾ none ⨾ none ⨾ none ⨾ none ⨾ end)

pub one_stability_after_failure_scalar : One stability_after_failure_scalar.Kinds.ps stability_after_failure_scalar.Kinds.r stability_after_failure_scalar.Reads.Post
one_stability_after_failure_scalar = one_by (λ κs. answered_one) (λ κs a o c. c ⨾ none ⨾ none ⨾ none ⨾ none ⨾ end)

pub one_stability_short_term_scalar : One stability_short_term_scalar.Kinds.ps stability_short_term_scalar.Kinds.r stability_short_term_scalar.Reads.Post
one_stability_short_term_scalar = one_by (λ κs. answered_one) (λ κs a o c. c ⨾ none ⨾ none ⨾ none ⨾ end)

-- model_v6::state
pub one_next_state_scalar : One next_state_scalar.Kinds.ps next_state_scalar.Kinds.r next_state_scalar.Reads.Post
one_next_state_scalar = one_by (λ κs. step_answered_one) (λ κs a o c. c ⨾ none ⨾ none ⨾ none ⨾ none ⨾ end)

pub one_first_state_scalar : One first_state_scalar.Kinds.ps first_state_scalar.Kinds.r first_state_scalar.Reads.Post
one_first_state_scalar = one_by (λ κs. state_answered_one) (λ κs a o c. c ⨾ none ⨾ none ⨾ end)

-- model_v6::seen
pub one_next_state_on_scalar : One next_state_on_scalar.Kinds.ps next_state_on_scalar.Kinds.r next_state_on_scalar.Reads.Post
one_next_state_on_scalar = one_by (λ κs. seen_answered_one) (λ κs a o c. c ⨾ none ⨾ none ⨾ none ⨾ none ⨾ end)

-- model_v6::rows
pub one_check_row : One check_row.Kinds.ps check_row.Kinds.r check_row.Reads.Post
one_check_row = one_by (λ κs. row_answered_one) (λ κs a o c. c ⨾ none ⨾ none ⨾ none ⨾ none ⨾ none ⨾ none ⨾ end)

pub one_field_number : One field_number.Kinds.ps field_number.Kinds.r field_number.Reads.Post
one_field_number = one (λ κs a o c. c ⨾ none ⨾ end)

pub one_verdict_number : One verdict_number.Kinds.ps verdict_number.Kinds.r verdict_number.Reads.Post
one_verdict_number = one (λ κs a o c. c ⨾ none ⨾ end)

-- model_v6::sm2
pub one_memory_state_from_sm2_scalar : One memory_state_from_sm2_scalar.Kinds.ps memory_state_from_sm2_scalar.Kinds.r memory_state_from_sm2_scalar.Reads.Post
one_memory_state_from_sm2_scalar = one_by (λ κs. state_answered_one) (λ κs a o c. c ⨾ none ⨾ none ⨾ none ⨾ none ⨾ end)

-- domain::refusal and domain::weights
pub one_number : One number.Kinds.ps number.Kinds.r number.Reads.Post
one_number = one (λ κs a o c. c ⨾ none ⨾ end)

pub one_u32_from : One from.Kinds.ps from.Kinds.r from.Reads.Post
one_u32_from = one (λ κs a o c. c ⨾ none ⨾ end)

pub one_check_weights : One check_weights.Kinds.ps check_weights.Kinds.r check_weights.Reads.Post
one_check_weights = one_by (λ κs x y h. same_answer x y h (λ u v p q. refl)) (λ κs a o c. c ⨾ none ⨾ end)

pub one_try_from : One try_from.Kinds.ps try_from.Kinds.r try_from.Reads.Post
one_try_from = record { same = λ κs a o o' c c'. taken_one _ o.0 o'.0 c.1 c'.1 ⨾ none ⨾ end }

-- of a refusal that hands back a T
module _ (T : RattleType) (L1 : Laws T) (K : IsCopy T) (G1 : Clone.Ghosts T.Denot) (D1 : Dict) where
  pub one_refused_from : One (refused_from.Kinds.ps T L1 K) (refused_from.Kinds.r T L1 K) (refused_from.Reads.Post T L1 K G1 D1)
  one_refused_from = one (λ κs a o c. c ⨾ none ⨾ end)
