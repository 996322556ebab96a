-- One outcome: the C functions. A line for each function: its answer, then each parameter in turn. Assumes nothing.
use Rattle.outcomes.specs.Outcome.{One, one}
use Rattle.outcomes.proofs.Tuples.{◌⨾◌, none, end}
use Rattle.fsrs6.proofs.arithmetic.fsrs_exp_f32
use Rattle.fsrs6.proofs.arithmetic.fsrs_exp_f64
use Rattle.fsrs6.proofs.arithmetic.fsrs_expm1_f32
use Rattle.fsrs6.proofs.arithmetic.fsrs_ln_f32
use Rattle.fsrs6.proofs.arithmetic.fsrs_ln_f64
use Rattle.fsrs6.proofs.arithmetic.fsrs_pow_f32
use Rattle.fsrs6.proofs.arithmetic.fsrs_pow_f64
use Rattle.fsrs6.proofs.arithmetic.fsrs_fma_f32
use Rattle.fsrs6.proofs.arithmetic.fsrs_fma_f64
use Rattle.fsrs6.proofs.arithmetic.fsrs_round_f32
use Rattle.fsrs6.proofs.arithmetic.fsrs_round_f64
use Rattle.fsrs6.proofs.study.fsrs_power_forgetting_curve
use Rattle.fsrs6.proofs.study.fsrs_next_interval
use Rattle.fsrs6.proofs.study.fsrs_next_state
use Rattle.fsrs6.proofs.study.fsrs_next_state_on
use Rattle.fsrs6.proofs.study.fsrs_check_row
use Rattle.fsrs6.proofs.study.fsrs_first_state
use Rattle.fsrs6.proofs.study.fsrs_memory_state_from_sm2
use Rattle.fsrs6.proofs.study.fsrs_check_and_fill_parameters
use Rattle.fsrs6.proofs.study.fsrs_stability_after_success
use Rattle.fsrs6.proofs.study.fsrs_stability_after_failure
use Rattle.fsrs6.proofs.study.fsrs_stability_short_term
use Rattle.fsrs6.proofs.study.fsrs_init_difficulty
use Rattle.fsrs6.proofs.study.fsrs_mean_reversion
use Rattle.fsrs6.proofs.study.fsrs_next_difficulty
use Rattle.fsrs6.proofs.step.fsrs_training_step
use Rattle.fsrs6.proofs.step.fsrs_training_step_backward
use Rattle.fsrs6.proofs.prefixes.fsrs_batch_loss_and_grad
use Rattle.fsrs6.proofs.prefixes.fsrs_batch_loss_and_grad_in
use Rattle.fsrs6.proofs.prefixes.fsrs_batch_loss
use Rattle.fsrs6.proofs.prefixes.fsrs_batch_loss_in
use Rattle.fsrs6.proofs.cards.fsrs_card_loss_and_grad
use Rattle.fsrs6.proofs.cards.fsrs_card_loss_and_grad_in
use Rattle.fsrs6.proofs.cards.fsrs_card_loss
use Rattle.fsrs6.proofs.cards.fsrs_card_loss_in
use Rattle.fsrs6.proofs.penalty.fsrs_l2_penalty
use Rattle.fsrs6.proofs.initialization.fsrs_initial_stability
use Rattle.fsrs6.proofs.file.fsrs_batch_file
use Rattle.fsrs6.proofs.file.fsrs_batch_file_fault
use Rattle.fsrs6.proofs.why.ReasonNumbersFromResultExplainedRefusal.from as reason_numbers_from
use Rattle.fsrs6.proofs.why.FaultNumbersFromResultUnitFault.from as fault_numbers_from
use Rattle.fsrs6.proofs.why.fsrs_explain_step
use Rattle.fsrs6.proofs.why.fsrs_batch_loss_fault
use Rattle.fsrs6.proofs.why.fsrs_batch_loss_and_grad_fault
use Rattle.fsrs6.proofs.why.fsrs_card_loss_fault
use Rattle.fsrs6.proofs.why.fsrs_card_loss_and_grad_fault

-- fsrs6::arithmetic
pub one_fsrs_exp_f32 : One fsrs_exp_f32.Kinds.ps fsrs_exp_f32.Kinds.r fsrs_exp_f32.Reads.Post
one_fsrs_exp_f32 = one (λ κs a o c. c ⨾ none ⨾ end)

pub one_fsrs_exp_f64 : One fsrs_exp_f64.Kinds.ps fsrs_exp_f64.Kinds.r fsrs_exp_f64.Reads.Post
one_fsrs_exp_f64 = one (λ κs a o c. c ⨾ none ⨾ end)

pub one_fsrs_expm1_f32 : One fsrs_expm1_f32.Kinds.ps fsrs_expm1_f32.Kinds.r fsrs_expm1_f32.Reads.Post
one_fsrs_expm1_f32 = one (λ κs a o c. c ⨾ none ⨾ end)

pub one_fsrs_ln_f32 : One fsrs_ln_f32.Kinds.ps fsrs_ln_f32.Kinds.r fsrs_ln_f32.Reads.Post
one_fsrs_ln_f32 = one (λ κs a o c. c ⨾ none ⨾ end)

pub one_fsrs_ln_f64 : One fsrs_ln_f64.Kinds.ps fsrs_ln_f64.Kinds.r fsrs_ln_f64.Reads.Post
one_fsrs_ln_f64 = one (λ κs a o c. c ⨾ none ⨾ end)

pub one_fsrs_pow_f32 : One fsrs_pow_f32.Kinds.ps fsrs_pow_f32.Kinds.r fsrs_pow_f32.Reads.Post
one_fsrs_pow_f32 = one (λ κs a o c. c ⨾ none ⨾ none ⨾ end)

pub one_fsrs_pow_f64 : One fsrs_pow_f64.Kinds.ps fsrs_pow_f64.Kinds.r fsrs_pow_f64.Reads.Post
one_fsrs_pow_f64 = one (λ κs a o c. c ⨾ none ⨾ none ⨾ end)

pub one_fsrs_fma_f32 : One fsrs_fma_f32.Kinds.ps fsrs_fma_f32.Kinds.r fsrs_fma_f32.Reads.Post
one_fsrs_fma_f32 = one (λ κs a o c. c ⨾ none ⨾ none ⨾ none ⨾ end)

pub one_fsrs_fma_f64 : One fsrs_fma_f64.Kinds.ps fsrs_fma_f64.Kinds.r fsrs_fma_f64.Reads.Post
one_fsrs_fma_f64 = one (λ κs a o c. c ⨾ none ⨾ none ⨾ none ⨾ end)

pub one_fsrs_round_f32 : One fsrs_round_f32.Kinds.ps fsrs_round_f32.Kinds.r fsrs_round_f32.Reads.Post
one_fsrs_round_f32 = one (λ κs a o c. c ⨾ none ⨾ end)

pub one_fsrs_round_f64 : One fsrs_round_f64.Kinds.ps fsrs_round_f64.Kinds.r fsrs_round_f64.Reads.Post
one_fsrs_round_f64 = one (λ κs a o c. c ⨾ none ⨾ end)

-- fsrs6::study
pub one_fsrs_power_forgetting_curve : One fsrs_power_forgetting_curve.Kinds.ps fsrs_power_forgetting_curve.Kinds.r fsrs_power_forgetting_curve.Reads.Post
one_fsrs_power_forgetting_curve = one (λ κs a o c. c.0 ⨾ none ⨾ none ⨾ none ⨾ c.1 ⨾ end)

pub one_fsrs_next_interval : One fsrs_next_interval.Kinds.ps fsrs_next_interval.Kinds.r fsrs_next_interval.Reads.Post
one_fsrs_next_interval = one (λ κs a o c. c.0 ⨾ none ⨾ none ⨾ none ⨾ c.1 ⨾ end)

pub one_fsrs_next_state : One fsrs_next_state.Kinds.ps fsrs_next_state.Kinds.r fsrs_next_state.Reads.Post
one_fsrs_next_state = one (λ κs a o c. c.0 ⨾ none ⨾ none ⨾ none ⨾ none ⨾ none ⨾ c.1 ⨾ c.2 ⨾ end)

pub one_fsrs_next_state_on : One fsrs_next_state_on.Kinds.ps fsrs_next_state_on.Kinds.r fsrs_next_state_on.Reads.Post
one_fsrs_next_state_on = one (λ κs a o c. c.0 ⨾ none ⨾ none ⨾ none ⨾ none ⨾ none ⨾ none ⨾ c.1 ⨾ c.2 ⨾ c.3 ⨾ end)

pub one_fsrs_check_row : One fsrs_check_row.Kinds.ps fsrs_check_row.Kinds.r fsrs_check_row.Reads.Post
one_fsrs_check_row = one (λ κs a o c. c.0 ⨾ none ⨾ none ⨾ none ⨾ none ⨾ none ⨾ none ⨾ none ⨾ none ⨾ none ⨾ c.1 ⨾ end)

pub one_fsrs_first_state : One fsrs_first_state.Kinds.ps fsrs_first_state.Kinds.r fsrs_first_state.Reads.Post
one_fsrs_first_state = one (λ κs a o c. c.0 ⨾ none ⨾ none ⨾ c.1 ⨾ c.2 ⨾ end)

pub one_fsrs_memory_state_from_sm2 : One fsrs_memory_state_from_sm2.Kinds.ps fsrs_memory_state_from_sm2.Kinds.r fsrs_memory_state_from_sm2.Reads.Post
one_fsrs_memory_state_from_sm2 = one (λ κs a o c. c.0 ⨾ none ⨾ none ⨾ none ⨾ none ⨾ c.1 ⨾ c.2 ⨾ end)

pub one_fsrs_check_and_fill_parameters : One fsrs_check_and_fill_parameters.Kinds.ps fsrs_check_and_fill_parameters.Kinds.r fsrs_check_and_fill_parameters.Reads.Post
one_fsrs_check_and_fill_parameters = one (λ κs a o c. c.0 ⨾ none ⨾ c.1 ⨾ end)

-- fsrs6_stability
pub one_fsrs_stability_after_success : One fsrs_stability_after_success.Kinds.ps fsrs_stability_after_success.Kinds.r fsrs_stability_after_success.Reads.Post
one_fsrs_stability_after_success = one (λ κs a o c. c.0 ⨾ none ⨾ none ⨾ none ⨾ none ⨾ none ⨾ c.1 ⨾ end)

pub one_fsrs_stability_after_failure : One fsrs_stability_after_failure.Kinds.ps fsrs_stability_after_failure.Kinds.r fsrs_stability_after_failure.Reads.Post
one_fsrs_stability_after_failure = one (λ κs a o c. c.0 ⨾ none ⨾ none ⨾ none ⨾ none ⨾ c.1 ⨾ end)

pub one_fsrs_stability_short_term : One fsrs_stability_short_term.Kinds.ps fsrs_stability_short_term.Kinds.r fsrs_stability_short_term.Reads.Post
one_fsrs_stability_short_term = one (λ κs a o c. c.0 ⨾ none ⨾ none ⨾ none ⨾ c.1 ⨾ end)

-- fsrs6_difficulty
pub one_fsrs_init_difficulty : One fsrs_init_difficulty.Kinds.ps fsrs_init_difficulty.Kinds.r fsrs_init_difficulty.Reads.Post
one_fsrs_init_difficulty = one (λ κs a o c. c.0 ⨾ none ⨾ none ⨾ c.1 ⨾ end)

pub one_fsrs_mean_reversion : One fsrs_mean_reversion.Kinds.ps fsrs_mean_reversion.Kinds.r fsrs_mean_reversion.Reads.Post
one_fsrs_mean_reversion = one (λ κs a o c. c.0 ⨾ none ⨾ none ⨾ none ⨾ c.1 ⨾ end)

pub one_fsrs_next_difficulty : One fsrs_next_difficulty.Kinds.ps fsrs_next_difficulty.Kinds.r fsrs_next_difficulty.Reads.Post
one_fsrs_next_difficulty = one (λ κs a o c. c.0 ⨾ none ⨾ none ⨾ none ⨾ c.1 ⨾ end)

-- fsrs6::step
pub one_fsrs_training_step : One fsrs_training_step.Kinds.ps fsrs_training_step.Kinds.r fsrs_training_step.Reads.Post
one_fsrs_training_step = one (λ κs a o c. c.0 ⨾ none ⨾ none ⨾ none ⨾ none ⨾ none ⨾ none ⨾ c.1 ⨾ c.2 ⨾ c.3 ⨾ end)

pub one_fsrs_training_step_backward : One fsrs_training_step_backward.Kinds.ps fsrs_training_step_backward.Kinds.r fsrs_training_step_backward.Reads.Post
one_fsrs_training_step_backward = one (λ κs a o c. c.0 ⨾ none ⨾ none ⨾ none ⨾ none ⨾ none ⨾ none ⨾ none ⨾ none ⨾ none ⨾ c.1 ⨾ c.2 ⨾ c.3 ⨾ end)

-- fsrs6::prefixes
pub one_fsrs_batch_loss_and_grad : One fsrs_batch_loss_and_grad.Kinds.ps fsrs_batch_loss_and_grad.Kinds.r fsrs_batch_loss_and_grad.Reads.Post
one_fsrs_batch_loss_and_grad = one (λ κs a o c. c.0.0 ⨾ none ⨾ none ⨾ none ⨾ none ⨾ none ⨾ none ⨾ none ⨾ none ⨾ none ⨾ c.1.0 ⨾ c.1.1 ⨾ c.0.1 ⨾ end)

pub one_fsrs_batch_loss_and_grad_in : One fsrs_batch_loss_and_grad_in.Kinds.ps fsrs_batch_loss_and_grad_in.Kinds.r fsrs_batch_loss_and_grad_in.Reads.Post
one_fsrs_batch_loss_and_grad_in = one (λ κs a o c. c.0.0 ⨾ none ⨾ none ⨾ none ⨾ none ⨾ none ⨾ none ⨾ none ⨾ none ⨾ none ⨾ none ⨾ c.1.0 ⨾ c.1.1 ⨾ c.0.1 ⨾ end)

pub one_fsrs_batch_loss : One fsrs_batch_loss.Kinds.ps fsrs_batch_loss.Kinds.r fsrs_batch_loss.Reads.Post
one_fsrs_batch_loss = one (λ κs a o c. c.0 ⨾ none ⨾ none ⨾ none ⨾ none ⨾ none ⨾ none ⨾ none ⨾ none ⨾ none ⨾ c.1 ⨾ end)

pub one_fsrs_batch_loss_in : One fsrs_batch_loss_in.Kinds.ps fsrs_batch_loss_in.Kinds.r fsrs_batch_loss_in.Reads.Post
one_fsrs_batch_loss_in = one (λ κs a o c. c.0 ⨾ none ⨾ none ⨾ none ⨾ none ⨾ none ⨾ none ⨾ none ⨾ none ⨾ none ⨾ none ⨾ c.1 ⨾ end)

-- fsrs6::cards
pub one_fsrs_card_loss_and_grad : One fsrs_card_loss_and_grad.Kinds.ps fsrs_card_loss_and_grad.Kinds.r fsrs_card_loss_and_grad.Reads.Post
one_fsrs_card_loss_and_grad = one (λ κs a o c. c.0.0 ⨾ none ⨾ none ⨾ none ⨾ none ⨾ none ⨾ none ⨾ none ⨾ none ⨾ c.1.0 ⨾ c.1.1 ⨾ c.1.2 ⨾ c.0.1 ⨾ end)

pub one_fsrs_card_loss_and_grad_in : One fsrs_card_loss_and_grad_in.Kinds.ps fsrs_card_loss_and_grad_in.Kinds.r fsrs_card_loss_and_grad_in.Reads.Post
one_fsrs_card_loss_and_grad_in = one (λ κs a o c. c.0.0 ⨾ none ⨾ none ⨾ none ⨾ none ⨾ none ⨾ none ⨾ none ⨾ none ⨾ none ⨾ c.1.0 ⨾ c.1.1 ⨾ c.1.2 ⨾ c.0.1 ⨾ end)

pub one_fsrs_card_loss : One fsrs_card_loss.Kinds.ps fsrs_card_loss.Kinds.r fsrs_card_loss.Reads.Post
one_fsrs_card_loss = one (λ κs a o c. c.0 ⨾ none ⨾ none ⨾ none ⨾ none ⨾ none ⨾ none ⨾ none ⨾ none ⨾ c.1 ⨾ end)

pub one_fsrs_card_loss_in : One fsrs_card_loss_in.Kinds.ps fsrs_card_loss_in.Kinds.r fsrs_card_loss_in.Reads.Post
one_fsrs_card_loss_in = one (λ κs a o c. c.0 ⨾ none ⨾ none ⨾ none ⨾ none ⨾ none ⨾ none ⨾ none ⨾ none ⨾ none ⨾ c.1 ⨾ end)

-- fsrs6::penalty
pub one_fsrs_l2_penalty : One fsrs_l2_penalty.Kinds.ps fsrs_l2_penalty.Kinds.r fsrs_l2_penalty.Reads.Post
one_fsrs_l2_penalty = one (λ κs a o c. c.0 ⨾ none ⨾ none ⨾ none ⨾ none ⨾ none ⨾ none ⨾ c.2 ⨾ c.1 ⨾ end)

-- fsrs6::initialization
pub one_fsrs_initial_stability : One fsrs_initial_stability.Kinds.ps fsrs_initial_stability.Kinds.r fsrs_initial_stability.Reads.Post
one_fsrs_initial_stability = one (λ κs a o c. c.0 ⨾ none ⨾ none ⨾ none ⨾ none ⨾ c.1 ⨾ end)

-- fsrs6::file
pub one_fsrs_batch_file : One fsrs_batch_file.Kinds.ps fsrs_batch_file.Kinds.r fsrs_batch_file.Reads.Post
one_fsrs_batch_file = one (λ κs a o c. c.0.0 ⨾ none ⨾ c.1 ⨾ c.0.1 ⨾ end)

pub one_fsrs_batch_file_fault : One fsrs_batch_file_fault.Kinds.ps fsrs_batch_file_fault.Kinds.r fsrs_batch_file_fault.Reads.Post
one_fsrs_batch_file_fault = one (λ κs a o c. c ⨾ none ⨾ end)

-- fsrs6::why
pub one_reason_numbers_from : One reason_numbers_from.Kinds.ps reason_numbers_from.Kinds.r reason_numbers_from.Reads.Post
one_reason_numbers_from = one (λ κs a o c. c ⨾ none ⨾ end)

pub one_fault_numbers_from : One fault_numbers_from.Kinds.ps fault_numbers_from.Kinds.r fault_numbers_from.Reads.Post
one_fault_numbers_from = one (λ κs a o c. c ⨾ none ⨾ end)

pub one_fsrs_explain_step : One fsrs_explain_step.Kinds.ps fsrs_explain_step.Kinds.r fsrs_explain_step.Reads.Post
one_fsrs_explain_step = one (λ κs a o c. c ⨾ none ⨾ none ⨾ none ⨾ none ⨾ none ⨾ none ⨾ end)

pub one_fsrs_batch_loss_fault : One fsrs_batch_loss_fault.Kinds.ps fsrs_batch_loss_fault.Kinds.r fsrs_batch_loss_fault.Reads.Post
one_fsrs_batch_loss_fault = one (λ κs a o c. c ⨾ none ⨾ none ⨾ none ⨾ none ⨾ none ⨾ none ⨾ none ⨾ none ⨾ none ⨾ none ⨾ end)

pub one_fsrs_batch_loss_and_grad_fault : One fsrs_batch_loss_and_grad_fault.Kinds.ps fsrs_batch_loss_and_grad_fault.Kinds.r fsrs_batch_loss_and_grad_fault.Reads.Post
one_fsrs_batch_loss_and_grad_fault = one (λ κs a o c. c ⨾ none ⨾ none ⨾ none ⨾ none ⨾ none ⨾ none ⨾ none ⨾ none ⨾ none ⨾ none ⨾ none ⨾ none ⨾ end)

pub one_fsrs_card_loss_fault : One fsrs_card_loss_fault.Kinds.ps fsrs_card_loss_fault.Kinds.r fsrs_card_loss_fault.Reads.Post
one_fsrs_card_loss_fault = one (λ κs a o c. c ⨾ none ⨾ none ⨾ none ⨾ none ⨾ none ⨾ none ⨾ none ⨾ none ⨾ none ⨾ end)

pub one_fsrs_card_loss_and_grad_fault : One fsrs_card_loss_and_grad_fault.Kinds.ps fsrs_card_loss_and_grad_fault.Kinds.r fsrs_card_loss_and_grad_fault.Reads.Post
one_fsrs_card_loss_and_grad_fault = one (λ κs a o c. c ⨾ none ⨾ none ⨾ none ⨾ none ⨾ none ⨾ none ⨾ none ⨾ none ⨾ none ⨾ none ⨾ none ⨾ none ⨾ end)
