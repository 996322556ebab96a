-- Demand 1: a refused call leaves each lent slice and place as it was. A line for each function that lends by `&mut` and can refuse. Assumes nothing.
use mathlib.Core.Path.{ap, ◌∙◌}
use Rattle.outcomes.specs.Outcome.{Kept, keeps}
use Rattle.outcomes.proofs.Tuples.{◌⨾◌, end, still, back}
use Rattle.outcomes.proofs.Refused.{refused}
use Rattle.training_v7.specs.Penalty.{answered}
use Rattle.training_v7.proofs.penalty.l2_penalty_value_and_grad
use Rattle.analytic_v6.specs.Results as losses
use Rattle.batch.proofs.run_file
use Rattle.fsrs6.proofs.study.fsrs_power_forgetting_curve
use Rattle.fsrs6.proofs.study.fsrs_next_interval
use Rattle.fsrs6.proofs.study.fsrs_next_state
use Rattle.fsrs6.proofs.study.fsrs_next_state_on
use Rattle.fsrs6.proofs.study.fsrs_check_row
use Rattle.fsrs6.proofs.study.fsrs_first_state
use Rattle.fsrs6.proofs.study.fsrs_memory_state_from_sm2
use Rattle.fsrs6.proofs.study.fsrs_check_and_fill_parameters
use Rattle.fsrs6.proofs.study.fsrs_stability_after_success
use Rattle.fsrs6.proofs.study.fsrs_stability_after_failure
use Rattle.fsrs6.proofs.study.fsrs_stability_short_term
use Rattle.fsrs6.proofs.study.fsrs_init_difficulty
use Rattle.fsrs6.proofs.study.fsrs_mean_reversion
use Rattle.fsrs6.proofs.study.fsrs_next_difficulty
use Rattle.fsrs6.proofs.step.fsrs_training_step
use Rattle.fsrs6.proofs.step.fsrs_training_step_backward
use Rattle.fsrs6.proofs.prefixes.fsrs_batch_loss_and_grad
use Rattle.fsrs6.proofs.prefixes.fsrs_batch_loss_and_grad_in
use Rattle.fsrs6.proofs.prefixes.fsrs_batch_loss
use Rattle.fsrs6.proofs.prefixes.fsrs_batch_loss_in
use Rattle.fsrs6.proofs.cards.fsrs_card_loss_and_grad
use Rattle.fsrs6.proofs.cards.fsrs_card_loss_and_grad_in
use Rattle.fsrs6.proofs.cards.fsrs_card_loss
use Rattle.fsrs6.proofs.cards.fsrs_card_loss_in
use Rattle.fsrs6.proofs.penalty.fsrs_l2_penalty
use Rattle.fsrs6.proofs.initialization.fsrs_initial_stability
use Rattle.fsrs6.proofs.file.fsrs_batch_file

-- These lend by `&mut` and have no refusal: what each leaves is stated by its contract, for every call.
-- never refuse: checks::tables::put_cell
-- never refuse: columns::records::ColumnsLayout::store columns::step_records::StepsLayout::store columns::untraced::UntracedLayout::store
-- never refuse: backward::curve::curve_backward
-- never refuse: backward::step::step_backward columns::backward_pass::column_backward columns::forward_pass::prefix_forward_recorded columns::forward_pass::card_forward_recorded
-- never refuse: columns::last_review::target_end columns::last_review::last_end

-- training_v7::penalty
pub kept_l2_penalty_value_and_grad : Kept l2_penalty_value_and_grad.Kinds.ps l2_penalty_value_and_grad.Kinds.r (λ κs a z. (answered z).refusal) (λ κs e. e) l2_penalty_value_and_grad.Reads.Post
kept_l2_penalty_value_and_grad = keeps (λ κs a o c. ap (λ z. z.refusal) c.0) (λ κs a o c h. still ⨾ still ⨾ still ⨾ still ⨾ still ⨾ still ⨾ back (c.1 ∙ search refused) ⨾ end)

-- batch
pub kept_run_file : Kept run_file.Kinds.ps run_file.Kinds.r (λ κs a z. (losses.answered z).refusal) (λ κs e. e) run_file.Reads.Post
kept_run_file = keeps (λ κs a o c. ap (λ z. z.refusal) c.0) (λ κs a o c h. still ⨾ back (c.1 ∙ search refused) ⨾ end)

-- fsrs6::study
pub kept_fsrs_power_forgetting_curve : Kept fsrs_power_forgetting_curve.Kinds.ps fsrs_power_forgetting_curve.Kinds.r (λ κs a n. n) (λ κs e. e) fsrs_power_forgetting_curve.Reads.Post
kept_fsrs_power_forgetting_curve = keeps (λ κs a o c. c.0) (λ κs a o c h. still ⨾ still ⨾ still ⨾ back (c.1 ∙ search refused) ⨾ end)

pub kept_fsrs_next_interval : Kept fsrs_next_interval.Kinds.ps fsrs_next_interval.Kinds.r (λ κs a n. n) (λ κs e. e) fsrs_next_interval.Reads.Post
kept_fsrs_next_interval = keeps (λ κs a o c. c.0) (λ κs a o c h. still ⨾ still ⨾ still ⨾ back (c.1 ∙ search refused) ⨾ end)

pub kept_fsrs_next_state : Kept fsrs_next_state.Kinds.ps fsrs_next_state.Kinds.r (λ κs a n. n) (λ κs e. e) fsrs_next_state.Reads.Post
kept_fsrs_next_state = keeps (λ κs a o c. c.0) (λ κs a o c h. still ⨾ still ⨾ still ⨾ still ⨾ still ⨾ back (c.1 ∙ search refused) ⨾ back (c.2 ∙ search refused) ⨾ end)

pub kept_fsrs_next_state_on : Kept fsrs_next_state_on.Kinds.ps fsrs_next_state_on.Kinds.r (λ κs a n. n) (λ κs e. e) fsrs_next_state_on.Reads.Post
kept_fsrs_next_state_on = keeps (λ κs a o c. c.0) (λ κs a o c h. still ⨾ still ⨾ still ⨾ still ⨾ still ⨾ still ⨾ back (c.1 ∙ search refused) ⨾ back (c.2 ∙ search refused) ⨾ back (c.3 ∙ search refused) ⨾ end)

pub kept_fsrs_check_row : Kept fsrs_check_row.Kinds.ps fsrs_check_row.Kinds.r (λ κs a n. n) (λ κs e. e) fsrs_check_row.Reads.Post
kept_fsrs_check_row = keeps (λ κs a o c. c.0) (λ κs a o c h. still ⨾ still ⨾ still ⨾ still ⨾ still ⨾ still ⨾ still ⨾ still ⨾ still ⨾ back (c.1 ∙ search refused) ⨾ end)

pub kept_fsrs_first_state : Kept fsrs_first_state.Kinds.ps fsrs_first_state.Kinds.r (λ κs a n. n) (λ κs e. e) fsrs_first_state.Reads.Post
kept_fsrs_first_state = keeps (λ κs a o c. c.0) (λ κs a o c h. still ⨾ still ⨾ back (c.1 ∙ search refused) ⨾ back (c.2 ∙ search refused) ⨾ end)

pub kept_fsrs_memory_state_from_sm2 : Kept fsrs_memory_state_from_sm2.Kinds.ps fsrs_memory_state_from_sm2.Kinds.r (λ κs a n. n) (λ κs e. e) fsrs_memory_state_from_sm2.Reads.Post
kept_fsrs_memory_state_from_sm2 = keeps (λ κs a o c. c.0) (λ κs a o c h. still ⨾ still ⨾ still ⨾ still ⨾ back (c.1 ∙ search refused) ⨾ back (c.2 ∙ search refused) ⨾ end)

pub kept_fsrs_check_and_fill_parameters : Kept fsrs_check_and_fill_parameters.Kinds.ps fsrs_check_and_fill_parameters.Kinds.r (λ κs a n. n) (λ κs e. e) fsrs_check_and_fill_parameters.Reads.Post
kept_fsrs_check_and_fill_parameters = keeps (λ κs a o c. c.0) (λ κs a o c h. still ⨾ back (c.1 ∙ search refused) ⨾ end)

-- fsrs6_stability
pub kept_fsrs_stability_after_success : Kept fsrs_stability_after_success.Kinds.ps fsrs_stability_after_success.Kinds.r (λ κs a n. n) (λ κs e. e) fsrs_stability_after_success.Reads.Post
kept_fsrs_stability_after_success = keeps (λ κs a o c. c.0) (λ κs a o c h. still ⨾ still ⨾ still ⨾ still ⨾ still ⨾ back (c.1 ∙ search refused) ⨾ end)

pub kept_fsrs_stability_after_failure : Kept fsrs_stability_after_failure.Kinds.ps fsrs_stability_after_failure.Kinds.r (λ κs a n. n) (λ κs e. e) fsrs_stability_after_failure.Reads.Post
kept_fsrs_stability_after_failure = keeps (λ κs a o c. c.0) (λ κs a o c h. still ⨾ still ⨾ still ⨾ still ⨾ back (c.1 ∙ search refused) ⨾ end)

pub kept_fsrs_stability_short_term : Kept fsrs_stability_short_term.Kinds.ps fsrs_stability_short_term.Kinds.r (λ κs a n. n) (λ κs e. e) fsrs_stability_short_term.Reads.Post
kept_fsrs_stability_short_term = keeps (λ κs a o c. c.0) (λ κs a o c h. still ⨾ still ⨾ still ⨾ back (c.1 ∙ search refused) ⨾ end)

-- fsrs6_difficulty
pub kept_fsrs_init_difficulty : Kept fsrs_init_difficulty.Kinds.ps fsrs_init_difficulty.Kinds.r (λ κs a n. n) (λ κs e. e) fsrs_init_difficulty.Reads.Post
kept_fsrs_init_difficulty = keeps (λ κs a o c. c.0) (λ κs a o c h. still ⨾ still ⨾ back (c.1 ∙ search refused) ⨾ end)

pub kept_fsrs_mean_reversion : Kept fsrs_mean_reversion.Kinds.ps fsrs_mean_reversion.Kinds.r (λ κs a n. n) (λ κs e. e) fsrs_mean_reversion.Reads.Post
kept_fsrs_mean_reversion = keeps (λ κs a o c. c.0) (λ κs a o c h. still ⨾ still ⨾ still ⨾ back (c.1 ∙ search refused) ⨾ end)

pub kept_fsrs_next_difficulty : Kept fsrs_next_difficulty.Kinds.ps fsrs_next_difficulty.Kinds.r (λ κs a n. n) (λ κs e. e) fsrs_next_difficulty.Reads.Post
kept_fsrs_next_difficulty = keeps (λ κs a o c. c.0) (λ κs a o c h. still ⨾ still ⨾ still ⨾ back (c.1 ∙ search refused) ⨾ end)

-- fsrs6::step
pub kept_fsrs_training_step : Kept fsrs_training_step.Kinds.ps fsrs_training_step.Kinds.r (λ κs a n. n) (λ κs e. e) fsrs_training_step.Reads.Post
kept_fsrs_training_step = keeps (λ κs a o c. c.0) (λ κs a o c h. still ⨾ still ⨾ still ⨾ still ⨾ still ⨾ still ⨾ back (c.1 ∙ search refused) ⨾ back (c.2 ∙ search refused) ⨾ back (c.3 ∙ search refused) ⨾ end)

pub kept_fsrs_training_step_backward : Kept fsrs_training_step_backward.Kinds.ps fsrs_training_step_backward.Kinds.r (λ κs a n. n) (λ κs e. e) fsrs_training_step_backward.Reads.Post
kept_fsrs_training_step_backward = keeps (λ κs a o c. c.0) (λ κs a o c h. still ⨾ still ⨾ still ⨾ still ⨾ still ⨾ still ⨾ still ⨾ still ⨾ still ⨾ back (c.1 ∙ search refused) ⨾ back (c.2 ∙ search refused) ⨾ back (c.3 ∙ search refused) ⨾ end)

-- fsrs6::prefixes
pub kept_fsrs_batch_loss_and_grad : Kept fsrs_batch_loss_and_grad.Kinds.ps fsrs_batch_loss_and_grad.Kinds.r (λ κs a n. n) (λ κs e. e) fsrs_batch_loss_and_grad.Reads.Post
kept_fsrs_batch_loss_and_grad = keeps (λ κs a o c. c.0.0) (λ κs a o c h. still ⨾ still ⨾ still ⨾ still ⨾ still ⨾ still ⨾ still ⨾ still ⨾ still ⨾ back (c.1.0 ∙ search refused) ⨾ back (c.1.1 ∙ search refused) ⨾ back (c.0.1 ∙ search refused) ⨾ end)

pub kept_fsrs_batch_loss_and_grad_in : Kept fsrs_batch_loss_and_grad_in.Kinds.ps fsrs_batch_loss_and_grad_in.Kinds.r (λ κs a n. n) (λ κs e. e) fsrs_batch_loss_and_grad_in.Reads.Post
kept_fsrs_batch_loss_and_grad_in = keeps (λ κs a o c. c.0.0) (λ κs a o c h. still ⨾ still ⨾ still ⨾ still ⨾ still ⨾ still ⨾ still ⨾ still ⨾ still ⨾ still ⨾ back (c.1.0 ∙ search refused) ⨾ back (c.1.1 ∙ search refused) ⨾ back (c.0.1 ∙ search refused) ⨾ end)

pub kept_fsrs_batch_loss : Kept fsrs_batch_loss.Kinds.ps fsrs_batch_loss.Kinds.r (λ κs a n. n) (λ κs e. e) fsrs_batch_loss.Reads.Post
kept_fsrs_batch_loss = keeps (λ κs a o c. c.0) (λ κs a o c h. still ⨾ still ⨾ still ⨾ still ⨾ still ⨾ still ⨾ still ⨾ still ⨾ still ⨾ back (c.1 ∙ search refused) ⨾ end)

pub kept_fsrs_batch_loss_in : Kept fsrs_batch_loss_in.Kinds.ps fsrs_batch_loss_in.Kinds.r (λ κs a n. n) (λ κs e. e) fsrs_batch_loss_in.Reads.Post
kept_fsrs_batch_loss_in = keeps (λ κs a o c. c.0) (λ κs a o c h. still ⨾ still ⨾ still ⨾ still ⨾ still ⨾ still ⨾ still ⨾ still ⨾ still ⨾ still ⨾ back (c.1 ∙ search refused) ⨾ end)

-- fsrs6::cards
pub kept_fsrs_card_loss_and_grad : Kept fsrs_card_loss_and_grad.Kinds.ps fsrs_card_loss_and_grad.Kinds.r (λ κs a n. n) (λ κs e. e) fsrs_card_loss_and_grad.Reads.Post
kept_fsrs_card_loss_and_grad = keeps (λ κs a o c. c.0.0) (λ κs a o c h. still ⨾ still ⨾ still ⨾ still ⨾ still ⨾ still ⨾ still ⨾ still ⨾ back (c.1.0 ∙ search refused) ⨾ back (c.1.1 ∙ search refused) ⨾ back (c.1.2 ∙ search refused) ⨾ back (c.0.1 ∙ search refused) ⨾ end)

pub kept_fsrs_card_loss_and_grad_in : Kept fsrs_card_loss_and_grad_in.Kinds.ps fsrs_card_loss_and_grad_in.Kinds.r (λ κs a n. n) (λ κs e. e) fsrs_card_loss_and_grad_in.Reads.Post
kept_fsrs_card_loss_and_grad_in = keeps (λ κs a o c. c.0.0) (λ κs a o c h. still ⨾ still ⨾ still ⨾ still ⨾ still ⨾ still ⨾ still ⨾ still ⨾ still ⨾ back (c.1.0 ∙ search refused) ⨾ back (c.1.1 ∙ search refused) ⨾ back (c.1.2 ∙ search refused) ⨾ back (c.0.1 ∙ search refused) ⨾ end)

pub kept_fsrs_card_loss : Kept fsrs_card_loss.Kinds.ps fsrs_card_loss.Kinds.r (λ κs a n. n) (λ κs e. e) fsrs_card_loss.Reads.Post
kept_fsrs_card_loss = keeps (λ κs a o c. c.0) (λ κs a o c h. still ⨾ still ⨾ still ⨾ still ⨾ still ⨾ still ⨾ still ⨾ still ⨾ back (c.1 ∙ search refused) ⨾ end)

pub kept_fsrs_card_loss_in : Kept fsrs_card_loss_in.Kinds.ps fsrs_card_loss_in.Kinds.r (λ κs a n. n) (λ κs e. e) fsrs_card_loss_in.Reads.Post
kept_fsrs_card_loss_in = keeps (λ κs a o c. c.0) (λ κs a o c h. still ⨾ still ⨾ still ⨾ still ⨾ still ⨾ still ⨾ still ⨾ still ⨾ still ⨾ back (c.1 ∙ search refused) ⨾ end)

-- fsrs6::penalty
pub kept_fsrs_l2_penalty : Kept fsrs_l2_penalty.Kinds.ps fsrs_l2_penalty.Kinds.r (λ κs a n. n) (λ κs e. e) fsrs_l2_penalty.Reads.Post
kept_fsrs_l2_penalty = keeps (λ κs a o c. c.0) (λ κs a o c h. still ⨾ still ⨾ still ⨾ still ⨾ still ⨾ still ⨾ back (c.2 ∙ search refused) ⨾ back (c.1 ∙ search refused) ⨾ end)

-- fsrs6::initialization
pub kept_fsrs_initial_stability : Kept fsrs_initial_stability.Kinds.ps fsrs_initial_stability.Kinds.r (λ κs a n. n) (λ κs e. e) fsrs_initial_stability.Reads.Post
kept_fsrs_initial_stability = keeps (λ κs a o c. c.0) (λ κs a o c h. still ⨾ still ⨾ still ⨾ still ⨾ back (c.1 ∙ search refused) ⨾ end)

-- fsrs6::file
pub kept_fsrs_batch_file : Kept fsrs_batch_file.Kinds.ps fsrs_batch_file.Kinds.r (λ κs a n. n) (λ κs e. e) fsrs_batch_file.Reads.Post
kept_fsrs_batch_file = keeps (λ κs a o c. c.0.0) (λ κs a o c h. still ⨾ back (c.1 ∙ search refused) ⨾ back (c.0.1 ∙ search refused) ⨾ end)
