-- One outcome: the training step, its reverse and its explanation. A line for each function: its answer, then each parameter in turn. Assumes nothing.
use Rattle.outcomes.specs.Outcome.{One, one, one_by}
use Rattle.outcomes.proofs.Tuples.{◌⨾◌, none, end}
use Rattle.forward.proofs.parameters.init_difficulty
use Rattle.forward.proofs.parameters.RuntimeParams.new as params_new
use Rattle.forward.proofs.curve.curve_forward
use Rattle.forward.proofs.step.clamp_state
use Rattle.forward.proofs.step.rating_number
use Rattle.forward.proofs.step.is_first
use Rattle.forward.proofs.step.step_forward
use Rattle.backward.proofs.slots.stability_grad
use Rattle.backward.proofs.curve.curve_backward
use Rattle.backward.proofs.curve.WideCurveFromCurveCache.from as wide_from
use Rattle.backward.proofs.step.step_backward
use Rattle.explain.proofs.reasons.U32FromHeld.from as held_from
use Rattle.explain.proofs.reasons.U32FromReason.from as reason_from
use Rattle.explain.proofs.Results.{explain_answered_one}
use Rattle.explain.proofs.step.explain_step

-- forward::parameters
pub one_init_difficulty : One init_difficulty.Kinds.ps init_difficulty.Kinds.r init_difficulty.Reads.Post
one_init_difficulty = one (λ κs a o c. c ⨾ none ⨾ none ⨾ end)

pub one_params_new : One params_new.Kinds.ps params_new.Kinds.r params_new.Reads.Post
one_params_new = one (λ κs a o c. c ⨾ none ⨾ end)

-- forward::curve
pub one_curve_forward : One curve_forward.Kinds.ps curve_forward.Kinds.r curve_forward.Reads.Post
one_curve_forward = one (λ κs a o c. c ⨾ none ⨾ none ⨾ none ⨾ end)

-- forward::step
pub one_clamp_state : One clamp_state.Kinds.ps clamp_state.Kinds.r clamp_state.Reads.Post
one_clamp_state = one (λ κs a o c. c ⨾ none ⨾ end)

pub one_rating_number : One rating_number.Kinds.ps rating_number.Kinds.r rating_number.Reads.Post
one_rating_number = one (λ κs a o c. c.0 ⨾ none ⨾ end)

pub one_is_first : One is_first.Kinds.ps is_first.Kinds.r is_first.Reads.Post
one_is_first = one (λ κs a o c. c ⨾ none ⨾ none ⨾ end)

pub one_step_forward : One step_forward.Kinds.ps step_forward.Kinds.r step_forward.Reads.Post
one_step_forward = one (λ κs a o c. c ⨾ none ⨾ none ⨾ none ⨾ none ⨾ none ⨾ end)

-- backward::slots
pub one_stability_grad : One stability_grad.Kinds.ps stability_grad.Kinds.r stability_grad.Reads.Post
one_stability_grad = one (λ κs a o c. c ⨾ none ⨾ end)

-- backward::curve
pub one_curve_backward : One curve_backward.Kinds.ps curve_backward.Kinds.r curve_backward.Reads.Post
one_curve_backward = one (λ κs a o c. c.0 ⨾ none ⨾ none ⨾ none ⨾ c.1 ⨾ end)

pub one_wide_from : One wide_from.Kinds.ps wide_from.Kinds.r wide_from.Reads.Post
one_wide_from = one (λ κs a o c. c ⨾ none ⨾ end)

-- backward::step
pub one_step_backward : One step_backward.Kinds.ps step_backward.Kinds.r step_backward.Reads.Post
one_step_backward = one (λ κs a o c. c.0 ⨾ none ⨾ none ⨾ none ⨾ none ⨾ none ⨾ c.1 ⨾ end)

-- explain::reasons
pub one_held_from : One held_from.Kinds.ps held_from.Kinds.r held_from.Reads.Post
one_held_from = one (λ κs a o c. c ⨾ none ⨾ end)

pub one_reason_from : One reason_from.Kinds.ps reason_from.Kinds.r reason_from.Reads.Post
one_reason_from = one (λ κs a o c. c ⨾ none ⨾ end)

-- explain::step
pub one_explain_step : One explain_step.Kinds.ps explain_step.Kinds.r explain_step.Reads.Post
one_explain_step = one_by (λ κs. explain_answered_one) (λ κs a o c. c ⨾ none ⨾ none ⨾ none ⨾ none ⨾ none ⨾ end)
