-- One outcome: the pull toward the old weights, a starting stability, and the batch file. A line for each function: its answer, then each parameter in turn. Assumes nothing.
use Rattle.outcomes.specs.Outcome.{One, one, one_by}
use Rattle.std.proofs.Common.{sym, ◌∙◌}
use Rattle.analytic_v6.proofs.Results as losses
use Rattle.parameter_initialization.proofs.Results as starts
use Rattle.checks.proofs.OneFault.{same_fault}
use Rattle.training_v7.proofs.Results.{answered_one}
use Rattle.outcomes.proofs.Tuples.{◌⨾◌, none, end}
use Rattle.training_v7.proofs.penalty.l2_penalty_value_and_grad
use Rattle.batch.proofs.fault.file_fault
use Rattle.parameter_initialization.proofs.derivatives.loss_derivatives
use Rattle.parameter_initialization.proofs.stability.initial_stability
use Rattle.batch.proofs.run_file

-- training_v7::penalty
pub one_l2_penalty_value_and_grad : One l2_penalty_value_and_grad.Kinds.ps l2_penalty_value_and_grad.Kinds.r l2_penalty_value_and_grad.Reads.Post
one_l2_penalty_value_and_grad = one_by (λ κs. answered_one) (λ κs a o c. c.0 ⨾ none ⨾ none ⨾ none ⨾ none ⨾ none ⨾ none ⨾ c.1 ⨾ end)

-- parameter_initialization::derivatives
pub one_loss_derivatives : One loss_derivatives.Kinds.ps loss_derivatives.Kinds.r loss_derivatives.Reads.Post
one_loss_derivatives = one (λ κs a o c. c ⨾ none ⨾ none ⨾ none ⨾ none ⨾ end)

-- parameter_initialization::stability
pub one_initial_stability : One initial_stability.Kinds.ps initial_stability.Kinds.r initial_stability.Reads.Post
one_initial_stability = one_by (λ κs. starts.answered_one) (λ κs a o c. c ⨾ none ⨾ none ⨾ none ⨾ none ⨾ end)

-- batch
pub one_run_file : One run_file.Kinds.ps run_file.Kinds.r run_file.Reads.Post
one_run_file = one_by (λ κs. losses.answered_one) (λ κs a o c. c.0 ⨾ none ⨾ c.1 ⨾ end)

-- batch::fault
pub one_file_fault : One file_fault.Kinds.ps file_fault.Kinds.r file_fault.Reads.Post
one_file_fault = record { same = λ κs a o o' c c'. same_fault _ o.0 o'.0 (c.1.0 ∙ sym c'.1.0) c.1.1 c'.1.1 ⨾ none ⨾ end }
