-- One outcome of the loss entries, at any layout of the step records, and of the training step and its reverse; and of those that lend, that
-- a refused call leaves what it was lent as it was. Assumes nothing.
use mathlib.Core.Path.{ap, ◌∙◌}
use denote.RattleType.{RattleType}
use denote.Param.Laws.{Laws, IsCopy}
use mir.Syntax.{Dict}
use Rattle.std.specs.declared.clone.Clone
use Rattle.columns.specs.declared.layout.Layout
use Rattle.analytic_v6.specs.Results.{answered, reverse_answered}
use Rattle.analytic_v6.proofs.Results.{answered_one, step_answered_one, reverse_answered_one}
use Rattle.outcomes.specs.Outcome.{One, Sole, one_by, one_of, sole, Kept, keeps}
use Rattle.outcomes.proofs.Tuples.{◌⨾◌, none, end, still, back}
use Rattle.outcomes.proofs.Refused.{refused}
use Rattle.analytic_v6.proofs.prefixes.loss.batch_loss
use Rattle.analytic_v6.proofs.prefixes.grad.batch_loss_and_grad
use Rattle.analytic_v6.proofs.cards.loss.card_loss
use Rattle.analytic_v6.proofs.cards.grad.card_loss_and_grad
use Rattle.analytic_v6.proofs.step.training_step
use Rattle.analytic_v6.proofs.step.training_step_backward

-- analytic_v6::prefixes::loss
pub one_batch_loss : One batch_loss.Kinds.ps batch_loss.Kinds.r batch_loss.Reads.Post
one_batch_loss = one_by (λ κs. answered_one) (λ κs a o c. c ⨾ none ⨾ none ⨾ end)

-- analytic_v6::cards::loss
pub one_card_loss : One card_loss.Kinds.ps card_loss.Kinds.r card_loss.Reads.Post
one_card_loss = one_by (λ κs. answered_one) (λ κs a o c. c ⨾ none ⨾ none ⨾ end)

-- over any layout: L, of cells C
module _ (L C : RattleType) (L1 : Laws L) (L2 : Laws C) (K : IsCopy C) (G1 : Layout.Ghosts L.Denot C.Denot) (D1 : Dict) (G2 : Clone.Ghosts C.Denot) (D2 : Dict) where
  -- analytic_v6::prefixes::grad
  pub sole_batch_loss_and_grad : Sole (batch_loss_and_grad.Kinds.ps L C L1 L2 K) (batch_loss_and_grad.Kinds.r L C L1 L2 K) (batch_loss_and_grad.Reads.Post L C L1 L2 K G1 D1 G2 D2)
  sole_batch_loss_and_grad = sole (λ κs. answered_one) (λ κs a o c. c.0 ⨾ none ⨾ none ⨾ c.1.0 ⨾ c.1.1 ⨾ end)

  pub one_batch_loss_and_grad : One (batch_loss_and_grad.Kinds.ps L C L1 L2 K) (batch_loss_and_grad.Kinds.r L C L1 L2 K) (batch_loss_and_grad.Reads.Post L C L1 L2 K G1 D1 G2 D2)
  one_batch_loss_and_grad = one_of sole_batch_loss_and_grad

  pub kept_batch_loss_and_grad : Kept (batch_loss_and_grad.Kinds.ps L C L1 L2 K) (batch_loss_and_grad.Kinds.r L C L1 L2 K) (λ κs a z. (answered z).refusal) (λ κs e. e) (batch_loss_and_grad.Reads.Post L C L1 L2 K G1 D1 G2 D2)
  kept_batch_loss_and_grad = keeps (λ κs a o c. ap (λ z. z.refusal) c.0) (λ κs a o c h. still ⨾ still ⨾ back (c.1.0 ∙ search refused) ⨾ back (c.1.1 ∙ search refused) ⨾ end)

  -- analytic_v6::cards::grad
  pub sole_card_loss_and_grad : Sole (card_loss_and_grad.Kinds.ps L C L1 L2 K) (card_loss_and_grad.Kinds.r L C L1 L2 K) (card_loss_and_grad.Reads.Post L C L1 L2 K G1 D1 G2 D2)
  sole_card_loss_and_grad = sole (λ κs. answered_one) (λ κs a o c. c.0 ⨾ none ⨾ none ⨾ c.1.0 ⨾ c.1.1.0 ⨾ c.1.1.1 ⨾ end)

  pub one_card_loss_and_grad : One (card_loss_and_grad.Kinds.ps L C L1 L2 K) (card_loss_and_grad.Kinds.r L C L1 L2 K) (card_loss_and_grad.Reads.Post L C L1 L2 K G1 D1 G2 D2)
  one_card_loss_and_grad = one_of sole_card_loss_and_grad

  pub kept_card_loss_and_grad : Kept (card_loss_and_grad.Kinds.ps L C L1 L2 K) (card_loss_and_grad.Kinds.r L C L1 L2 K) (λ κs a z. (answered z).refusal) (λ κs e. e) (card_loss_and_grad.Reads.Post L C L1 L2 K G1 D1 G2 D2)
  kept_card_loss_and_grad = keeps (λ κs a o c. ap (λ z. z.refusal) c.0) (λ κs a o c h. still ⨾ still ⨾ back (c.1.0 ∙ search refused) ⨾ back (c.1.1.0 ∙ search refused) ⨾ back (c.1.1.1 ∙ search refused) ⨾ end)

-- analytic_v6::step
pub one_training_step : One training_step.Kinds.ps training_step.Kinds.r training_step.Reads.Post
one_training_step = one_by (λ κs. step_answered_one) (λ κs a o c. c ⨾ none ⨾ none ⨾ none ⨾ none ⨾ none ⨾ end)

pub one_training_step_backward : One training_step_backward.Kinds.ps training_step_backward.Kinds.r training_step_backward.Reads.Post
one_training_step_backward = one_by (λ κs. reverse_answered_one) (λ κs a o c. c.0 ⨾ none ⨾ none ⨾ none ⨾ none ⨾ none ⨾ none ⨾ c.1 ⨾ end)

pub kept_training_step_backward : Kept training_step_backward.Kinds.ps training_step_backward.Kinds.r (λ κs a z. (reverse_answered z).refusal) (λ κs e. e) training_step_backward.Reads.Post
kept_training_step_backward = keeps (λ κs a o c. ap (λ z. z.refusal) c.0) (λ κs a o c h. still ⨾ still ⨾ still ⨾ still ⨾ still ⨾ still ⨾ back (c.1 ∙ search refused) ⨾ end)
