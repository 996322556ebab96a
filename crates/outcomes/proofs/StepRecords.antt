-- Of each function to which a slice of step records is lent: at the layout `Steps` its contract says its claim. Assumes nothing.
use mathlib.Core.List.{List}
use mathlib.Core.Path.{ap, ◌∙◌}
use lib.Ieee.{Float}
use denote.Param.Laws.{Laws, IsCopy}
use mir.Syntax.{Dict}
use Rattle.std.specs.Prelude.{length, get_or}
use Rattle.std.specs.declared.clone.Clone
use Rattle.domain.specs.Doubles.{zero64}
use Rattle.forward.specs.contracts.state.StepRecord.{the_row as StepRecord}
use Rattle.checks.specs.Decks.{prefixes_now, cards_now, history_at}
use Rattle.columns.specs.contracts.step_records.Steps.{the_row as Steps}
use Rattle.columns.specs.contracts.step_records.StepsLayout.TheImpl.{ghosts}
use Rattle.columns.specs.BackwardPass.{start_grad, back_def}
use Rattle.columns.specs.StepRecords.{no_step_def}
use Rattle.columns.proofs.Left.{left_in_steps}
use Rattle.columns.proofs.backward_pass.column_backward
use Rattle.columns.proofs.forward_pass.prefix_forward_recorded
use Rattle.columns.proofs.forward_pass.card_forward_recorded
use Rattle.analytic_v6.proofs.Left.{batch_in_steps, cards_in_steps}
use Rattle.analytic_v6.proofs.prefixes.grad.batch_loss_and_grad
use Rattle.analytic_v6.proofs.cards.grad.card_loss_and_grad
use Rattle.outcomes.specs.StepRecords.{States, prefix_forward_steps_claim, card_forward_steps_claim, prefix_backward_steps_claim, column_backward_steps_claim, batch_loss_and_grad_claim, card_loss_and_grad_claim}

module _ (L1 : Laws Steps) (L2 : Laws StepRecord) (K : IsCopy StepRecord) (D1 : Dict) (G2 : Clone.Ghosts StepRecord.Denot) (D2 : Dict) where
  -- columns::forward_pass
  pub states_prefix_forward_steps :
      States (prefix_forward_recorded.Kinds.ps Steps StepRecord L1 L2 K) (prefix_forward_recorded.Kinds.r Steps StepRecord L1 L2 K) (prefix_forward_recorded.Reads.Post Steps StepRecord L1 L2 K ghosts D1 G2 D2)
      (prefix_forward_steps_claim L1 L2 K D1 G2 D2)
  states_prefix_forward_steps κs (p, (history, (n, (records, none)))) o c = (c.0, c.1 ∙ left_in_steps p.now (history_at history.now) n records.now)

  pub states_card_forward_steps :
      States (card_forward_recorded.Kinds.ps Steps StepRecord L1 L2 K) (card_forward_recorded.Kinds.r Steps StepRecord L1 L2 K) (card_forward_recorded.Reads.Post Steps StepRecord L1 L2 K ghosts D1 G2 D2)
      (card_forward_steps_claim L1 L2 K D1 G2 D2)
  states_card_forward_steps κs (p, (card, (n, (records, (step_grads, none))))) o c = (c.0, c.1.0 ∙ left_in_steps p.now (history_at card.now.history) n records.now, c.1.1)

  -- columns::backward_pass
  pub states_column_backward_steps :
      States (column_backward.Kinds.ps Steps StepRecord L1 L2 K) (column_backward.Kinds.r Steps StepRecord L1 L2 K) (column_backward.Reads.Post Steps StepRecord L1 L2 K ghosts D1 G2 D2)
      (column_backward_steps_claim L1 L2 K D1 G2 D2)
  states_column_backward_steps κs a o c = c

  pub states_prefix_backward_steps :
      States (column_backward.Kinds.ps Steps StepRecord L1 L2 K) (column_backward.Kinds.r Steps StepRecord L1 L2 K) (column_backward.Reads.Post Steps StepRecord L1 L2 K ghosts D1 G2 D2)
      (prefix_backward_steps_claim L1 L2 K D1 G2 D2)
  states_prefix_backward_steps κs (p, (records, (step_grads, (n, (g-s, (gw, none)))))) o c none-lent =
      c ∙ ap (λ (xs : List Float). back_def p.now (λ i. get_or records.now i no_step_def) (λ i. get_or xs i zero64) n (start_grad g-s) gw.now) none-lent

  -- analytic_v6::prefixes::grad
  pub states_batch_loss_and_grad :
      States (batch_loss_and_grad.Kinds.ps Steps StepRecord L1 L2 K) (batch_loss_and_grad.Kinds.r Steps StepRecord L1 L2 K) (batch_loss_and_grad.Reads.Post Steps StepRecord L1 L2 K ghosts D1 G2 D2)
      (batch_loss_and_grad_claim L1 L2 K D1 G2 D2)
  states_batch_loss_and_grad κs (w, (deck, (gw, (records, none)))) o c = (c.0, (c.1.0, c.1.1 ∙ batch_in_steps w.now (prefixes_now deck.now) (length gw.now) records.now))

  -- analytic_v6::cards::grad
  pub states_card_loss_and_grad :
      States (card_loss_and_grad.Kinds.ps Steps StepRecord L1 L2 K) (card_loss_and_grad.Kinds.r Steps StepRecord L1 L2 K) (card_loss_and_grad.Reads.Post Steps StepRecord L1 L2 K ghosts D1 G2 D2)
      (card_loss_and_grad_claim L1 L2 K D1 G2 D2)
  states_card_loss_and_grad κs (w, (deck, (gw, (records, (step_grads, none))))) o c =
      (c.0, (c.1.0, c.1.1.0 ∙ cards_in_steps w.now (cards_now deck.now) (length gw.now) (length step_grads.now) records.now, c.1.1.1))
