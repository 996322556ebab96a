-- What the passes and the loss entries claim where a slice of step records is lent to them, one for each row: at the layout `Steps`, by definitions that know no other layout. proofs/ ties each claim
-- to the contract at the room, store and load that the code gives `Steps`. Assumes nothing.
use Rattle.std.specs.Prelude.{◌≡◌, ℕ, List, [], Float, length, get_or}
use contract.Lifetimes.{Lfts}
use denote.Param.Laws.{Laws, IsCopy}
use mir.Syntax.{Dict}
use borrow.Fn.Kinds.{ParamKind, ResultKind, Out, Dens}
use Rattle.std.specs.declared.clone.Clone
use Rattle.domain.specs.Doubles.{zero64}
use Rattle.forward.specs.contracts.state.StepRecord.{the_row as StepRecord}
use Rattle.checks.specs.Decks.{prefixes_now, cards_now, history_at, rows_of, weights_at}
use Rattle.columns.specs.contracts.step_records.Steps.{the_row as Steps}
use Rattle.columns.specs.BackwardPass.{start_grad, back_def}
use Rattle.columns.specs.ForwardPass.{state_at, run_at, grads_def}
use Rattle.columns.specs.StepRecords.{no_step_def, steps_def}
use Rattle.columns.proofs.backward_pass.column_backward
use Rattle.columns.proofs.forward_pass.prefix_forward_recorded
use Rattle.columns.proofs.forward_pass.card_forward_recorded
use Rattle.analytic_v6.specs.Results.{answered}
use Rattle.analytic_v6.specs.Prefixes.{batch_loss_and_grad_def, BatchLeaves}
use Rattle.analytic_v6.specs.Cards.{cards_loss_and_grad, CardsLeave}
use Rattle.analytic_v6.proofs.prefixes.grad.batch_loss_and_grad
use Rattle.analytic_v6.proofs.cards.grad.card_loss_and_grad
use Rattle.outcomes.specs.Outcome.{Outcome, Claims}

-- A claim of a call's lifetimes, arguments and answer, and of its parameters as the call leaves them; and that a contract says it, of whatever outcome satisfies the contract
abbrev pub States : {n : ℕ} (ps : List (ParamKind n)) (r : ResultKind n) → Out n ps r → Out n ps r → Type 0
States {n} ps r C claim = (κs : Lfts n) (a : Dens κs ps) (o : Outcome ps r κs a) → Claims ps r C κs a o → Claims ps r claim κs a o

module _ (L1 : Laws Steps) (L2 : Laws StepRecord) (K : IsCopy StepRecord) (D1 : Dict) (G2 : Clone.Ghosts StepRecord.Denot) (D2 : Dict) where
  -- prefix_forward_recorded(p, history, n, records)
  abbrev pub prefix_forward_steps_claim : Out 6 (prefix_forward_recorded.Kinds.ps Steps StepRecord L1 L2 K) (prefix_forward_recorded.Kinds.r Steps StepRecord L1 L2 K)
  prefix_forward_steps_claim κs (p, (history, (n, (records, none)))) z (_, (_, (_, (records', _)))) =
      let h = history_at history.now in (z ≡ state_at p.now h n) × (records'.now ≡ steps_def p.now h n records.now)

  -- card_forward_recorded(p, card, n, records, step_grads)
  abbrev pub card_forward_steps_claim : Out 7 (card_forward_recorded.Kinds.ps Steps StepRecord L1 L2 K) (card_forward_recorded.Kinds.r Steps StepRecord L1 L2 K)
  card_forward_steps_claim κs (p, (card, (n, (records, (step_grads, none))))) z (_, (_, (_, (records', (step-grads', _))))) =
      let h = history_at card.now.history in
      let label = rows_of card.now.labels in
      let weight = weights_at card.now in
      (z ≡ run_at p.now h label weight n) × (records'.now ≡ steps_def p.now h n records.now) × (step-grads'.now ≡ grads_def p.now h label weight n step_grads.now)

  -- column_backward(p, records, step_grads, n, g_s, gw)
  abbrev pub column_backward_steps_claim : Out 6 (column_backward.Kinds.ps Steps StepRecord L1 L2 K) (column_backward.Kinds.r Steps StepRecord L1 L2 K)
  column_backward_steps_claim κs (p, (records, (step_grads, (n, (g-s, (gw, none)))))) z (_, (_, (_, (_, (_, (gw', _)))))) =
      gw'.now ≡ back_def p.now (λ i. get_or records.now i no_step_def) (λ i. get_or step_grads.now i zero64) n (start_grad g-s) gw.now

  -- the same of a prefix, which is lent no step gradients
  abbrev pub prefix_backward_steps_claim : Out 6 (column_backward.Kinds.ps Steps StepRecord L1 L2 K) (column_backward.Kinds.r Steps StepRecord L1 L2 K)
  prefix_backward_steps_claim κs (p, (records, (step_grads, (n, (g-s, (gw, none)))))) z (_, (_, (_, (_, (_, (gw', _)))))) =
      step_grads.now ≡ [] → gw'.now ≡ back_def p.now (λ i. get_or records.now i no_step_def) (λ i. zero64) n (start_grad g-s) gw.now

  -- batch_loss_and_grad(w, deck, gw, records), in the deck's mode
  abbrev pub batch_loss_and_grad_claim : Out 7 (batch_loss_and_grad.Kinds.ps Steps StepRecord L1 L2 K) (batch_loss_and_grad.Kinds.r Steps StepRecord L1 L2 K)
  batch_loss_and_grad_claim κs (w, (deck, (gw, (records, none)))) z (_, (_, (gw', (records', _)))) =
      let x = prefixes_now deck.now in
      (answered z ≡ batch_loss_and_grad_def w.now x (length gw.now) (length records.now)) × BatchLeaves w.now x gw.now records.now gw'.now records'.now

  -- card_loss_and_grad(w, deck, gw, records, step_grads), in the deck's mode
  abbrev pub card_loss_and_grad_claim : Out 8 (card_loss_and_grad.Kinds.ps Steps StepRecord L1 L2 K) (card_loss_and_grad.Kinds.r Steps StepRecord L1 L2 K)
  card_loss_and_grad_claim κs (w, (deck, (gw, (records, (step_grads, none))))) z (_, (_, (gw', (records', (step-grads', _))))) =
      let x = cards_now deck.now in
      (answered z ≡ cards_loss_and_grad w.now x (length gw.now) (length records.now) (length step_grads.now)) ×
      CardsLeave w.now x gw.now records.now step_grads.now gw'.now records'.now step-grads'.now
