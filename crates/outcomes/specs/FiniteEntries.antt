-- The four loss entries themselves, at any mode and, with a gradient, at any layout of the step records: whatever satisfies their contracts has a finite loss, as `promises` says it of the
-- definitions. Assumes nothing.
use Rattle.std.specs.Prelude.{ℕ, List, Float}
use contract.Lifetimes.{Lfts}
use denote.RattleType.{RattleType}
use denote.Param.Laws.{Laws, IsCopy}
use mir.Syntax.{Dict}
use borrow.Fn.Kinds.{ParamKind, ResultKind, Out, Dens, res_t}
use Rattle.std.specs.declared.clone.Clone
use Rattle.columns.specs.declared.layout.Layout
use Rattle.laws.specs.Numbers.{Finite}
use Rattle.analytic_v6.specs.Results.{answered}
use Rattle.analytic_v6.proofs.prefixes.grad.batch_loss_and_grad
use Rattle.analytic_v6.proofs.prefixes.loss.batch_loss
use Rattle.analytic_v6.proofs.cards.grad.card_loss_and_grad
use Rattle.analytic_v6.proofs.cards.loss.card_loss
use Rattle.promises.specs.LossCalls.{Kind, prefixes, cards}
use Rattle.promises.specs.Finite.{Singles}
use Rattle.outcomes.specs.FrozenEntries.{prefix_call, prefix_weights, prefix_input, card_call, card_weights, card_input}
use Rattle.outcomes.specs.Outcome.{Outcome, Claims}

-- An entry of the kind K, whose contract is C; where the loss stands in its answer, and its weights and its input
abbrev pub FiniteLoss :
    {n : ℕ} (ps : List (ParamKind n)) (r : ResultKind n) (C : Out n ps r) (K : Kind) (loss : (κs : Lfts n) → (res_t r κs).Denot → Float)
    (weights : (κs : Lfts n) → Dens κs ps → List Float) (input : (κs : Lfts n) → Dens κs ps → K.Input) → Type 0
FiniteLoss {n} ps r C K loss weights input =
    (κs : Lfts n) (a : Dens κs ps) (o : Outcome ps r κs a) → Claims ps r C κs a o → Singles K (weights κs a) (input κs a) → Finite (loss κs o.0)

-- with a gradient: the records in any layout L, of cells C
module _ (L C : RattleType) (L1 : Laws L) (L2 : Laws C) (K : IsCopy C) (G1 : Layout.Ghosts L.Denot C.Denot) (D1 : Dict) (G2 : Clone.Ghosts C.Denot) (D2 : Dict) where
  abbrev pub FiniteBatchGrad : Type 0
  FiniteBatchGrad =
      FiniteLoss (batch_loss_and_grad.Kinds.ps L C L1 L2 K) (batch_loss_and_grad.Kinds.r L C L1 L2 K) (batch_loss_and_grad.Reads.Post L C L1 L2 K G1 D1 G2 D2) prefixes (λ κs z. (answered z).loss)
      (λ κs a. (prefix_call L C L1 L2 K G1 D1 G2 D2 κs a).w) (λ κs a. (prefix_call L C L1 L2 K G1 D1 G2 D2 κs a).x)

  abbrev pub FiniteCardGrad : Type 0
  FiniteCardGrad =
      FiniteLoss (card_loss_and_grad.Kinds.ps L C L1 L2 K) (card_loss_and_grad.Kinds.r L C L1 L2 K) (card_loss_and_grad.Reads.Post L C L1 L2 K G1 D1 G2 D2) cards (λ κs z. (answered z).loss)
      (λ κs a. (card_call L C L1 L2 K G1 D1 G2 D2 κs a).w) (λ κs a. (card_call L C L1 L2 K G1 D1 G2 D2 κs a).x)

-- all four: with a gradient at every layout, and alone. A refused call's loss is +0.0, as a C function gives it
pub record FiniteEntries : Type 2 where
  pub batch_grad :
      (L C : RattleType) (L1 : Laws L) (L2 : Laws C) (K : IsCopy C) (G1 : Layout.Ghosts L.Denot C.Denot) (D1 : Dict) (G2 : Clone.Ghosts C.Denot) (D2 : Dict) →
      FiniteBatchGrad L C L1 L2 K G1 D1 G2 D2
  pub batch : FiniteLoss batch_loss.Kinds.ps batch_loss.Kinds.r batch_loss.Reads.Post prefixes (λ κs z. (answered z).loss) prefix_weights prefix_input
  pub card_grad :
      (L C : RattleType) (L1 : Laws L) (L2 : Laws C) (K : IsCopy C) (G1 : Layout.Ghosts L.Denot C.Denot) (D1 : Dict) (G2 : Clone.Ghosts C.Denot) (D2 : Dict) →
      FiniteCardGrad L C L1 L2 K G1 D1 G2 D2
  pub card : FiniteLoss card_loss.Kinds.ps card_loss.Kinds.r card_loss.Reads.Post cards (λ κs z. (answered z).loss) card_weights card_input
