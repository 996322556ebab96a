-- What is not read does not count, and what may not move stays: of the four loss entries themselves, at any mode and, with a gradient, at any layout of the step records: said of their own contracts, as `promises` says it of the definitions. Assumes nothing.
use Rattle.std.specs.Prelude.{ℕ, false, List, ◌≡◌, Float, length}
use contract.Lifetimes.{Lfts}
use denote.RattleType.{RattleType}
use denote.Param.Laws.{Laws, IsCopy}
use denote.Triple.Clauses.{AtExit}
use mir.Syntax.{Dict}
use borrow.Fn.Kinds.{ParamKind, ResultKind, Out, Dens, ended_of}
use Rattle.std.specs.declared.clone.Clone
use Rattle.domain.specs.Weights.{◌!◌}
use Rattle.checks.specs.Batch.{Prefixes, Cards}
use Rattle.checks.specs.Decks.{prefixes_now, cards_now}
use Rattle.columns.specs.declared.layout.Layout
use Rattle.analytic_v6.proofs.prefixes.grad.batch_loss_and_grad
use Rattle.analytic_v6.proofs.prefixes.loss.batch_loss
use Rattle.analytic_v6.proofs.cards.grad.card_loss_and_grad
use Rattle.analytic_v6.proofs.cards.loss.card_loss
use Rattle.promises.specs.LossCalls.{Call, Kind, prefixes, cards}
use Rattle.promises.specs.Frozen.{SameInputs, SameWeights, Alike, may_move}
use Rattle.outcomes.specs.Outcome.{Outcome, left, Claims}

-- An entry with the gradient, of the kind K, whose contract is C: `call`, what its arguments are to `promises`, and `slots`, where
-- the slots stand among its parameters at exit
module _ {n : ℕ} (ps : List (ParamKind n)) (r : ResultKind n) (C : Out n ps r) (K : Kind)
    (call : (κs : Lfts n) → Dens κs ps → Call K.Input) (slots : (κs : Lfts n) → AtExit (ended_of n ps r) κs → List Float) where
  pub record Entry : Type 0 where
    -- 'both get the same refusal, or the same loss and all 21 gradients'
    pub same :
        (κs : Lfts n) (a b : Dens κs ps) (o : Outcome ps r κs a) (q : Outcome ps r κs b) → Claims ps r C κs a o → Claims ps r C κs b q →
        Alike K (call κs a) (call κs b) → (o.0 ≡ q.0) × (slots κs (left ps r κs a o) ≡ slots κs (left ps r κs b q))
    -- 'In an accepted call every gradient slot that document 01 does not let the taken branches move keeps its bits.'
    pub kept :
        (κs : Lfts n) (a : Dens κs ps) (o : Outcome ps r κs a) → Claims ps r C κs a o →
        (k : ℕ) → K.refusal (call κs a) ≡ 0 → may_move K (call κs a) k ≡ false →
        slots κs (left ps r κs a o) ! k ≡ (call κs a).gw ! k

-- A loss-only entry: its weights and its input
module _ {n : ℕ} (ps : List (ParamKind n)) (r : ResultKind n) (C : Out n ps r) (K : Kind)
    (weights : (κs : Lfts n) → Dens κs ps → List Float) (input : (κs : Lfts n) → Dens κs ps → K.Input) where
  pub record Alone : Type 0 where
    pub same :
        (κs : Lfts n) (a b : Dens κs ps) (o : Outcome ps r κs a) (q : Outcome ps r κs b) → Claims ps r C κs a o → Claims ps r C κs b q →
        SameInputs K (input κs a) (input κs b) →
        SameWeights K (K.alone_refusal (weights κs a) (input κs a)) (input κs a) (weights κs a) (weights κs b) → o.0 ≡ q.0

-- batch_loss(w, deck)
abbrev pub prefix_weights : (κs : Lfts 3) → Dens κs batch_loss.Kinds.ps → List Float
prefix_weights κs (w, rest) = w.now

abbrev pub prefix_input : (κs : Lfts 3) → Dens κs batch_loss.Kinds.ps → Prefixes
prefix_input κs (w, (deck, none)) = prefixes_now deck.now

-- card_loss(w, deck)
abbrev pub card_weights : (κs : Lfts 3) → Dens κs card_loss.Kinds.ps → List Float
card_weights κs (w, rest) = w.now

abbrev pub card_input : (κs : Lfts 3) → Dens κs card_loss.Kinds.ps → Cards
card_input κs (w, (deck, none)) = cards_now deck.now

-- with a gradient: the records in any layout L, of cells C. Room in rows is what the layout says of the slice
module _ (L C : RattleType) (L1 : Laws L) (L2 : Laws C) (K : IsCopy C) (G1 : Layout.Ghosts L.Denot C.Denot) (D1 : Dict) (G2 : Clone.Ghosts C.Denot) (D2 : Dict) where
  -- batch_loss_and_grad(w, deck, gw, records)
  abbrev pub prefix_call : (κs : Lfts 7) → Dens κs (batch_loss_and_grad.Kinds.ps L C L1 L2 K) → Call Prefixes
  prefix_call κs (w, (deck, (gw, (records, none)))) =
      record { w = w.now; x = prefixes_now deck.now; gw = gw.now; records = G1.room (length records.now); step_grads = 0 }

  -- card_loss_and_grad(w, deck, gw, records, step_grads)
  abbrev pub card_call : (κs : Lfts 8) → Dens κs (card_loss_and_grad.Kinds.ps L C L1 L2 K) → Call Cards
  card_call κs (w, (deck, (gw, (records, (step_grads, none))))) =
      record { w = w.now; x = cards_now deck.now; gw = gw.now; records = G1.room (length records.now); step_grads = length step_grads.now }

  abbrev pub FrozenBatchGrad : Type 0
  FrozenBatchGrad =
      Entry (batch_loss_and_grad.Kinds.ps L C L1 L2 K) (batch_loss_and_grad.Kinds.r L C L1 L2 K) (batch_loss_and_grad.Reads.Post L C L1 L2 K G1 D1 G2 D2) prefixes prefix_call
      (λ κs e. e.1.1.0.now)

  abbrev pub FrozenCardGrad : Type 0
  FrozenCardGrad =
      Entry (card_loss_and_grad.Kinds.ps L C L1 L2 K) (card_loss_and_grad.Kinds.r L C L1 L2 K) (card_loss_and_grad.Reads.Post L C L1 L2 K G1 D1 G2 D2) cards card_call
      (λ κs e. e.1.1.0.now)

-- all four: with a gradient at every layout, and alone
pub record FrozenEntries : Type 2 where
  pub batch_grad :
      (L C : RattleType) (L1 : Laws L) (L2 : Laws C) (K : IsCopy C) (G1 : Layout.Ghosts L.Denot C.Denot) (D1 : Dict) (G2 : Clone.Ghosts C.Denot) (D2 : Dict) →
      FrozenBatchGrad L C L1 L2 K G1 D1 G2 D2
  pub batch : Alone batch_loss.Kinds.ps batch_loss.Kinds.r batch_loss.Reads.Post prefixes prefix_weights prefix_input
  pub card_grad :
      (L C : RattleType) (L1 : Laws L) (L2 : Laws C) (K : IsCopy C) (G1 : Layout.Ghosts L.Denot C.Denot) (D1 : Dict) (G2 : Clone.Ghosts C.Denot) (D2 : Dict) →
      FrozenCardGrad L C L1 L2 K G1 D1 G2 D2
  pub card : Alone card_loss.Kinds.ps card_loss.Kinds.r card_loss.Reads.Post cards card_weights card_input
