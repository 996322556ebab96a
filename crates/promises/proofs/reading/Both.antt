-- Demand 3 of either kind, from what a kind says of one column. Assumes nothing.
use Prim.Native.Nat.{ℕ, ◌-◌, ◌<◌}
use mathlib.Core.Bool.{true, false, ◌&&◌}
use mathlib.Core.List.{List}
use mathlib.Core.Path.{◌≡◌, refl, ap, ◌∙◌}
use borrow.Author.Tests.{eq-eqb}
use lib.Dec.{eqb}
use lib.Ieee.{Float}
use Rattle.domain.specs.Weights.{◌!◌, weights_refusal_def}
use Rattle.checks.specs.Batch.{history}
use Rattle.checks.specs.Columns.{total, through}
use Rattle.forward.specs.Params.{params_def}
use Rattle.forward.specs.WeightsRead.{step_reads, Agree}
use Rattle.forward.specs.declared.parameters.RuntimeParams.{RuntimeParams}
use Rattle.forward.proofs.Agreement.{by_cases}
use Rattle.columns.specs.ForwardPass.{state_at, record_at}
use Rattle.analytic_v6.specs.Answers.{answer, leaves}
use Rattle.laws.proofs.Agreement.Columns.{total_same, through_same, through_keeps}
use Rattle.laws.proofs.Agreement.Walk.{Still}
use Rattle.promises.specs.CallReads.{Slice, call_moves}
use Rattle.promises.specs.LossCalls.{Call, Kind}
use Rattle.promises.specs.Frozen.{SameInputs, SameWeights, Alike, may_move, with_weight, Frozen}
use Rattle.promises.proofs.reading.Any.{answer_same, weights_read, turned, free}
use Rattle.promises.proofs.reading.Steps.{SameSteps, reads_20, agree_row, moves_same, no_step, no_end}

module _ (K : Kind) where
  -- two weight sets agree on what the steps of a column read
  abbrev pub AgreeSteps : (x : K.Input) (column : ℕ) (w v : List Float) → Type 0
  AgreeSteps x column w v =
      let h = history (K.table x) column in
      (row : ℕ) → row < K.steps x column → Agree (step_reads (state_at (params_def w) h row) (h.day row) (h.rating row) (row - h.first)) w v

  pub record Parts : Type 0 where
    -- a column's loss, and what it makes of the slots
    pub loss : RuntimeParams → K.Input → (column : ℕ) → Float
    pub change : RuntimeParams → K.Input → (column : ℕ) → List Float → List Float
    -- the entries, of these
    pub answers : (c : Call K.Input) → K.answer c ≡ answer (K.refusal c) (total (loss (params_def c.w) c.x) (K.table c.x).columns)
    pub slots : (c : Call K.Input) → K.slots c ≡ leaves (K.refusal c) (change (params_def c.w) c.x) (K.table c.x).columns c.gw
    pub alone : (w : List Float) (x : K.Input) → K.alone w x ≡ answer (K.alone_refusal w x) (total (loss (params_def w) x) (K.table x).columns)
    -- what an accepted call has passed, and that room is no matter of weights
    pub passed : (c : Call K.Input) → K.refusal c ≡ 0 → (weights_refusal_def c.w ≡ 0) × (K.room c ≡ true)
    pub room_kept : (c : Call K.Input) (k : ℕ) (a : Float) → K.room (with_weight K c k a) ≡ K.room c
    -- inputs that agree on what counts as read
    pub refusals : (c d : Call K.Input) → Alike K c d → K.refusal c ≡ K.refusal d
    pub alone_refusals :
        (x y : K.Input) (w v : List Float) → SameInputs K x y → weights_refusal_def w ≡ 0 → weights_refusal_def v ≡ 0 → K.alone_refusal w x ≡ K.alone_refusal v y
    pub cells : (x y : K.Input) → SameInputs K x y → (s : Slice) (row column : ℕ) → K.reads x s row column ≡ K.reads y s row column
    pub steps : (x y : K.Input) → SameInputs K x y → SameSteps (K.table x) (K.table y) (K.steps x) (K.steps y)
    pub ends : (x y : K.Input) → SameInputs K x y → (column : ℕ) → column < (K.table x).columns → K.scored x column ≡ K.scored y column
    pub losses :
        (x y : K.Input) → SameInputs K x y → (column : ℕ) → column < (K.table x).columns →
        (w v : List Float) → AgreeSteps x column w v → w ! 20 ≡ v ! 20 → loss (params_def w) x column ≡ loss (params_def v) y column
    pub changes :
        (x y : K.Input) → SameInputs K x y → (column : ℕ) → column < (K.table x).columns →
        (w v : List Float) → AgreeSteps x column w v → w ! 20 ≡ v ! 20 → (gw : List Float) → change (params_def w) x column gw ≡ change (params_def v) y column gw
    pub records :
        (x y : K.Input) → SameInputs K x y → (column : ℕ) → column < (K.table x).columns →
        (w v : List Float) → AgreeSteps x column w v → w ! 20 ≡ v ! 20 → (row : ℕ) → row < K.steps x column →
        record_at (params_def w) (history (K.table x) column) row ≡ record_at (params_def v) (history (K.table y) column) row
    -- a slot that neither a column's steps nor its end may move
    pub keeps :
        (x : K.Input) (column : ℕ) (p : RuntimeParams) (slot : ℕ) →
        ((row : ℕ) → row < K.steps x column → Still p (history (K.table x) column) slot row) → eqb slot 20 && K.scored x column ≡ false →
        (gw : List Float) → change p x column gw ! slot ≡ gw ! slot

  module _ (of : Parts) where
    -- ---- the same loss, slots and moves, where the call is accepted
    module _ (x y : K.Input) (same : SameInputs K x y) (w v : List Float) (refusal : ℕ) (given : SameWeights K refusal x w v) (accepted : eqb refusal 0 ≡ true) where
      twenty : w ! 20 ≡ v ! 20
      twenty = given.weights 20 (reads_20 (K.table x) (K.steps x) refusal accepted)

      agree : (column : ℕ) → column < (K.table x).columns → AgreeSteps x column w v
      agree column l row m = agree_row (K.table x) (K.steps x) refusal accepted w v given.weights (params_def w) row column l m

      loss_same : total (of.loss (params_def w) x) (K.table x).columns ≡ total (of.loss (params_def v) y) (K.table y).columns
      loss_same =
          total_same _ _ _ (λ column l. of.losses x y same column l w v (agree column l) twenty) ∙ ap (total (of.loss (params_def v) y)) same.columns

      slots_same :
          (gw : List Float) →
          through (of.change (params_def w) x) (K.table x).columns gw ≡ through (of.change (params_def v) y) (K.table y).columns gw
      slots_same gw =
          through_same _ _ _ (λ column l. of.changes x y same column l w v (agree column l) twenty) gw ∙
          ap (λ (n : ℕ). through (of.change (params_def v) y) n gw) same.columns

      moved_same : (k : ℕ) → call_moves w (K.table x) (K.steps x) (K.scored x) k ≡ call_moves v (K.table y) (K.steps y) (K.scored y) k
      moved_same k =
          moves_same w v (K.table x) (K.table y) (K.steps x) (K.steps y) (K.scored x) (K.scored y) same.columns (of.steps x y same).counts (of.ends x y same)
          (λ row column l m. of.records x y same column l w v (agree column l) twenty row m) k

    answer_of : (c d : Call K.Input) → Alike K c d → K.answer c ≡ K.answer d
    answer_of c d h =
        rw (of.answers c, of.answers d)
        (answer_same (K.refusal c) _ _ (loss_same c.x d.x h.inputs c.w d.w (K.refusal c) h.weights) ∙ (rw (of.refusals c d h)))

    slots_of : (c d : Call K.Input) → Alike K c d → K.slots c ≡ K.slots d
    slots_of c d h =
        rw (of.slots c, of.slots d)
        (by_cases (eqb (K.refusal c) 0) _ _ _ _ (λ e. slots_same c.x d.x h.inputs c.w d.w (K.refusal c) h.weights e c.gw) (λ e. refl) ∙
        (rw (of.refusals c d h, h.gradients)))

    alone_of : (x y : K.Input) (w v : List Float) → SameInputs K x y → SameWeights K (K.alone_refusal w x) x w v → K.alone w x ≡ K.alone v y
    alone_of x y w v h g =
        rw (of.alone w x, of.alone v y)
        (answer_same (K.alone_refusal w x) _ _ (loss_same x y h w v (K.alone_refusal w x) g) ∙ (rw (of.alone_refusals x y w v h g.boxed.0 g.boxed.1)))

    kept : (c : Call K.Input) (k : ℕ) → K.refusal c ≡ 0 → may_move K c k ≡ false → K.slots c ! k ≡ c.gw ! k
    kept c k z still =
        rw (of.slots c, eq-eqb _ 0 z)
        (through_keeps k (of.change (params_def c.w) c.x) (K.table c.x).columns
        (λ column l.
        of.keeps c.x column (params_def c.w) k
        (no_step c.w (K.table c.x) (K.steps c.x) (K.scored c.x) k still column l)
        (no_end c.w (K.table c.x) (K.steps c.x) (K.scored c.x) k still column l))
        c.gw)

    pub frozen : Frozen K
    frozen =
        record {
          same_outcome = λ c d h. (answer_of c d h, slots_of c d h);
          same_loss = alone_of;
          same_cells = of.cells;
          same_weights = weights_read K of.cells of.steps of.refusals;
          symmetric = turned K of.cells of.steps of.refusals;
          same_moves = λ c d h z k. moved_same c.x d.x h.inputs c.w d.w (K.refusal c) h.weights (eq-eqb _ 0 z) k;
          slot_kept = kept;
          unread_weight = free K (λ c d h. (answer_of c d h, slots_of c d h)) kept of.passed of.room_kept;
        }
