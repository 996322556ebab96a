-- Demand 3: 'This lets me freeze weights that a deck says nothing about.' Numbers are equal here when their bits are, but that all
-- NaNs are one value: so what agrees bit for bit is equal, and outcomes are compared as in demand 2. Assumes nothing.
use Rattle.std.specs.Prelude.{ℕ, Bool, true, false, List, ◌≡◌, ltb, Float, length, set}
use Rattle.domain.specs.Weights.{◌!◌, in_box, weights_refusal_def}
use Rattle.checks.specs.Batch.{length_at}
use Rattle.promises.specs.CallReads.{Slice, call_reads, call_moves}
use Rattle.promises.specs.LossCalls.{Call, Kind, prefixes, cards}

module _ (K : Kind) where
  -- 'two loss calls of one kind with equal sizes, equal column lengths' that 'agree on every cell .. that document 01 counts as
  -- read'; its 'sizes are rows, columns and the length of each input slice'; K5: 'its two calls sharing one mode'
  pub record SameInputs (x y : K.Input) : Type 0 where
    pub modes : (K.table x).align ≡ (K.table y).align
    pub rows : (K.table x).rows ≡ (K.table y).rows
    pub columns : (K.table x).columns ≡ (K.table y).columns
    pub counts : length (K.table x).lengths ≡ length (K.table y).lengths
    pub sizes : (s : Slice) → length (K.slice x s) ≡ length (K.slice y s)
    pub lengths : (column : ℕ) → ltb column (K.table x).columns ≡ true → length_at (K.table x) column ≡ length_at (K.table y) column
    pub cells : (s : Slice) (row column : ℕ) → K.reads x s row column ≡ true → K.cell x s row column ≡ K.cell y s row column

  -- 'both weight sets inside the box', and the same where the call reads a weight
  pub record SameWeights (refusal : ℕ) (x : K.Input) (w v : List Float) : Type 0 where
    pub boxed : (weights_refusal_def w ≡ 0) × (weights_refusal_def v ≡ 0)
    pub weights : (k : ℕ) → call_reads refusal (K.table x) (K.steps x) k ≡ true → w ! k ≡ v ! k

  -- 'enough lent room .. and equal starting gradients'
  pub record Alike (c d : Call K.Input) : Type 0 where
    pub inputs : SameInputs c.x d.x
    pub weights : SameWeights (K.refusal c) c.x c.w d.w
    pub room : (K.room c ≡ true) × (K.room d ≡ true)
    pub gradients : c.gw ≡ d.gw

  abbrev pub weight_read : Call K.Input → (k : ℕ) → Bool
  weight_read c k = call_reads (K.refusal c) (K.table c.x) (K.steps c.x) k

  abbrev pub may_move : Call K.Input → (k : ℕ) → Bool
  may_move c k = call_moves c.w (K.table c.x) (K.steps c.x) (K.scored c.x) k

  -- the call with another value for weight k
  abbrev pub with_weight : Call K.Input → (k : ℕ) (a : Float) → Call K.Input
  with_weight c k a = record { w = set c.w k a; x = c.x; gw = c.gw; records = c.records; step_grads = c.step_grads }

  pub record Frozen : Type 0 where
    -- 'both get the same refusal, or the same loss and all 21 gradients'
    pub same_outcome : (c d : Call K.Input) → Alike c d → (K.answer c ≡ K.answer d) × (K.slots c ≡ K.slots d)
    -- and so the loss-only entry
    pub same_loss :
        (x y : K.Input) (w v : List Float) → SameInputs x y → SameWeights (K.alone_refusal w x) x w v → K.alone w x ≡ K.alone v y
    -- the second call reads what the first does, so that either may come first
    pub same_cells : (x y : K.Input) → SameInputs x y → (s : Slice) (row column : ℕ) → K.reads x s row column ≡ K.reads y s row column
    pub same_weights : (c d : Call K.Input) → Alike c d → (k : ℕ) → weight_read c k ≡ weight_read d k
    pub symmetric : (c d : Call K.Input) → Alike c d → Alike d c
    -- and where it is accepted it may move the same slots
    pub same_moves : (c d : Call K.Input) → Alike c d → K.refusal c ≡ 0 → (k : ℕ) → may_move c k ≡ may_move d k
    -- 'In an accepted call every gradient slot that document 01 does not let the taken branches move keeps its bits.'
    pub slot_kept : (c : Call K.Input) (k : ℕ) → K.refusal c ≡ 0 → may_move c k ≡ false → K.slots c ! k ≡ c.gw ! k
    -- A weight that no column reads may take any value inside the box: no loss and no gradient changes, and its own slot stays as it was.
    pub unread_weight :
        (c : Call K.Input) (k : ℕ) → K.refusal c ≡ 0 → weight_read c k ≡ false →
        ((a : Float) → in_box k a ≡ true → (K.answer (with_weight c k a) ≡ K.answer c) × (K.slots (with_weight c k a) ≡ K.slots c)) ×
        (K.slots c ! k ≡ c.gw ! k)

-- for both kinds, over both modes at once
abbrev pub Demand3 : Type 0
Demand3 = Frozen prefixes × Frozen cards
