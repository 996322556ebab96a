-- Change request K5: a deck that stands at the end of its tables, behind padding, is given what it is given without that padding at their
-- start, where the crate has it; and a deck without padding is given the same in both modes. Assumes nothing.
use Rattle.std.specs.Prelude.{ℕ, ◌+◌, ◌-◌, ◌<◌, true, false, List, ◌≡◌, Float}
use Rattle.domain.specs.Doubles.{zero64}
use Rattle.domain.specs.Weights.{◌!◌}
use Rattle.checks.specs.Reads.{non_zero, rating_good_def}
use Rattle.checks.specs.Batch.{Table, Prefixes, Cards, length_at, first_at, at}
use Rattle.checks.specs.Refusals.{prefixes_sized, cards_sized}
use Rattle.checks.specs.declared.align.Align.{Align}
use Rattle.checks.specs.declared.align.Align.TheVariants.{Start, End}
use Rattle.forward.specs.declared.parameters.RuntimeParams.{RuntimeParams}
use Rattle.analytic_v6.specs.Prefixes.{prefix_loss_def, prefix_slots_def}
use Rattle.analytic_v6.specs.Cards.{card_loss_def, card_slots_def}
use Rattle.promises.specs.LossCalls.{Call, Kind, prefixes, cards}

-- ---- without the padding in front
-- a column of u, at the start, is that of t, at the end, without its leading padding
pub record Shifted (t u : Table) (column : ℕ) : Type 0 where
  pub modes : (t.align ≡ End) × (u.align ≡ Start)
  pub shorter : length_at u column + first_at t column ≡ length_at t column
  pub days : (row : ℕ) → row < length_at u column → at u u.days row column ≡ at t t.days (row + first_at t column) column
  pub ratings : (row : ℕ) → row < length_at u column → at u u.ratings row column ≡ at t t.ratings (row + first_at t column) column

-- it has a review, and the same target
pub record ShiftedPrefix (x y : Prefixes) (column : ℕ) : Type 0 where
  pub table : Shifted x.table y.table column
  pub some : first_at x.table column < length_at x.table column
  pub target : (x.days ! column ≡ y.days ! column) × (x.labels ! column ≡ y.labels ! column) × (x.weights ! column ≡ y.weights ! column)

-- it may have no review; the crate would score its padding, so that in y this has the weight 0
pub record ShiftedCard (x y : Cards) (column : ℕ) : Type 0 where
  pub table : Shifted x.table y.table column
  pub labels : (row : ℕ) → row < length_at y.table column → at y.table y.labels row column ≡ at x.table x.labels (row + first_at x.table column) column
  pub reviews : (row : ℕ) → row < length_at y.table column → non_zero (at y.table y.table.ratings row column) ≡ true →
      at y.table y.weights row column ≡ at x.table x.weights (row + first_at x.table column) column
  pub padding : (row : ℕ) → row < length_at y.table column → non_zero (at y.table y.table.ratings row column) ≡ false →
      non_zero (at y.table y.weights row column) ≡ false

-- two calls of a kind, column for column, with the same weights and starting gradients
module _ (K : Kind) (Shift : (x y : K.Input) (column : ℕ) → Type 0) where
  pub record ShiftedCall (c d : Call K.Input) : Type 0 where
    pub weights : c.w ≡ d.w
    pub gradients : c.gw ≡ d.gw
    pub columns : (K.table c.x).columns ≡ (K.table d.x).columns
    pub each : (column : ℕ) → column < (K.table c.x).columns → Shift c.x d.x column

-- the same outcome
abbrev pub Same : (K : Kind) (c d : Call K.Input) → Type 0
Same K c d = (K.answer c ≡ K.answer d) × (K.slots c ≡ K.slots d)

-- ---- the same deck in another mode
abbrev pub prefixes_as : (align : Align) → Prefixes → Prefixes
prefixes_as align x =
    let t = x.table in
    record {
      table = record { days = t.days; ratings = t.ratings; rows = t.rows; columns = t.columns; lengths = t.lengths; align = align };
      days = x.days;
      labels = x.labels;
      weights = x.weights;
    }

abbrev pub cards_as : (align : Align) → Cards → Cards
cards_as align x =
    let t = x.table in
    record {
      table = record { days = t.days; ratings = t.ratings; rows = t.rows; columns = t.columns; lengths = t.lengths; align = align };
      labels = x.labels;
      weights = x.weights;
    }

abbrev pub call_with : {Input : Type 0} → (Input → Input) → Call Input → Call Input
call_with f c = record { w = c.w; x = f c.x; gw = c.gw; records = c.records; step_grads = c.step_grads }

-- it has no padding
abbrev pub Reviewed : Table → Type 0
Reviewed t = (row column : ℕ) → column < t.columns → row < length_at t column → non_zero (at t t.ratings row column) ≡ true

-- the last rating of a card, which the crate's mode does not read, is good
abbrev pub LastGood : Table → Type 0
LastGood t = (column : ℕ) → column < t.columns → 0 < length_at t column → rating_good_def (at t t.ratings (length_at t column - 1) column) ≡ true

pub record Aligned : Type 0 where
  -- one column: the same loss, and the same made of the slots
  pub prefix :
      (p : RuntimeParams) (x y : Prefixes) (column : ℕ) → ShiftedPrefix x y column
      → (prefix_loss_def p x column ≡ prefix_loss_def p y column) × ((gw : List Float) → prefix_slots_def p x column gw ≡ prefix_slots_def p y column gw)
  pub card :
      (p : RuntimeParams) (x y : Cards) (column : ℕ) → ShiftedCard x y column
      → (card_loss_def p x column ≡ card_loss_def p y column) × ((gw : List Float) → card_slots_def p x column gw ≡ card_slots_def p y column gw)
  -- 'An all-padding prefix scores nothing': a loss of +0.0, and no slot moves
  pub all_padding :
      (p : RuntimeParams) (x : Prefixes) (column : ℕ) → x.table.align ≡ End → first_at x.table column ≡ length_at x.table column
      → (prefix_loss_def p x column ≡ zero64) × ((gw : List Float) → prefix_slots_def p x column gw ≡ gw)
  -- whole calls: what is accepted at the end is accepted at the start, where its slices are long enough, with the same loss and slots
  pub prefix_calls :
      (c d : Call Prefixes) → ShiftedCall prefixes ShiftedPrefix c d → prefixes.refusal c ≡ 0
      → prefixes_sized d.x ≡ true → prefixes.room d ≡ true → Same prefixes c d
  pub card_calls :
      (c d : Call Cards) → ShiftedCall cards ShiftedCard c d → cards.refusal c ≡ 0
      → cards_sized d.x ≡ true → cards.room d ≡ true → Same cards c d
  -- without padding both modes agree, refusals included
  pub prefix_modes : (c : Call Prefixes) → Reviewed c.x.table → Same prefixes (call_with (prefixes_as Start) c) (call_with (prefixes_as End) c)
  pub card_modes :
      (c : Call Cards) → Reviewed c.x.table → LastGood c.x.table → Same cards (call_with (cards_as Start) c) (call_with (cards_as End) c)
