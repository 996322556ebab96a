-- A loss call of either kind, and what the two kinds differ in. The entries' contracts are equations with these definitions:
-- batch_loss_and_grad, batch_loss, card_loss_and_grad and card_loss (analytic_v6). A deck holds its mode, and a gradient call takes its records in any layout, as step records or
-- as plain columns of singles. Assumes nothing.
use Rattle.std.specs.Prelude.{ℕ, ◌-◌, Bool, ◌&&◌, List, [], leb, Float, length}
use Rattle.checks.specs.Reads.{non_zero, card_label}
use Rattle.checks.specs.Batch.{Table, Prefixes, Cards, length_at, first_at, target_weight_at, weight_at_def}
use Rattle.checks.specs.Refusals.{longest_of, prefix_loss_refusal_def, prefix_grad_refusal_def, card_loss_refusal_def, card_grad_refusal_def}
use Rattle.analytic_v6.specs.Results.{Loss}
use Rattle.analytic_v6.specs.Prefixes.{batch_loss_and_grad_def, batch_slots, batch_loss_def}
use Rattle.analytic_v6.specs.Cards.{cards_loss_and_grad, cards_slots, cards_loss}
use Rattle.promises.specs.CallReads.{Slice, days, ratings, targets, labels, weights, prefix_cell, prefix_reads, card_cell, card_reads}

-- what a gradient call is lent: weights, cells, starting gradients, and room: so many rows of records, in either layout, and doubles for step gradients (of
-- which a prefix is lent none)
pub record Call (Input : Type 0) : Type 0 where
  pub w : List Float
  pub x : Input
  pub gw : List Float
  pub records : ℕ
  pub step_grads : ℕ

pub record Kind : Type 1 where
  pub Input : Type 0
  pub table : Input → Table
  pub slice : Input → Slice → List Float
  pub cell : Input → Slice → (row column : ℕ) → Float
  -- the cells that count as read
  pub reads : Input → Slice → (row column : ℕ) → Bool
  -- how many rows of a column have a step
  pub steps : Input → (column : ℕ) → ℕ
  -- whether a column's end is a scored curve
  pub scored : Input → (column : ℕ) → Bool
  -- 'enough lent room'
  pub room : Call Input → Bool
  -- the number that a gradient call is refused with, its answer, and its slots at exit
  pub refusal : Call Input → ℕ
  pub answer : Call Input → Loss
  pub slots : Call Input → List Float
  -- the loss-only entry
  pub alone_refusal : (w : List Float) → Input → ℕ
  pub alone : (w : List Float) → Input → Loss

unfoldable pub prefix_slice : Prefixes → Slice → List Float
prefix_slice x days = x.table.days
prefix_slice x ratings = x.table.ratings
prefix_slice x targets = x.days
prefix_slice x labels = x.labels
prefix_slice x weights = x.weights

unfoldable pub card_slice : Cards → Slice → List Float
card_slice x days = x.table.days
card_slice x ratings = x.table.ratings
card_slice x targets = []
card_slice x labels = x.labels
card_slice x weights = x.weights

abbrev pub prefixes : Kind
prefixes = record {
  Input = Prefixes;
  table = λ x. x.table;
  slice = prefix_slice;
  cell = prefix_cell;
  reads = prefix_reads;
  steps = λ x column. length_at x.table column;
  scored = λ x column. non_zero (target_weight_at x column);
  room = λ c. leb (longest_of c.x.table) c.records;
  refusal = λ c. prefix_grad_refusal_def c.w c.x (length c.gw) c.records;
  answer = λ c. batch_loss_and_grad_def c.w c.x (length c.gw) c.records;
  slots = λ c. batch_slots c.w c.x c.gw c.records;
  alone_refusal = prefix_loss_refusal_def;
  alone = batch_loss_def;
}

-- a card's steps end before its last row, which is scored where its label is read
abbrev pub cards : Kind
cards = record {
  Input = Cards;
  table = λ x. x.table;
  slice = card_slice;
  cell = card_cell;
  reads = card_reads;
  steps = λ x column. length_at x.table column - 1;
  scored = λ x column. let last = length_at x.table column - 1 in card_label (last - first_at x.table column) (weight_at_def x column last);
  room = λ c. leb (longest_of c.x.table) c.records && leb (longest_of c.x.table) c.step_grads;
  refusal = λ c. card_grad_refusal_def c.w c.x (length c.gw) c.records c.step_grads;
  answer = λ c. cards_loss_and_grad c.w c.x (length c.gw) c.records c.step_grads;
  slots = λ c. cards_slots c.w c.x c.gw c.records c.step_grads;
  alone_refusal = card_loss_refusal_def;
  alone = cards_loss;
}
