-- One outcome: the passes over a column, at any layout of its step records, and the layouts. A line for each function: its answer, then each parameter in turn. Assumes nothing.
use denote.RattleType.{RattleType}
use denote.Param.Laws.{Laws, IsCopy}
use mir.Syntax.{Dict}
use contract.Lifetimes.{Lfts}
use borrow.Fn.Kinds.{Dens}
use Rattle.std.specs.declared.clone.Clone
use Rattle.columns.specs.declared.layout.Layout
use Rattle.outcomes.specs.Outcome.{One, Sole, Outcome, Claims, left, one, one_of, sole}
use Rattle.outcomes.specs.Passes.{column_backward_claim}
use Rattle.outcomes.proofs.Tuples.{◌⨾◌, none, end}
use Rattle.columns.proofs.step_records.no_step
use Rattle.columns.proofs.step_records.StepsLayout.room as steps_room
use Rattle.columns.proofs.step_records.StepsLayout.store as steps_store
use Rattle.columns.proofs.step_records.StepsLayout.load as steps_load
use Rattle.columns.proofs.records.ColumnsLayout.room as columns_room
use Rattle.columns.proofs.records.ColumnsLayout.store as columns_store
use Rattle.columns.proofs.records.ColumnsLayout.load as columns_load
use Rattle.columns.proofs.untraced.UntracedLayout.room as untraced_room
use Rattle.columns.proofs.untraced.UntracedLayout.store as untraced_store
use Rattle.columns.proofs.untraced.UntracedLayout.load as untraced_load
use Rattle.columns.proofs.last_review.target_loss
use Rattle.columns.proofs.last_review.target_end
use Rattle.columns.proofs.last_review.last_loss
use Rattle.columns.proofs.last_review.last_end
use Rattle.columns.proofs.backward_pass.column_backward
use Rattle.columns.proofs.forward_pass.prefix_forward
use Rattle.columns.proofs.forward_pass.card_forward
use Rattle.columns.proofs.forward_pass.card_forward_recorded
use Rattle.columns.proofs.forward_pass.prefix_forward_recorded

-- columns::step_records
pub one_no_step : One no_step.Kinds.ps no_step.Kinds.r no_step.Reads.Post
one_no_step = one (λ κs a o c. c ⨾ end)

pub one_steps_room : One steps_room.Kinds.ps steps_room.Kinds.r steps_room.Reads.Post
one_steps_room = one (λ κs a o c. c ⨾ none ⨾ end)

pub one_steps_store : One steps_store.Kinds.ps steps_store.Kinds.r steps_store.Reads.Post
one_steps_store = one (λ κs a o c. none ⨾ c ⨾ none ⨾ none ⨾ end)

pub one_steps_load : One steps_load.Kinds.ps steps_load.Kinds.r steps_load.Reads.Post
one_steps_load = one (λ κs a o c. c ⨾ none ⨾ none ⨾ end)

-- columns::records
pub one_columns_room : One columns_room.Kinds.ps columns_room.Kinds.r columns_room.Reads.Post
one_columns_room = one (λ κs a o c. c ⨾ none ⨾ end)

pub one_columns_store : One columns_store.Kinds.ps columns_store.Kinds.r columns_store.Reads.Post
one_columns_store = one (λ κs a o c. none ⨾ c ⨾ none ⨾ none ⨾ end)

pub one_columns_load : One columns_load.Kinds.ps columns_load.Kinds.r columns_load.Reads.Post
one_columns_load = one (λ κs a o c. c ⨾ none ⨾ none ⨾ end)

-- columns::untraced
pub one_untraced_room : One untraced_room.Kinds.ps untraced_room.Kinds.r untraced_room.Reads.Post
one_untraced_room = one (λ κs a o c. c ⨾ none ⨾ end)

pub one_untraced_store : One untraced_store.Kinds.ps untraced_store.Kinds.r untraced_store.Reads.Post
one_untraced_store = one (λ κs a o c. none ⨾ c ⨾ none ⨾ none ⨾ end)

pub one_untraced_load : One untraced_load.Kinds.ps untraced_load.Kinds.r untraced_load.Reads.Post
one_untraced_load = one (λ κs a o c. c ⨾ none ⨾ none ⨾ end)

-- columns::last_review
pub one_target_loss : One target_loss.Kinds.ps target_loss.Kinds.r target_loss.Reads.Post
one_target_loss = one (λ κs a o c. c ⨾ none ⨾ none ⨾ none ⨾ end)

pub one_target_end : One target_end.Kinds.ps target_end.Kinds.r target_end.Reads.Post
one_target_end = one (λ κs a o c. c.0 ⨾ none ⨾ none ⨾ none ⨾ c.1 ⨾ end)

pub one_last_loss : One last_loss.Kinds.ps last_loss.Kinds.r last_loss.Reads.Post
one_last_loss = one (λ κs a o c. c ⨾ none ⨾ none ⨾ none ⨾ none ⨾ none ⨾ end)

pub one_last_end : One last_end.Kinds.ps last_end.Kinds.r last_end.Reads.Post
one_last_end = one (λ κs a o c. c.0 ⨾ none ⨾ none ⨾ none ⨾ none ⨾ none ⨾ c.1 ⨾ end)

-- columns::forward_pass
pub one_prefix_forward : One prefix_forward.Kinds.ps prefix_forward.Kinds.r prefix_forward.Reads.Post
one_prefix_forward = one (λ κs a o c. c ⨾ none ⨾ none ⨾ none ⨾ end)

pub one_card_forward : One card_forward.Kinds.ps card_forward.Kinds.r card_forward.Reads.Post
one_card_forward = one (λ κs a o c. c ⨾ none ⨾ none ⨾ none ⨾ end)

-- over any layout: L, of cells C
module _ (L C : RattleType) (L1 : Laws L) (L2 : Laws C) (K : IsCopy C) (G1 : Layout.Ghosts L.Denot C.Denot) (D1 : Dict) (G2 : Clone.Ghosts C.Denot) (D2 : Dict) where
  pub sole_prefix_forward_recorded : Sole (prefix_forward_recorded.Kinds.ps L C L1 L2 K) (prefix_forward_recorded.Kinds.r L C L1 L2 K) (prefix_forward_recorded.Reads.Post L C L1 L2 K G1 D1 G2 D2)
  sole_prefix_forward_recorded = sole (λ κs x y h. h) (λ κs a o c. c.0 ⨾ none ⨾ none ⨾ none ⨾ c.1 ⨾ end)

  pub one_prefix_forward_recorded : One (prefix_forward_recorded.Kinds.ps L C L1 L2 K) (prefix_forward_recorded.Kinds.r L C L1 L2 K) (prefix_forward_recorded.Reads.Post L C L1 L2 K G1 D1 G2 D2)
  one_prefix_forward_recorded = one_of sole_prefix_forward_recorded

  pub sole_card_forward_recorded : Sole (card_forward_recorded.Kinds.ps L C L1 L2 K) (card_forward_recorded.Kinds.r L C L1 L2 K) (card_forward_recorded.Reads.Post L C L1 L2 K G1 D1 G2 D2)
  sole_card_forward_recorded = sole (λ κs x y h. h) (λ κs a o c. c.0 ⨾ none ⨾ none ⨾ none ⨾ c.1.0 ⨾ c.1.1 ⨾ end)

  pub one_card_forward_recorded : One (card_forward_recorded.Kinds.ps L C L1 L2 K) (card_forward_recorded.Kinds.r L C L1 L2 K) (card_forward_recorded.Reads.Post L C L1 L2 K G1 D1 G2 D2)
  one_card_forward_recorded = one_of sole_card_forward_recorded

  -- columns::backward_pass
  pub sole_column_backward : Sole (column_backward.Kinds.ps L C L1 L2 K) (column_backward.Kinds.r L C L1 L2 K) (column_backward.Reads.Post L C L1 L2 K G1 D1 G2 D2)
  sole_column_backward = sole (λ κs x y h. h) (λ κs a o c. none ⨾ none ⨾ none ⨾ none ⨾ none ⨾ none ⨾ c ⨾ end)

  pub one_column_backward : One (column_backward.Kinds.ps L C L1 L2 K) (column_backward.Kinds.r L C L1 L2 K) (column_backward.Reads.Post L C L1 L2 K G1 D1 G2 D2)
  one_column_backward = one_of sole_column_backward

  pub states_column_backward :
      (κs : Lfts 6) (a : Dens κs (column_backward.Kinds.ps L C L1 L2 K)) (o : Outcome (column_backward.Kinds.ps L C L1 L2 K) (column_backward.Kinds.r L C L1 L2 K) κs a) →
      Claims (column_backward.Kinds.ps L C L1 L2 K) (column_backward.Kinds.r L C L1 L2 K) (column_backward.Reads.Post L C L1 L2 K G1 D1 G2 D2) κs a o →
      column_backward_claim L C L1 L2 K G1 D1 G2 D2 κs a (left (column_backward.Kinds.ps L C L1 L2 K) (column_backward.Kinds.r L C L1 L2 K) κs a o)
  states_column_backward κs a o c = c
