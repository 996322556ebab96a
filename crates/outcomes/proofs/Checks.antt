-- One outcome: what a loss call is lent, its cells and its checks. A line for each function: its answer, then each parameter in turn. Assumes nothing.
use mathlib.Core.Path.{sym, ◌∙◌}
use denote.RattleType.{RattleType}
use denote.Param.Laws.{Laws, IsCopy}
use mir.Syntax.{Dict}
use Rattle.std.specs.declared.clone.Clone
use Rattle.outcomes.specs.Outcome.{One, one}
use Rattle.outcomes.proofs.Tuples.{◌⨾◌, none, end}
use Rattle.checks.proofs.OneFault.{same_fault}
use Rattle.checks.proofs.places.batch_loss_and_grad_fault
use Rattle.checks.proofs.places.batch_loss_fault
use Rattle.checks.proofs.places.card_loss_and_grad_fault
use Rattle.checks.proofs.places.card_loss_fault
use Rattle.checks.proofs.deck.Table.history as table_history
use Rattle.checks.proofs.deck.Cards.card as cards_card
use Rattle.checks.proofs.reads.is_rating
use Rattle.checks.proofs.align.Align.first_review
use Rattle.checks.proofs.align.Align.counts
use Rattle.checks.proofs.align.Align.target_weight
use Rattle.checks.proofs.align.AlignFromBool.from as align_from
use Rattle.checks.proofs.tables.cell_of
use Rattle.checks.proofs.tables.cell_or
use Rattle.checks.proofs.tables.put_cell
use Rattle.checks.proofs.view.Column.at as column_at
use Rattle.checks.proofs.deck.Table.length as table_length
use Rattle.checks.proofs.deck.Prefixes.target as prefix_target
use Rattle.checks.proofs.deck.Card.target as card_target
use Rattle.checks.proofs.deck.Card.weight as card_weight
use Rattle.checks.proofs.fault.FaultFromRefusal.from as fault_from
use Rattle.checks.proofs.fault.RefusalFromFault.from as refusal_from

-- checks::reads
pub one_is_rating : One is_rating.Kinds.ps is_rating.Kinds.r is_rating.Reads.Post
one_is_rating = one (λ κs a o c. c ⨾ none ⨾ end)

-- checks::align
pub one_align_from : One align_from.Kinds.ps align_from.Kinds.r align_from.Reads.Post
one_align_from = one (λ κs a o c. c ⨾ none ⨾ end)

pub one_first_review : One first_review.Kinds.ps first_review.Kinds.r first_review.Reads.Post
one_first_review = one (λ κs a o c. c ⨾ none ⨾ none ⨾ none ⨾ end)

pub one_counts : One counts.Kinds.ps counts.Kinds.r counts.Reads.Post
one_counts = one (λ κs a o c. c ⨾ none ⨾ none ⨾ end)

pub one_target_weight : One target_weight.Kinds.ps target_weight.Kinds.r target_weight.Reads.Post
one_target_weight = one (λ κs a o c. c ⨾ none ⨾ none ⨾ none ⨾ none ⨾ end)

-- checks::tables
pub one_cell_of : One cell_of.Kinds.ps cell_of.Kinds.r cell_of.Reads.Post
one_cell_of = one (λ κs a o c. c ⨾ none ⨾ none ⨾ none ⨾ end)

module _ (T : RattleType) (L1 : Laws T) (K : IsCopy T) (G1 : Clone.Ghosts T.Denot) (D1 : Dict) where
  pub one_cell_or : One (cell_or.Kinds.ps T L1 K) (cell_or.Kinds.r T L1 K) (cell_or.Reads.Post T L1 K G1 D1)
  one_cell_or = one (λ κs a o c. c ⨾ none ⨾ none ⨾ none ⨾ end)

  pub one_put_cell : One (put_cell.Kinds.ps T L1 K) (put_cell.Kinds.r T L1 K) (put_cell.Reads.Post T L1 K G1 D1)
  one_put_cell = one (λ κs a o c. none ⨾ c ⨾ none ⨾ none ⨾ end)

-- checks::view
pub one_column_at : One column_at.Kinds.ps column_at.Kinds.r column_at.Reads.Post
one_column_at = one (λ κs a o c. c ⨾ none ⨾ none ⨾ end)

-- checks::deck
pub one_table_length : One table_length.Kinds.ps table_length.Kinds.r table_length.Reads.Post
one_table_length = one (λ κs a o c. c ⨾ none ⨾ none ⨾ end)

pub one_table_history : One table_history.Kinds.ps table_history.Kinds.r table_history.Reads.Post
one_table_history = one (λ κs a o c. c.1 ⨾ none ⨾ none ⨾ end)

pub one_cards_card : One cards_card.Kinds.ps cards_card.Kinds.r cards_card.Reads.Post
one_cards_card = one (λ κs a o c. c.1.1.1.0 ⨾ none ⨾ none ⨾ end)

pub one_prefix_target : One prefix_target.Kinds.ps prefix_target.Kinds.r prefix_target.Reads.Post
one_prefix_target = one (λ κs a o c. c ⨾ none ⨾ none ⨾ none ⨾ none ⨾ end)

pub one_card_target : One card_target.Kinds.ps card_target.Kinds.r card_target.Reads.Post
one_card_target = one (λ κs a o c. c ⨾ none ⨾ none ⨾ end)

pub one_card_weight : One card_weight.Kinds.ps card_weight.Kinds.r card_weight.Reads.Post
one_card_weight = one (λ κs a o c. c ⨾ none ⨾ none ⨾ end)

-- checks::fault
pub one_fault_from : One fault_from.Kinds.ps fault_from.Kinds.r fault_from.Reads.Post
one_fault_from = one (λ κs a o c. c ⨾ none ⨾ end)

pub one_refusal_from : One refusal_from.Kinds.ps refusal_from.Kinds.r refusal_from.Reads.Post
one_refusal_from = one (λ κs a o c. c ⨾ none ⨾ end)

-- checks::places
pub one_batch_loss_and_grad_fault : One batch_loss_and_grad_fault.Kinds.ps batch_loss_and_grad_fault.Kinds.r batch_loss_and_grad_fault.Reads.Post
one_batch_loss_and_grad_fault = record { same = λ κs a o o' c c'. same_fault _ o.0 o'.0 (c.1.0 ∙ sym c'.1.0) c.1.1.1 c'.1.1.1 ⨾ none ⨾ none ⨾ none ⨾ none ⨾ end }

pub one_batch_loss_fault : One batch_loss_fault.Kinds.ps batch_loss_fault.Kinds.r batch_loss_fault.Reads.Post
one_batch_loss_fault = record { same = λ κs a o o' c c'. same_fault _ o.0 o'.0 (c.1.0 ∙ sym c'.1.0) c.1.1.1 c'.1.1.1 ⨾ none ⨾ none ⨾ end }

pub one_card_loss_and_grad_fault : One card_loss_and_grad_fault.Kinds.ps card_loss_and_grad_fault.Kinds.r card_loss_and_grad_fault.Reads.Post
one_card_loss_and_grad_fault = record { same = λ κs a o o' c c'. same_fault _ o.0 o'.0 (c.1.0 ∙ sym c'.1.0) c.1.1.1 c'.1.1.1 ⨾ none ⨾ none ⨾ none ⨾ none ⨾ none ⨾ end }

pub one_card_loss_fault : One card_loss_fault.Kinds.ps card_loss_fault.Kinds.r card_loss_fault.Reads.Post
one_card_loss_fault = record { same = λ κs a o o' c c'. same_fault _ o.0 o'.0 (c.1.0 ∙ sym c'.1.0) c.1.1.1 c'.1.1.1 ⨾ none ⨾ none ⨾ end }
