use Rattle.std.proofs.Common.{ap}
use Rattle.batch.specs.Sections.{kind_number}
use Rattle.batch.proofs.Formed.{prefix_placed, card_placed}
use Rattle.batch.proofs.call.Call.check.Goals as goal

pub returns-in-Prefixes-clause-place : goal.returns-in-Prefixes-clause-place
returns-in-Prefixes-clause-place c = prefix_placed _ _ _ _ _ c.weights.ensures _ (ap kind_number c.in-Prefixes.is) c.prefixes.ensures c.batch_loss_and_grad_fault.ensures.place

pub returns-in-Cards-clause-place : goal.returns-in-Cards-clause-place
returns-in-Cards-clause-place c = card_placed _ _ _ _ _ c.weights-in-Cards.ensures _ (ap kind_number c.in-Cards.is) c.cards.ensures c.card_loss_and_grad_fault.ensures.place
