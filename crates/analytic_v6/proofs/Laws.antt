-- What follows from the entries' equations: the gradient entry's loss is the loss-only one's. Assumes nothing.
use Prim.Native.Nat.{ℕ}
use mathlib.Core.List.{List}
use mathlib.Core.Path.{◌≡◌}
use lib.Ieee.{Float}
use Rattle.checks.specs.Batch.{Prefixes, Cards}
use Rattle.checks.specs.Refusals.{prefix_loss_refusal_def, prefix_grad_refusal_def, card_loss_refusal_def, card_grad_refusal_def}
use Rattle.checks.proofs.Orders.{alone_accepted}
use Rattle.analytic_v6.specs.Prefixes.{batch_loss_and_grad_def, batch_loss_def}
use Rattle.analytic_v6.specs.Cards.{cards_loss_and_grad, cards_loss}

pub prefixes_same_loss :
    (w : List Float) (x : Prefixes) (gw room : ℕ) → prefix_grad_refusal_def w x gw room ≡ 0 → batch_loss_and_grad_def w x gw room ≡ batch_loss_def w x
unfolding prefix_grad_refusal_def prefix_loss_refusal_def batch_loss_and_grad_def batch_loss_def
prefixes_same_loss w x gw room z = rw (z, alone_accepted w _ _ _ _ z)

pub cards_same_loss :
    (w : List Float) (x : Cards) (gw room step_grads : ℕ) → card_grad_refusal_def w x gw room step_grads ≡ 0 →
    cards_loss_and_grad w x gw room step_grads ≡ cards_loss w x
unfolding card_grad_refusal_def card_loss_refusal_def cards_loss_and_grad cards_loss
cards_same_loss w x gw room step_grads z = rw (z, alone_accepted w _ _ _ _ z)
