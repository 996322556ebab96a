-- What an accepted call of the prefix entries has passed. Assumes nothing.
use Prim.Native.Nat.{ℕ, ◌≤◌}
use mathlib.Core.List.{List}
use mathlib.Core.Path.{◌≡◌, sym, ◌∙◌}
use borrow.Author.Tests.{leb-true}
use lib.Ieee.{Float}
use Rattle.domain.specs.Weights.{weights_refusal_def}
use Rattle.checks.specs.Batch.{Prefixes}
use Rattle.checks.specs.Refusals.{longest_of, prefix_loss_refusal_def, prefix_grad_refusal_def}
use Rattle.checks.proofs.Orders.{loss_accepted, grad_accepted}

module _ (w : List Float) (x : Prefixes) (n : ℕ) (z : n ≡ 0) where
  pub loss_weights : n ≡ prefix_loss_refusal_def w x → weights_refusal_def w ≡ 0
  unfolding prefix_loss_refusal_def
  loss_weights e = (loss_accepted w _ _ (sym e ∙ z)).0

  module _ (slots records : ℕ) (e : n ≡ prefix_grad_refusal_def w x slots records) where
    pub grad_weights : weights_refusal_def w ≡ 0
    unfolding prefix_grad_refusal_def
    grad_weights = (grad_accepted w _ _ _ _ (sym e ∙ z)).0

    pub grad_room : longest_of x.table ≤ records
    unfolding prefix_grad_refusal_def
    grad_room = leb-true _ _ (grad_accepted w _ _ _ _ (sym e ∙ z)).3
