-- What an accepted call of the card entries has passed. Assumes nothing.
use Prim.Native.Nat.{ℕ, ◌≤◌}
use mathlib.Core.Bool.{Bool, true, false, ◌&&◌}
use mathlib.Core.List.{List}
use mathlib.Core.Path.{◌≡◌, refl, sym, ◌∙◌, subst}
use borrow.Author.Tests.{leb-true}
use lib.Dec.{T}
use lib.Ieee.{Float}
use Rattle.domain.specs.Weights.{weights_refusal_def}
use Rattle.checks.specs.Batch.{Cards}
use Rattle.checks.specs.Refusals.{longest_of, card_loss_refusal_def, card_grad_refusal_def}
use Rattle.checks.proofs.Orders.{loss_accepted, grad_accepted}

pub halves : (a b : Bool) → a && b ≡ true → (a ≡ true) × (b ≡ true)
halves true b e = (refl, e)
halves false b e = absurd (subst T (sym e) tt)

module _ (w : List Float) (x : Cards) (n : ℕ) (z : n ≡ 0) where
  pub loss_weights : n ≡ card_loss_refusal_def w x → weights_refusal_def w ≡ 0
  unfolding card_loss_refusal_def
  loss_weights e = (loss_accepted w _ _ (sym e ∙ z)).0

  module _ (slots records step_grads : ℕ) (e : n ≡ card_grad_refusal_def w x slots records step_grads) where
    pub grad_weights : weights_refusal_def w ≡ 0
    unfolding card_grad_refusal_def
    grad_weights = (grad_accepted w _ _ _ _ (sym e ∙ z)).0

    pub grad_room : (longest_of x.table ≤ records) × (longest_of x.table ≤ step_grads)
    unfolding card_grad_refusal_def
    grad_room =
        let h = halves _ _ (grad_accepted w _ _ _ _ (sym e ∙ z)).3 in (leb-true _ _ h.0, leb-true _ _ h.1)
