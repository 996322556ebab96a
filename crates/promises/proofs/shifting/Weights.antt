-- Weights of a review that count the same: they are, or both are zero, of either sign. Assumes nothing.
use Prim.Native.Nat.{ℕ}
use mathlib.Core.Bool.{Bool, true, false}
use mathlib.Core.List.{List}
use mathlib.Core.Logic.{◌⊎◌, inl, inr}
use mathlib.Core.Path.{◌≡◌, refl, sym, ◌∙◌}
use borrow.Author.Tests.{not-false}
use lib.Dec.{eqb}
use lib.Ieee.{Float, eq, of_bits}
use Rattle.domain.specs.Limits.{zero32}
use Rattle.domain.proofs.weights.All.{and-false}
use Rattle.checks.specs.Align.{weighed}
use Rattle.checks.proofs.align.Counted.{review_kept, start_kept, padding_weightless}
use Rattle.checks.specs.Reads.{later, non_zero, card_label}
use Rattle.checks.specs.declared.align.Align.{Align}
use Rattle.checks.specs.declared.align.Align.TheVariants.{Start, End}
use Rattle.forward.specs.declared.parameters.RuntimeParams.{RuntimeParams}
use Rattle.columns.specs.ForwardPass.{row_score_def}
use Rattle.columns.specs.LastReview.{last_loss_def, last_grad, last_slots}
use Rattle.columns.specs.Scores.{no_score_def, score_def}
use Rattle.promises.proofs.Weightless.{either}

abbrev pub Alike : (a b : Float) → Type 0
Alike a b = (a ≡ b) ⊎ ((non_zero a ≡ false) × (non_zero b ≡ false))

-- ---- at the end padding has the weight 0, and at the start a zero of its own
none : non_zero zero32 ≡ false
unfolding non_zero eq of_bits
none = refl

module _ (a b : Align) (rx ry wx wy : Float) where
  pub weighed_alike :
      a ≡ End → b ≡ Start → ry ≡ rx → (non_zero ry ≡ true → wy ≡ wx) → (non_zero ry ≡ false → non_zero wy ≡ false) →
      Alike (weighed a rx wx) (weighed b ry wy)
  weighed_alike e d same reviews padding = rw (e, d, ← same, start_kept ry wy) (go (non_zero ry) refl)
    where
      go : (t : Bool) → t ≡ non_zero ry → Alike (weighed End ry wx) wy
      go true h = inl (review_kept End ry wx (sym h) ∙ sym (reviews (sym h)))
      go false h = inr (rw (padding_weightless ry wx (sym h)) none, padding (sym h))

-- ---- a row's score
no_score : (row : ℕ) (r label w : Float) → non_zero w ≡ false → row_score_def row r label w ≡ no_score_def
unfolding non_zero row_score_def score_def
no_score row r label w e = rw (not-false (eq w zero32) e) (either (eqb row 0) no_score_def)

pub score_alike : (row : ℕ) (r label a b : Float) → Alike a b → row_score_def row r label a ≡ row_score_def row r label b
score_alike row r label a b (inl e) = rw e
score_alike row r label a b (inr e) = no_score row r label a e.0 ∙ sym (no_score row r label b e.1)

-- ---- a card's last row
pub no_label : (row : ℕ) (w : Float) → non_zero w ≡ false → card_label row w ≡ false
unfolding card_label
no_label row w e = rw e (and-false (later row))

module _ (p : RuntimeParams) (row : ℕ) (s day label a b : Float) where
  pub loss_alike : (loss : Float) → Alike a b → last_loss_def p row s day label a loss ≡ last_loss_def p row s day label b loss
  unfolding last_loss_def
  loss_alike loss (inl e) = rw e
  loss_alike loss (inr e) = rw (no_label row a e.0, no_label row b e.1)

  pub grad_alike : Alike a b → last_grad p row s day label a ≡ last_grad p row s day label b
  unfolding last_grad
  grad_alike (inl e) = rw e
  grad_alike (inr e) = rw (no_label row a e.0, no_label row b e.1)

  pub slots_alike : (gw : List Float) → Alike a b → last_slots p row s day label a gw ≡ last_slots p row s day label b gw
  unfolding last_slots
  slots_alike gw (inl e) = rw e
  slots_alike gw (inr e) = rw (no_label row a e.0, no_label row b e.1)
