-- One more column, and all of them. Assumes nothing.
use Prim.Native.Nat.{ℕ, ◌+◌}
use mathlib.Core.List.{List}
use mathlib.Core.Path.{◌≡◌, ap, ◌∙◌, refl, subst}
use native.Mathlib.Numerals.{add-one}
use lib.Ieee.{Float}
use Rattle.domain.specs.Doubles.{◌+ᵈ◌, zero64}
use Rattle.checks.specs.Columns.{total, through}

module _ (part : ℕ → Float) where
  pub no_total : zero64 ≡ total part 0
  unfolding total
  no_total = refl

  pub next_total : (k : ℕ) (loss x : Float) → loss ≡ total part k → x ≡ part k → loss +ᵈ x ≡ total part (k + 1)
  unfolding total
  next_total k loss x e h = rw (add-one k, e, h)

  pub all_total : (k n : ℕ) → k ≡ n → (loss : Float) → loss ≡ total part k → loss ≡ total part n
  all_total k n e loss h = subst (λ (m : ℕ). loss ≡ total part m) e h

module _ (change : ℕ → List Float → List Float) (start : List Float) where
  pub none_through : start ≡ through change 0 start
  unfolding through
  none_through = refl

  pub next_through : (k : ℕ) (xs after : List Float) → xs ≡ through change k start → after ≡ change k xs → after ≡ through change (k + 1) start
  unfolding through
  next_through k xs after e h = rw (add-one k) (h ∙ ap (λ (y : List Float). change k y) e)

  pub all_through : (k n : ℕ) → k ≡ n → (xs : List Float) → xs ≡ through change k start → xs ≡ through change n start
  all_through k n e xs h = subst (λ (m : ℕ). xs ≡ through change m start) e h
