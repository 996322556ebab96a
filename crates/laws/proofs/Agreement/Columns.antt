-- Column after column: equal parts give equal sums and slots, and a slot that no column moves is left. Assumes nothing.
use Prim.Native.Nat.{ℕ, zero, suc, ◌<◌}
use mathlib.Core.List.{List}
use mathlib.Core.Path.{◌≡◌, refl, ap, ◌∙◌}
use native.Mathlib.Nat.{le-suc, lt_of_lt_of_le, lt-suc_self}
use lib.Ieee.{Float}
use Rattle.domain.specs.Weights.{◌!◌}
use Rattle.checks.specs.Columns.{total, through}

pub total_same : (f g : ℕ → Float) (n : ℕ) → ((column : ℕ) → column < n → f column ≡ g column) → total f n ≡ total g n
unfolding total
total_same f g zero h = refl
total_same f g (suc n) h = rw (total_same f g n (λ i l. h i (lt_of_lt_of_le l (le-suc n))), h n (lt-suc_self n))

pub through_same :
    (f g : ℕ → List Float → List Float) (n : ℕ) → ((column : ℕ) → column < n → (xs : List Float) → f column xs ≡ g column xs) →
    (xs : List Float) → through f n xs ≡ through g n xs
unfolding through
through_same f g zero h xs = refl
through_same f g (suc n) h xs = h n (lt-suc_self n) _ ∙ ap (g n) (through_same f g n (λ i l. h i (lt_of_lt_of_le l (le-suc n))) xs)

pub through_keeps :
    (k : ℕ) (f : ℕ → List Float → List Float) (n : ℕ) → ((column : ℕ) → column < n → (xs : List Float) → f column xs ! k ≡ xs ! k) →
    (xs : List Float) → through f n xs ! k ≡ xs ! k
unfolding through
through_keeps k f zero h xs = refl
through_keeps k f (suc n) h xs = h n (lt-suc_self n) _ ∙ through_keeps k f n (λ i l. h i (lt_of_lt_of_le l (le-suc n))) xs
