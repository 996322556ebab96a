-- A slice filled entry by entry. Assumes nothing.
use Rattle.std.proofs.Common.{◌≡◌, ℕ, suc, ◌+◌, ◌<◌, List, [], ◌∷◌, length, get_or, refl, ap₂, arith}
use native.Mathlib.Nat.{add-zero, add-suc, suc-add}
use Rattle.batch.specs.Words.{entries}

module _ {A : Type 0} (f : ℕ → A) where
  filled_from : (k : ℕ) (xs : List A) → ((i : ℕ) (d : A) → i < length xs → get_or xs i d ≡ f (k + i)) → xs ≡ entries f k (length xs)
  unfolding entries
  filled_from k [] h = refl
  filled_from k (x ∷ xs) h =
      ap₂ ◌∷◌ (rw (add-zero k) at (h 0 x (omega arith))) (filled_from (suc k) xs (λ i d l. rw (add-suc k i, ← suc-add k i) at (h (suc i) d (omega (arith, l)))))

  pub filled : (k n : ℕ) (xs : List A) → length xs ≡ n → ((i : ℕ) (d : A) → i < n → get_or xs i d ≡ f (k + i)) → xs ≡ entries f k n
  filled k n xs e h = rw (← e) (filled_from k xs (λ i d l. h i d (rw e at l)))
