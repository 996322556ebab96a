-- Small facts that more than one proof wants: a number that is not 0, and the word that a shift of 1 makes. Assumes nothing.
use Rattle.std.proofs.Common.{◌≡◌, ℕ, zero, suc, ◌<◌, refl, zero-lt-suc}

pub pos_of : (n : ℕ) → (n ≡ 0 → ⊥) → 0 < n
pos_of zero h = absurd (h refl)
pos_of (suc n) h = zero-lt-suc n
