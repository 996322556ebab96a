-- A test of every entry of a list, computed once, gives what it tests at each place. Assumes nothing.
use mathlib.Core.Path.{◌≡◌, refl, ◌∙◌, subst, sym}
use mathlib.Core.Bool.{Bool, true, false}
use mathlib.Core.List.{List, [], ◌∷◌}
use Prim.Native.Nat.{ℕ, zero, suc, ◌+◌, ◌≤◌, ◌<◌}
use native.Mathlib.Nat.{add-zero, zero-add, add-suc, suc-add, le_of_suc-le-suc, not-suc-le-zero}
use lib.Dec.{T}
use lib.ListN.{length, get_or}

abbrev pub both : Bool → Bool → Bool
both true b = b
both false b = false

pub both_left : (a b : Bool) → T (both a b) → T a
both_left true b t = tt
both_left false b t = t

pub both_right : (a b : Bool) → T (both a b) → T b
both_right true b t = t
both_right false b t = absurd t

-- the test f passes at each entry and its place, counted from i
abbrev pub every : (ℕ → ℕ → Bool) → ℕ → List ℕ → Bool
every f i [] = true
every f i (x ∷ xs) = both (f i x) (every f (suc i) xs)

from : (f : ℕ → ℕ → Bool) (xs : List ℕ) (i : ℕ) → T (every f i xs) → (k : ℕ) → k < length xs → T (f (i + k) (get_or xs k 0))
from f [] i t k h = absurd (not-suc-le-zero h)
from f (x ∷ xs) i t zero h = subst (λ (m : ℕ). T (f m x)) (sym (add-zero i)) (both_left (f i x) (every f (suc i) xs) t)
from f (x ∷ xs) i t (suc k) h =
    subst (λ (m : ℕ). T (f m (get_or xs k 0))) (suc-add i k ∙ sym (add-suc i k))
    (from f xs (suc i) (both_right (f i x) (every f (suc i) xs) t) k (le_of_suc-le-suc h))

pub at : (f : ℕ → ℕ → Bool) (xs : List ℕ) → T (every f 0 xs) → (k : ℕ) → k < length xs → T (f k (get_or xs k 0))
at f xs t k h = subst (λ (m : ℕ). T (f m (get_or xs k 0))) (zero-add k) (from f xs 0 t k h)

-- what stands at a place of a list, whatever is given where there is none; past its end it is what is given
pub inside : (xs : List ℕ) (i d e : ℕ) → i < length xs → get_or xs i d ≡ get_or xs i e
inside [] i d e h = absurd (not-suc-le-zero h)
inside (x ∷ xs) zero d e h = refl
inside (x ∷ xs) (suc i) d e h = inside xs i d e (le_of_suc-le-suc h)

pub end : (xs : List ℕ) (i d : ℕ) → length xs ≤ i → get_or xs i d ≡ d
end [] i d h = refl
end (x ∷ xs) zero d h = absurd (not-suc-le-zero h)
end (x ∷ xs) (suc i) d h = end xs i d (le_of_suc-le-suc h)

-- the same of the numbers i, i + 1, .. n of them
abbrev pub all : (ℕ → Bool) → (i n : ℕ) → Bool
all f i zero = true
all f i (suc n) = both (f i) (all f (suc i) n)

all_from : (f : ℕ → Bool) (n i : ℕ) → T (all f i n) → (k : ℕ) → k < n → T (f (i + k))
all_from f zero i t k h = absurd (not-suc-le-zero h)
all_from f (suc n) i t zero h = subst (λ (m : ℕ). T (f m)) (sym (add-zero i)) (both_left (f i) (all f (suc i) n) t)
all_from f (suc n) i t (suc k) h = subst (λ (m : ℕ). T (f m)) (suc-add i k ∙ sym (add-suc i k)) (all_from f n (suc i) (both_right (f i) (all f (suc i) n) t) k (le_of_suc-le-suc h))

pub all-at : (f : ℕ → Bool) (n : ℕ) → T (all f 0 n) → (k : ℕ) → k < n → T (f k)
all-at f n t k h = subst (λ (m : ℕ). T (f m)) (zero-add k) (all_from f n 0 t k h)
