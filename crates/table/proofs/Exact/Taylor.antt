-- P's numerator and denominator are those of the polynomial with coefficients pcoef over 23!. Assumes nothing.
use mathlib.Core.Path.{◌≡◌, refl}
use mathlib.Core.Bool.{Bool, true, false}
use mathlib.Core.List.{List, [], ◌∷◌}
use Prim.Native.Nat.{ℕ, zero, suc, ◌+◌, ◌*◌, ◌^◌}
use native.Mathlib.Nat.{pow-succ', pow-zero}
use native.Mathlib.Omega.{arith}
use lib.Dec.{T}
use Rattle.table.specs.Exact.{P, fact, taylor}
use Rattle.table.proofs.Exact.Poly.{h}
use Rattle.table.proofs.Exact.Terms.{pcoef, f23}

-- every coefficient m times, and a last one, 1
more : ℕ → List ℕ → List ℕ
more m [] = 1 ∷ []
more m (x ∷ p) = m * x ∷ more m p

terms : ℕ → List ℕ
terms zero = 1 ∷ []
terms (suc n) = more (suc n) (terms n)

-- n + 1 coefficients
full : ℕ → List ℕ → Bool
full zero [] = false
full zero (x ∷ []) = true
full zero (x ∷ y ∷ p) = false
full (suc n) [] = false
full (suc n) (x ∷ p) = full n p

full_more : (n m : ℕ) (p : List ℕ) → T (full n p) → T (full (suc n) (more m p))
unfolding full more
full_more zero m [] t = absurd t
full_more zero m (x ∷ []) t = tt
full_more zero m (x ∷ y ∷ p) t = absurd t
full_more (suc n) m [] t = absurd t
full_more (suc n) m (x ∷ p) t = full_more n m p t

full_terms : (n : ℕ) → T (full n (terms n))
unfolding terms full
full_terms zero = tt
full_terms (suc n) = full_more n (suc n) (terms n) (full_terms n)

h_more : (n m : ℕ) (p : List ℕ) (a b : ℕ) → T (full n p) → h (suc n) (more m p) a b ≡ h n p a b * (m * b) + a ^ suc n
unfolding h more full
h_more zero m [] a b t = absurd t
h_more zero m (x ∷ []) a b t = rw (pow-succ' a 0, pow-zero a, pow-succ' b 0, pow-zero b) (omega arith)
h_more zero m (x ∷ y ∷ p) a b t = absurd t
h_more (suc n) m [] a b t = absurd t
h_more (suc n) m (x ∷ p) a b t = rw (h_more n m p a b t, pow-succ' a (suc n), pow-succ' b (suc n)) (omega arith)

taylor_is : (n a b : ℕ) → taylor n a b ≡ h n (terms n) a b
unfolding taylor terms h
taylor_is zero a b = refl
taylor_is (suc n) a b = rw (h_more n (suc n) (terms n) a b (full_terms n), taylor_is n a b)

terms_are : terms 23 ≡ pcoef
unfolding terms more pcoef
terms_are = refl

pub P-num : (a b : ℕ) → (P a b).num ≡ h 23 pcoef a b
unfolding P
P-num a b = rw (taylor_is 23 a b, terms_are)

pub P-den : (a b : ℕ) → (P a b).den ≡ f23 * b ^ 23
unfolding P fact f23
P-den a b = refl
