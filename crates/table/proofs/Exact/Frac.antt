-- The polynomial at two fractions a / b and c / d
use mathlib.Core.Path.{◌≡◌, refl}
use mathlib.Core.List.{List, [], ◌∷◌}
use Prim.Native.Nat.{ℕ, zero, suc, ◌+◌, ◌*◌, ◌^◌, ◌≤◌}
use native.Mathlib.Nat.{mul-le-mul, pow-succ', pow-zero}
use native.Mathlib.Omega.{arith}
use mathlib.Core.Logic.{◌⊎◌, inl, inr}
use native.Mathlib.Decide.{dec_le}
use Rattle.table.proofs.Exact.Poly.{h}
use Rattle.table.proofs.Exact.Terms.{pcoef, f23}
use Rattle.table.proofs.Exact.Laws.{h_mono, pow-mul}

-- the same fraction
pub h_homog : (K : ℕ) (p : List ℕ) (k a b : ℕ) → h K p (k * a) (k * b) ≡ k ^ K * h K p a b
unfolding h
h_homog zero [] k a b = omega arith
h_homog zero (c ∷ p) k a b = rw (pow-zero k) (omega arith)
h_homog (suc K) [] k a b = omega arith
h_homog (suc K) (c ∷ p) k a b = rw (h_homog K p k a b, pow-mul k b (suc K), pow-succ' k K) (omega arith)

grow : (x y a b c d b1 d1 u v : ℕ) → c * c * u * (b * b1) ≤ a * a * v * (d * d1)
    → (x * (d * d1) + c * (y * d1 + c * u)) * (b * b1) + y * (a * d) * (b1 * d1) ≤ (x * (b * b1) + a * (y * b1 + a * v)) * (d * d1) + y * (c * b) * (b1 * d1)
grow x y a b c d b1 d1 u v l = omega arith

squares : (a b c d bK dK u v : ℕ) → c * b ≤ a * d → u * bK ≤ v * dK → c * c * u * (b * (b * bK)) ≤ a * a * v * (d * (d * dK))
squares a b c d bK dK u v l m = omega (arith, mul-le-mul (mul-le-mul l l) m)

-- P(a / b) - P(c / d) is at least the coefficient of x times a / b - c / d
pub h_grow : (K x y : ℕ) (p : List ℕ) (a b c d : ℕ) → c * b ≤ a * d
    → h (suc (suc K)) (x ∷ y ∷ p) c d * b ^ suc (suc K) + y * (a * d) * (b ^ suc K * d ^ suc K) ≤ h (suc (suc K)) (x ∷ y ∷ p) a b * d ^ suc
    (suc K) + y * (c * b) * (b ^ suc K * d ^ suc K)
unfolding h
h_grow K x y p a b c d l =
    rw (pow-succ' b (suc K), pow-succ' d (suc K), pow-succ' b K, pow-succ' d K)
    (grow x y a b c d (b * b ^ K) (d * d ^ K) (h K p c d) (h K p a b) (squares a b c d (b ^ K) (d ^ K) (h K p c d) (h K p a b) l (h_mono K p c d a b l)))

rest : List ℕ → List ℕ
rest [] = []
rest (x ∷ []) = []
rest (x ∷ y ∷ p) = p

p_shape : pcoef ≡ f23 ∷ f23 ∷ rest pcoef
unfolding pcoef f23 rest
p_shape = refl

pub P-grow : (a b c d : ℕ) → c * b ≤ a * d
    → h 23 pcoef c d * (b * b ^ 22) + f23 * (a * d) * (b ^ 22 * d ^ 22) ≤ h 23 pcoef a b * (d * d ^ 22) + f23 * (c * b) * (b ^ 22 * d ^ 22)
P-grow a b c d l = rw (← pow-succ' b 22, ← pow-succ' d 22, p_shape) (h_grow 21 f23 f23 (rest pcoef) a b c d l)

pub either : (m n : ℕ) → (m ≤ n) ⊎ (n ≤ m)
either m n = elim (dec_le m n) [ yes l ↦ inl l | no k ↦ inr (omega arith) ]
