-- Horner's rule with terms cut in any way: v stands for p(x / w), never above it and at most e below, and a step loses what its cut loses. Assumes nothing.
use mathlib.Core.List.{List, [], ◌∷◌}
use Prim.Native.Nat.{ℕ, zero, suc, ◌+◌, ◌*◌, ◌/◌, ◌^◌, ◌≤◌, ◌<◌}
use native.Mathlib.Nat.{mul-le-mul, mul-le-mul_left, mul-le-mul_right, le_of_mul-le-mul_right, pow-succ', pow-zero, div-mul-le_self, lt-div-mul-add}
use native.Mathlib.Omega.{arith}
use Rattle.table.proofs.Exact.Poly.{h}

-- a crude bound
unfoldable pub total : List ℕ → ℕ
total [] = 0
total (c ∷ p) = c + total p

pub record Chain (K : ℕ) (p : List ℕ) (x w v e : ℕ) : Type 0 where
  pub under : v * w ^ K ≤ h K p x w
  pub over : h K p x w ≤ (v + e) * w ^ K
  pub most : v ≤ total p

-- k is x v / w, cut: never above, at most l below
pub record Cut (x v w k l : ℕ) : Type 0 where
  pub under : k * w ≤ x * v
  pub over : x * v ≤ (k + l) * w

pub le_cut : (n d : ℕ) → zero < d → n ≤ (n / d + 1) * d
le_cut n d z = omega (arith, lt-div-mul-add {a = n} z)

pub quotient : (x v d : ℕ) → zero < d → Cut x v d (x * v / d) 1
quotient x v d z = record { under = div-mul-le_self (x * v) d; over = le_cut (x * v) d z }

pub last : (c x w : ℕ) → Chain 0 (c ∷ []) x w c 0
unfolding h total
last c x w = record { under = rw (pow-zero w) (omega arith); over = rw (pow-zero w) (omega arith); most = omega arith }

pub step : {K c : ℕ} {p : List ℕ} {x w v e k l : ℕ} → zero < w → x ≤ w → Cut x v w k l → Chain K p x w v e → Chain (suc K) (c ∷ p) x w (c + k) (l + e)
unfolding h total
step {K} {c} {p} {x} {w} {v} {e} {k} {l} z xl t s = record {
  under = rw (pow-succ' w K) (omega (arith, mul-le-mul_right (w ^ K) t.under, mul-le-mul_left x s.under));
  over = rw (pow-succ' w K) (omega (arith, mul-le-mul_right (w ^ K) t.over, mul-le-mul_left x s.over, mul-le-mul_right (e * w ^ K) xl));
  most = omega (arith, s.most, le_of_mul-le-mul_right {m = k} {n = v} {k = w} (omega (arith, t.under, mul-le-mul_right v xl)) z);
}

-- x by e, x / m cut, and v by u, v / c cut, for w = m c d: k = e u / d
pub narrow : (x v m c d e u r l : ℕ) → zero < d → e * m ≤ x → x ≤ (e + 1) * m → u * c ≤ v → v ≤ u * c + r → e * r + v ≤ l * (c * d)
    → Cut x v (m * (c * d)) (e * u / d) (l + 1)
narrow x v m c d e u r l z e0 e1 u0 u1 s = record {
  under = low x v m c d e u (e * u / d) e0 u0 (div-mul-le_self (e * u) d);
  over = high x v m c d e u (e * u / d) r l e1 u1 s (lt-div-mul-add {a = e * u} z);
}
  where
    low : (x v m c d e u k : ℕ) → e * m ≤ x → u * c ≤ v → k * d ≤ e * u → k * (m * (c * d)) ≤ x * v
    low x v m c d e u k e0 u0 hk = omega (arith, mul-le-mul e0 u0, mul-le-mul_right (m * c) hk)

    high : (x v m c d e u k r l : ℕ) → x ≤ (e + 1) * m → v ≤ u * c + r → e * r + v ≤ l * (c * d) → e * u < k * d + d → x * v ≤ (k + (l + 1)) * (m * (c * d))
    high x v m c d e u k r l e1 u1 s hk =
        omega (arith, mul-le-mul_right v e1, mul-le-mul_left (e * m) u1, mul-le-mul_left m s, mul-le-mul_left (m * c) hk)
