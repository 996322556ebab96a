-- A number ±n / d near p / q - 1, by its neighbour: 1 + n / d near p / q, or p / q + n / d near 1. No sign of p / q - 1 is asked. Assumes nothing.
use mathlib.Core.Path.{◌≡◌, ap}
use mathlib.Core.Bool.{Bool, true, false, not}
use Prim.Native.Nat.{ℕ, ◌+◌, ◌-◌, ◌*◌, ◌^◌, ◌≤◌, ◌<◌}
use native.Mathlib.Omega.{arith}
use lib.Dec.{T, ltb, ltb→lt, nltb→le}
use lib.IntN.{ℤ}
use lib.Ieee.{fin, up, down}
use Rattle.table.specs.Exact.{minus_frac}
use Rattle.laws.specs.Distances.{apart, Close}
use Rattle.laws.proofs.Distances.Ln.{less_by, both}

-- |p / q - 1| over q
abbrev pub gap : (p q : ℕ) → ℕ
gap p q = (p - q) + (q - p)

-- what is allowed, 2 ^ -23 |p / q - 1| + 2 ^ -48, times q d 2 ^ 71
abbrev pub room : (p q d : ℕ) → ℕ
room p q d = gap p q * d * 2 ^ 48 + q * d * 2 ^ 23

-- x and y lie no further apart
abbrev pub Within : (x y r : ℕ) → Type 0
Within x y r = (x * 2 ^ 71 ≤ y * 2 ^ 71 + r) × (y * 2 ^ 71 ≤ x * 2 ^ 71 + r)

abbrev pub Sides : Bool → (n d p q : ℕ) → Type 0
Sides false n d p q = Within (n * q + q * d) (p * d) (room p q d)
Sides true n d p q = Within (n * q + p * d) (q * d) (room p q d)

-- ---- the distance of ±x and (p - q) d, by the sign of p - q
far : (x v a b : ℕ) → v + a ≡ b → x + v ≡ ((x + b) - a) + (a - (x + b))
far x v a b e = omega arith

near : (x v a b : ℕ) → v + a ≡ b → (x - v) + (v - x) ≡ ((x + a) - b) + (b - (x + a))
near x v a b e = omega arith

below : (p q d : ℕ) → p < q → gap p q * d + p * d ≡ q * d
below p q d l = go (gap p q) (omega arith)
  where
    go : (r : ℕ) → r + p ≡ q → r * d + p * d ≡ q * d
    go r e = omega (arith, ap (λ (x : ℕ). x * d) e)

above : (p q d : ℕ) → q ≤ p → gap p q * d + q * d ≡ p * d
above p q d l = go (gap p q) (omega arith)
  where
    go : (r : ℕ) → r + q ≡ p → r * d + q * d ≡ p * d
    go r e = omega (arith, ap (λ (x : ℕ). x * d) e)

abbrev spread : Bool → (x p q : ℕ) → ℕ
spread false x p q = ((x + q) - p) + (p - (x + q))
spread true x p q = ((x + p) - q) + (q - (x + p))

apart_is : (s b : Bool) (x p q d : ℕ) → (T b → p < q) → (T (not b) → q ≤ p) → apart s x b (gap p q * d) ≡ spread s x (p * d) (q * d)
apart_is false true x p q d l g = far x (gap p q * d) (p * d) (q * d) (below p q d (l tt))
apart_is false false x p q d l g = near x (gap p q * d) (q * d) (p * d) (above p q d (g tt))
apart_is true true x p q d l g = near x (gap p q * d) (p * d) (q * d) (below p q d (l tt))
apart_is true false x p q d l g = far x (gap p q * d) (q * d) (p * d) (above p q d (g tt))

within : (x y r : ℕ) → Within x y r → ((x - y) + (y - x)) * 2 ^ 71 ≤ r
within x y r h = both x y (2 ^ 71) r (less_by x y r (2 ^ 71) h.0) (less_by y x r (2 ^ 71) h.1)

spread_le : (s : Bool) (n d p q : ℕ) → Sides s n d p q → spread s (n * q) (p * d) (q * d) * 2 ^ 71 ≤ room p q d
spread_le false n d p q h = within (n * q + q * d) (p * d) (room p q d) h
spread_le true n d p q h = within (n * q + p * d) (q * d) (room p q d) h

pub close_by : (s : Bool) (m : ℕ) (e : ℤ) (p q : ℕ) → Sides s (m * up e) (down e) p q → Close 23 48 (fin s m e) (minus_frac p q q)
close_by s m e p q h = rw (apart_is s (ltb p q) (m * up e * q) p q (down e) (ltb→lt p q) (nltb→le p q)) (spread_le s (m * up e) (down e) p q h)
