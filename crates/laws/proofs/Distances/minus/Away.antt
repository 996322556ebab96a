-- exp in double, less 1, rounded to single, for an exp that is within 2 ^ -50 of p / q: within 2 ^ -23 |p / q - 1| + 2 ^ -48 of p / q - 1. Assumes nothing.
use mathlib.Core.Path.{◌≡◌, sym, ap, ◌∙◌, subst}
use mathlib.Core.Bool.{Bool, true, false, cond}
use mathlib.Core.Logic.{inl, inr}
use Prim.Native.Nat.{ℕ, zero, ◌+◌, ◌-◌, ◌*◌, ◌^◌, ◌≤◌, ◌<◌}
use native.Mathlib.Nat.{le_trans, le_of_eq, le_of_lt, lt_of_le_of_lt, one-mul, mul-one, mul-pos, mul-le-mul_right, le_of_mul-le-mul_right}
use native.Mathlib.Omega.{arith}
use borrow.Author.Tests.{le-ltb, lt-ltb}
use lib.Dec.{ltb, lit<, lit≤}
use lib.IntN.{ℤ}
use lib.Pow.{pow_pos}
use lib.Ieee.{Float, nan, inf, fin, binary32, binary64, up, down, round, of_bits, neg, sum, add, sub}
use lib.Ieee.Exact.{HasValue}
use lib.Ieee.Fits.{down_pos}
use lib.Ieee.Scale.{grid}
use Rattle.table.specs.Exact.{minus_frac}
use Rattle.soft.specs.Narrow.{narrow_def}
use Rattle.kernels.specs.Kernels.{one64}
use Rattle.kernels.proofs.Definitions.Natural.{lt-or-ge}
use Rattle.laws.specs.Distances.{Near, Close}
use Rattle.laws.proofs.Distances.minus.Gathered.{above_one, below_one}
use Rattle.laws.proofs.Distances.minus.Rounded.{grid_value, round_near, grid_le}
use Rattle.laws.proofs.Distances.minus.Sides.{gap, room, Within, Sides, close_by}

-- ---- numbers alone: p / q is E, y / f exp, u / f what it differs by from 1, w / d that rounded to double, n / c that to single
-- u / f is y / f - 1, or 1 - y / f
abbrev Differs : Bool → (u y f : ℕ) → Type 0
Differs false u y f = u + f ≡ y
Differs true u y f = u + y ≡ f

-- w / d is u / f rounded, where the smallest value is 1 / l
abbrev Rounded : (k u f w d l : ℕ) → Type 0
Rounded k u f w d l = (w * f * l * 2 ^ k ≤ u * d * l * (2 ^ k + 1) + f * d * 2 ^ k) × (u * d * l * (2 ^ k - 1) ≤ w * f * l * 2 ^ k + f * d * 2 ^ k)

unscaled : (x y r k : ℕ) → zero < k → Within (x * k) (y * k) (r * k) → Within x y r
unscaled x y r k z h = (le_of_mul-le-mul_right {k = k} (omega (arith, h.0)) z, le_of_mul-le-mul_right {k = k} (omega (arith, h.1)) z)

gap_hi : (p q : ℕ) → (p ≤ q + gap p q) × (q ≤ p + gap p q)
gap_hi p q = (omega arith, omega arith)

module _ (p q y f u w d n c L l : ℕ) (zf : zero < f) (zd : zero < d) (z_l : 2 ^ 60 ≤ L) (zl : 2 ^ 60 ≤ l)
    (hi : y * q * 2 ^ 50 ≤ p * f * (2 ^ 50 + 1)) (lo : p * f * (2 ^ 50 - 1) ≤ y * q * 2 ^ 50) (first : Rounded 53 u f w d L) (second : Rounded 24 w d n c l) where
  -- all over q f d c L l
  abbrev k : ℕ
  k = f * d * L * l

  k_pos : zero < k
  k_pos = mul-pos (mul-pos (mul-pos zf zd) (le_trans (lit≤ tt) z_l)) (le_trans (lit≤ tt) zl)

  abbrev g : ℕ
  g = gap p q

  scaled_hi : y * q * d * c * L * l * 2 ^ 50 ≤ p * c * k * (2 ^ 50 + 1)
  scaled_hi = omega (arith, mul-le-mul_right (d * c * L * l) hi)

  scaled_lo : p * c * k * (2 ^ 50 - 1) ≤ y * q * d * c * L * l * 2 ^ 50
  scaled_lo = omega (arith, mul-le-mul_right (d * c * L * l) lo)

  scaled_first : (w * q * f * c * L * l * 2 ^ 53 ≤ u * q * d * c * L * l * (2 ^ 53 + 1) + q * f * d * c * l * 2 ^ 53)
      × (u * q * d * c * L * l * (2 ^ 53 - 1) ≤ w * q * f * c * L * l * 2 ^ 53 + q * f * d * c * l * 2 ^ 53)
  scaled_first = (omega (arith, mul-le-mul_right (q * c * l) first.0), omega (arith, mul-le-mul_right (q * c * l) first.1))

  scaled_second : (n * q * k * 2 ^ 24 ≤ w * q * f * c * L * l * (2 ^ 24 + 1) + q * f * d * c * L * 2 ^ 24)
      × (w * q * f * c * L * l * (2 ^ 24 - 1) ≤ n * q * k * 2 ^ 24 + q * f * d * c * L * 2 ^ 24)
  scaled_second = (omega (arith, mul-le-mul_right (q * f * L) second.0), omega (arith, mul-le-mul_right (q * f * L) second.1))

  far : p * c * k ≤ q * c * k + g * c * k
  far = omega (arith, mul-le-mul_right (c * k) (gap_hi p q).0)

  near : q * c * k ≤ p * c * k + g * c * k
  near = omega (arith, mul-le-mul_right (c * k) (gap_hi p q).1)

  few : q * f * d * c * l * 2 ^ 60 ≤ q * c * k
  few = omega (arith, mul-le-mul_right (q * f * d * c * l) z_l)

  fewer : q * f * d * c * L * 2 ^ 60 ≤ q * c * k
  fewer = omega (arith, mul-le-mul_right (q * f * d * c * L) zl)

  pub gathered : (s : Bool) → Differs s u y f → Sides s n c p q
  gathered false e =
      unscaled (n * q + q * c) (p * c) (room p q c) k k_pos
      (turn (n * q) (q * c) (p * c) (g * c) k
      (above_one (p * c * k) (y * q * d * c * L * l) (u * q * d * c * L * l) (w * q * f * c * L * l) (n * q * k) (q * c * k) (g * c * k) (q * f * d * c * l) (q * f * d * c * L)
      scaled_hi scaled_lo far near scaled_first scaled_second few fewer (omega (arith, ap (λ (x : ℕ). x * (q * d * c * L * l)) e))))
    where
      turn : (x o e w k : ℕ) → Within (x * k + o * k) (e * k) (w * k * 2 ^ 48 + o * k * 2 ^ 23) → Within ((x + o) * k) (e * k) ((w * 2 ^ 48 + o * 2 ^ 23) * k)
      turn x o e w k h = (omega (arith, h.0), omega (arith, h.1))
  gathered true e =
      unscaled (n * q + p * c) (q * c) (room p q c) k k_pos
      (turn (n * q) (q * c) (p * c) (g * c) k
      (below_one (p * c * k) (y * q * d * c * L * l) (u * q * d * c * L * l) (w * q * f * c * L * l) (n * q * k) (q * c * k) (g * c * k) (q * f * d * c * l) (q * f * d * c * L)
      scaled_hi scaled_lo far near scaled_first scaled_second few fewer (omega (arith, ap (λ (x : ℕ). x * (q * d * c * L * l)) e))))
    where
      turn : (x o e w k : ℕ) → Within (x * k + e * k) (o * k) (w * k * 2 ^ 48 + o * k * 2 ^ 23) → Within ((x + e) * k) (o * k) ((w * 2 ^ 48 + o * 2 ^ 23) * k)
      turn x o e w k h = (omega (arith, h.0), omega (arith, h.1))

-- ---- a fraction u / f that was rounded to x / d, in units of 1 / l
value_near : (k u f g w d l : ℕ) → w * l ≡ g * d → (g * f * 2 ^ k ≤ u * l * (2 ^ k + 1) + f * 2 ^ k) × (u * l * (2 ^ k - 1) ≤ g * f * 2 ^ k + f * 2 ^ k) → Rounded k u f w d l
value_near k u f g w d l e h = (
  go_up (2 ^ k) (2 ^ k + 1) u f g w d l e h.0,
  go_down (2 ^ k) (2 ^ k - 1) u f g w d l e h.1,
)
  where
    go_up : (p r u f g w d l : ℕ) → w * l ≡ g * d → g * f * p ≤ u * l * r + f * p → w * f * l * p ≤ u * d * l * r + f * d * p
    go_up p r u f g w d l e h = omega (arith, ap (λ (x : ℕ). x * (f * p)) e, mul-le-mul_right d h)

    go_down : (p r u f g w d l : ℕ) → w * l ≡ g * d → u * l * r ≤ g * f * p + f * p → u * d * l * r ≤ w * f * l * p + f * d * p
    go_down p r u f g w d l e h = omega (arith, ap (λ (x : ℕ). x * (f * p)) e, mul-le-mul_right d h)

-- no more than B once rounded: the value's own numerator and denominator
value_le : (w g d l B : ℕ) → zero < l → w * l ≡ g * d → g ≤ B * l → w ≤ B * d
value_le w g d l B z e h = le_of_mul-le-mul_right {k = l} (omega (arith, e, mul-le-mul_right d h)) z

-- 3 * 2 ^ 124, which the difference does not pass; twice it, once rounded
abbrev most : ℕ
most = 3 * 2 ^ 124

-- ---- the two roundings
module _ (p q y f : ℕ) (zf : zero < f) (hi : y * q * 2 ^ 50 ≤ p * f * (2 ^ 50 + 1)) (lo : p * f * (2 ^ 50 - 1) ≤ y * q * 2 ^ 50)
    (s : Bool) (u : ℕ) (e : Differs s u y f) (small : u ≤ most * f) where
  g₁ : ℕ
  g₁ = grid binary64 u f

  g₁-le : g₁ ≤ 2 * most * 2 ^ 1074
  unfolding g₁
  g₁-le = grid_le binary64 u f most zf (lit< tt) small

  to_single : (t : Bool) (m : ℕ) (d : ℤ) → t ≡ s → m * up d * 2 ^ 1074 ≡ g₁ * down d → Close 23 48 (round binary32 t (m * up d) (down d)) (minus_frac p q q)
  unfolding g₁
  to_single t m d ts v = go (round binary32 t (m * up d) (down d)) (grid_value binary32 t (m * up d) (down d) (lt_of_le_of_lt single_le (lit< tt)))
    where
      w_le : m * up d ≤ 2 * most * down d
      w_le = value_le (m * up d) g₁ (down d) (2 ^ 1074) (2 * most) (pow_pos 1074) v g₁-le

      single_le : grid binary32 (m * up d) (down d) ≤ 2 * (2 * most) * 2 ^ 149
      single_le = grid_le binary32 (m * up d) (down d) (2 * most) (down_pos d) (lit< tt) w_le

      go : (z : Float) → HasValue z t (grid binary32 (m * up d) (down d)) (2 ^ 149) → Close 23 48 z (minus_frac p q q)
      go nan h = absurd h
      go (inf r) h = absurd h
      go (fin r n c) h =
          close_by r n c p q
          (subst (λ (b : Bool). Sides b (n * up c) (down c) p q) (sym (h.0 ∙ ts))
          (gathered p q y f u (m * up d) (down d) (n * up c) (down c) (2 ^ 1074) (2 ^ 149) zf (down_pos d) (lit≤ tt) (lit≤ tt) hi lo
          (value_near 53 u f g₁ (m * up d) (down d) (2 ^ 1074) v (round_near binary64 u f zf))
          (value_near 24 (m * up d) (down d) (grid binary32 (m * up d) (down d)) (n * up c) (down c) (2 ^ 149) h.1 (round_near binary32 (m * up d) (down d) (down_pos d))) s e))

  twice : Close 23 48 (narrow_def binary32 (round binary64 s u f)) (minus_frac p q q)
  unfolding g₁ narrow_def
  twice = go (round binary64 s u f) (grid_value binary64 s u f (lt_of_le_of_lt g₁-le (lit< tt)))
    where
      go : (z : Float) → HasValue z s g₁ (2 ^ 1074) → Close 23 48 (narrow_def binary32 z) (minus_frac p q q)
      go nan h = absurd h
      go (inf r) h = absurd h
      go (fin t m d) h = to_single t m d h.0 h.1

-- ---- exp less 1
pub minus_one : (m : ℕ) (e : ℤ) → sub binary64 (fin false m e) one64
    ≡ cond (ltb (m * up e) (down e)) (round binary64 true (down e - m * up e) (down e)) (round binary64 false (m * up e - down e) (down e))
unfolding sub add neg sum of_bits
minus_one m e i =
    cond (ltb (mul-one (m * up e) i) (one-mul (down e) i)) (round binary64 true (one-mul (down e) i - mul-one (m * up e) i) (mul-one (down e) i))
    (round binary64 false (mul-one (m * up e) i - one-mul (down e) i) (mul-one (down e) i))

-- y / f is at most 3 * 2 ^ 124, c being 2 ^ 124
y_le : (p q y f c : ℕ) → zero < q → p ≤ 2 * c * q → y * q * 2 ^ 50 ≤ p * f * (2 ^ 50 + 1) → y ≤ 3 * c * f
y_le p q y f c z l h = le_of_mul-le-mul_right {k = q * 2 ^ 50} (omega (arith, h, mul-le-mul_right (f * (2 ^ 50 + 1)) l)) (mul-pos z (lit< tt))

pub less_one_close : (p q m : ℕ) (e : ℤ) → zero < q → p ≤ 2 ^ 125 * q → Near 50 (fin false m e) (record { num = p; den = q })
    → Close 23 48 (narrow_def binary32 (sub binary64 (fin false m e) one64)) (minus_frac p q q)
less_one_close p q m e z l h =
    rw (minus_one m e) (elim (lt-or-ge (m * up e) (down e)) [
      | inl k ↦ rw (lt-ltb (m * up e) (down e) k)
          (twice p q (m * up e) (down e) (down_pos e) h.0 h.1 true (down e - m * up e) (back (m * up e) (down e) (le_of_lt k)) (less (down e) (m * up e)))
      | inr k ↦ rw (le-ltb (m * up e) (down e) k)
          (twice p q (m * up e) (down e) (down_pos e) h.0 h.1 false (m * up e - down e) (back (down e) (m * up e) k)
          (le_trans (cut (m * up e) (down e)) (y_le p q (m * up e) (down e) (2 ^ 124) z l h.0)))
    ])
  where
    back : (x y : ℕ) → x ≤ y → y - x + x ≡ y
    back x y l = omega arith

    cut : (x y : ℕ) → x - y ≤ x
    cut x y = omega arith

    less : (f y : ℕ) → f - y ≤ most * f
    less f y = le_trans (cut f y) (le_trans (le_of_eq (sym (one-mul f))) (mul-le-mul_right f (lit≤ tt)))
