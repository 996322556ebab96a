-- E's value e, exp's y, their difference from 1, that difference rounded to double and again to single, all over one denominator o: the last is near
-- e - 1. t and v are the smallest double and single in that unit. Numbers alone. Assumes nothing.
use mathlib.Core.Path.{◌≡◌}
use Prim.Native.Nat.{ℕ, ◌+◌, ◌-◌, ◌*◌, ◌^◌, ◌≤◌}
use native.Mathlib.Nat.{le_trans, le_of_eq, mul-le-mul_right}
use native.Mathlib.Omega.{arith}
use Rattle.laws.proofs.Distances.minus.Sides.{Within}

-- u rounded to a: within 2 ^ -p of itself, and a smallest value
abbrev pub Rounds : (p u a t : ℕ) → Type 0
Rounds p u a t = (a * 2 ^ p ≤ u * (2 ^ p + 1) + t * 2 ^ p) × (u * (2 ^ p - 1) ≤ a * 2 ^ p + t * 2 ^ p)

-- two roundings: c against u, at 2 ^ 77
twice_up : (u a c t v : ℕ) → a * 2 ^ 53 ≤ u * (2 ^ 53 + 1) + t * 2 ^ 53 → c * 2 ^ 24 ≤ a * (2 ^ 24 + 1) + v * 2 ^ 24
    → c * 2 ^ 77 ≤ u * 2 ^ 77 + (u * (2 ^ 53 + 2 ^ 24 + 1) + t * (2 ^ 77 + 2 ^ 53) + v * 2 ^ 77)
twice_up u a c t v h k = omega (arith, mul-le-mul_right (2 ^ 53) k, mul-le-mul_right (2 ^ 24) h, h)

-- r + 1 is 2 ^ 53 or 2 ^ 24
raised : (u a t r q : ℕ) → u * r ≤ a * (r + 1) + t * (r + 1) → u * ((r + 1) * q) ≤ a * ((r + 1) * q) + t * ((r + 1) * q) + u * q
raised u a t r q h = omega (arith, mul-le-mul_right q h)

twice_down : (u a c t v : ℕ) → a * 2 ^ 53 ≤ u * (2 ^ 53 + 1) + t * 2 ^ 53 → u * (2 ^ 53 - 1) ≤ a * 2 ^ 53 + t * 2 ^ 53 → a * (2 ^ 24 - 1) ≤ c * 2 ^ 24 + v * 2 ^ 24
    → u * 2 ^ 77 ≤ c * 2 ^ 77 + (u * (2 ^ 53 + 2 ^ 24 + 1) + t * (2 ^ 77 + 2 ^ 53) + v * 2 ^ 77)
twice_down u a c t v g h k =
    le_trans (chain (u * 2 ^ 77) (a * 2 ^ 77) (t * 2 ^ 77) (u * 2 ^ 24) (c * 2 ^ 77) (v * 2 ^ 77) (a * 2 ^ 53) (u * (2 ^ 53 + 1) + t * 2 ^ 53)
    (raised u a t (2 ^ 53 - 1) (2 ^ 24) h) (raised a c v (2 ^ 24 - 1) (2 ^ 53) k) g) (le_of_eq (regroup u c t v))
  where
    chain : (x y z w c v a b : ℕ) → x ≤ y + z + w → y ≤ c + v + a → a ≤ b → x ≤ c + v + b + z + w
    chain x y z w c v a b h k g = omega arith

    regroup : (u c t v : ℕ) → c * 2 ^ 77 + v * 2 ^ 77 + (u * (2 ^ 53 + 1) + t * 2 ^ 53) + t * 2 ^ 77 + u * 2 ^ 24
        ≡ c * 2 ^ 77 + (u * (2 ^ 53 + 2 ^ 24 + 1) + t * (2 ^ 77 + 2 ^ 53) + v * 2 ^ 77)
    regroup u c t v = omega arith

-- what the roundings and exp's own error leave, where u is at most w + e / 2 ^ 50
little : (u e o w t v : ℕ) → u * 2 ^ 50 ≤ w * 2 ^ 50 + e → e ≤ o + w → t * 2 ^ 60 ≤ o → v * 2 ^ 60 ≤ o
    → e * 2 ^ 27 + (u * (2 ^ 53 + 2 ^ 24 + 1) + t * (2 ^ 77 + 2 ^ 53) + v * 2 ^ 77) ≤ (w * 2 ^ 48 + o * 2 ^ 23) * 2 ^ 6
little u e o w t v h k a b = sum (u * (2 ^ 53 + 2 ^ 24 + 1)) e o w (t * (2 ^ 77 + 2 ^ 53)) (v * 2 ^ 77) (nine u e w h) k (few t o a) (fewer v o b)
  where
    nine : (u e w : ℕ) → u * 2 ^ 50 ≤ w * 2 ^ 50 + e → u * (2 ^ 53 + 2 ^ 24 + 1) ≤ w * (9 * 2 ^ 50) + 9 * e
    nine u e w h = omega arith

    few : (t o : ℕ) → t * 2 ^ 60 ≤ o → t * (2 ^ 77 + 2 ^ 53) ≤ o * 2 ^ 18
    few t o a = omega arith

    fewer : (v o : ℕ) → v * 2 ^ 60 ≤ o → v * 2 ^ 77 ≤ o * 2 ^ 17
    fewer v o b = omega arith

    sum : (x e o w t v : ℕ) → x ≤ w * (9 * 2 ^ 50) + 9 * e → e ≤ o + w → t ≤ o * 2 ^ 18 → v ≤ o * 2 ^ 17 → e * 2 ^ 27 + (x + t + v) ≤ (w * 2 ^ 48 + o * 2 ^ 23) * 2 ^ 6
    sum x e o w t v h k a b = omega arith

down_6 : (x y r : ℕ) → x * 2 ^ 77 ≤ y * 2 ^ 77 + r * 2 ^ 6 → x * 2 ^ 71 ≤ y * 2 ^ 71 + r
down_6 x y r h = omega arith

module _ (e y u a c o w t v : ℕ) (hi : y * 2 ^ 50 ≤ e * (2 ^ 50 + 1)) (lo : e * (2 ^ 50 - 1) ≤ y * 2 ^ 50) (far : e ≤ o + w) (near : o ≤ e + w)
    (first : Rounds 53 u a t) (second : Rounds 24 a c v) (few : t * 2 ^ 60 ≤ o) (fewer : v * 2 ^ 60 ≤ o) where
  abbrev left : ℕ
  left = u * (2 ^ 53 + 2 ^ 24 + 1) + t * (2 ^ 77 + 2 ^ 53) + v * 2 ^ 77

  -- y from 1 on
  pub above_one : u + o ≡ y → Within (c + o) e (w * 2 ^ 48 + o * 2 ^ 23)
  above_one s =
      let l = little u e o w t v (bound u e y o w hi far s) far few fewer in (
        down_6 (c + o) e (w * 2 ^ 48 + o * 2 ^ 23) (up c o e y u left (w * 2 ^ 48 + o * 2 ^ 23) s hi (twice_up u a c t v first.0 second.0) l),
        down_6 e (c + o) (w * 2 ^ 48 + o * 2 ^ 23) (down c o e y u left (w * 2 ^ 48 + o * 2 ^ 23) s lo (twice_down u a c t v first.0 first.1 second.1) l),
      )
    where
      bound : (u e y o w : ℕ) → y * 2 ^ 50 ≤ e * (2 ^ 50 + 1) → e ≤ o + w → u + o ≡ y → u * 2 ^ 50 ≤ w * 2 ^ 50 + e
      bound u e y o w h k s = omega arith

      up : (c o e y u r g : ℕ) → u + o ≡ y → y * 2 ^ 50 ≤ e * (2 ^ 50 + 1) → c * 2 ^ 77 ≤ u * 2 ^ 77 + r → e * 2 ^ 27 + r ≤ g * 2 ^ 6 → (c + o) * 2 ^ 77 ≤ e * 2 ^ 77 + g * 2 ^ 6
      up c o e y u r g s h k l = omega (arith, mul-le-mul_right (2 ^ 27) h, k, l)

      down : (c o e y u r g : ℕ) → u + o ≡ y → e * (2 ^ 50 - 1) ≤ y * 2 ^ 50 → u * 2 ^ 77 ≤ c * 2 ^ 77 + r → e * 2 ^ 27 + r ≤ g * 2 ^ 6 → e * 2 ^ 77 ≤ (c + o) * 2 ^ 77 + g * 2 ^ 6
      down c o e y u r g s h k l = omega (arith, mul-le-mul_right (2 ^ 27) h, k, l)

  -- y below 1
  pub below_one : u + y ≡ o → Within (c + e) o (w * 2 ^ 48 + o * 2 ^ 23)
  below_one s =
      let l = little u e o w t v (bound u e y o w lo near s) far few fewer in (
        down_6 (c + e) o (w * 2 ^ 48 + o * 2 ^ 23) (up c o e y u left (w * 2 ^ 48 + o * 2 ^ 23) s lo (twice_up u a c t v first.0 second.0) l),
        down_6 o (c + e) (w * 2 ^ 48 + o * 2 ^ 23) (down c o e y u left (w * 2 ^ 48 + o * 2 ^ 23) s hi (twice_down u a c t v first.0 first.1 second.1) l),
      )
    where
      bound : (u e y o w : ℕ) → e * (2 ^ 50 - 1) ≤ y * 2 ^ 50 → o ≤ e + w → u + y ≡ o → u * 2 ^ 50 ≤ w * 2 ^ 50 + e
      bound u e y o w h k s = omega arith

      up : (c o e y u r g : ℕ) → u + y ≡ o → e * (2 ^ 50 - 1) ≤ y * 2 ^ 50 → c * 2 ^ 77 ≤ u * 2 ^ 77 + r → e * 2 ^ 27 + r ≤ g * 2 ^ 6 → (c + e) * 2 ^ 77 ≤ o * 2 ^ 77 + g * 2 ^ 6
      up c o e y u r g s h k l = omega (arith, mul-le-mul_right (2 ^ 27) h, k, l)

      down : (c o e y u r g : ℕ) → u + y ≡ o → y * 2 ^ 50 ≤ e * (2 ^ 50 + 1) → u * 2 ^ 77 ≤ c * 2 ^ 77 + r → e * 2 ^ 27 + r ≤ g * 2 ^ 6 → o * 2 ^ 77 ≤ (c + e) * 2 ^ 77 + g * 2 ^ 6
      down c o e y u r g s h k l = omega (arith, mul-le-mul_right (2 ^ 27) h, k, l)
