-- The argument itself, next to 0: within 2 ^ -48 of E - 1, for |x| up to 2 ^ -24. Assumes nothing.
use mathlib.Core.Path.{◌≡◌, refl, sym, ap, ◌∙◌}
use mathlib.Core.Bool.{Bool, true, false}
use Prim.Native.Nat.{ℕ, zero, suc, ◌+◌, ◌-◌, ◌*◌, ◌^◌, ◌≤◌, ◌<◌}
use native.Mathlib.Nat.{le_trans, le_of_eq, mul_assoc, mul-pos, mul-le-mul, mul-le-mul_left, mul-le-mul_right, le_of_mul-le-mul_right, zero-lt-suc}
use native.Mathlib.Omega.{arith}
use lib.Dec.{lit<, lit≤}
use lib.Pow.{pow-add}
use Rattle.table.specs.Exact.{Frac, N, P, E}
use Rattle.table.proofs.Exact.Poly.{h}
use Rattle.table.proofs.Exact.Floor.{E-down}
use Rattle.table.proofs.Exact.Sums.{sum-le, prod_le}
use Rattle.table.proofs.Exact.Taylor.{P-num, P-den}
use Rattle.table.proofs.Exact.Terms.{f23}
use Rattle.laws.proofs.Distances.minus.Exact.{over, den, den_pos, P-two, two_p, P-one-more, P-half-more, P-no-more, E-at}
use Rattle.laws.proofs.Distances.minus.Sides.{gap, room, Sides}

-- 2 ^ -48 alone is enough
within : (x y p q d : ℕ) → x * 2 ^ 48 ≤ y * 2 ^ 48 + q * d → x * 2 ^ 71 ≤ y * 2 ^ 71 + room p q d
within x y p q d h = le_trans (scaled x y (q * d) h) (more (y * 2 ^ 71) (gap p q * d * 2 ^ 48) (q * d * 2 ^ 23))
  where
    scaled : (x y z : ℕ) → x * 2 ^ 48 ≤ y * 2 ^ 48 + z → x * 2 ^ 71 ≤ y * 2 ^ 71 + z * 2 ^ 23
    scaled x y z h = omega (arith, mul-le-mul_right (2 ^ 23) h)

    more : (x y z : ℕ) → x + z ≤ x + (y + z)
    more x y z = omega arith

-- a / b is at most 2 ^ -24, and its square 2 ^ -48
square : (a b : ℕ) → a * 2 ^ 24 ≤ b → a * a * 2 ^ 48 ≤ b * b
square a b l = omega (arith, mul-le-mul l l)

-- ---- above 0: E is 1 + a / b and at most the square more
small_up : (a b q p : ℕ) → zero < b → a * a * 2 ^ 48 ≤ b * b → p * (b * b) ≤ q * (b * b + a * b + a * a) → p * b * 2 ^ 48 ≤ (a * q + q * b) * 2 ^ 48 + q * b
small_up a b q p z s h = le_of_mul-le-mul_right {k = b} (omega (arith, mul-le-mul_right (2 ^ 48) h, mul-le-mul_left q s)) z

sides_up : (a b q p : ℕ) → zero < b → a * 2 ^ 24 ≤ b → (a + b) * q ≤ p * b → p * (b * b) ≤ q * (b * b + a * b + a * a) → Sides false a b p q
sides_up a b q p z l lo hi = (within (a * q + q * b) (p * b) p q b (omega (arith, mul-le-mul_right (2 ^ 48) lo)), within (p * b) (a * q + q * b) p q b (small_up a b q p z (square a b l) hi))

-- ---- below 0: 2 E = P(ln 2 - a / b), and its product with P(a / b) is P(ln 2), nearly
-- p / (2 q) is E, x / q is P(a / b)
product_hi : (a b q p x : ℕ) → zero < q → p * x * 2 ^ 48 ≤ q * (2 * q) * 2 ^ 48 + q * q → q * (2 * b * b + 2 * a * b + a * a) ≤ 2 * b * b * x
    → p * (2 * b * b + 2 * a * b + a * a) * 2 ^ 48 ≤ 2 * b * b * q * (2 ^ 49 + 1)
product_hi a b q p x z h k = le_of_mul-le-mul_right {k = q} (go (2 * b * b + 2 * a * b + a * a) (2 * b * b) q p x h k) z
  where
    go : (g b q p x : ℕ) → p * x * 2 ^ 48 ≤ q * (2 * q) * 2 ^ 48 + q * q → q * g ≤ b * x → p * g * 2 ^ 48 * q ≤ b * q * (2 ^ 49 + 1) * q
    go g b q p x h k = omega (arith, mul-le-mul_left b h, mul-le-mul_left (p * 2 ^ 48) k)

product_lo : (a b q p x t : ℕ) → zero < q → q * t ≤ p * x → 2 * q * (2 ^ 48 - 1) ≤ t * 2 ^ 48 → x * (b * b) ≤ q * (b * b + a * b + a * a)
    → 2 * q * (2 ^ 48 - 1) * (b * b) ≤ p * (b * b + a * b + a * a) * 2 ^ 48
product_lo a b q p x t z h k l = le_of_mul-le-mul_right {k = q} (go (b * b + a * b + a * a) (b * b) q p x t h k l) z
  where
    go : (g b q p x t : ℕ) → q * t ≤ p * x → 2 * q * (2 ^ 48 - 1) ≤ t * 2 ^ 48 → x * b ≤ q * g → 2 * q * (2 ^ 48 - 1) * b * q ≤ p * g * 2 ^ 48 * q
    go g b q p x t h k l = omega (arith, mul-le-mul_left (b * q) k, mul-le-mul_left (b * 2 ^ 48) h, mul-le-mul_left (p * 2 ^ 48) l)

-- 1 / (1 + t + t^2 / 2) is at most 1 - t + t^2 / 2, and the square is at most 1 / k
quotient_hi : (a b k : ℕ) → a * a * k ≤ b * b → a * (2 * b * b + 2 * a * b + a * a) * k + b * b * b * (2 * k + 1) ≤ b * (2 * b * b + 2 * a * b + a * a) * (k + 1)
quotient_hi a b k s = omega (arith, mul-le-mul_right b s, mul-le-mul_right a s)

-- 1 / (1 + t + t^2) is at least 1 - t
quotient_lo : (a b : ℕ) → b * (b * b + a * b + a * a) * 2 ^ 48 ≤ a * (b * b + a * b + a * a) * 2 ^ 48 + b * b * b * (2 ^ 48 - 1) + b * (b * b + a * b + a * a)
quotient_lo a b = omega arith

sides_hi : (a b q p : ℕ) → zero < b → a * 2 ^ 24 ≤ b → p * (2 * b * b + 2 * a * b + a * a) * 2 ^ 48 ≤ 2 * b * b * q * (2 ^ 49 + 1)
    → (a * (2 * q) + p * b) * 2 ^ 48 ≤ 2 * q * b * 2 ^ 48 + 2 * q * b
sides_hi a b q p z l h =
    le_of_mul-le-mul_right {k = 2 * b * b + 2 * a * b + a * a} (go (2 * b * b + 2 * a * b + a * a) a b q p h (quotient_hi a b (2 ^ 48) (square a b l))) (pos a b z)
  where
    pos : (a b : ℕ) → zero < b → zero < 2 * b * b + 2 * a * b + a * a
    pos a b z = omega (arith, mul-pos z z)

    go : (g a b q p : ℕ) → p * g * 2 ^ 48 ≤ 2 * b * b * q * (2 ^ 49 + 1) → a * g * 2 ^ 48 + b * b * b * (2 ^ 49 + 1) ≤ b * g * (2 ^ 48 + 1)
        → (a * (2 * q) + p * b) * 2 ^ 48 * g ≤ (2 * q * b * 2 ^ 48 + 2 * q * b) * g
    go g a b q p h k = omega (arith, mul-le-mul_right b h, mul-le-mul_left (2 * q) k)

sides_lo : (a b q p : ℕ) → zero < b → 2 * q * (2 ^ 48 - 1) * (b * b) ≤ p * (b * b + a * b + a * a) * 2 ^ 48
    → 2 * q * b * 2 ^ 48 ≤ (a * (2 * q) + p * b) * 2 ^ 48 + 2 * q * b
sides_lo a b q p z h =
    le_of_mul-le-mul_right {k = b * b + a * b + a * a} (go (b * b + a * b + a * a) a b q p h (quotient_lo a b)) (pos a b z)
  where
    pos : (a b : ℕ) → zero < b → zero < b * b + a * b + a * a
    pos a b z = omega (arith, mul-pos z z)

    go : (g a b q p : ℕ) → 2 * q * (2 ^ 48 - 1) * (b * b) ≤ p * g * 2 ^ 48 → b * g * 2 ^ 48 ≤ a * g * 2 ^ 48 + b * b * b * (2 ^ 48 - 1) + b * g
        → 2 * q * b * 2 ^ 48 * g ≤ ((a * (2 * q) + p * b) * 2 ^ 48 + 2 * q * b) * g
    go g a b q p h k = omega (arith, mul-le-mul_right b h, mul-le-mul_left (2 * q) k)

-- ---- E
in_span : (a b : ℕ) → zero < b → a * 2 ^ 24 ≤ b → a * 2 ^ 64 < b * N
in_span a b z l = omega (arith, mul-le-mul_right (2 ^ 40) l)

module _ (a b : ℕ) (z : zero < b) (l : suc a * 2 ^ 24 ≤ b) where
  abbrev x : ℕ
  x = suc a * 2 ^ 64

  abbrev B : ℕ
  B = b * 2 ^ 64

  y : ℕ
  y = b * N - x

  whole : y + x ≡ b * N
  unfolding y
  whole = omega (arith, in_span (suc a) b z l)

  y_in : y * 2560 ≤ 1792 * B
  y_in = go y N (2 ^ 64) (lit≤ tt) (omega (arith, whole))
    where
      go : (y n c : ℕ) → n * 2560 ≤ 1792 * c → y ≤ b * n → y * 2560 ≤ 1792 * (b * c)
      go y n c e l = omega (arith, mul-le-mul_left b e)

  x_in : x * 2560 ≤ 13 * B
  x_in = omega (arith, l)

  E-is : ((E true (suc a) b).num ≡ over y b) × ((E true (suc a) b).den ≡ 2 * den b)
  E-is = (ap (λ (q : Frac). q.num) is ∙ P-num y B, ap (λ (q : Frac). q.den) is ∙ ap (λ (n : ℕ). 2 * n) (P-den y B))
    where
      is : E true (suc a) b ≡ record { num = (P y B).num; den = 2 * (P y B).den }
      is = E-down (suc a) b 1 y (whole ∙ sym (once (b * N))) (short y (suc a) (b * N) whole (zero-lt-suc a))
        where
          once : (n : ℕ) → 1 * n ≡ n
          once n = omega arith

          short : (y a n : ℕ) → y + a * 2 ^ 64 ≡ n → zero < a → y < n
          short y a n e p = omega arith

  -- P(y) P(x) against P(ln 2)
  times_hi : over y b * over x b * 2 ^ 48 ≤ den b * (2 * den b) * 2 ^ 48 + den b * den b
  times_hi =
      go f23 (B ^ 23) (over (b * N) b) (over y b * over x b) (2 ^ 45) (2 ^ 48) (lit< tt) (P-two b) (rw (whole, pow-add B 23 23) at (prod_le y x B y_in x_in))
    where
      go : (f c t m k l : ℕ) → zero < k → t ≤ 2 * (f * c) → m * (l * k) ≤ f * (c * t) * (l * k) + f * f * (c * c) → m * l ≤ f * c * (2 * (f * c)) * l + f * c * (f * c)
      go f c t m k l z h e = le_of_mul-le-mul_right {k = k} (omega (arith, e, mul-le-mul_left (f * c * l * k) h, mul-le-mul_left (f * c * (f * c)) z)) z

  times_lo : den b * over (b * N) b ≤ over y b * over x b
  times_lo = le_trans (le_of_eq (mul_assoc f23 (B ^ 23) (over (b * N) b))) (rw whole at (sum-le y x B y_in x_in))

  small : suc a ≤ b
  small = omega (arith, l)

  sides_down : Sides true (suc a) b (E true (suc a) b).num (E true (suc a) b).den
  sides_down =
      rw (E-is.0, E-is.1) (
        within (suc a * (2 * den b) + over y b * b) (2 * den b * b) (over y b) (2 * den b) b
            (sides_hi (suc a) b (den b) (over y b) z l (product_hi (suc a) b (den b) (over y b) (over x b) (den_pos b z) times_hi (P-half-more (suc a) b))),
        within (2 * den b * b) (suc a * (2 * den b) + over y b * b) (over y b) (2 * den b) b
            (sides_lo (suc a) b (den b) (over y b) z
            (product_lo (suc a) b (den b) (over y b) (over x b) (over (b * N) b) (den_pos b z) times_lo (two_p b) (P-no-more (suc a) b small))),
      )

-- ---- both signs; a zero has no sign that counts
from_0 : (a b : ℕ) → zero < b → a * 2 ^ 24 ≤ b → Sides false a b (E false a b).num (E false a b).den
from_0 a b z l =
    let e = E-at a b (in_span a b z l) in
    rw (e.0, e.1) (sides_up a b (den b) (over (a * 2 ^ 64) b) z l (P-one-more a b) (P-no-more a b (omega arith)))

E-zero : (b : ℕ) → E true 0 b ≡ E false 0 b
unfolding E
E-zero b = refl

pub tiny_sides : (s : Bool) (a b : ℕ) → zero < b → a * 2 ^ 24 ≤ b → Sides s a b (E s a b).num (E s a b).den
tiny_sides false a b z l = from_0 a b z l
tiny_sides true zero b z l = rw (E-zero b) (turn b (E false 0 b).num (E false 0 b).den (from_0 0 b z l))
  where
    turn : (b p q : ℕ) → Sides false 0 b p q → Sides true 0 b p q
    turn b p q h = (omega (arith, h.1), omega (arith, h.0))
tiny_sides true (suc a) b z l = sides_down a b z l
