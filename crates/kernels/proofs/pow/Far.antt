-- y Λ of a double where Λ has two words: cut in two steps, of 32 digits and of the rest. Assumes nothing.
use Rattle.std.proofs.Common.{◌≡◌, ℕ, ◌+◌, ◌-◌, ◌*◌, ◌/◌, ◌^◌, ◌<◌, ◌≤◌, min, Bool, T, ℤ, sym, ap, ◌∙◌, subst, ap₂, inl, inr, le_refl, lt_of_le_of_lt, le_of_lt, mul_assoc, mul_comm, mul-le-mul, div-le_self, arith, lit<, pow_pos, pow-add, shr-shr}
use native.Mathlib.Nat.{mul-div-mul_right, mul-add-div_right}
use lib.Ieee.{Float, binary64, fits, unlike}
use Rattle.table.specs.Whole.{signed}
use Rattle.soft.specs.Units.{split_def, units_def}
use Rattle.soft.specs.declared.units.Units.{Units}
use Rattle.soft.proofs.units.Value.{digits_lt}
use Rattle.kernels.specs.Power.{power}
use Rattle.kernels.specs.Kernels.{powered, pow_at_def}
use Rattle.kernels.proofs.Definitions.Sizes.{nat_abs_signed}
use Rattle.kernels.proofs.Definitions.Natural.{lt-or-ge}
use Rattle.kernels.proofs.whole.Divide.{below_is}
use Rattle.kernels.specs.inner.Fields.{sign}
use Rattle.kernels.proofs.power.Fields.{places_is, field_most}
use Rattle.kernels.proofs.power.Answers.{past}
use Rattle.kernels.proofs.pow.Double.{by_digits}

-- in two words: a product of 103 digits and one of 85
pub sum_lt : (d h l : ℕ) → d < 2 ^ 53 → h < 2 ^ 50 → l ≤ 2 ^ 32 → d * h + d * l / 2 ^ 32 < 2 ^ 128
sum_lt d h l a b c = lt_of_le_of_lt (both (d * h) (d * l) (d * l / 2 ^ 32) (mul-le-mul (le_of_lt a) (le_of_lt b)) (mul-le-mul (le_of_lt a) c) (div-le_self (d * l) (2 ^ 32))) (lit< tt)
  where
    both : (u v q : ℕ) → u ≤ 2 ^ 53 * 2 ^ 50 → v ≤ 2 ^ 53 * 2 ^ 32 → q ≤ v → u + q ≤ 2 ^ 104
    both u v q x y z = omega arith

first_cut : (d h l : ℕ) → d * h + d * l / 2 ^ 32 ≡ d * (h * 2 ^ 32 + l) / 2 ^ 32
first_cut d h l = sym (ap (λ (x : ℕ). x / 2 ^ 32) (spread d h l) ∙ mul-add-div_right (pow_pos 32) (d * h) (d * l))
  where
    spread : (d h l : ℕ) → d * (h * 2 ^ 32 + l) ≡ d * h * 2 ^ 32 + d * l
    spread d h l = omega arith

second_cut : (d w p : ℕ) → p ≤ 1048 → d * w / 2 ^ 32 / 2 ^ (1048 - p) ≡ d * 2 ^ p * w / 2 ^ 1080
second_cut d w p h =
    shr-shr (d * w) 32 (1048 - p)
    ∙ sym (mul-div-mul_right (d * w) (2 ^ (32 + (1048 - p))) (pow_pos p))
    ∙ ap₂ (λ (x y : ℕ). x / y) (turn d w (2 ^ p)) (sym (pow-add 2 (32 + (1048 - p)) p) ∙ ap (λ (x : ℕ). 2 ^ x) (join p h))
  where
    turn : (d w k : ℕ) → d * w * k ≡ d * k * w
    turn d w k = simp (mul_assoc, mul_comm)

    join : (p : ℕ) → p ≤ 1048 → 32 + (1048 - p) + p ≡ 1080
    join p h = omega arith

pub cut_is : (d p h l : ℕ) {a b r : ℕ} → p ≤ 1048 → a ≡ d * h → b ≡ d * l → r ≡ (a + b / 2 ^ 32) / 2 ^ (1048 - p)
    → r ≡ d * 2 ^ p * (h * 2 ^ 32 + l) / 2 ^ 1080
cut_is d p h l hp ea eb er =
    er
    ∙ ap (λ (x : ℕ). x / 2 ^ (1048 - p)) (ap₂ (λ (x y : ℕ). x + y / 2 ^ 32) ea eb ∙ first_cut d h l)
    ∙ second_cut d (h * 2 ^ 32 + l) p hp

-- ---- a double's size from 2 ^ 62 on
capped : (s : Bool) (n : ℕ) → power binary64 (signed s (min n (2 ^ 62))) ≡ power binary64 (signed s n)
capped s n = elim (lt-or-ge n (2 ^ 62)) [
  | inl l ↦ let e : min n (2 ^ 62) ≡ n = omega arith in ap (λ (k : ℕ). power binary64 (signed s k)) e
  | inr g ↦
      let e : min n (2 ^ 62) ≡ 2 ^ 62 = omega arith in
      ap (λ (k : ℕ). power binary64 (signed s k)) e ∙ sym (past binary64 s (2 ^ 62) (le_refl (2 ^ 62))) ∙ past binary64 s n g
]

-- ---- the exponent's digits and places
module _ (y : Float) (u : Units) (k : T (fits binary64 y)) (p : T (powered y)) (e : u ≡ units_def binary64 y) where
  pub ready : (u.digits < 2 ^ 53) × (u.places ≤ 1048)
  ready = subst (λ (v : Units). (v.digits < 2 ^ 53) × (v.places ≤ 1048)) (sym e) (digits_lt binary64 y, omega (arith, places_is binary64 y, field_most binary64 y k p))

  sign_of : u.negative ≡ sign binary64 y
  unfolding split_def
  sign_of = ap (λ (v : Units). v.negative) e

  -- w is Λ's size, v the product, c its cap
  pub far_is : (s t : Bool) (w v c : ℕ) (z : ℤ) → 0 < w → v ≡ u.digits * 2 ^ u.places * w / 2 ^ 1080 → t ≡ unlike s u.negative → c ≡ min v (2 ^ 62) → z ≡ signed t c → power binary64 z ≡ pow_at_def binary64 (signed s w) y
  far_is s t w v c z h ev et ec ez =
      ap (power binary64) (ez ∙ ap (signed t) ec) ∙ capped t v
      ∙ ap₂ (λ (x : Bool) (n : ℕ). power binary64 (signed x n)) (et ∙ ap₂ unlike (sym (below_is s w h)) sign_of) (ev ∙ ap₂ (λ (x : Units) (n : ℕ). x.digits * 2 ^ x.places * n / 2 ^ 1080) e (sym (nat_abs_signed s w)))
      ∙ by_digits y (signed s w) k p

pub cap_lt : (v c : ℕ) → c ≡ min v (2 ^ 62) → c < 2 ^ 63
cap_lt v c e = omega arith
