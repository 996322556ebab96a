-- In the normal range a rounded value lies within 2 ^ -prec of the fraction. Assumes nothing.
use Rattle.std.proofs.Common.{◌≡◌, ℕ, suc, ◌+◌, ◌-◌, ◌*◌, ◌/◌, ◌^◌, ◌<◌, ◌≤◌, Bool, sym, ap, ◌∙◌, subst, le_trans, le_of_eq, mul-le-mul_right, mul_assoc, mul_comm, mul-pos, le-div_iff_mul-le, mul_left_comm, arith, pow_pos, pow-add}
use lib.Ieee.{Float, Format, prec, emax, low, size, round}
use lib.Ieee.Digits.{size_reaches}
use lib.Ieee.Exact.{HasValue, units_val}
use lib.Ieee.Fits.{round_is, two}
use lib.Ieee.Nearest.{closest}
use Rattle.soft.proofs.Rounding.Closest.{closest_near}

ruleset ac = (mul_assoc, mul_comm, mul_left_comm)

-- twice a distance below u, where u * p ≤ n * 2
up_go : (q n u p : ℕ) → q * 2 ≤ n * 2 + u → u * p ≤ n * 2 → q * p ≤ n * (p + 1)
up_go q n u p h l = half (q * p) (n * (p + 1)) (le_trans (le_of_eq (turn q p)) (le_trans (mul-le-mul_right p h) (sum n u p l)))
  where
    half : (x y : ℕ) → x * 2 ≤ y * 2 → x ≤ y
    half x y h = omega arith

    turn : (q p : ℕ) → q * p * 2 ≡ q * 2 * p
    turn q p = omega arith

    sum : (n u p : ℕ) → u * p ≤ n * 2 → (n * 2 + u) * p ≤ n * (p + 1) * 2
    sum n u p l = omega arith

down_go : (q n u r : ℕ) → n * 2 ≤ q * 2 + u → u * (r + 1) ≤ n * 2 → n * r ≤ q * (r + 1)
down_go q n u r h l = half (n * r) (q * (r + 1)) (cancel (n * r * 2) (q * (r + 1) * 2) (u * (r + 1)) (n * 2)
    (le_trans (le_of_eq (turn n r)) (le_trans (mul-le-mul_right (r + 1) h) (le_of_eq (spread q u (r + 1))))) l)
  where
    half : (x y : ℕ) → x * 2 ≤ y * 2 → x ≤ y
    half x y h = omega arith

    turn : (n r : ℕ) → n * r * 2 + n * 2 ≡ n * 2 * (r + 1)
    turn n r = omega arith

    spread : (q u p : ℕ) → (q * 2 + u) * p ≡ q * p * 2 + u * p
    spread q u p = omega arith

    cancel : (x y w v : ℕ) → x + v ≤ y + w → w ≤ v → x ≤ y
    cancel x y w v h g = omega arith

module _ (f : Format) (s : Bool) (num den : ℕ) (d0 : 0 < den) (normal : prec f ≤ size (num * 2 ^ low f / den)) where
  abbrev n : ℕ
  n = num * 2 ^ low f

  abbrev k : ℕ
  k = size (n / den) - prec f

  abbrev u : ℕ
  u = den * 2 ^ k

  abbrev q : ℕ
  q = closest n u

  -- the unit times 2 ^ prec is at most twice the number
  unit : u * 2 ^ prec f ≤ n * 2
  unit =
      le_trans (le_of_eq (ap (λ (x : ℕ). den * 2 ^ k * x) (ap (λ (x : ℕ). 2 ^ x) (sym (back (prec f) (two f))) ∙ pow-add 2 (prec f - 1) 1)
      ∙ turn den (2 ^ k) (2 ^ (prec f - 1)) ∙ ap (λ (x : ℕ). x * den * 2) (sym (pow-add 2 k (prec f - 1)))))
      (mul-le-mul_right 2 ((le-div_iff_mul-le d0).0 (size_reaches (n / den) (k + (prec f - 1)) (under (size (n / den)) (prec f) (two f) normal))))
    where
      back : (p : ℕ) → 2 ≤ p → p - 1 + 1 ≡ p
      back p h = omega arith

      under : (z p : ℕ) → 2 ≤ p → p ≤ z → z - p + (p - 1) < z
      under z p a b = omega arith

      turn : (d k p : ℕ) → d * k * (p * 2) ≡ k * p * d * 2
      turn d k p = simp ac

  near : (q * u * 2 ≤ n * 2 + u) × (n * 2 ≤ q * u * 2 + u)
  near = closest_near n u (mul-pos d0 (pow_pos k))

  turn : (q k d : ℕ) → q * k * d ≡ q * (d * k)
  turn q k d = simp ac

  -- what is kept, q * 2 ^ k smallest values, against the fraction
  pub kept_up : q * 2 ^ k * den * 2 ^ prec f ≤ num * 2 ^ low f * (2 ^ prec f + 1)
  kept_up = le_trans (le_of_eq (ap (λ (x : ℕ). x * 2 ^ prec f) (turn q (2 ^ k) den))) (up_go (q * u) n u (2 ^ prec f) near.0 unit)

  pub kept_down : num * 2 ^ low f * (2 ^ prec f - 1) ≤ q * 2 ^ k * den * 2 ^ prec f
  kept_down =
      le_trans (le_trans (down_go (q * u) n u (2 ^ prec f - 1) near.1
      (subst (λ (x : ℕ). u * x ≤ n * 2) (back (2 ^ prec f) (pow_pos (prec f))) unit))
      (le_of_eq (ap (λ (x : ℕ). q * u * x) (sym (back (2 ^ prec f) (pow_pos (prec f)))))))
      (le_of_eq (ap (λ (x : ℕ). x * 2 ^ prec f) (sym (turn q (2 ^ k) den))))
    where
      back : (p : ℕ) → 0 < p → p ≡ p - 1 + 1
      back p h = omega arith

  pub kept_value : q * 2 ^ k < 2 ^ (low f + suc (emax f)) → HasValue (round f s num den) s (q * 2 ^ k) (2 ^ low f)
  kept_value h = subst (λ (y : Float). HasValue y s (q * 2 ^ k) (2 ^ low f)) (sym (round_is f s num den)) (units_val f s q k h)
