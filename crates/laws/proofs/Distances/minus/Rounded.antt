-- Any fraction rounded, in the normal range or below it: within 2 ^ -prec of itself and one smallest value more; and a bound that keeps it from
-- overflowing. Assumes nothing.
use mathlib.Core.Path.{◌≡◌, sym, subst}
use mathlib.Core.Bool.{Bool, false}
use mathlib.Core.Logic.{inl, inr}
use Prim.Native.Nat.{ℕ, zero, suc, ◌+◌, ◌-◌, ◌*◌, ◌/◌, ◌^◌, ◌≤◌, ◌<◌}
use native.Mathlib.Nat.{le_trans, le_of_eq, mul-one, mul-pos, mul-le-mul_left, mul-le-mul_right, le_of_mul-le-mul_right, le-add_right}
use native.Mathlib.Omega.{arith}
use lib.Dec.{lit≤}
use lib.Pow.{pow_pos}
use lib.Ieee.{Float, Format, binary32, binary64, prec, low, size, round}
use lib.Ieee.Exact.{HasValue, units_val}
use lib.Ieee.Fits.{round_is}
use lib.Ieee.Nearest.{closest}
use lib.Ieee.Scale.{grid, overflow}
use Rattle.kernels.proofs.Definitions.Natural.{lt-or-ge}
use Rattle.soft.proofs.Rounding.Closest.{closest_near}
use Rattle.soft.proofs.Rounding.Relative.{kept_up, kept_down}

pub grid_value : (f : Format) (s : Bool) (num den : ℕ) → grid f num den < overflow f → HasValue (round f s num den) s (grid f num den) (2 ^ low f)
grid_value f s num den h =
    subst (λ (y : Float). HasValue y s (grid f num den) (2 ^ low f)) (sym (round_is f s num den))
    (units_val f s (closest (num * 2 ^ low f) (den * 2 ^ (size (num * 2 ^ low f / den) - prec f))) (size (num * 2 ^ low f / den) - prec f) h)

-- num / den is n units over den, c of them are kept, and p is 2 ^ prec
abbrev Near : (c n den p : ℕ) → Type 0
Near c n den p = (c * den * p ≤ n * (p + 1) + den * p) × (n * (p - 1) ≤ c * den * p + den * p)

-- below the normal range nothing is dropped
subnormal : (n den p : ℕ) → zero < den → Near (closest n (den * 2 ^ 0) * 2 ^ 0) n den p
subnormal n den p z = rw (mul-one den, mul-one (closest n den)) (go (closest n den) n den p (closest_near n den z))
  where
    half : (x y d : ℕ) → x * 2 ≤ y * 2 + d → x ≤ y + d
    half x y d h = omega arith

    less : (n p : ℕ) → n * (p - 1) ≤ n * p
    less n p = mul-le-mul_left n (omega arith)

    go : (q n d p : ℕ) → (q * d * 2 ≤ n * 2 + d) × (n * 2 ≤ q * d * 2 + d) → Near q n d p
    go q n d p h =
        (omega (arith, mul-le-mul_right p (half (q * d) n d h.0)), le_trans (less n p) (omega (arith, mul-le-mul_right p (half n (q * d) d h.1))))

pub round_near : (f : Format) (num den : ℕ) → zero < den → Near (grid f num den) (num * 2 ^ low f) den (2 ^ prec f)
round_near f num den z =
    elim (lt-or-ge (size (num * 2 ^ low f / den)) (prec f)) [
      | inl l ↦ subst (λ (k : ℕ). Near (closest (num * 2 ^ low f) (den * 2 ^ k) * 2 ^ k) (num * 2 ^ low f) den (2 ^ prec f)) (sym (none (size (num * 2 ^ low f / den)) (prec f) l))
          (subnormal (num * 2 ^ low f) den (2 ^ prec f) z)
      | inr g ↦ (
        le_trans (kept_up f false num den z g) (le-add_right (num * 2 ^ low f * (2 ^ prec f + 1)) (den * 2 ^ prec f)),
        le_trans (kept_down f false num den z g) (le-add_right (grid f num den * den * 2 ^ prec f) (den * 2 ^ prec f)),
      )
    ]
  where
    none : (z p : ℕ) → z < p → z - p ≡ 0
    none z p l = omega arith

-- at most B in size: at most 2 B once rounded
pub grid_le : (f : Format) (num den B : ℕ) → zero < den → zero < B → num ≤ B * den → grid f num den ≤ 2 * B * 2 ^ low f
grid_le f num den B z b h =
    le_of_mul-le-mul_right {k = den * 2 ^ prec f}
    (go (grid f num den) num den B (2 ^ low f) (2 ^ prec f) b (wide f).0 (wide f).1 h (round_near f num den z).0)
    (mul-pos z (pow_pos (prec f)))
  where
    wide : (f : Format) → (2 ≤ 2 ^ low f) × (2 ≤ 2 ^ prec f)
    wide binary32 = (lit≤ tt, lit≤ tt)
    wide binary64 = (lit≤ tt, lit≤ tt)

    -- x + p ≤ x p
    grow : (x p : ℕ) → 2 ≤ x → 2 ≤ p → x + p ≤ x * p
    grow (suc x) (suc p) a c = omega (arith, mul-pos {m = x} {n = p} (omega arith) (omega arith))
    grow zero p a c = absurd (omega arith)
    grow (suc x) zero a c = absurd (omega arith)

    go : (g n d B l p : ℕ) → zero < B → 2 ≤ l → 2 ≤ p → n ≤ B * d → g * d * p ≤ n * l * (p + 1) + d * p → g * (d * p) ≤ 2 * B * l * (d * p)
    go g n d B l p zb a c h k =
        omega (arith, k, mul-le-mul_right (l * (p + 1)) h, mul-le-mul_right d (grow (B * l) p (le_trans a (le_trans (le_of_eq (one l)) (mul-le-mul_right l zb))) c))
      where
        one : (l : ℕ) → l ≡ 1 * l
        one l = omega arith
