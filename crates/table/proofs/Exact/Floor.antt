-- E in natural numbers: A * 2 ^ 64 / N is k and a rest for A = a / b, and k less a rest for A = -a / b. Assumes nothing.
use mathlib.Core.Path.{◌≡◌, ◌∙◌}
use mathlib.Core.Bool.{true, false}
use Prim.Native.Nat.{ℕ, zero, suc, ◌+◌, ◌-◌, ◌*◌, ◌^◌, ◌<◌}
use native.Mathlib.Nat.{one-mul}
use native.Mathlib.Omega.{arith}
use lib.Arith.{digits_div, digits_mod}
use lib.IntN.{pos}
use lib.Signed.{shr_z}
use Rattle.table.specs.Whole.{signed, rest_z}
use Rattle.table.specs.Exact.{Frac, N, P, E, scaled}

-- 2 ^ k p and p / 2 ^ k
abbrev pub raised_by : ℕ → Frac → Frac
raised_by k p = record { num = 2 ^ k * p.num; den = p.den }

abbrev pub lowered_by : ℕ → Frac → Frac
lowered_by k p = record { num = p.num; den = 2 ^ k * p.den }

floored : (x m B k y : ℕ) → k * m + y ≡ x → y < m → scaled (shr_z (pos x) m) (P (rest_z (pos x) m) B) ≡ raised_by k (P y B)
floored x m B k y e l = rw (← e, digits_div k l, digits_mod k l, one-mul (P y B).den)

-- the quotient of -(n + 1), rounded down, is -(n / m + 1)
ceiled : (x m B k y : ℕ) → y + x ≡ k * m → y < m → scaled (shr_z (signed true x) m) (P (rest_z (signed true x) m) B) ≡ lowered_by k (P y B)
ceiled zero m B zero zero e l = floored 0 m B 0 0 (omega arith) l ∙ rw (one-mul (P 0 B).num, one-mul (P 0 B).den)
ceiled zero m B zero (suc y) e l = absurd (omega arith)
ceiled zero m B (suc k) y e l = absurd (omega arith)
ceiled (suc n) m B zero y e l = absurd (omega arith)
ceiled (suc n) m B (suc k) y e l = rw (is n m k y e l, digits_div k (less m y l), digits_mod k (less m y l), back m y l, one-mul (P y B).num)
  where
    is : (n m k y : ℕ) → y + suc n ≡ suc k * m → y < m → n ≡ k * m + (m - suc y)
    is n m k y e l = omega arith

    less : (m y : ℕ) → y < m → m - suc y < m
    less m y l = omega arith

    back : (m y : ℕ) → y < m → m - suc (m - suc y) ≡ y
    back m y l = omega arith

pub E-up : (a b k y : ℕ) → k * (b * N) + y ≡ a * 2 ^ 64 → y < b * N → E false a b ≡ raised_by k (P y (b * 2 ^ 64))
unfolding E
E-up a b k y e l = floored (a * 2 ^ 64) (b * N) (b * 2 ^ 64) k y e l

pub E-down : (a b k y : ℕ) → y + a * 2 ^ 64 ≡ k * (b * N) → y < b * N → E true a b ≡ lowered_by k (P y (b * 2 ^ 64))
unfolding E
E-down a b k y e l = ceiled (a * 2 ^ 64) (b * N) (b * 2 ^ 64) k y e l
