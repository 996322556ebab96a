-- The cut product: never above a b / 2 ^ 64, and less than 3 below. Assumes nothing.
use Rattle.std.proofs.Common.{◌≡◌, ℕ, zero, ◌+◌, ◌*◌, ◌/◌, ◌%◌, ◌^◌, ◌<◌, ◌≤◌, mul-le-mul_right, mod-lt, mul-le-mul, div-add-mod', div-mul-le_self, arith, lit<}
use native.Mathlib.Nat.{mul-lt-mul_of_pos_left, lt-div-mul-add}
use Rattle.kernels.specs.Power.{hi}

-- a = a1 w + a0, b = b1 w + b0, p and q the cross products, cut
le_halves : (a b a1 a0 b1 b0 p q w : ℕ) → a1 * w + a0 ≡ a → b1 * w + b0 ≡ b → p * w ≤ a1 * b0 → q * w ≤ a0 * b1 → (a1 * b1 + p + q) * (w * w) ≤ a * b
le_halves a b a1 a0 b1 b0 p q w ea eb hp hq = rw (← ea, ← eb) (omega (arith, mul-le-mul_right w hp, mul-le-mul_right w hq))

halves_lt : (a b a1 a0 b1 b0 p q w : ℕ) → a1 * w + a0 ≡ a → b1 * w + b0 ≡ b → a0 < w → b0 < w → a1 * b0 < p * w + w → a0 * b1 < q * w + w
    → a * b < (a1 * b1 + p + q + 3) * (w * w)
halves_lt a b a1 a0 b1 b0 p q w ea eb la lb hp hq =
    rw (← ea, ← eb) (omega (arith, mul-lt-mul_of_pos_left {k = w} hp (pos a0 w la), mul-lt-mul_of_pos_left {k = w} hq (pos a0 w la), mul-le-mul la lb))
  where
    pos : (a w : ℕ) → a < w → zero < w
    pos a w l = omega arith

pub hi_le : (a b : ℕ) → hi a b * 2 ^ 64 ≤ a * b
unfolding hi
hi_le a b =
    le_halves a b (a / 2 ^ 32) (a % 2 ^ 32) (b / 2 ^ 32) (b % 2 ^ 32) (a / 2 ^ 32 * (b % 2 ^ 32) / 2 ^ 32) (a % 2 ^ 32 * (b / 2 ^ 32) / 2 ^ 32) (2 ^ 32)
    (div-add-mod' a (2 ^ 32)) (div-add-mod' b (2 ^ 32)) (div-mul-le_self (a / 2 ^ 32 * (b % 2 ^ 32)) (2 ^ 32)) (div-mul-le_self (a % 2 ^ 32 * (b / 2 ^ 32)) (2 ^ 32))

pub hi_ge : (a b : ℕ) → a * b < (hi a b + 3) * 2 ^ 64
unfolding hi
hi_ge a b =
    halves_lt a b (a / 2 ^ 32) (a % 2 ^ 32) (b / 2 ^ 32) (b % 2 ^ 32) (a / 2 ^ 32 * (b % 2 ^ 32) / 2 ^ 32) (a % 2 ^ 32 * (b / 2 ^ 32) / 2 ^ 32) (2 ^ 32)
    (div-add-mod' a (2 ^ 32)) (div-add-mod' b (2 ^ 32)) (mod-lt a (lit< tt)) (mod-lt b (lit< tt))
    (lt-div-mul-add {a = a / 2 ^ 32 * (b % 2 ^ 32)} (lit< tt)) (lt-div-mul-add {a = a % 2 ^ 32 * (b / 2 ^ 32)} (lit< tt))
