-- Halves of words: their products fit a word, and the cut product is at most either factor. Assumes nothing.
use Rattle.std.proofs.Common.{ℕ, ◌+◌, ◌*◌, ◌/◌, ◌%◌, ◌^◌, ◌<◌, ◌≤◌, le_trans, le_of_eq, lt_of_le_of_lt, le_of_lt, mul-le-mul_right, mod-lt, mul_comm, mul-le-mul, mul-le-mul_left, le_of_mul-le-mul_right, arith, lit<}
use Rattle.kernels.specs.Power.{hi}
use Rattle.kernels.proofs.Definitions.Hi.{hi_le}

pub half_fits : (a b : ℕ) → a < 2 ^ 32 → b < 2 ^ 32 → a * b < 2 ^ 64
half_fits a b h k = omega (arith, mul-le-mul h k)

pub high_half : (a : ℕ) → a < 2 ^ 64 → a / 2 ^ 32 < 2 ^ 32
high_half a h = omega arith

pub low_half : (a : ℕ) → a % 2 ^ 32 < 2 ^ 32
low_half a = mod-lt a (lit< tt)

pub hi_small : (a b : ℕ) → a < 2 ^ 64 → hi a b ≤ b
hi_small a b h = le_of_mul-le-mul_right (le_trans (hi_le a b) (le_trans (mul-le-mul_right b (le_of_lt h)) (le_of_eq (mul_comm (2 ^ 64) b)))) (lit< tt)

pub hi_first : (a b : ℕ) → b < 2 ^ 64 → hi a b ≤ a
hi_first a b h = le_of_mul-le-mul_right (le_trans (hi_le a b) (mul-le-mul_left a (le_of_lt h))) (lit< tt)

pub sum_fits : (a b : ℕ) → a < 2 ^ 64 → b < 2 ^ 64 → a / 2 ^ 32 * (b / 2 ^ 32) + a / 2 ^ 32 * (b % 2 ^ 32) / 2 ^ 32 + a % 2 ^ 32 * (b / 2 ^ 32) / 2 ^ 32 < 2 ^ 64
unfolding hi
sum_fits a b h k = lt_of_le_of_lt (hi_small a b h) k
