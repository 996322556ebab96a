-- The exact values behind the kernels, as document 01 states them ('Exact values behind the kernels'): P, E and L, each a fraction of whole numbers.
-- Nothing is rounded here. Assumes nothing.
use Rattle.std.specs.Prelude.{ℕ, zero, suc, ◌+◌, ◌-◌, ◌*◌, ◌^◌, Bool, ltb, ℤ, pos, negsuc, ◌+ℤ◌}
use Rattle.std.specs.Int.Signed.{shr_z}
use Rattle.std.specs.Float.Ieee.{size, up, down}
use Rattle.table.specs.Whole.{signed, rest_z}

-- N / 2 ^ 64 stands for ln 2
abbrev pub N : ℕ
N = 0xB17217F7D1CF79AB

-- num / den, and a sign where one is wanted
pub record Frac : Type 0 where
  pub num : ℕ
  pub den : ℕ

pub record Signed : Type 0 where
  pub negative : Bool
  pub size : Frac

-- ---- P(r) = the sum of r ^ j / j! for j = 0..23
unfoldable pub fact : ℕ → ℕ
fact zero = 1
fact (suc n) = suc n * fact n

-- n! * b ^ n times the sum of (a / b) ^ j / j! for j = 0..n: each term more is one more product by (n + 1) b, and a ^ (n + 1)
unfoldable pub taylor : (n a b : ℕ) → ℕ
taylor zero a b = 1
taylor (suc n) a b = taylor n a b * (suc n * b) + a ^ suc n

unfoldable pub P : (a b : ℕ) → Frac
P a b = record { num = taylor 23 a b; den = fact 23 * b ^ 23 }

-- ---- E(A) = 2 ^ k P(r), k the whole part, downward, of A * 2 ^ 64 / N, and r = A - k N / 2 ^ 64: a negative A gives a negative k
-- 2 ^ k p
abbrev pub scaled : ℤ → Frac → Frac
scaled k p = record { num = up k * p.num; den = down k * p.den }

-- A = ±a / b, so that A * 2 ^ 64 / N is z / (b N), z = ±a 2 ^ 64, and r is what the division leaves, over b 2 ^ 64
unfoldable pub E : Bool → (a b : ℕ) → Frac
unfolding P
E s a b = let z = signed s (a * 2 ^ 64) in scaled (shr_z z (b * N)) (P (rest_z z (b * N)) (b * 2 ^ 64))

-- ---- L(x) = k N / 2 ^ 64 + 2 (the sum of z ^ (2j + 1) / (2j + 1), j = 0..23), for x = M * 2 ^ k, 1 ≤ M < 2, z = (M - 1) / (M + 1)
unfoldable pub odd_fact : ℕ → ℕ
odd_fact zero = 1
odd_fact (suc n) = (2 * n + 3) * odd_fact n

-- odd_fact n * b ^ (2n + 1) times the sum of (a / b) ^ (2j + 1) / (2j + 1) for j = 0..n
unfoldable pub odds : (n a b : ℕ) → ℕ
odds zero a b = a
odds (suc n) a b = odds n a b * ((2 * n + 3) * b ^ 2) + odd_fact n * a ^ (2 * n + 3)

-- p / d - q / d
abbrev pub minus_frac : (p q d : ℕ) → Signed
minus_frac p q d = record { negative = ltb p q; size = record { num = (p - q) + (q - p); den = d } }

-- x = m * 2 ^ e: its leading digit weighs h = 2 ^ (size m - 1) in m, so M = m / h and z = (m - h) / (m + h)
abbrev pub lead : ℕ → ℕ
lead m = 2 ^ (size m - 1)

abbrev pub series_num : ℕ → ℕ
series_num m = 2 * odds 23 (m - lead m) (m + lead m)

abbrev pub series_den : ℕ → ℕ
series_den m = odd_fact 23 * (m + lead m) ^ 47

abbrev pub log_at : ℤ → ℕ → ℕ → Signed
log_at (pos k) s d = minus_frac (k * N * d + 2 ^ 64 * s) 0 (2 ^ 64 * d)
log_at (negsuc k) s d = minus_frac (2 ^ 64 * s) (suc k * N * d) (2 ^ 64 * d)

unfoldable pub L : (m : ℕ) → ℤ → Signed
L m e = log_at (e +ℤ pos (size m - 1)) (series_num m) (series_den m)
