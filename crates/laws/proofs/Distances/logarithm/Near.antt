-- L by the sign of its exponent k: from 1 on it is k N / 2 ^ 64 and the series, below 1 that much less. Assumes nothing.
use mathlib.Core.Path.{◌≡◌, refl, sym, ap, subst}
use mathlib.Core.Bool.{Bool, true, false}
use Prim.Native.Nat.{ℕ, zero, suc, ◌+◌, ◌-◌, ◌*◌, ◌^◌, ◌≤◌, ◌<◌}
use native.Mathlib.Nat.{lt_of_lt_of_le, mul-le-mul_right, lt_of_mul-lt-mul_left, mul-pos, one-le-pow}
use native.Mathlib.Omega.{arith}
use lib.Dec.{T, eqb, eqb→eq, ltb, lt→ltb, leb-suc-zero, lit<}
use lib.IntN.{ℤ, pos, negsuc, ◌+ℤ◌}
use lib.Ieee.{size}
use lib.Ieee.Bits.{is_true}
use lib.Ieee.Fits.{and_l, and_r}
use Rattle.table.specs.Exact.{N, lead, series_num, series_den, L, log_at}
use Rattle.table.proofs.Exact.Odds.{odd_fact_pos}
use Rattle.kernels.specs.Logarithm.{is_one_def}

-- x = 1
pub ones : (m : ℕ) (e : ℤ) → T (is_one_def m e) → (m ≡ 1) × (e ≡ pos 0)
ones m (pos e) h = (eqb→eq m 1 (and_l (eqb m 1) (eqb e 0) h), ap pos (eqb→eq e 0 (and_r (eqb m 1) (eqb e 0) h)))
ones m (negsuc e) h = absurd h

pub series_den_pos : (m : ℕ) → zero < m → zero < series_den m
series_den_pos m z = mul-pos odd_fact_pos (one-le-pow 47 (m + lead m) (omega arith))

den_is : (k : ℤ) (n d : ℕ) → (log_at k n d).size.den ≡ 2 ^ 64 * d
den_is (pos k) n d = refl
den_is (negsuc k) n d = refl

pub L-den-pos : (m : ℕ) (e : ℤ) → zero < m → zero < (L m e).size.den
unfolding L
L-den-pos m e z = rw (den_is (e +ℤ pos (size m - 1)) (series_num m) (series_den m)) (mul-pos {m = 2 ^ 64} (lit< tt) (series_den_pos m z))

-- ---- what holds of its sign and its numerator u
pub from_one : (k n d : ℕ) (P : Bool → ℕ → Type 0) → ((u : ℕ) → u ≡ k * N * d + 2 ^ 64 * n → P false u) → P (log_at (pos k) n d).negative (log_at (pos k) n d).size.num
from_one k n d P h =
    let p = k * N * d + 2 ^ 64 * n in
    subst (λ (b : Bool). P b (p - 0 + (0 - p))) (sym (leb-suc-zero p)) (h (p - 0 + (0 - p)) (omega arith))

pub below_one : (k n d : ℕ) (P : Bool → ℕ → Type 0) → 2 ^ 64 * n < N * d → ((u : ℕ) → u + 2 ^ 64 * n ≡ suc k * N * d → P true u)
    → P (log_at (negsuc k) n d).negative (log_at (negsuc k) n d).size.num
below_one k n d P s h =
    let p = 2 ^ 64 * n in
    let q = suc k * N * d in
    let lt : p < q = lt_of_lt_of_le s (omega arith) in
    subst (λ (b : Bool). P b (p - q + (q - p))) (sym (is_true (ltb p q) (lt→ltb p q lt))) (h (p - q + (q - p)) (omega (arith, lt)))

-- the series stays below ln 2, w = 2 ^ 64 and v = N
pub strict : (i l s n d w v : ℕ) → zero < d → i ≤ 256 → n * (256 * w) + 256 * l * d ≤ (i * v + s) * d → s < (256 - i) * v + 256 * l → w * n < v * d
strict i l s n d w v z j a b = lt_of_mul-lt-mul_left 256 (omega (arith, mul-le-mul_right d b, z, ap (λ (t : ℕ). t * (v * d)) (whole i j), a))
  where
    whole : (i : ℕ) → i ≤ 256 → 256 - i + i ≡ 256
    whole i j = omega arith

pub all : (k i : ℕ) → i ≤ 256 → 256 * suc k - i + i ≡ 256 * suc k
all k i h = omega arith
