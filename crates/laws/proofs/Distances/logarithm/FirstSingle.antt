-- The single logarithm for 1 ≤ x < 1 + 2 ^ -9 lies within 255 + 2 ^ 31 L units of 2 ^ -56 of L. Assumes nothing.
use mathlib.Core.Path.{◌≡◌, sym, ◌∙◌, subst}
use mathlib.Core.Bool.{Bool}
use Prim.Native.Nat.{ℕ, zero, ◌+◌, ◌-◌, ◌*◌, ◌/◌, ◌^◌, ◌<◌}
use native.Mathlib.Nat.{mul-le-mul_left}
use native.Mathlib.Omega.{arith}
use lib.IntN.{pos}
use lib.Ieee.{size}
use lib.Pow.{pow_pos}
use Rattle.table.specs.Exact.{N, series_num, series_den, log_at}
use Rattle.kernels.specs.Logarithm.{moved}
use Rattle.laws.proofs.Distances.logarithm.Sum.{Sn, Sd}
use Rattle.laws.proofs.Distances.logarithm.Moved.{Same, series, move_both, lead_moved, moved_ge}
use Rattle.laws.proofs.Distances.logarithm.Near.{from_one}
use Rattle.laws.proofs.Distances.logarithm.FirstAt.{first_near}
use Rattle.laws.proofs.Distances.logarithm.Pairs.{Pair, Within, Apart, PairNear}

-- n - n ^ 2 / 2 + n ^ 3 / 3 for n / 2 ^ 23
abbrev pub cubic_pair : ℕ → Pair
cubic_pair n = record { plus = 2 ^ 33 * n + n * n * n / 24576; minus = 2 ^ 9 * (n * n) }

-- the same number, and its numerator and denominator times w
move_within : {S D n d : ℕ} (t a b p m w : ℕ) → Same S D n d → Within t a b p m S D → Within t a b p m (w * n) (w * d)
move_within {S} {D} {n} {d} t a b p m w r h =
    (omega (arith, mul-le-mul_left w (move_both r 0 p (t + b) (m + a) (omega (arith, h.0)))), omega (arith, mul-le-mul_left w (move_both r t m b (p + a) (omega (arith, h.1)))))

pub near : (m : ℕ) → zero < m → m < 2 ^ 24 → moved 24 m < 2 ^ 23 + 2 ^ 14
    → PairNear (2 ^ 56) 255 (2 ^ 31) (cubic_pair (moved 24 m - 2 ^ 23)) (log_at (pos 0) (series_num m) (series_den m))
near m z l hi =
    let M = moved 24 m in
    let n = M - 2 ^ 23 in
    let p = 2 ^ 33 * n + n * n * n / 24576 in
    let q = 2 ^ 9 * (n * n) in
    let sn = series_num m in
    let sd = series_den m in
    let F : Within (2 ^ 56) 255 (2 ^ 31) p q (Sn n (M + 2 ^ 23)) (Sd (M + 2 ^ 23)) =
    subst (λ (x : ℕ). Within (2 ^ 56) 255 (2 ^ 31) p q (Sn n (x + 2 ^ 23)) (Sd (x + 2 ^ 23))) (omega (arith, moved_ge 24 m z l)) (first_near n (omega (arith, hi))) in
    let G = move_within (2 ^ 56) 255 (2 ^ 31) p q (2 ^ 64) (series m (2 ^ (24 - size m)) (2 ^ 23) (pow_pos (24 - size m)) (lead_moved 24 m z l)) F in
    from_one 0 sn sd (λ (b : Bool) (u : ℕ). Apart (2 ^ 56) 255 (2 ^ 31) b p q u (2 ^ 64 * sd))
    (λ (u : ℕ) e. subst (λ (x : ℕ). Within (2 ^ 56) 255 (2 ^ 31) p q x (2 ^ 64 * sd)) (sym (e ∙ nought (2 ^ 64 * sn) sd)) G)
  where
    nought : (x d : ℕ) → 0 * N * d + x ≡ x
    nought x d = omega arith
