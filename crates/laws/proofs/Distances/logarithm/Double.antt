-- The double logarithm before its rounding lies within 15 + 2 ^ 8 |L| units of 2 ^ -64 of L. Assumes nothing.
use mathlib.Core.Path.{◌≡◌, refl, sym, ap, subst}
use mathlib.Core.Bool.{Bool}
use mathlib.Core.Logic.{◌⊎◌, inl, inr}
use Prim.Native.Nat.{ℕ, zero, suc, ◌+◌, ◌-◌, ◌*◌, ◌^◌, ◌≤◌, ◌<◌}
use native.Mathlib.Nat.{le_trans, lt_of_lt_of_le, mul-le-mul_left, mul-le-mul_right, le_of_mul-le-mul_left, le_of_mul-le-mul_right, eq-or-lt_of_le}
use native.Mathlib.Omega.{arith}
use lib.Dec.{lit<, lit≤}
use lib.IntN.{ℤ, pos, negsuc}
use lib.Ieee.{size}
use lib.Pow.{pow_pos}
use Rattle.table.specs.Exact as Exact
use Rattle.table.specs.Exact.{N, series_num, series_den}
use Rattle.table.proofs.Entries.{entry_zero}
use Rattle.kernels.specs.Power.{hi}
use Rattle.kernels.specs.Logarithm.{moved, first64, gap64, low64, below64}
use Rattle.kernels.proofs.Definitions.Hi.{hi_le}
use Rattle.laws.proofs.Distances.logarithm.Table.{indexed}
use Rattle.laws.proofs.Distances.logarithm.Low64.{chain, below_small}
use Rattle.laws.proofs.Distances.logarithm.Core.{Sides, near_at, gap_small}
use Rattle.laws.proofs.Distances.logarithm.Moved.{series, move_sides, lead_moved, moved_ge, moved_room}
use Rattle.laws.proofs.Distances.logarithm.Near.{series_den_pos, from_one, below_one, strict, all}
use Rattle.laws.proofs.Distances.logarithm.Pairs.{N64, Apart, pair_at, PairNear}

-- ---- sizes
low_ge : (g : ℕ) → g ≤ low64 g
unfolding low64
low_ge g = omega arith

-- the last entry's gap is never 0 below 1
end_gap : (M : ℕ) → M + 2 ^ 11 ≤ 2 ^ 64 → 2 ^ 11 ≤ gap64 256 M
unfolding gap64
end_gap M l = rw entry_zero (last M (hi M (2 * 2 ^ 62)) (2 ^ 63) (lit< tt) (hi_le M (2 * 2 ^ 62)) l)
  where
    end : (M Q A : ℕ) → 2 * Q ≤ M → M + 2 ^ 11 ≤ 2 * A → 2 ^ 11 ≤ 2 * (A - Q)
    end M Q A a b = omega arith

    last : (M Q A : ℕ) → zero < A → Q * (2 * A) ≤ M * A → M + 2 ^ 11 ≤ 2 * A → 2 ^ 11 ≤ 2 * (A - Q)
    last M Q A z a b = end M Q A (le_of_mul-le-mul_right {k = A} (omega (arith, a)) z) b

-- ---- what is known of the logarithm's parts at m
pub record Parts (m : ℕ) : Type 0 where
  pub last : first64 m ≤ 256
  pub near : Sides (first64 m * N) (below64 m) 3369 3369 (series_num m) (series_den m)
  pub small : below64 m * 2560 ≤ 13 * 2 ^ 64
  pub end : first64 m ≡ 256 → 2 ^ 11 ≤ below64 m
  pub under : 2 ^ 64 * series_num m < N * series_den m

far : (i l : ℕ) → (i ≡ 256 → 2 ^ 11 ≤ l) → (i ≡ 256) ⊎ (i < 256) → 3369 < (256 - i) * N + 256 * l
far i l h (inl e) = omega (arith, h e)
far i l h (inr s) = omega arith

pub parts : (m : ℕ) → zero < m → m < 2 ^ 53 → Parts m
unfolding below64
parts m z t =
    let M = moved 64 m in
    let i = first64 m in
    let g = gap64 i M in
    let l : m < 2 ^ 64 = lt_of_lt_of_le t (lit≤ tt) in
    let room : M + 2 ^ 11 ≤ 2 ^ 64 = moved_room 64 53 m (lit≤ tt) t in
    let lo : 2 ^ 63 ≤ M = moved_ge 64 m z l in
    let top : M < 2 ^ 64 = omega (arith, room) in
    let I = indexed M lo top in
    let R = move_sides (i * N) (low64 g) 3369 3369 (series m (2 ^ (64 - size m)) (2 ^ 63) (pow_pos (64 - size m)) (lead_moved 64 m z l)) (near_at M lo top) in
    let ends : i ≡ 256 → 2 ^ 11 ≤ low64 g = λ (e : i ≡ 256). le_trans (subst (λ (j : ℕ). 2 ^ 11 ≤ gap64 j M) (sym e) (end_gap M room)) (low_ge g) in
    record {
      last = I.last;
      near = R;
      small = below_small (low64 g) g (gap_small M lo top) (chain g (gap_small M lo top)).never;
      end = ends;
      under = strict i (low64 g) 3369 (series_num m) (series_den m) (2 ^ 64) N (series_den_pos m z) I.last R.above (far i (low64 g) ends (eq-or-lt_of_le I.last));
    }

-- ---- arithmetic alone: w = 2 ^ 64, v = N, r = N64, u is L's numerator, w d its denominator
index_small : (i l n d w v : ℕ) → zero < v → i * v * d ≤ n * (256 * w) + (256 * l + 3369) * d → l * 2560 ≤ 13 * w → 13 * w + 33690 ≤ 20 * v → 256 * w ≤ 370 * v
    → i * d ≤ 370 * n + 2 * d
index_small i l n d w v z a b c e = le_of_mul-le-mul_right {k = v} (omega (arith, mul-le-mul_right d b, mul-le-mul_right d c, mul-le-mul_right n e)) z

pos_above : (k i l n d w v r u : ℕ) → 256 * r ≡ v + 85 → u ≡ k * v * d + w * n → i * v * d ≤ n * (256 * w) + (256 * l + 3369) * d → i * d ≤ 370 * n + 2 * d → w ≤ 2 * v
    → (256 * k + i) * r * (w * d) ≤ u * w + (l + 15) * (w * d) + 2 ^ 8 * u
pos_above k i l n d w v r u e f a b c =
    le_of_mul-le-mul_left {k = 256} (subst (λ (y : ℕ). y ≤ 256 * (u * w + (l + 15) * (w * d) + 2 ^ 8 * u)) (sym (turn k i r w d v e))
    (rw f (omega (arith, mul-le-mul_left w a, mul-le-mul_left w b, mul-le-mul_left (k * d) c)))) (lit< tt)
  where
    turn : (k i r w d v : ℕ) → 256 * r ≡ v + 85 → 256 * ((256 * k + i) * r * (w * d)) ≡ (256 * k + i) * (v + 85) * (w * d)
    turn k i r w d v e = omega (arith, ap (λ (y : ℕ). (256 * k + i) * (w * d) * y) e)

pos_below : (k i l n d w v r u : ℕ) → 256 * r ≡ v + 85 → u ≡ k * v * d + w * n → n * (256 * w) + 256 * l * d ≤ (i * v + 3369) * d
    → u * w + l * (w * d) ≤ ((256 * k + i) * r + 15) * (w * d) + 2 ^ 8 * u
pos_below k i l n d w v r u e f a =
    le_of_mul-le-mul_left {k = 256} (subst (λ (y : ℕ). 256 * (u * w + l * (w * d)) ≤ y) (sym (turn k i r w d v u e)) (rw f (omega (arith, mul-le-mul_left w a)))) (lit< tt)
  where
    turn : (k i r w d v u : ℕ) → 256 * r ≡ v + 85 → 256 * (((256 * k + i) * r + 15) * (w * d) + 2 ^ 8 * u) ≡ ((256 * k + i) * (v + 85) + 3840) * (w * d) + 256 * 2 ^ 8 * u
    turn k i r w d v u e = omega (arith, ap (λ (y : ℕ). (256 * k + i) * (w * d) * y) e)

neg_above : (K i l n d w v r u j : ℕ) → 256 * r ≡ v + 85 → u + w * n ≡ K * v * d → j + i ≡ 256 * K → n * (256 * w) + 256 * l * d ≤ (i * v + 3369) * d → w ≤ 2 * v
    → 256 * 3369 ≤ 471 * w
    → (j * r + l) * (w * d) ≤ u * w + (0 + 15) * (w * d) + 2 ^ 8 * u
neg_above K i l n d w v r u j e f g a c t =
    let f1 = ap (λ (x : ℕ). x * (256 * w)) f in
    let f2 = ap (λ (x : ℕ). x * 256) f in
    let g1 = ap (λ (x : ℕ). x * (v * (w * d))) g in
    let g2 = ap (λ (x : ℕ). x * (v * d)) g in
    le_of_mul-le-mul_left {k = 256} (subst (λ (y : ℕ). y ≤ 256 * (u * w + (0 + 15) * (w * d) + 2 ^ 8 * u)) (sym (turn j l r w d v e))
    (omega (arith, mul-le-mul_left w a, a, mul-le-mul_left (j * d) c, mul-le-mul_right d t, f1, f2, g1, g2))) (lit< tt)
  where
    turn : (j l r w d v : ℕ) → 256 * r ≡ v + 85 → 256 * ((j * r + l) * (w * d)) ≡ (j * (v + 85) + 256 * l) * (w * d)
    turn j l r w d v e = omega (arith, ap (λ (y : ℕ). j * (w * d) * y) e)

neg_below : (K i l n d w v r u j : ℕ) → 256 * r ≡ v + 85 → u + w * n ≡ K * v * d → j + i ≡ 256 * K → i * v * d ≤ n * (256 * w) + (256 * l + 3369) * d
    → u * w + 0 * (w * d) ≤ (j * r + l + 15) * (w * d) + 2 ^ 8 * u
neg_below K i l n d w v r u j e f g a =
    le_of_mul-le-mul_left {k = 256} (subst (λ (y : ℕ). 256 * (u * w + 0 * (w * d)) ≤ y) (sym (turn j l r w d v u e))
    (omega (arith, mul-le-mul_left w a, ap (λ (x : ℕ). x * (256 * w)) f, ap (λ (x : ℕ). x * (v * (w * d))) g))) (lit< tt)
  where
    turn : (j l r w d v u : ℕ) → 256 * r ≡ v + 85 → 256 * ((j * r + l + 15) * (w * d) + 2 ^ 8 * u) ≡ (j * (v + 85) + 256 * l + 3840) * (w * d) + 256 * 2 ^ 8 * u
    turn j l r w d v u e = omega (arith, ap (λ (y : ℕ). j * (w * d) * y) e)

pub near : (m : ℕ) (k : ℤ) → zero < m → m < 2 ^ 53 → PairNear (2 ^ 64) 15 (2 ^ 8) (pair_at k (first64 m) N64 (below64 m)) (Exact.log_at k (series_num m) (series_den m))
near m k z t = let p = parts m z t in go (first64 m) (below64 m) (series_num m) (series_den m) p.last p.near p.small p.under k
  where
    go : (i l n d : ℕ) → i ≤ 256 → Sides (i * N) l 3369 3369 n d → l * 2560 ≤ 13 * 2 ^ 64 → 2 ^ 64 * n < N * d → (k : ℤ)
        → PairNear (2 ^ 64) 15 (2 ^ 8) (pair_at k i N64 l) (Exact.log_at k n d)
    go i l n d h R s under (pos k) =
        let few = index_small i l n d (2 ^ 64) N (lit< tt) R.below s (lit≤ tt) (lit≤ tt) in
        from_one k n d (λ (b : Bool) (u : ℕ). Apart (2 ^ 64) 15 (2 ^ 8) b ((256 * k + i) * N64) l u (2 ^ 64 * d)) (λ (u : ℕ) e.
        (pos_above k i l n d (2 ^ 64) N N64 u refl e R.below few (lit≤ tt), pos_below k i l n d (2 ^ 64) N N64 u refl e R.above))
    go i l n d h R s under (negsuc k) =
        let j = 256 * suc k - i in
        let g = all k i h in
        below_one k n d (λ (b : Bool) (u : ℕ). Apart (2 ^ 64) 15 (2 ^ 8) b 0 (j * N64 + l) u (2 ^ 64 * d)) under (λ (u : ℕ) e.
        (neg_above (suc k) i l n d (2 ^ 64) N N64 u j refl e g R.above (lit≤ tt) (lit≤ tt), neg_below (suc k) i l n d (2 ^ 64) N N64 u j refl e g R.below))
