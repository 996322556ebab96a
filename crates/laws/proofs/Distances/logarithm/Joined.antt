-- The logarithm that ln rounds, by its branches, lies near L: `absolute` and `relative` |L| units of 2 ^ -56 or 2 ^ -64. Assumes nothing.
use mathlib.Core.Path.{◌≡◌, refl, sym, subst}
use mathlib.Core.Bool.{Bool, true, false, not, cond, ◌&&◌}
use mathlib.Core.Logic.{inl}
use Prim.Native.Nat.{ℕ, zero, suc, ◌+◌, ◌-◌, ◌*◌, ◌/◌, ◌^◌, ◌≤◌, ◌<◌}
use lib.Dec.{T, ltb, ltb→lt, nltb→le, eqb-suc-zero, lit≤}
use lib.IntN.{ℤ, pos, negsuc, nat_abs, ◌-ℤ◌, ◌*ℤ◌, pos-ne-negsuc}
use lib.Ieee.{Format, binary32, binary64, prec, size}
use Rattle.table.specs.Exact.{odds, odd_fact, series_num, series_den, L, log_at}
use Rattle.table.specs.Whole.{below0}
use Rattle.kernels.specs.Logarithm.{binade, moved, first24, first64, steps, is_one_def, next_to_one, cubic, low63, below24, below64, logarithm, log_units}
use Rattle.laws.proofs.Distances.logarithm.Near.{ones}
use Rattle.laws.proofs.Distances.logarithm.Double as Double
use Rattle.laws.proofs.Distances.logarithm.Single as Single
use Rattle.laws.proofs.Distances.logarithm.FirstSingle as First
use Rattle.laws.proofs.Distances.logarithm.FirstSingle.{cubic_pair}
use Rattle.laws.proofs.Distances.logarithm.Pairs.{N64, N56, pair_at, pair_is, difference, Away, away, absolute, relative}

single : (m : ℕ) (e : ℤ) → zero < m → m < 2 ^ 24 → Away (2 ^ 56) 255 (2 ^ 31) (below0 (logarithm binary32 m e)) (nat_abs (logarithm binary32 m e)) (L m e)
unfolding logarithm L
single m e z l = go (binade m e)
  where
    M : ℕ
    M = moved 24 m

    far : ℤ → ℤ
    far k = steps k (first24 m) *ℤ pos N56 -ℤ pos (below24 low63 m / 2 ^ 7)

    Claim : ℤ → ℤ → Type 0
    Claim k x = Away (2 ^ 56) 255 (2 ^ 31) (below0 x) (nat_abs x) (log_at k (series_num m) (series_den m))

    outside : (k : ℤ) → (k ≡ pos 0 → 2 ^ 23 + 2 ^ 14 ≤ M) → Claim k (far k)
    outside k h =
        away (2 ^ 56) 255 (2 ^ 31) (pair_at k (first24 m) N56 (below24 low63 m / 2 ^ 7)) (far k) (log_at k (series_num m) (series_den m))
        (pair_is k (first24 m) N56 (below24 low63 m / 2 ^ 7) (Single.parts m z l).last) (Single.near m k z l h)

    pick : (b : Bool) → (T b → M < 2 ^ 23 + 2 ^ 14) → (T (not b) → 2 ^ 23 + 2 ^ 14 ≤ M) → Claim (pos 0) (cond b (cubic (M - 2 ^ 23)) (far (pos 0)))
    pick true y n =
        let x = M - 2 ^ 23 in
        away (2 ^ 56) 255 (2 ^ 31) (cubic_pair x) (cubic x) (log_at (pos 0) (series_num m) (series_den m))
        (difference (2 ^ 33 * x + x * x * x / 24576) (2 ^ 9 * (x * x))) (First.near m z l (y tt))
    pick false y n = outside (pos 0) (λ (e : pos 0 ≡ pos 0). n tt)

    go : (k : ℤ) → Claim k (cond (next_to_one k M) (cubic (M - 2 ^ 23)) (far k))
    go (pos zero) = pick (ltb M (2 ^ 23 + 2 ^ 14)) (ltb→lt M (2 ^ 23 + 2 ^ 14)) (nltb→le M (2 ^ 23 + 2 ^ 14))
    go (pos (suc k)) =
        subst (λ (b : Bool). Claim (pos (suc k)) (cond (b && ltb M (2 ^ 23 + 2 ^ 14)) (cubic (M - 2 ^ 23)) (far (pos (suc k))))) (sym (eqb-suc-zero k))
        (outside (pos (suc k)) (λ (e : pos (suc k) ≡ pos 0). absurd (rw (eqb-suc-zero k) at (subst (λ (x : ℤ). T (next_to_one x 0)) (sym e) tt))))
    go (negsuc k) = outside (negsuc k) (λ (e : negsuc k ≡ pos 0). absurd (pos-ne-negsuc 0 k (sym e)))

at_one : Away (2 ^ 64) 15 (2 ^ 8) false 0 (L 1 (pos 0))
unfolding L odds odd_fact size
at_one = inl (refl, (lit≤ tt, lit≤ tt))

double : (m : ℕ) (e : ℤ) → zero < m → m < 2 ^ 53 → Away (2 ^ 64) 15 (2 ^ 8) (below0 (logarithm binary64 m e)) (nat_abs (logarithm binary64 m e)) (L m e)
unfolding logarithm L
double m e z l = go (is_one_def m e) (ones m e)
  where
    y : ℤ
    y = steps (binade m e) (first64 m) *ℤ pos N64 -ℤ pos (below64 m)

    go : (b : Bool) → (T b → (m ≡ 1) × (e ≡ pos 0)) → Away (2 ^ 64) 15 (2 ^ 8) (below0 (cond b (pos 0) y)) (nat_abs (cond b (pos 0) y)) (L m e)
    go true h = rw ((h tt).0, (h tt).1) at_one
    go false h =
        away (2 ^ 64) 15 (2 ^ 8) (pair_at (binade m e) (first64 m) N64 (below64 m)) y (L m e)
        (pair_is (binade m e) (first64 m) N64 (below64 m) (Double.parts m z l).last) (Double.near m (binade m e) z l)

pub log_near : (f : Format) (m : ℕ) (e : ℤ) → zero < m → m < 2 ^ prec f
    → Away (2 ^ log_units f) (absolute f) (relative f) (below0 (logarithm f m e)) (nat_abs (logarithm f m e)) (L m e)
log_near binary32 m e z l = single m e z l
log_near binary64 m e z l = double m e z l
