-- ln x in steps, for pow: on L's side of 0, and within 2 ^ -30.27 (single) or 2 ^ -56.4 (double) of L; at x = 1 one unit or none. Assumes nothing.
use mathlib.Core.Path.{◌≡◌, refl, ap}
use mathlib.Core.Bool.{Bool, true, false, cond}
use mathlib.Core.Logic.{◌⊎◌, inl, inr}
use Prim.Native.Nat.{ℕ, zero, suc, ◌+◌, ◌-◌, ◌*◌, ◌/◌, ◌^◌, ◌≤◌, ◌<◌}
use native.Mathlib.Nat.{mul-le-mul, mul-le-mul_left, mul-le-mul_right, le_of_mul-le-mul_left, le_of_mul-le-mul_right, lt_of_mul-lt-mul_right, eq-or-lt_of_le, zero-lt-suc, le-div_iff_mul-le}
use native.Mathlib.Omega.{arith}
use borrow.Author.Tests.{le-ltb}
use lib.Dec.{T, ltb, lt→ltb, lit<, lit≤}
use lib.IntN.{ℤ, pos, negsuc, nat_abs, ◌-ℤ◌, ◌*ℤ◌}
use lib.Ieee.{fin, Format, binary32, binary64, size, fits}
use lib.Ieee.Bits.{is_true}
use Rattle.table.specs.Exact.{N, P, taylor, fact, odds, odd_fact, series_num, series_den, Signed, L, log_at}
use Rattle.table.specs.Entry.{entry, first_from}
use Rattle.table.specs.Whole.{below0}
use Rattle.kernels.specs.Power.{hi}
use Rattle.kernels.specs.Logarithm.{binade, steps, is_one_def, first24, first64, gap63, low22, below24, below64, step_log_def}
use Rattle.kernels.proofs.Definitions.Hi.{hi_le, hi_ge}
use Rattle.laws.proofs.Distances.logarithm.Low64.{le_hi}
use Rattle.laws.proofs.Distances.logarithm.Core.{Sides, Scaled}
use Rattle.laws.proofs.Distances.logarithm.Near.{ones, series_den_pos, from_one, below_one, all}
use Rattle.laws.proofs.Distances.logarithm.Double as Double
use Rattle.laws.proofs.Distances.logarithm.Single as Single
use Rattle.laws.proofs.Distances.logarithm.Single.{g_of}
use Rattle.laws.proofs.Distances.logarithm.Size.{digits_below}
use Rattle.laws.proofs.Distances.logarithm.Pairs.{Is, pair_is}

-- ---- the claim
-- N units of a step are one in 2 ^ -94 or 2 ^ -122
abbrev pub units : Format → ℕ
units binary32 = 2 ^ 94
units binary64 = 2 ^ 122

-- ±g units lie within δ / units of q, and on its side of 0
pub record LogNear (f : Format) (δ : ℕ) (neg : Bool) (g : ℕ) (q : Signed) : Type 0 where
  pub sign : neg ≡ q.negative
  pub above : g * (N * q.size.den) ≤ units f * q.size.num + δ * q.size.den
  pub below : units f * q.size.num ≤ g * (N * q.size.den) + δ * q.size.den

-- 2 ^ -30.27 and 2 ^ -56.4
abbrev pub lacking : Format → ℕ
lacking binary32 = 15252563178391986926
lacking binary64 = 4 * N + 3369 * 2 ^ 50

-- how many units the logarithm of 1 may be
abbrev pub stray : Format → ℕ
stray binary32 = 1
stray binary64 = 0

-- ---- arithmetic alone: a units to a step, x what is lacking, w = 2 ^ 64, v = N, g the size, u is L's numerator and w d its denominator
pos_up : (K i t d v w a n u x g : ℕ) → u ≡ K * v * d + w * n → g + t ≡ (256 * K + i) * a → i * v * a * d ≤ n * (256 * w * a) + (t * v + x) * d
    → g * (v * (w * d)) ≤ 256 * w * a * u + x * (w * d)
pos_up K i t d v w a n u x g e h l = rw e (omega (arith, mul-le-mul_left w l, ap (λ (z : ℕ). z * (v * (w * d))) h))

pos_down : (K i t d v w a n u x k g : ℕ) → u ≡ K * v * d + w * n → g + t ≡ (256 * K + i) * a → n * (256 * w * a) + t * v * d ≤ (i * v + k) * a * d → k * a ≤ x
    → 256 * w * a * u ≤ g * (v * (w * d)) + x * (w * d)
pos_down K i t d v w a n u x k g e h l m = rw e (omega (arith, mul-le-mul_left w l, mul-le-mul_right (w * d) m, ap (λ (z : ℕ). z * (v * (w * d))) h))

neg_up : (K i t d v w a n u x k j : ℕ) → u + w * n ≡ K * v * d → j + i ≡ 256 * K → n * (256 * w * a) + t * v * d ≤ (i * v + k) * a * d → k * a ≤ x
    → (j * a + t) * (v * (w * d)) ≤ 256 * w * a * u + x * (w * d)
neg_up K i t d v w a n u x k j e g l m =
    omega (arith, mul-le-mul_left w l, mul-le-mul_right (w * d) m, ap (λ (z : ℕ). z * (256 * w * a)) e, ap (λ (z : ℕ). z * (v * (w * d) * a)) g)

neg_down : (K i t d v w a n u x j : ℕ) → u + w * n ≡ K * v * d → j + i ≡ 256 * K → i * v * a * d ≤ n * (256 * w * a) + (t * v + x) * d
    → 256 * w * a * u ≤ (j * a + t) * (v * (w * d)) + x * (w * d)
neg_down K i t d v w a n u x j e g l = omega (arith, mul-le-mul_left w l, ap (λ (z : ℕ). z * (256 * w * a)) e, ap (λ (z : ℕ). z * (v * (w * d) * a)) g)

-- the upper side's error is less than a unit, so from 1 on nothing is below 0
not-below : (K i t d v a k y : ℕ) → zero < d → y + t * v * d ≤ (i * v + k) * a * d → k * a < v → t ≤ (256 * K + i) * a
not-below K i t d v a k y z l m =
    omega (arith, lt_of_mul-lt-mul_right v (less t v i k a (le_of_mul-le-mul_right {k = d} (omega (arith, l)) z) m))
  where
    less : (t v i k a : ℕ) → t * v ≤ (i * v + k) * a → k * a < v → t * v < (i * a + 1) * v
    less t v i k a l m = omega arith

module _ (f : Format) (a k x i t n d : ℕ) (un : 256 * 2 ^ 64 * a ≡ units f) (z : zero < d) (h : i ≤ 256) (S : Scaled (i * N) (t * N) k x a n d) (m : k * a ≤ x) (s : k * a < N)
    (under : 2 ^ 64 * n < N * d) (some : (K : ℕ) → zero < (256 * suc K - i) * a + t) where
  abbrev Claim : (z : ℤ) (b : Bool) (u : ℕ) → Type 0
  Claim z b u = LogNear f x (below0 z) (nat_abs z) (record { negative = b; size = record { num = u; den = 2 ^ 64 * d } })

  close : (e : ℤ) → LogNear f x (below0 (steps e i *ℤ pos a -ℤ pos t)) (nat_abs (steps e i *ℤ pos a -ℤ pos t)) (log_at e n d)
  close (pos K) =
      from_one K n d (Claim (steps (pos K) i *ℤ pos a -ℤ pos t))
      (λ (u : ℕ) e. rw (I.sign, I.size)
      (record {
        sign = le-ltb p t le;
        above = rw (← un) (pos_up K i t d N (2 ^ 64) a n u x g e back S.below);
        below = rw (← un)
            (pos_down K i t d N (2 ^ 64) a n u x k g e back S.above m);
      }))
    where
      p : ℕ
      p = (256 * K + i) * a

      I : Is (steps (pos K) i *ℤ pos a -ℤ pos t) p t
      I = pair_is (pos K) i a t h

      le : t ≤ p
      le = not-below K i t d N a k (n * (2 ^ 72 * a)) z S.above s

      g : ℕ
      g = p - t + (t - p)

      back : g + t ≡ p
      back = omega (arith, le)
  close (negsuc K) =
      below_one K n d (Claim (steps (negsuc K) i *ℤ pos a -ℤ pos t)) under
      (λ (u : ℕ) e. rw (I.sign, I.size, plain (j * a + t))
      (record {
        sign = is_true (ltb 0 (j * a + t)) (lt→ltb 0 (j * a + t) (some K));
        above = rw (← un) (neg_up (suc K) i t d N (2 ^ 64) a n u x k j e (all K i h) S.above m);
        below = rw (← un) (neg_down (suc K) i t d N (2 ^ 64) a n u x j e (all K i h) S.below);
      }))
    where
      j : ℕ
      j = 256 * suc K - i

      I : Is (steps (negsuc K) i *ℤ pos a -ℤ pos t) 0 (j * a + t)
      I = pair_is (negsuc K) i a t h

      plain : (y : ℕ) → 0 - y + (y - 0) ≡ y
      plain y = omega arith

-- below 1 something is left: j > 0, or the last entry's gap is not 0
left : (i t a : ℕ) → zero < a → (i ≡ 256 → zero < t) → (i ≡ 256) ⊎ (i < 256) → (K : ℕ) → zero < (256 * suc K - i) * a + t
left i t a z h (inl e) K = omega (arith, h e)
left i t a z h (inr s) K = more (256 * suc K - i) a t z (omega (arith, s))
  where
    more : (j a t : ℕ) → zero < a → 1 ≤ j → zero < j * a + t
    more j a t z l = omega (arith, mul-le-mul_right a l)

-- ---- single
some22 : (g : ℕ) → 2 ^ 39 ≤ g → zero < low22 g
unfolding low22
some22 g l =
    let e = g / 2 ^ 24 in
    (le-div_iff_mul-le {k = 2 ^ 40} (lit< tt)).1 (enough e _ ((le-div_iff_mul-le {k = 2 ^ 24} (lit< tt)).1 l))
  where
    enough : (e b : ℕ) → 2 ^ 15 ≤ e → 1 * 2 ^ 40 ≤ 2 ^ 95 / N * e + b
    enough e b l = omega arith

near32 : (m : ℕ) (e : ℤ) → zero < m → m < 2 ^ 24 → LogNear binary32 (lacking binary32) (below0 (step_log_def binary32 m e)) (nat_abs (step_log_def binary32 m e)) (L m e)
unfolding step_log_def below24 L
near32 m e z l =
    let p = Single.parts m z l in
    let i = first24 m in
    let t = low22 (g_of m) in
    close binary32 (2 ^ 22) 8657045281 (lacking binary32) i t (series_num m) (series_den m) refl (series_den_pos m z) p.last p.steps (lit≤ tt) (lit< tt) p.under
    (left i t (2 ^ 22) (lit< tt) (λ (q : i ≡ 256). some22 (g_of m) (p.gap q)) (eq-or-lt_of_le p.last)) (binade m e)

-- ---- double: t = l K / w by the cut product, K = w b / v, cut
abbrev KL : ℕ
KL = 2 ^ 122 / N

t_le : (t l K w v b : ℕ) → zero < w → t * w ≤ l * K → K * v ≤ w * b → t * v ≤ l * b
t_le t l K w v b z a c = le_of_mul-le-mul_left {k = w} (omega (arith, mul-le-mul_right v a, mul-le-mul_left l c)) z

le_t : (t l K w v b : ℕ) → zero < w → l * K ≤ (t + 3) * w → w * b ≤ (K + 1) * v → l ≤ w → l * b ≤ t * v + 4 * v
le_t t l K w v b z a c m = le_of_mul-le-mul_left {k = w} (omega (arith, mul-le-mul_right v a, mul-le-mul_left l c, mul-le-mul_right v m)) z

scaled : (c l n d : ℕ) → l * 2560 ≤ 13 * 2 ^ 64 → Sides c l 3369 3369 n d → Scaled c (hi l KL * N) 3369 (lacking binary64) (2 ^ 50) n d
scaled c l n d m S =
    let t = hi l KL in
    record {
      above = omega (arith, mul-le-mul_right (2 ^ 50) S.above, mul-le-mul_right d (t_le t l KL (2 ^ 64) N (2 ^ 58) (lit< tt) (hi_le l KL) (lit≤ tt)));
      below = omega (arith, mul-le-mul_right (2 ^ 50) S.below, mul-le-mul_right d (le_t t l KL (2 ^ 64) N (2 ^ 58) (lit< tt) (le_hi l KL) (lit≤ tt) (omega (arith, m))));
    }

some50 : (l : ℕ) → 2 ^ 11 ≤ l → zero < hi l KL
some50 l h = omega (arith, hi_ge l KL, mul-le-mul h (lit≤ {m = 2 ^ 58} {n = KL} tt))

at_one64 : LogNear binary64 (lacking binary64) false 0 (L 1 (pos 0))
unfolding L odds odd_fact size
at_one64 = record { sign = refl; above = lit≤ tt; below = lit≤ tt }

near64 : (m : ℕ) (e : ℤ) → zero < m → m < 2 ^ 53 → LogNear binary64 (lacking binary64) (below0 (step_log_def binary64 m e)) (nat_abs (step_log_def binary64 m e)) (L m e)
unfolding step_log_def L
near64 m e z l = go (is_one_def m e) (ones m e)
  where
    p : Double.Parts m
    p = Double.parts m z l

    i : ℕ
    i = first64 m

    t : ℕ
    t = hi (below64 m) KL

    y : ℤ
    y = steps (binade m e) i *ℤ pos (2 ^ 50) -ℤ pos t

    rest : LogNear binary64 (lacking binary64) (below0 y) (nat_abs y) (L m e)
    rest =
        close binary64 (2 ^ 50) 3369 (lacking binary64) i t (series_num m) (series_den m) refl (series_den_pos m z) p.last
        (scaled (i * N) (below64 m) (series_num m) (series_den m) p.small p.near)
        (lit≤ tt) (lit< tt) p.under (left i t (2 ^ 50) (lit< tt) (λ (q : i ≡ 256). some50 (below64 m) (p.end q)) (eq-or-lt_of_le p.last)) (binade m e)

    go : (b : Bool) → (T b → (m ≡ 1) × (e ≡ pos 0)) → LogNear binary64 (lacking binary64) (below0 (cond b (pos 0) y)) (nat_abs (cond b (pos 0) y)) (L m e)
    go true h = rw ((h tt).0, (h tt).1) at_one64
    go false h = rest

-- ---- both
pub near : (f : Format) (m : ℕ) (e : ℤ) → T (fits f (fin false (suc m) e)) → LogNear f (lacking f) (below0 (step_log_def f (suc m) e)) (nat_abs (step_log_def f (suc m) e)) (L (suc m) e)
near binary32 m e k = near32 (suc m) e (zero-lt-suc m) (digits_below binary32 m e k)
near binary64 m e k = near64 (suc m) e (zero-lt-suc m) (digits_below binary64 m e k)

pub at_one : (f : Format) → nat_abs (step_log_def f 1 (pos 0)) ≤ stray f
unfolding step_log_def below24 gap63 low22 first_from entry P taylor fact size
at_one binary32 = lit≤ tt
at_one binary64 = lit≤ tt
