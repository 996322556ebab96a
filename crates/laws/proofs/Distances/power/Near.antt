-- The power core is near E: M 2 ^ (K - 2048) / top lies within a relative most / grain of E at an argument that is itself near the kernel's. Assumes nothing.
use mathlib.Core.Path.{◌≡◌, sym, ap}
use mathlib.Core.Bool.{Bool, true, false, cond}
use Prim.Native.Nat.{ℕ, zero, ◌+◌, ◌-◌, ◌*◌, ◌/◌, ◌%◌, ◌^◌, ◌≤◌, ◌<◌}
use native.Mathlib.Nat.{le_trans, le_of_eq, mul_left_comm, mul-le-mul_left, mul-le-mul_right, mul-lt-mul_of_pos_left, le_of_mul-le-mul_right, mul-pos, one-le-pow, mod-lt, div-add-mod'}
use native.Mathlib.Omega.{arith}
use lib.Dec.{lit<, lit≤}
use lib.Ieee.{Format, binary32, binary64}
use Rattle.table.specs.Exact.{Frac, N, P, E}
use Rattle.table.proofs.Exact.Laws.{pow-mul}
use Rattle.table.proofs.Exact.Frac.{h_homog}
use Rattle.table.proofs.Exact.Chain.{ac}
use Rattle.table.proofs.Exact.Terms.{pcoef, f23}
use Rattle.table.proofs.Exact.Taylor.{P-num, P-den}
use Rattle.table.proofs.Exact.Near.{P-one, P-den-pos}
use Rattle.kernels.specs.Power.{significand}
use Rattle.kernels.proofs.Definitions.Natural.{lift, biased, whole, index}
use Rattle.laws.proofs.Distances.power.Steps.{unit, span, value, denom, near_by, close}
use Rattle.laws.proofs.Distances.power.Places.{W, Placed, place, placed}
use Rattle.laws.proofs.Distances.power.Table.{top}
use Rattle.laws.proofs.Distances.power.Significand.{top_pos, lack, argument, significand_le, le_significand, significand_low, significand_high}

-- the argument may be slack / grain from A, and the core is then most / grain from E
abbrev pub grain : Format → ℕ
grain binary32 = 2 ^ 32
grain binary64 = 2 ^ 60

abbrev pub slack : Format → ℕ
slack binary32 = 230
slack binary64 = 860

abbrev pub most : Format → ℕ
most binary32 = 255
most binary64 = 895

pub grain_pos : (p : Format) → zero < grain p
grain_pos binary32 = lit< tt
grain_pos binary64 = lit< tt

record Room (f : Format) : Type 0 where
  big : 256 * slack f ≤ grain f
  wide : 2 ^ 63 * (256 * grain f + 258 * slack f) ≤ (2 ^ 63 - 1) * (256 * grain f + 260 * slack f)
  up : (256 * grain f + 260 * slack f) * (2 ^ 93 + 1) * grain f ≤ 2 ^ 93 * (256 * grain f) * (grain f + most f)
  down : (top f + lack f) * (256 * grain f + 260 * slack f) * (grain f - most f) ≤ top f * (256 * grain f) * grain f

room : (f : Format) → Room f
room binary32 = record { big = lit≤ tt; wide = lit≤ tt; up = lit≤ tt; down = lit≤ tt }
room binary64 = record { big = lit≤ tt; wide = lit≤ tt; up = lit≤ tt; down = lit≤ tt }

-- ---- arithmetic alone: m the significand, p / d = P, c = b ^ 23, e = 2 ^ K, x E's numerator over c d, qn / qd = E, A = top, C = 2 ^ 2048
near_up : (m p d c e x qn qd A C t t' u u' G G' : ℕ) → zero < c * d → zero < t * u → m * d * t ≤ A * p * t' → e * (c * p) * u ≤ x * u'
    → x * qd ≡ qn * C * (c * d) → u' * t' * G ≤ t * u * G' → m * e * qd * G ≤ qn * (A * C) * G'
near_up m p d c e x qn qd A C t t' u u' G G' z y hm hx hq hu =
    le_of_mul-le-mul_right {k = c * d * (t * u)} (le_trans {m = A * p * t' * (e * c * u * qd * G)}
    (simp ac (simp ac at (mul-le-mul_right (e * c * u * qd * G) hm))) (le_trans {m = x * u' * (A * t' * qd * G)}
    (simp ac (simp ac at (mul-le-mul_right (A * t' * qd * G) hx))) (le_trans {m = qn * C * (c * d) * (A * u' * t' * G)}
    (le_of_eq (simp ac (simp ac at (ap (λ (n : ℕ). n * (A * u' * t' * G)) hq)))) (simp ac (simp ac at (mul-le-mul_right (qn * C * c * d * A) hu)))))) (mul-pos z y)

near_down : (m p d c e x qn qd A A' C u u' G G' : ℕ) → zero < c * d → zero < A * u → A * p * A ≤ m * A' * d → x * u ≤ e * (c * p) * u'
    → x * qd ≡ qn * C * (c * d) → A' * u' * G' ≤ A * u * G → qn * (A * C) * G' ≤ m * e * qd * G
near_down m p d c e x qn qd A A' C u u' G G' z y hm hx hq hu =
    le_of_mul-le-mul_right {k = c * d * (A * u)} (le_trans {m = x * u * (qd * A * A * G')}
    (le_of_eq (sym (simp ac (simp ac at (ap (λ (n : ℕ). n * (A * A * u * G')) hq))))) (le_trans {m = e * (c * p) * u' * (qd * A * A * G')}
    (mul-le-mul_right (qd * A * A * G') hx) (le_trans {m = m * A' * d * (e * c * u' * qd * G')}
    (simp ac (simp ac at (mul-le-mul_right (e * c * u' * qd * G') hm))) (simp ac (simp ac at (mul-le-mul_right (m * e * c * d * qd) hu)))))) (mul-pos z y)

-- ---- the kernel's argument: Y counts 2 ^ -52 of a factor of 2, from -2048 of them on
abbrev pub over : ℕ → ℕ
over Y = argument (index Y) (Y % W)

index-lt : (Y : ℕ) → index Y < 256
index-lt Y = mod-lt (Y / W) (lit< tt)

rest_lt : (Y : ℕ) → Y % W < W
rest_lt Y = mod-lt Y (lit< tt)

parts : (b Y : ℕ) → Y * (N * b) ≡ whole Y * span (b * W) + b * over Y
parts b Y = joined Y b N W (Y / W) (Y % W) (whole Y) (index Y) (div-add-mod' Y W) (div-add-mod' (Y / W) 256)
  where
    joined : (Y b n W J f K i : ℕ) → J * W + f ≡ Y → K * 256 + i ≡ J → Y * (n * b) ≡ K * (b * W * (256 * n)) + b * ((i * W + f) * n)
    joined Y b n W J f K i e g = rw (← e, ← g) (omega arith)

over_lt : (b Y : ℕ) → zero < b → b * over Y < span (b * W)
over_lt b Y z = go b N W (index Y) (Y % W) z (lit< tt) (index-lt Y) (rest_lt Y)
  where
    step : (W i f : ℕ) → i < 256 → f < W → i * W + f < 256 * W
    step W i f l m = omega (arith, mul-le-mul_right W l)

    go : (b n W i f : ℕ) → zero < b → zero < n → i < 256 → f < W → b * ((i * W + f) * n) < b * W * (256 * n)
    go b n W i f z y l m = omega (arith, mul-lt-mul_of_pos_left {k = b * n} (step W i f l m) (mul-pos z y))

abbrev p : ℕ → Frac
p Y = P (over Y) (2 ^ 116)

-- the same fraction over b
unit_is : (b : ℕ) → unit (b * W) ≡ b * 2 ^ 116
unit_is b = omega arith

p_is : (b Y : ℕ) → value (b * W) (b * over Y) ≡ b ^ 23 * (p Y).num
p_is b Y = rw (P-num (over Y) (2 ^ 116), unit_is b) (h_homog 23 pcoef b (over Y) (2 ^ 116))

p_den : (b Y : ℕ) → denom (b * W) ≡ b ^ 23 * (p Y).den
p_den b Y = rw (P-den (over Y) (2 ^ 116), unit_is b, pow-mul b (2 ^ 116) 23) (mul_left_comm f23 (b ^ 23) ((2 ^ 116) ^ 23))

abbrev Apart : (Y X d : ℕ) → Type 0
Apart Y X d = (Y ≤ X + d) × (X ≤ Y + d)

abbrev pub M : Format → ℕ → ℕ
M f Y = significand f (index Y) (Y % W)

-- 63 digits of it
pub M-low : (f : Format) (Y : ℕ) → 2 ^ 62 ≤ M f Y * lift f
M-low f Y = go f (M f Y) (significand_low f (index Y) (Y % W) (index-lt Y) (rest_lt Y))
  where
    go : (f : Format) (m : ℕ) → top f ≤ m → 2 ^ 62 ≤ m * lift f
    go binary32 m l = omega arith
    go binary64 m l = omega arith

pub M-high : (f : Format) (Y : ℕ) → M f Y * lift f < 2 ^ 63
M-high f Y = go f (M f Y) (significand_high f (index Y) (Y % W) (index-lt Y) (rest_lt Y))
  where
    go : (f : Format) (m : ℕ) → m < 2 * top f → m * lift f < 2 ^ 63
    go binary32 m l = omega arith
    go binary64 m l = omega arith

-- ---- the kernel's argument Y, and another, X, of which q is the power; d the distance of the two
module _ (f : Format) (b Y X d : ℕ) (q : Frac) (z : zero < b) (at : Placed (b * W) X q) (away : Apart (Y * (N * b)) X d) (fits : d * grain f ≤ slack f * unit (b * W)) where
  bw_pos : zero < b * W
  bw_pos = mul-pos z (lit< tt)

  power_up : 2 ^ whole Y * (b ^ 23 * (p Y).num) * (256 * grain f) ≤ 2 ^ at.K * value (b * W) at.r * (256 * grain f + 260 * slack f)
  power_up =
      rw (← p_is b Y)
      (close (b * W) bw_pos (grain f) (slack f) (grain_pos f) (room f).big (room f).wide (whole Y) (b * over Y) at.K at.r d (over_lt b Y z) at.small
      (rw (← parts b Y, ← at.sum) away.0) fits)

  power_down : 2 ^ at.K * value (b * W) at.r * (256 * grain f) ≤ 2 ^ whole Y * (b ^ 23 * (p Y).num) * (256 * grain f + 260 * slack f)
  power_down =
      rw (← p_is b Y)
      (close (b * W) bw_pos (grain f) (slack f) (grain_pos f) (room f).big (room f).wide at.K at.r (whole Y) (b * over Y) d at.small (over_lt b Y z)
      (rw (← parts b Y, ← at.sum) away.1) fits)

  exact_is : 2 ^ at.K * value (b * W) at.r * q.den ≡ q.num * 2 ^ 2048 * (b ^ 23 * (p Y).den)
  exact_is = rw (p_den b Y) at at.same

  den_pos : zero < b ^ 23 * (p Y).den
  den_pos = rw (P-den (over Y) (2 ^ 116)) (mul-pos (one-le-pow 23 b z) (P-den-pos (2 ^ 116) (lit< tt)))

  one-le : (p Y).den ≤ (p Y).num
  one-le = rw (P-num (over Y) (2 ^ 116), P-den (over Y) (2 ^ 116)) (P-one (over Y) (2 ^ 116))

  grains : zero < 256 * grain f
  grains = mul-pos {m = 256} (lit< tt) (grain_pos f)

  pub placed_le : M f Y * 2 ^ whole Y * q.den * grain f ≤ q.num * (top f * 2 ^ 2048) * (grain f + most f)
  placed_le =
      near_up (M f Y) (p Y).num (p Y).den (b ^ 23) (2 ^ whole Y) (2 ^ at.K * value (b * W) at.r) q.num q.den (top f) (2 ^ 2048)
      (2 ^ 93) (2 ^ 93 + 1) (256 * grain f) (256 * grain f + 260 * slack f) (grain f) (grain f + most f) den_pos (mul-pos {m = 2 ^ 93} (lit< tt) grains)
      (omega (arith, one-le, significand_le f (index Y) (Y % W) (index-lt Y) (rest_lt Y), mul-le-mul_left (top f) one-le)) power_up exact_is (room f).up

  pub le_placed : q.num * (top f * 2 ^ 2048) * (grain f - most f) ≤ M f Y * 2 ^ whole Y * q.den * grain f
  le_placed =
      near_down (M f Y) (p Y).num (p Y).den (b ^ 23) (2 ^ whole Y) (2 ^ at.K * value (b * W) at.r) q.num q.den (top f) (top f + lack f) (2 ^ 2048)
      (256 * grain f) (256 * grain f + 260 * slack f) (grain f) (grain f - most f) den_pos (mul-pos (top_pos f) grains)
      (le_significand f (index Y) (Y % W) (index-lt Y) (rest_lt Y)) power_down exact_is (room f).down

-- ---- E at a fraction ±a / b near ±z steps of 2 ^ -44, that is ±z N / 2 ^ 116
-- the two arguments, B = 2 ^ 63
apart : (neg : Bool) (B z x n b d : ℕ) → z ≤ B → x ≤ B * n * b → x ≤ z * (n * b) + d → z * (n * b) ≤ x + d
    → Apart (cond neg (B - z) (B + z) * (n * b)) (cond neg (B * n * b - x) (B * n * b + x)) d
apart false B z x n b d lz lx lo hi = omega arith
apart true B z x n b d lz lx lo hi = go (B - z) (omega arith)
  where
    go : (y : ℕ) → y + z ≡ B → Apart (y * (n * b)) (B * n * b - x) d
    go y e = omega (arith, ap (λ (k : ℕ). k * (n * b)) e)

-- ±a / b does not pass ±2048 ln 2
inside : (x z Z n b d u : ℕ) → x ≤ z * (n * b) + d → z ≤ Z → d * 256 ≤ 1 * (b * W * u) → W * u ≤ 256 * (Z * n) → x ≤ 2 * Z * n * b
inside x z Z n b d u h l k m = omega (arith, h, l, m, mul-le-mul_right (n * b) l, mul-le-mul_left b m)

pub power_near : (f : Format) (neg : Bool) (a b z d : ℕ) → zero < b → z ≤ 2 ^ 62 → 2 ^ 116 * a ≤ z * (N * b) + d → z * (N * b) ≤ 2 ^ 116 * a + d
    → d * grain f ≤ slack f * unit (b * W)
    → (M f (biased neg z) * 2 ^ whole (biased neg z) * (E neg a b).den * grain f ≤ (E neg a b).num * (top f * 2 ^ 2048) * (grain f + most f))
    × ((E neg a b).num * (top f * 2 ^ 2048) * (grain f - most f) ≤ M f (biased neg z) * 2 ^ whole (biased neg z) * (E neg a b).den * grain f)
power_near f neg a b z d zb zl lo hi fits =
    let d_small = near_by (b * W) (mul-pos zb (lit< tt)) (grain f) (slack f) (grain_pos f) (room f).big (room f).wide d fits in
    let far : 2 ^ 116 * a ≤ 2 ^ 63 * N * b = inside (2 ^ 116 * a) z (2 ^ 62) N b d (2 ^ 72) lo zl d_small (lit≤ tt) in
    let at : Placed (b * W) (place neg a b) (E neg a b) = placed neg a b zb far in
    let away : Apart (biased neg z * (N * b)) (place neg a b) d = apart neg (2 ^ 63) z (2 ^ 116 * a) N b d (le_trans zl (lit≤ tt)) far lo hi in
    (placed_le f b (biased neg z) (place neg a b) d (E neg a b) zb at away fits, le_placed f b (biased neg z) (place neg a b) d (E neg a b) zb at away fits)
