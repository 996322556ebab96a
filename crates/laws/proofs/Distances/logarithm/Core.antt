-- The core at its numbers: S(z) is i N - 256 l, in units of 2 ^ -72, within 3369 units. Assumes nothing.
use mathlib.Core.Path.{◌≡◌, refl, subst}
use Prim.Native.Nat.{ℕ, zero, ◌+◌, ◌-◌, ◌*◌, ◌^◌, ◌≤◌, ◌<◌}
use native.Mathlib.Nat.{le_trans, mul-one, le_of_lt, mul-le-mul_left, mul-le-mul_right, le_of_mul-le-mul_right, le_of_mul-le-mul_left, mul-pos}
use native.Mathlib.Omega.{arith}
use lib.Dec.{lit<, lit≤}
use Rattle.table.specs.Exact.{N}
use Rattle.table.specs.Entry.{entry, index_at_def}
use Rattle.kernels.specs.Power.{hi}
use Rattle.kernels.specs.Logarithm.{interval, gap64, low64}
use Rattle.kernels.proofs.Definitions.Hi.{hi_le}
use Rattle.laws.proofs.Distances.logarithm.Ratio.{nearest}
use Rattle.table.proofs.Exact.Below.{less}
use Rattle.laws.proofs.Distances.logarithm.Sum.{PP, FF, Sn, Sd, Sd-pos, Ln, Ld, Ld-pos, Xn, Xd, close_up, close_down}
use Rattle.laws.proofs.Distances.logarithm.Low64.{le_hi, chain}
use Rattle.laws.proofs.Distances.logarithm.Table.{row, Indexed, indexed}

-- ---- for any numbers: Q is M (2 r) / w by the cut product, x and r a pair of the table with x r at most H w and at least H w8 / 256; q = 2 Q, w = 8 H
q_le : (M x r Q H w : ℕ) → zero < w → 8 * H ≡ w → M ≤ 2 * x → Q * w ≤ M * (2 * r) → x * r ≤ H * w → 2 * Q ≤ w
q_le M x r Q H w z e a b c = le_of_mul-le-mul_right {k = w} (omega (arith, mul-le-mul_right (4 * r) a, subst (λ (y : ℕ). 8 * (x * r) ≤ y) (eq H w e) (mul-le-mul_left 8 c))) z
  where
    eq : (H w : ℕ) → 8 * H ≡ w → 8 * (H * w) ≡ w * w
    eq H w e = rw (← e) (omega arith)

q_hi : (M x r Q H w : ℕ) → zero < w → 8 * H ≡ w → Q * w ≤ M * (2 * r) → x * r ≤ H * w → 2 * x * (2 * Q) ≤ M * w
q_hi M x r Q H w z e b c =
    le_of_mul-le-mul_right {k = w}
    (le_trans {m = 8 * M * (x * r)} (omega (arith, mul-le-mul_left (4 * x) b)) (subst (λ (y : ℕ). 8 * M * (x * r) ≤ y) (eq H w e) (mul-le-mul_left (8 * M) c))) z
  where
    eq : (H w : ℕ) → 8 * H ≡ w → 8 * M * (H * w) ≡ M * w * w
    eq H w e = rw (← e) (omega arith)

q_near : (M x r Q H w w8 j : ℕ) → zero < H → 8 * H ≡ w → M * (2 * r) ≤ (Q + j) * w → H * w8 ≤ x * r * 256 → M * w8 ≤ (2 * Q + 2 * j) * 256 * (2 * x)
q_near M x r Q H w w8 j z e b c =
    le_of_mul-le-mul_right {k = H}
    (le_trans {m = M * (x * r * 256)} (omega (arith, mul-le-mul_left M c))
    (le_trans {m = (Q + j) * w * (128 * x)} (omega (arith, mul-le-mul_right (128 * x) b)) (rw (← e) (omega arith)))) z

q_lo : (M x q w w8 j a : ℕ) → M * w8 ≤ (q + 2 * j) * 256 * x → 512 * j * w ≤ a * q → M * w * w8 ≤ q * (256 * w + a) * x
q_lo M x q w w8 j v a b = omega (arith, mul-le-mul_right w a, mul-le-mul_right x b)

q_big : (M p r Q H w j : ℕ) → zero < w → 8 * H ≡ w → 1024 * p ≤ 513 * M → M * (2 * r) ≤ (Q + j) * w → 2553 * (H * w) ≤ 2560 * (p * r) → 1024000 * j ≤ w
    → 2548 * w ≤ 2560 * (2 * Q)
q_big M p r Q H w j z e a b c l =
    last Q w j (le_of_mul-le-mul_right {k = w} (le_trans {m = 8 * 1024 * 2560 * (p * r)} (subst (λ (y : ℕ). y ≤ 8 * 1024 * 2560 * (p * r)) (eq H w e) (omega (arith, c)))
    (omega (arith, mul-le-mul_right r a, b))) z) l
  where
    eq : (H w : ℕ) → 8 * H ≡ w → 8 * 1024 * (2553 * (H * w)) ≡ 1024 * 2553 * w * w
    eq H w e = rw (← e) (omega arith)

    last : (Q w j : ℕ) → 1024 * 2553 * w ≤ 4 * 2560 * 513 * (Q + j) → 1024000 * j ≤ w → 2548 * w ≤ 2560 * (2 * Q)
    last Q w j l m = omega arith

g_is : (A Q : ℕ) → 2 * Q ≤ 2 * A → 2 * (A - Q) + 2 * Q ≡ 2 * A
g_is A Q l = omega arith

g_small : (g q w : ℕ) → g + q ≡ w → 2548 * w ≤ 2560 * q → g * 2560 ≤ 12 * (g + q)
g_small g q w e l = omega arith

q_most : (q w j a : ℕ) → 2548 * w ≤ 2560 * q → 2560 * (512 * j) ≤ 2548 * a → 512 * j * w ≤ a * q
q_most q w j a l m = le_of_mul-le-mul_left {k = 2560} (le_trans {m = 2548 * a * w} (omega (arith, mul-le-mul_right w m)) (omega (arith, mul-le-mul_left a l))) (lit< tt)

q_pos : (q w : ℕ) → zero < w → 2548 * w ≤ 2560 * q → zero < q
q_pos q w z l = omega arith

-- the factors of the upper side: v for the cut product, k for all of them
pub record Counted (v k : ℕ) : Type 0 where
  pub all : ((2 * 2 ^ 93 + 2) * (2 ^ 200 + 1)) * (2 ^ 72 + v) * 2 ^ 72 * 2 ^ 72 ≤ ((2 * 2 ^ 93) * 2 ^ 200) * (2 ^ 72 - 1621) * (2 ^ 72 - 202) * (2 ^ 72 + k)
  pub rough : 3 * k * 256 ≤ 2 ^ 72
  pub fit : 2 ^ 72 + k ≤ 2 ^ 93
  pub room : (256 * N + (k + 1)) * 10 ≤ 7 * 2 ^ 72

-- n / d within k / (256 w) of c / (256 w) - l / w from above, and within j / (256 w) from below
pub record Sides (c l k j n d : ℕ) : Type 0 where
  pub above : n * 2 ^ 72 + 256 * l * d ≤ (c + k) * d
  pub below : c * d ≤ n * 2 ^ 72 + (256 * l + j) * d

-- the same in units of 1 / (2 ^ 72 a)
pub record Scaled (c y k j a n d : ℕ) : Type 0 where
  pub above : n * (2 ^ 72 * a) + y * d ≤ (c + k) * a * d
  pub below : c * a * d ≤ n * (2 ^ 72 * a) + (y + j) * d

-- ---- what is known of the numbers, for a significand za + 2 ^ 63
pub record Place (za g q c x v k : ℕ) : Type 0 where
  pub whole : g + q ≡ 2 ^ 64
  pub upto : za ≤ 2 ^ 63
  pub small : g * 2560 ≤ 12 * (g + q)
  pub pos_q : zero < q
  pub q_lo : (za + 2 ^ 63) * (g + q) * (2 ^ 72 - 1621) ≤ q * (2 ^ 72 + v) * x
  pub x_hi : x * FF (2 ^ 72) * (2 ^ 72 - 202) ≤ 2 ^ 63 * PP c (2 ^ 72) * 2 ^ 72
  pub q_hi : x * q ≤ (za + 2 ^ 63) * (g + q)
  pub x_lo : 2 ^ 63 * PP c (2 ^ 72) * 2 ^ 62 ≤ x * FF (2 ^ 72) * (2 ^ 62 + 1)
  pub under : c * 10 ≤ 7 * 2 ^ 72
  pub under' : (c + (k + 1)) * 10 ≤ 7 * 2 ^ 72
  pub count : Counted v k

-- ---- arithmetic alone
less_k : (a b c u t k : ℕ) → zero < u * t → u + k ≤ t → a * u * u * t ≤ (c * u * t + (k * t + u + k) * u) * b → a * u ≤ (c + k + 1) * b
less_k a b c u t k z l m = le_of_mul-le-mul_right {k = u * t} (omega (arith, mul-le-mul_right (u * b) l)) z

less_j : (a b c u t k : ℕ) → zero < u * t → u + k ≤ t → c * b * u * t ≤ (a * u * t + (k * t + u + k) * b) * u → c * b ≤ a * u + (k + 1) * b
less_j a b c u t k z l m = le_of_mul-le-mul_right {k = u * t} (omega (arith, mul-le-mul_right (u * b) l)) z

scale_up : (Sn Sd Ln Ld y c u k a : ℕ) → zero < Ld → (Ld * Sn + Sd * Ln) * u ≤ (c + k) * (Ld * Sd) → y * Ld ≤ Ln * (u * a) → Sn * (u * a) + y * Sd ≤ (c + k) * a * Sd
scale_up Sn Sd Ln Ld y c u k a z l m = le_of_mul-le-mul_left {k = Ld} (omega (arith, mul-le-mul_right a l, mul-le-mul_left Sd m)) z

scale_down : (Sn Sd Ln Ld y c u j r a : ℕ) → zero < Ld → c * (Ld * Sd) ≤ (Ld * Sn + Sd * Ln) * u + j * (Ld * Sd) → Ln * (u * a) ≤ (y + r) * Ld
    → c * a * Sd ≤ Sn * (u * a) + (y + (r + j * a)) * Sd
scale_down Sn Sd Ln Ld y c u j r a z l m = le_of_mul-le-mul_left {k = Ld} (omega (arith, mul-le-mul_right a l, mul-le-mul_left Sd m)) z

in_seven : (a b c u s : ℕ) → zero < u → a * u ≤ (c + s) * b → (c + s) * 10 ≤ 7 * u → a * 10 ≤ 7 * b
in_seven a b c u s z l m = le_of_mul-le-mul_right {k = u} (omega (arith, mul-le-mul_right b m)) z

counted' : ((2 * 2 ^ 81) * less * (2 ^ 93 + 1)) * 2 ^ 64 * (2 ^ 62 + 1) * 2 ^ 72 ≤ ((2 * (2 ^ 81 - 1)) * (less - 1) * 2 ^ 93) * 2 ^ 64 * 2 ^ 62 * (2 ^ 72 + 1171)
counted' = lit≤ tt

module _ (za g q c x v k : ℕ) (p : Place za g q c x v k) where
  abbrev A : ℕ
  A = 2 ^ 63

  abbrev b : ℕ
  b = za + A + A

  abbrev w : ℕ
  w = g + q

  abbrev X : ℕ
  X = Xn za b g w

  abbrev D : ℕ
  D = Xd b w

  z_a : zero < A
  z_a = lit< tt

  zw : zero < w
  zw = rw p.whole (lit< tt)

  z_s : zero < Sd b
  z_s = Sd-pos b (omega (arith, z_a))

  z_l : zero < Ld w
  z_l = Ld-pos w zw

  z_d : zero < D
  z_d = mul-pos z_l z_s

  P-up : PP X D * FF (2 ^ 72) * 2 ^ 72 ≤ PP c (2 ^ 72) * FF D * (2 ^ 72 + k)
  P-up =
      close_up za A g q c (2 ^ 72) x p.upto z_a p.small p.pos_q (2 ^ 72 - 1621) (2 ^ 72 + v) (2 ^ 72 - 202) (2 ^ 72) (2 ^ 72) (2 ^ 72 + k) (lit< tt)
      p.q_lo p.x_hi p.count.all

  P-down : PP c (2 ^ 72) * FF D * 2 ^ 72 ≤ PP X D * FF (2 ^ 72) * (2 ^ 72 + 1171)
  P-down =
      close_down za A g q c (2 ^ 72) x p.upto z_a p.small p.pos_q w (2 ^ 62 + 1) (2 ^ 62) (2 ^ 72) (2 ^ 72 + 1171) (lit< tt)
      p.q_hi p.x_lo (rw p.whole counted')

  X-up : X * 2 ^ 72 ≤ (c + (k + 1)) * D
  X-up =
      rw (one c k) at (less_k X D c (2 ^ 72) (2 ^ 93) k (lit< tt) p.count.fit (nearest X D c (2 ^ 72) (2 ^ 72) k z_d (lit< tt) (lit< tt) p.under p.count.rough P-up))
    where
      one : (c k : ℕ) → c + k + 1 ≡ c + (k + 1)
      one c k = omega arith

  X-seven : X * 10 ≤ 7 * D
  X-seven = in_seven X D c (2 ^ 72) (k + 1) (lit< tt) X-up p.under'

  X-down : c * D ≤ X * 2 ^ 72 + (1171 + 1) * D
  X-down = less_j X D c (2 ^ 72) (2 ^ 93) 1171 (lit< tt) (lit≤ tt) (nearest c (2 ^ 72) X D (2 ^ 72) 1171 (lit< tt) z_d (lit< tt) X-seven (lit≤ tt) P-down)

  -- the chain's answer y in units of 1 / (2 ^ 72 a)
  pub near_scaled : (y r a : ℕ) → y * Ld (2 ^ 64) ≤ Ln g (2 ^ 64) * (2 ^ 72 * a) → Ln g (2 ^ 64) * (2 ^ 72 * a) ≤ (y + r) * Ld (2 ^ 64)
      → Scaled c y (k + 1) (r + 1172 * a) a (Sn za (za + 2 ^ 63 + 2 ^ 63)) (Sd (za + 2 ^ 63 + 2 ^ 63))
  near_scaled y r a never nearly =
      record {
        above = scale_up (Sn za b) (Sd b) (Ln g (2 ^ 64)) (Ld (2 ^ 64)) y c (2 ^ 72) (k + 1) a (Ld-pos (2 ^ 64) (lit< tt)) (rw p.whole at X-up) never;
        below = scale_down (Sn za b) (Sd b) (Ln g (2 ^ 64)) (Ld (2 ^ 64)) y c (2 ^ 72) 1172 r a (Ld-pos (2 ^ 64) (lit< tt)) (rw p.whole at X-down) nearly;
      }

  -- the chain's answer l in units of 2 ^ -64
  pub near_place : (l r : ℕ) → l * Ld (2 ^ 64) ≤ Ln g (2 ^ 64) * 2 ^ 64 → Ln g (2 ^ 64) * 2 ^ 64 ≤ (l + r) * Ld (2 ^ 64)
      → Sides c l (k + 1) (256 * r + 1172) (Sn za (za + 2 ^ 63 + 2 ^ 63)) (Sd (za + 2 ^ 63 + 2 ^ 63))
  near_place l r never nearly =
      let S = near_scaled (256 * l) (256 * r) 1 (up l (Ld (2 ^ 64)) (Ln g (2 ^ 64)) never) (down l r (Ld (2 ^ 64)) (Ln g (2 ^ 64)) nearly) in
      record { above = rw (mul-one (c + (k + 1))) at S.above; below = rw (mul-one c) at S.below }
    where
      up : (l d n : ℕ) → l * d ≤ n * 2 ^ 64 → 256 * l * d ≤ n * 2 ^ 72
      up l d n h = omega arith

      down : (l r d n : ℕ) → n * 2 ^ 64 ≤ (l + r) * d → n * 2 ^ 72 ≤ (256 * l + 256 * r) * d
      down l r d n h = omega arith

-- ---- the place of a significand
x_double : (e F P a k : ℕ) → e * F * a ≤ 2 ^ 62 * P * k → 2 * e * F * a ≤ 2 ^ 63 * P * k
x_double e F P a k l = omega (arith, l)

x_under : (e F P : ℕ) → 2 ^ 62 ≤ e → 2 ^ 62 * P ≤ (e + 1) * F → 2 ^ 63 * P * 2 ^ 62 ≤ 2 * e * F * (2 ^ 62 + 1)
x_under e F P l m = omega (arith, l, m, mul-le-mul_right (2 ^ 62) m, mul-le-mul_right F l)

-- Q is M (2 r) / 2 ^ 64, but for j
pub place : (za i Q j v k : ℕ) → za + 2 ^ 63 < 2 ^ 64 → Indexed (za + 2 ^ 63) i → Q * 2 ^ 64 ≤ (za + 2 ^ 63) * (2 * entry (256 - i))
    → (za + 2 ^ 63) * (2 * entry (256 - i)) ≤ (Q + j) * 2 ^ 64
    → 1024000 * j ≤ 2 ^ 64 → 2560 * (512 * j) ≤ 2548 * v → Counted v k → Place za (2 * (2 ^ 63 - Q)) (2 * Q) (i * N) (2 * entry i) v k
place za i Q j v k l I le ge few share count =
    let M = za + 2 ^ 63 in
    let x = entry i in
    let r = entry (256 - i) in
    let R = row i I.last in
    let most : 2 * Q ≤ 2 ^ 64 = q_le M x r Q (2 ^ 61) (2 ^ 64) (lit< tt) refl (le_of_lt I.reaches) le R.pair_hi in
    let big : 2548 * 2 ^ 64 ≤ 2560 * (2 * Q) = q_big M (entry (i - 1)) r Q (2 ^ 61) (2 ^ 64) j (lit< tt) refl I.past ge R.before few in
    let e : 2 * (2 ^ 63 - Q) + 2 * Q ≡ 2 ^ 64 = g_is (2 ^ 63) Q most in
    record {
      whole = e;
      upto = omega (arith, l);
      small = g_small (2 * (2 ^ 63 - Q)) (2 * Q) (2 ^ 64) e big;
      pos_q = q_pos (2 * Q) (2 ^ 64) (lit< tt) big;
      q_lo =
          rw e (q_lo M (2 * x) (2 * Q) (2 ^ 64) (2 ^ 72 - 1621) j v (q_near M x r Q (2 ^ 61) (2 ^ 64) (2 ^ 72 - 1621) j (lit< tt) refl ge R.pair_lo)
          (q_most (2 * Q) (2 ^ 64) j v big share));
      x_hi = x_double x (FF (2 ^ 72)) (PP (i * N) (2 ^ 72)) (2 ^ 72 - 202) (2 ^ 72) R.over;
      q_hi = rw e (q_hi M x r Q (2 ^ 61) (2 ^ 64) (lit< tt) refl le R.pair_hi);
      x_lo = x_under x (FF (2 ^ 72)) (PP (i * N) (2 ^ 72)) R.low R.under;
      under = omega (arith, mul-le-mul_right N I.last);
      under' = omega (arith, count.room, mul-le-mul_right N I.last);
      count = count;
    }

-- ---- the double
counted : Counted 1544 3368
counted = record { all = lit≤ tt; rough = lit≤ tt; fit = lit≤ tt; room = lit≤ tt }

place64 : (za i : ℕ) → za + 2 ^ 63 < 2 ^ 64 → Indexed (za + 2 ^ 63) i
    → Place za (gap64 i (za + 2 ^ 63)) (2 * hi (za + 2 ^ 63) (2 * entry (256 - i))) (i * N) (2 * entry i) 1544 3368
unfolding gap64
place64 za i l I =
    let M = za + 2 ^ 63 in
    let r = entry (256 - i) in
    place za i (hi M (2 * r)) 3 1544 3368 l I (hi_le M (2 * r)) (le_hi M (2 * r)) (lit≤ tt) (lit≤ tt) counted

-- the part below the entry, in units of 2 ^ -64
pub gap_small : (M : ℕ) → 2 ^ 63 ≤ M → M < 2 ^ 64 → gap64 (index_at_def (interval M)) M * 2560 ≤ 12 * 2 ^ 64
gap_small M l k =
    let i = index_at_def (interval M) in
    let e : M - 2 ^ 63 + 2 ^ 63 ≡ M = omega arith in
    let p = place64 (M - 2 ^ 63) i (rw e k) (rw e (indexed M l k)) in
    rw e at (rw p.whole at p.small)

wide : (c l n d : ℕ) → Sides c l (3368 + 1) (256 * 6 + 1172) n d → Sides c l 3369 3369 n d
wide c l n d r = record { above = r.above; below = omega (arith, r.below) }

-- S at z = (M - 2 ^ 63) / (M + 2 ^ 63), for what the core does with M
pub near_at : (M : ℕ) → 2 ^ 63 ≤ M → M < 2 ^ 64
    → Sides (index_at_def (interval M) * N) (low64 (gap64 (index_at_def (interval M)) M)) 3369 3369 (Sn (M - 2 ^ 63) (M + 2 ^ 63)) (Sd (M + 2 ^ 63))
near_at M l k =
    let i = index_at_def (interval M) in
    let e : M - 2 ^ 63 + 2 ^ 63 ≡ M = omega arith in
    let g = gap64 i M in
    let C = chain g (gap_small M l k) in
    let p = place64 (M - 2 ^ 63) i (rw e k) (rw e (indexed M l k)) in
    wide (i * N) (low64 g) (Sn (M - 2 ^ 63) (M + 2 ^ 63)) (Sd (M + 2 ^ 63))
    (rw e at (near_place (M - 2 ^ 63) (gap64 i (M - 2 ^ 63 + 2 ^ 63)) (2 * hi (M - 2 ^ 63 + 2 ^ 63) (2 * entry (256 - i))) (i * N) (2 * entry i) 1544 3368 p
    (low64 g) 6 (rw e C.never) (rw e C.nearly)))
