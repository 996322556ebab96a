-- The chain of single ln against the polynomial l: never above it, and below by 2 ^ -48, and a small part of g. Assumes nothing.
use mathlib.Core.Path.{◌≡◌, refl, ap, subst}
use Prim.Native.Nat.{ℕ, zero, ◌+◌, ◌*◌, ◌/◌, ◌^◌, ◌≤◌, ◌<◌}
use native.Mathlib.Nat.{le_trans, le_refl, mul-le-mul, mul-le-mul_left, mul-le-mul_right, le_of_mul-le-mul_left, div-mul-le_self}
use native.Mathlib.Omega.{arith}
use lib.Dec.{lit<, lit≤}
use Rattle.table.proofs.Exact.Poly.{h}
use Rattle.kernels.specs.Logarithm.{low63}
use Rattle.laws.proofs.Distances.power.Chain.{Cut, le_cut, quotient}
use Rattle.laws.proofs.Distances.logarithm.Low64.{Arg, Stage, step, Chain, p2, p4, p5, Ln-is, tail_le}

-- ---- arithmetic alone: a = e e / A, b = a H / B, both cut; e in units of E, H in units of U, the answer b in units of Z
pub sq_up : (e a b H A B E U Z W w y g : ℕ) → zero < A * B → a * A ≤ e * e → b * B ≤ a * H → e * w ≤ g * E → H * 420 * W ≤ U * y → E * E * U ≡ A * B * Z
    → b * 420 * (w * (w * W)) ≤ Z * (g * (g * y))
sq_up e a b H A B E U Z W w y g z p q r s t =
    le_of_mul-le-mul_left {k = A * B} (le_trans (omega (arith, mul-le-mul_right (420 * (w * (w * W))) s0))
    (subst (λ (x : ℕ). (e * w) * (e * w) * (H * 420 * W) ≤ x) (omega (arith, ap (λ (x : ℕ). x * (g * (g * y))) t))
    (mul-le-mul (mul-le-mul r r) s))) z
  where
    s0 : A * B * b ≤ e * e * H
    s0 = omega (arith, mul-le-mul_left A q, mul-le-mul_right H p)

-- D is what H lacks, j bounds b's cut, R is what b lacks
pub sq_down : (e a b H A B E U Z W w y g D R j : ℕ) → zero < A * B → e * e ≤ (a + 1) * A → a * H ≤ (b + j) * B → g * E ≤ (e + 1) * w → U * y ≤ (H + D) * 420 * W
    → E * E * U ≡ A * B * Z
    → A * B * j + A * H + (2 * e + 1) * (H + D) + D * (e * e) ≤ R * (A * B) → Z * (g * (g * y)) ≤ (b + R) * 420 * (w * (w * W))
sq_down e a b H A B E U Z W w y g D R j z p q r s t test =
    le_of_mul-le-mul_left {k = A * B} (le_trans (subst (λ (x : ℕ). x ≤ ((e + 1) * w) * ((e + 1) * w) * ((H + D) * 420 * W)) s3
    (mul-le-mul (mul-le-mul r r) s)) (omega (arith, mul-le-mul_right (420 * (w * (w * W))) s0))) z
  where
    s3 : (g * E) * (g * E) * (U * y) ≡ A * B * (Z * (g * (g * y)))
    s3 = omega (arith, ap (λ (x : ℕ). x * (g * (g * y))) t)

    s0 : (e + 1) * (e + 1) * (H + D) ≤ (b + R) * (A * B)
    s0 = omega (arith, mul-le-mul_right H p, mul-le-mul_left A q, test)

pub upper : (g : ℕ) → 2 * g * 2560 ≤ 12 * 2 ^ 64 → Arg (2 * g) (g / 2 ^ 24) (2 ^ 39) 1 2576980377
upper g m =
    record { under = omega (arith, div-mul-le_self g (2 ^ 24)); over = omega (arith, le_cut g (2 ^ 24) (lit< tt)); most = omega (arith, div-mul-le_self g (2 ^ 24)) }

-- what the chain lacks, in units of 2 ^ -63: 2 ^ -48, and about 2 ^ -33 of g
abbrev pub lacks : ℕ → ℕ
lacks g = 2 ^ 15 + 132 + g / 2 ^ 24 / 512

base_up : (W y : ℕ) → 2 ^ 29 * 420 * W ≤ 2 ^ 31 * (105 * W + y)
base_up W y = omega arith

last : (g : ℕ) → 2 * g * 2560 ≤ 12 * 2 ^ 64 → Stage 3 p4 (2 * g) (2 ^ 29) 2021162 (2 ^ 31) (2 ^ 29)
unfolding h
last g m = record {
  never = base_up ((2 ^ 64) ^ 3) (2 * g * h 2 p5 (2 * g) (2 ^ 64));
  nearly = tail_le 3 p4 (2 * g) (2 ^ 31) ((2 ^ 29 + 2021162) * 420) m (lit≤ tt);
  most = le_refl (2 ^ 29);
}

tenth : (e : ℕ) → Cut e (2 ^ 29) (2 ^ 39) (e / 2 ^ 10) 1
tenth e = record { under = omega (arith, div-mul-le_self e (2 ^ 10)); over = omega (arith, le_cut e (2 ^ 10) (lit< tt)) }

-- the square's last test
room : (e H : ℕ) → e ≤ 2576980377 → H ≤ 2 ^ 30 + 2 ^ 22 → 2 ^ 31 * 2 ^ 15 * 1 + 2 ^ 31 * H + (2 * e + 1) * (H + 46) + 46 * (e * e) ≤ (2 ^ 15 + 132 + e / 512) * (2 ^ 31 * 2 ^ 15)
room e H l m = omega (arith, mul-le-mul_left e l, mul-le-mul_left e m, le_cut e 512 (lit< tt))

turn : (g w W y Z : ℕ) → w ≡ 2 * Z → 2 * g * (420 * (w * W)) + 2 * (Z * (2 * g * (2 * g * y))) ≡ (0 * (w * W) + 2 * g * (420 * W + 2 * g * y)) * w
turn g w W y Z e = rw e (omega arith)

fin_l : (g b w W y Z : ℕ) → w ≡ 2 * Z → b * 420 * (w * W) ≤ Z * (2 * g * (2 * g * y)) → 2 * (g + b) * (420 * (w * W)) ≤ (0 * (w * W) + 2 * g * (420 * W + 2 * g * y)) * w
fin_l g b w W y Z e l = rw (← turn g w W y Z e) (omega (arith, l))

fin_r : (g b w W y Z R : ℕ) → w ≡ 2 * Z → Z * (2 * g * (2 * g * y)) ≤ (b + R) * 420 * (w * W)
    → (0 * (w * W) + 2 * g * (420 * W + 2 * g * y)) * w ≤ (2 * (g + b) + 2 * R) * (420 * (w * W))
fin_r g b w W y Z R e l = rw (← turn g w W y Z e) (omega (arith, l))

pub chain : (g : ℕ) → 2 * g * 2560 ≤ 12 * 2 ^ 64 → Chain (2 * g) (2 * low63 g) (2 * lacks g) (2 ^ 64)
unfolding low63
chain g m =
    let w = 2 ^ 64 in
    let e = g / 2 ^ 24 in
    let H3 = 2 ^ 31 / 3 + e / 2 ^ 10 in
    let H2 = 2 ^ 30 + e * H3 / 2 ^ 39 in
    let a = e * e / 2 ^ 31 in
    let b = a * H2 / 2 ^ 15 in
    let y = h 5 p2 (2 * g) w in
    let A = upper g m in
    let s3 = step (2 ^ 31 / 3) (2 ^ 31) 140 1 9477 718344466 (tenth e) A (last g m) (lit< tt) refl (lit≤ tt) (lit≤ tt) (lit≤ tt) (lit≤ tt) in
    let s2 = step (2 ^ 30) (2 ^ 31) 210 0 46 (2 ^ 30 + 2 ^ 22) (quotient e H3 (2 ^ 39) (lit< tt)) A s3 (lit< tt) refl (lit≤ tt) (lit≤ tt) (lit≤ tt) (lit≤ tt) in
    let u = sq_up e a b H2 (2 ^ 31) (2 ^ 15) (2 ^ 39) (2 ^ 31) (2 ^ 63) (w ^ 5) w y (2 * g) (lit< tt) (div-mul-le_self (e * e) (2 ^ 31))
    (div-mul-le_self (a * H2) (2 ^ 15)) A.under s2.never refl in
    let d = sq_down e a b H2 (2 ^ 31) (2 ^ 15) (2 ^ 39) (2 ^ 31) (2 ^ 63) (w ^ 5) w y (2 * g) 46 (lacks g) 1 (lit< tt)
    (le_cut (e * e) (2 ^ 31) (lit< tt)) (le_cut (a * H2) (2 ^ 15) (lit< tt)) A.over s2.nearly refl (room e H2 A.most s2.most) in
    record { never = rw (Ln-is (2 * g) w) (fin_l g b w (w ^ 6) y (2 ^ 63) refl u); nearly = rw (Ln-is (2 * g) w) (fin_r g b w (w ^ 6) y (2 ^ 63) (lacks g) refl d) }
