-- The chain of single pow, in steps, against the polynomial l. Every number of the chain is taken times N. Assumes nothing.
use mathlib.Core.Path.{◌≡◌, refl}
use Prim.Native.Nat.{ℕ, zero, ◌+◌, ◌*◌, ◌/◌, ◌^◌, ◌≤◌, ◌<◌}
use native.Mathlib.Nat.{le_trans, le_refl, mul-le-mul, mul-le-mul_left, mul-le-mul_right, le_of_mul-le-mul_left, div-mul-le_self}
use native.Mathlib.Omega.{arith}
use lib.Dec.{lit<, lit≤}
use Rattle.table.specs.Exact.{N}
use Rattle.table.proofs.Exact.Poly.{h}
use Rattle.kernels.specs.Logarithm.{low22}
use Rattle.laws.proofs.Distances.power.Chain.{Cut, le_cut}
use Rattle.laws.proofs.Distances.logarithm.Low64.{Stage, step, Chain, p2, p3, p4, Ln-is, tail_le}
use Rattle.laws.proofs.Distances.logarithm.Low63.{sq_up, sq_down, upper}

-- the chain's constants
abbrev CA : ℕ
CA = 2 ^ 95 / N

abbrev CW : ℕ
CW = 2 ^ 94 / N

abbrev CG : ℕ
CG = 2 ^ 88 / (3 * N)

-- what the chain lacks, in units of 2 ^ -94
abbrev pub lacks22 : ℕ
lacks22 = 15252563173476262638

-- ---- arithmetic alone
base_up : (c U W y : ℕ) → c * 420 ≤ U * 140 → c * 420 * W ≤ U * (140 * W + y)
base_up c U W y l = omega (arith, mul-le-mul_right W l)

times : (x v d n : ℕ) → zero < d → Cut x (v * n) d (x * v / d * n) n
times x v d n z = record { under = omega (arith, mul-le-mul_right n (div-mul-le_self (x * v) d)); over = omega (arith, mul-le-mul_right n (le_cut (x * v) d z)) }

join : (a b v : ℕ) → (a + b) * v ≡ a * v + b * v
join a b v = omega arith

most : (A B H D e Hm Em R v : ℕ) → H ≤ Hm → e ≤ Em → A * B * v + A * Hm + (2 * Em + 1) * (Hm + D) + D * (Em * Em) ≤ R * (A * B)
    → A * B * v + A * H + (2 * e + 1) * (H + D) + D * (e * e) ≤ R * (A * B)
most A B H D e Hm Em R v l m t =
    le_trans (omega (arith, mul-le-mul_left A l, mul-le-mul (twice e Em m) (add H Hm D l), mul-le-mul_left D (mul-le-mul m m))) t
  where
    twice : (e Em : ℕ) → e ≤ Em → 2 * e + 1 ≤ 2 * Em + 1
    twice e Em m = omega arith

    add : (H Hm D : ℕ) → H ≤ Hm → H + D ≤ Hm + D
    add H Hm D l = omega arith

fin_up : (ca e b v g w W y U E Z t c : ℕ) → ca * v ≤ U → e * w ≤ g * E → U * E ≡ Z * c → b * v * 420 * (w * W) ≤ Z * c * (g * (g * y)) → t * c ≤ ca * e + b → zero < c
    → t * v * (420 * (w * W)) ≤ (0 * (w * W) + g * (420 * W + g * y)) * Z
fin_up ca e b v g w W y U E Z t c p q r s l z =
    le_of_mul-le-mul_left {k = c} (le_trans {m = (ca * e + b) * (v * (420 * (w * W)))} (omega (arith, mul-le-mul_right (v * (420 * (w * W))) l))
    (le_trans {m = U * E * (g * (420 * W)) + Z * c * (g * (g * y))} (omega (arith, s, mul-le-mul_right (420 * W) (mul-le-mul p q))) s3)) z
  where
    s3 : U * E * (g * (420 * W)) + Z * c * (g * (g * y)) ≤ c * ((0 * (w * W) + g * (420 * W + g * y)) * Z)
    s3 = rw r (omega arith)

fin_down : (ca e b v g w W y U E Z t c R D Em : ℕ) → U ≤ (ca + 1) * v → g * E ≤ (e + 1) * w → U * E ≡ Z * c → Z * c * (g * (g * y)) ≤ (b * v + R) * 420 * (w * W)
    → ca * e + b ≤ (t + 1) * c
    → zero < c → e ≤ Em → R + v * Em + U + v * c ≤ D * c → (0 * (w * W) + g * (420 * W + g * y)) * Z ≤ (t * v + D) * (420 * (w * W))
fin_down ca e b v g w W y U E Z t c R D Em p q r s l z m test =
    le_of_mul-le-mul_left {k = c} (le_trans {m = U * E * (g * (420 * W)) + Z * c * (g * (g * y))} s1
    (le_trans {m = (U * (e + 1) + b * v + R) * (420 * (w * W))} s2 (omega (arith, mul-le-mul_right (420 * (w * W)) s0)))) z
  where
    s1 : c * ((0 * (w * W) + g * (420 * W + g * y)) * Z) ≤ U * E * (g * (420 * W)) + Z * c * (g * (g * y))
    s1 = rw r (omega arith)

    s2 : U * E * (g * (420 * W)) + Z * c * (g * (g * y)) ≤ (U * (e + 1) + b * v + R) * (420 * (w * W))
    s2 = omega (arith, s, mul-le-mul_left (U * (420 * W)) q)

    s0 : U * (e + 1) + b * v + R ≤ c * (t * v + D)
    s0 = omega (arith, mul-le-mul_right e p, mul-le-mul_right v l, mul-le-mul_left v m, test)

-- what the steps lack
abbrev D3 : ℕ
D3 = 364048760725494607287322

abbrev D2 : ℕ
D2 = 218454853105688552240160

abbrev D0 : ℕ
D0 = 2639111383161959756134250086188

last : (g : ℕ) → 2 * g * 2560 ≤ 12 * 2 ^ 64 → Stage 4 p3 (2 * g) (CG * N) D3 (2 ^ 88) (CG * N)
unfolding h
last g m = record {
  never = base_up (CG * N) (2 ^ 88) ((2 ^ 64) ^ 4) (2 * g * h 3 p4 (2 * g) (2 ^ 64)) (lit≤ tt);
  nearly = tail_le 4 p3 (2 * g) (2 ^ 88) ((CG * N + D3) * 420) m (lit≤ tt);
  most = le_refl (CG * N);
}

pub chain : (g : ℕ) → 2 * g * 2560 ≤ 12 * 2 ^ 64 → Chain (2 * g) (low22 g * N) lacks22 (2 ^ 94)
unfolding low22
chain g m =
    let w = 2 ^ 64 in
    let e = g / 2 ^ 24 in
    let q = e * CG / 2 ^ 32 in
    let H = CW + q in
    let a = e * e / 2 ^ 31 in
    let b = a * H / 2 ^ 8 in
    let t = (CA * e + b) / 2 ^ 40 in
    let y = h 5 p2 (2 * g) w in
    let A = upper g m in
    let B = times a H (2 ^ 8) N (lit< tt) in
    let s2 : Stage 5 p2 (2 * g) (H * N) D2 (2 ^ 95) (2 ^ 94 + 2 ^ 87) =
    rw (join CW q N)
    (step (CW * N) (2 ^ 95) 210 N D2 (2 ^ 94 + 2 ^ 87) (times e CG (2 ^ 32) N (lit< tt)) A (last g m) (lit< tt) refl (lit≤ tt) (lit≤ tt) (lit≤ tt) (lit≤ tt)) in
    let u = sq_up e a (b * N) (H * N) (2 ^ 31) (2 ^ 8) (2 ^ 39) (2 ^ 95) (2 ^ 134) (w ^ 5) w y (2 * g) (lit< tt) (div-mul-le_self (e * e) (2 ^ 31)) B.under
    A.under s2.never refl in
    let d = sq_down e a (b * N) (H * N) (2 ^ 31) (2 ^ 8) (2 ^ 39) (2 ^ 95) (2 ^ 134) (w ^ 5) w y (2 * g) D2 D0 N (lit< tt) (le_cut (e * e) (2 ^ 31) (lit< tt))
    B.over A.over s2.nearly refl (most (2 ^ 31) (2 ^ 8) (H * N) D2 e (2 ^ 94 + 2 ^ 87) 2576980377 D0 N s2.most A.most (lit≤ tt)) in
    record {
      never =
          rw (Ln-is (2 * g) w) (fin_up CA e b N (2 * g) w (w ^ 6) y (2 ^ 95) (2 ^ 39) (2 ^ 94) t (2 ^ 40) (lit≤ tt) A.under refl u
          (div-mul-le_self (CA * e + b) (2 ^ 40)) (lit< tt));
      nearly =
          rw (Ln-is (2 * g) w) (fin_down CA e b N (2 * g) w (w ^ 6) y (2 ^ 95) (2 ^ 39) (2 ^ 94) t (2 ^ 40) D0 lacks22 2576980377 (lit≤ tt) A.over refl d
          (le_cut (CA * e + b) (2 ^ 40) (lit< tt)) (lit< tt) A.most (lit≤ tt));
    }
