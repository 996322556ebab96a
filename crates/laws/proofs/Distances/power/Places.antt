-- E's argument, counted from -2048 ln 2: it is K ln 2 + r, and E is 2 ^ (K - 2048) P(r). Assumes nothing.
use mathlib.Core.Path.{◌≡◌, ◌∙◌, sym, ap}
use mathlib.Core.Bool.{Bool, true, false, cond}
use Prim.Native.Nat.{ℕ, zero, ◌+◌, ◌-◌, ◌*◌, ◌/◌, ◌%◌, ◌^◌, ◌≤◌, ◌<◌}
use native.Mathlib.Nat.{mul_left_comm, mul-lt-mul_of_pos_left, le_of_mul-le-mul_right, lt_of_mul-lt-mul_right, mul-pos, div-add-mod', mod-lt, div-mul-le_self, lt-div-mul-add}
use native.Mathlib.Omega.{arith}
use lib.Dec.{lit<}
use lib.Pow.{pow-add}
use Rattle.table.specs.Exact.{Frac, N, P, E}
use Rattle.table.proofs.Exact.Laws.{pow-mul}
use Rattle.table.proofs.Exact.Floor.{E-up, E-down}
use Rattle.table.proofs.Exact.Frac.{h_homog}
use Rattle.table.proofs.Exact.Chain.{ac}
use Rattle.table.proofs.Exact.Terms.{pcoef, f23}
use Rattle.table.proofs.Exact.Taylor.{P-num, P-den}
use Rattle.laws.proofs.Distances.power.Steps.{unit, span, value, denom}

-- the kernel's units to a step
abbrev pub W : ℕ
W = 2 ^ 44

-- the argument A is K ln 2 + r, and num / den is 2 ^ (K - 2048) P(r)
pub record Placed (b A : ℕ) (q : Frac) : Type 0 where
  pub K : ℕ
  pub r : ℕ
  pub sum : A ≡ K * span b + r
  pub small : r < span b
  pub same : 2 ^ K * value b r * q.den ≡ q.num * 2 ^ 2048 * denom b

-- ±a / b, counted from -2048 ln 2, in units of 2 ^ -116
abbrev pub place : Bool → ℕ → ℕ → ℕ
place neg a b = cond neg (2 ^ 63 * N * b - 2 ^ 116 * a) (2 ^ 63 * N * b + 2 ^ 116 * a)

-- P(y / (b 2 ^ 64)), in these units
module _ (b y : ℕ) where
  unit_is : unit (b * W) ≡ 2 ^ 52 * (b * 2 ^ 64)
  unit_is = omega arith

  value_at : value (b * W) (2 ^ 52 * y) ≡ (2 ^ 52) ^ 23 * (P y (b * 2 ^ 64)).num
  value_at = rw (P-num y (b * 2 ^ 64), unit_is) (h_homog 23 pcoef (2 ^ 52) y (b * 2 ^ 64))

  denom_at : denom (b * W) ≡ (2 ^ 52) ^ 23 * (P y (b * 2 ^ 64)).den
  denom_at = rw (P-den y (b * 2 ^ 64), unit_is, pow-mul (2 ^ 52) (b * 2 ^ 64) 23) (mul_left_comm f23 ((2 ^ 52) ^ 23) ((b * 2 ^ 64) ^ 23))

-- ---- arithmetic alone, n for N, w for 2 ^ 64, c for 2 ^ 44
sum_down : (a b n w c k j y : ℕ) → y + a * w ≡ k * (b * n) → j + k ≡ 2048 → 2048 * (256 * c) * n * b - 256 * c * w * a ≡ j * (b * c * (256 * n)) + 256 * c * y
sum_down a b n w c k j y e f = omega (arith, ap (λ (x : ℕ). c * x) e, ap (λ (x : ℕ). x * (c * b * n)) f)

small_at : (y b n c : ℕ) → zero < c → y < b * n → 256 * c * y < b * c * (256 * n)
small_at y b n c z l = omega (arith, mul-lt-mul_of_pos_left {k = 256 * c} l (mul-pos {m = 256} (lit< tt) z))

placed_up : (a b : ℕ) → zero < b → Placed (b * W) (place false a b) (E false a b)
placed_up a b z =
    let k : ℕ = a * 2 ^ 64 / (b * N) in
    let y : ℕ = a * 2 ^ 64 % (b * N) in
    let is : k * (b * N) + y ≡ a * 2 ^ 64 = div-add-mod' (a * 2 ^ 64) (b * N) in
    let small : y < b * N = mod-lt (a * 2 ^ 64) (mul-pos z (lit< tt)) in
    record {
      K = 2048 + k;
      r = 2 ^ 52 * y;
      sum = omega (arith, is, ap (λ (x : ℕ). W * x) is);
      small = small_at y b N W (lit< tt) small;
      same =
          rw (E-up a b k y is small, value_at b y, denom_at b y, pow-add 2 2048 k)
          (simp ac);
    }

-- -a / b is not below -2048 ln 2, so that k is no more than 2048
low_enough : (a b n w c k y : ℕ) → zero < b * n → zero < c → y + a * w ≡ k * (b * n) → y < b * n → 256 * c * w * a ≤ 2048 * (256 * c) * n * b → 2048 - k + k ≡ 2048
low_enough a b n w c k y z v e l h = omega (arith, lt_of_mul-lt-mul_right (b * n) {m = k} {n = 2049} (omega (arith, within (a * w) (2048 * (b * n)) c v (omega arith))))
  where
    within : (x y c : ℕ) → zero < c → 256 * c * x ≤ 256 * c * y → x ≤ y
    within x y c v h = le_of_mul-le-mul_right {k = 256 * c} (omega arith) (mul-pos {m = 256} (lit< tt) v)

placed_down : (a b : ℕ) → zero < b → 2 ^ 116 * a ≤ 2 ^ 63 * N * b → Placed (b * W) (place true a b) (E true a b)
placed_down a b z l =
    let k : ℕ = (a * 2 ^ 64 + (b * N - 1)) / (b * N) in
    let y : ℕ = k * (b * N) - a * 2 ^ 64 in
    let zm : zero < b * N = mul-pos z (lit< tt) in
    let ends : (y + a * 2 ^ 64 ≡ k * (b * N)) × (y < b * N) = omega (arith, zm, div-mul-le_self ((a * 2 ^ 64) + ((b * N) - 1)) (b * N), lt-div-mul-add {a = (a * 2 ^ 64) + ((b * N) - 1)} zm) in
    let jk : 2048 - k + k ≡ 2048 = low_enough a b N (2 ^ 64) W k y zm (lit< tt) ends.0 ends.1 l in
    record {
      K = 2048 - k;
      r = 2 ^ 52 * y;
      sum = sum_down a b N (2 ^ 64) W k (2048 - k) y ends.0 jk;
      small = small_at y b N W (lit< tt) ends.1;
      same =
          rw (E-down a b k y ends.0 ends.1, value_at b y, denom_at b y)
          (rw (← (sym (pow-add 2 (2048 - k) k) ∙ ap (λ (n : ℕ). 2 ^ n) jk)) (simp ac));
    }

pub placed : (neg : Bool) (a b : ℕ) → zero < b → 2 ^ 116 * a ≤ 2 ^ 63 * N * b → Placed (b * W) (place neg a b) (E neg a b)
placed false a b z l = placed_up a b z
placed true a b z l = placed_down a b z l
