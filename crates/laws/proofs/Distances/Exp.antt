-- exp within 2 ^ -23 (single) and 2 ^ -50 (double) of E. Assumes nothing.
use mathlib.Core.Path.{◌≡◌, refl, sym, ap, subst}
use mathlib.Core.Bool.{Bool, true, false}
use Prim.Native.Nat.{ℕ, zero, ◌+◌, ◌-◌, ◌*◌, ◌/◌, ◌^◌, ◌≤◌, ◌<◌}
use native.Mathlib.Nat.{le_trans, le_of_lt, mul-le-mul_left, mul-le-mul_right, le_of_mul-le-mul_right, lt_of_mul-lt-mul_right, mul-lt-mul_of_pos_left, div-mul-le_self, lt-div-mul-add}
use native.Mathlib.Omega.{arith}
use lib.Dec.{lit<, lit≤}
use lib.Ieee.{Float, Format, binary32, binary64, emax, up, down}
use lib.Ieee.Fits.{down_pos}
use Rattle.table.specs.Exact.{Frac, N, E}
use Rattle.kernels.specs.Power.{hi}
use Rattle.kernels.specs.Kernels.{turns, exp_def}
use Rattle.kernels.proofs.Definitions.Hi.{hi_le, hi_ge}
use Rattle.kernels.proofs.Definitions.Natural.{lift, biased, whole, power_n, power_is}
use Rattle.laws.specs.Distances.{Near, power_bits, reach, ExpNear}
use Rattle.laws.proofs.Distances.power.Table.{top}
use Rattle.laws.proofs.Distances.power.Near.{grain, slack, most, M, M-low, M-high, power_near}
use Rattle.laws.proofs.Distances.Finish.{finish_near}

-- ---- the argument: how far it may lie below, in units of 2 ^ -116
abbrev off : Format → ℕ
off binary32 = N + 86 * 2 ^ 13 * N
off binary64 = 3 * N + N / 2 + 2 ^ 63

-- n for N, x for 2 ^ 116, p for 2 ^ 53, c for 2 ^ 127, w for 2 ^ 64
double_hi : (s b v z k n p c w x : ℕ) → zero < w → z * w ≤ v * k → v * b ≤ s * p → k * n ≤ c → c * p ≡ x * w → z * (n * b) ≤ x * s
double_hi s b v z k n p c w x y hz hv hk e =
    le_of_mul-le-mul_right {k = w}
    (omega (arith, mul-le-mul_right (n * b) hz, mul-le-mul_left (v * b) hk, mul-le-mul_right c hv, ap (λ (m : ℕ). s * m) e)) y

double_lo : (s b v z k n p c w x g h : ℕ) → zero < w → v * k ≤ (z + 3) * w → s * p ≤ (v + 1) * b → c ≤ (k + 1) * n → c * p ≡ x * w → v * n ≤ h * w → c ≤ g * w
    → x * s ≤ z * (n * b) + (3 * n + h + g) * b
double_lo s b v z k n p c w x g h y hz hv hk e hn hc = le_of_mul-le-mul_right {k = w} (two s b v z n p c w x g h hv e (omega (arith, hz, hk, hn, hc, mul-le-mul_left v hk, mul-le-mul_left n hz))) y
  where
    two : (s b v z n p c w x g h : ℕ) → s * p ≤ (v + 1) * b → c * p ≡ x * w → (v + 1) * c ≤ (z * n + (3 * n + h + g)) * w
        → x * s * w ≤ (z * (n * b) + (3 * n + h + g) * b) * w
    two s b v z n p c w x g h hv e l = omega (arith, mul-le-mul_right c hv, mul-le-mul_left b l, ap (λ (m : ℕ). s * m) e)

single_hi : (s b z k n x : ℕ) → z * b ≤ s * k → k * n ≤ x → z * (n * b) ≤ x * s
single_hi s b z k n x hz hk = omega (arith, mul-le-mul_right n hz, mul-le-mul_left s hk)

single_lo : (s b z k n x c r : ℕ) → s * k ≤ (z + 1) * b → x ≤ (k + c) * n → s ≤ r * b → x * s ≤ z * (n * b) + (n + r * c * n) * b
single_lo s b z k n x c r hz hk hs = omega (arith, mul-le-mul_right n hz, mul-le-mul_left s hk, mul-le-mul_right (c * n) hs)

next : (n d : ℕ) → zero < d → n ≤ (n / d + 1) * d
next n d z = omega (arith, lt-div-mul-add {a = n} z)

below : (s b p r : ℕ) → zero < b → s ≤ r * b → s * p / b ≤ r * p
below s b p r z l = le_of_mul-le-mul_right {k = b} (omega (arith, div-mul-le_self (s * p) b, mul-le-mul_right p l)) z

pub turns_hi : (f : Format) (s b : ℕ) → turns f s b * (N * b) ≤ 2 ^ 116 * s
unfolding turns
turns_hi binary32 s b = single_hi s b (s * (2 ^ 103 / N * 2 ^ 13) / b) (2 ^ 103 / N * 2 ^ 13) N (2 ^ 116) (div-mul-le_self (s * (2 ^ 103 / N * 2 ^ 13)) b) (lit≤ tt)
turns_hi binary64 s b =
    double_hi s b (s * 2 ^ 53 / b) (hi (s * 2 ^ 53 / b) (2 ^ 127 / N)) (2 ^ 127 / N) N (2 ^ 53) (2 ^ 127) (2 ^ 64) (2 ^ 116) (lit< tt)
    (hi_le (s * 2 ^ 53 / b) (2 ^ 127 / N)) (div-mul-le_self (s * 2 ^ 53) b) (lit≤ tt) refl

turns_lo : (f : Format) (s b : ℕ) → zero < b → s ≤ reach f * b → 2 ^ 116 * s ≤ turns f s b * (N * b) + off f * b
unfolding turns
turns_lo binary32 s b z l =
    single_lo s b (s * (2 ^ 103 / N * 2 ^ 13) / b) (2 ^ 103 / N * 2 ^ 13) N (2 ^ 116) (2 ^ 13) 86 (next (s * (2 ^ 103 / N * 2 ^ 13)) b z) (lit≤ tt) l
turns_lo binary64 s b z l =
    double_lo s b (s * 2 ^ 53 / b) (hi (s * 2 ^ 53 / b) (2 ^ 127 / N)) (2 ^ 127 / N) N (2 ^ 53) (2 ^ 127) (2 ^ 64) (2 ^ 116) (2 ^ 63) (N / 2) (lit< tt)
    (le_of_lt (hi_ge (s * 2 ^ 53 / b) (2 ^ 127 / N))) (next (s * 2 ^ 53) b z) (lit≤ tt) refl
    (le_trans (mul-le-mul_right N (below s b (2 ^ 53) 700 z l)) (lit≤ tt)) (lit≤ tt)

-- ---- the exponent is in the normal range
abbrev pub far : Format → ℕ
far binary32 = 125
far binary64 = 1011

within : (f : Format) → (off f * grain f ≤ slack f * 2 ^ 116) × (reach f * 2 ^ 116 < far f * 2 ^ 52 * N)
within binary32 = (lit≤ tt, lit< tt)
within binary64 = (lit≤ tt, lit< tt)

turns_lt : (f : Format) (s b : ℕ) → zero < b → s ≤ reach f * b → turns f s b < far f * 2 ^ 52
turns_lt f s b z l = go (turns f s b) (far f * 2 ^ 52) N b s (reach f) (2 ^ 116) z (turns_hi f s b) l (within f).1
  where
    go : (t g n b s r x : ℕ) → zero < b → t * (n * b) ≤ x * s → s ≤ r * b → r * x < g * n → t < g
    go t g n b s r x z h l m = lt_of_mul-lt-mul_right (n * b) (omega (arith, mul-le-mul_left x l, mul-lt-mul_of_pos_left {k = b} m z))

exponent_in : (f : Format) (neg : Bool) (z : ℕ) → z < far f * 2 ^ 52 → (2049 ≤ whole (biased neg z) + emax f) × (whole (biased neg z) < 2048 + emax f)
exponent_in binary32 true z h = (omega arith, omega arith)
exponent_in binary32 false z h = (omega arith, omega arith)
exponent_in binary64 true z h = (omega arith, omega arith)
exponent_in binary64 false z h = (omega arith, omega arith)

far_fits : (f : Format) (z : ℕ) → z < far f * 2 ^ 52 → z ≤ 2 ^ 62
far_fits binary32 z h = omega arith
far_fits binary64 z h = omega arith

-- ---- the significand at its full length
top_is : (f : Format) → top f * 2 ^ 2048 * lift f ≡ 2 ^ 2110
top_is binary32 = refl
top_is binary64 = refl

longer : (m e d g n t h l u : ℕ) → t * l ≡ u → m * e * d * g ≤ n * t * h → m * l * e * d * g ≤ n * u * h
longer m e d g n t h l u q k = rw (← q) (omega (arith, mul-le-mul_right l k))

longer' : (m e d g n t h l u : ℕ) → t * l ≡ u → n * t * h ≤ m * e * d * g → n * u * h ≤ m * l * e * d * g
longer' m e d g n t h l u q k = rw (← q) (omega (arith, mul-le-mul_right l k))

-- ---- the power of z, where ±a / b lies near
pub power_is_near : (f : Format) (neg : Bool) (a b z o : ℕ) → zero < b → z < far f * 2 ^ 52 → 2 ^ 116 * a ≤ z * (N * b) + o * b
    → z * (N * b) ≤ 2 ^ 116 * a + o * b → o * grain f ≤ slack f * 2 ^ 116 → Near (power_bits f) (power_n f neg z) (E neg a b)
unfolding power_n
power_is_near f neg a b z o zb zl lo hi fits =
    let Y : ℕ = biased neg z in
    let q : Frac = E neg a b in
    let c = power_near f neg a b z (o * b) zb (far_fits f z zl) lo hi (omega (arith, fits, mul-le-mul_right b fits)) in
    let e = exponent_in f neg z zl in
    finish_near f (whole Y) (M f Y * lift f) (M-low f Y) (M-high f Y) e.0 e.1 q (
      longer (M f Y) (2 ^ whole Y) q.den (grain f) q.num (top f * 2 ^ 2048) (grain f + most f) (lift f) (2 ^ 2110) (top_is f) c.0,
      longer' (M f Y) (2 ^ whole Y) q.den (grain f) q.num (top f * 2 ^ 2048) (grain f - most f) (lift f) (2 ^ 2110) (top_is f) c.1,
    )

-- ---- exp
turned : (f : Format) (s : Bool) (a b : ℕ) → zero < b → a ≤ reach f * b → Near (power_bits f) (power_n f s (turns f a b)) (E s a b)
turned f s a b z l =
    power_is_near f s a b (turns f a b) (off f) z (turns_lt f a b z l) (turns_lo f a b z l)
    (omega (arith, turns_hi f a b)) (within f).0

pub exp_near : (f : Format) → ExpNear f
unfolding exp_def
exp_near f s m e k l =
    let a : ℕ = m * up e in
    let b : ℕ = down e in
    subst (λ (y : Float). Near (power_bits f) y (E s a b)) (sym (power_is f s (turns f a b))) (turned f s a b (down_pos e) l)
