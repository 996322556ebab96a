-- The significand against P(r), r = (i + f / 2 ^ 44) steps: at most 2 ^ -93 above, relative 79 / 2 ^ 62 (double) or 10 / 2 ^ 31 (single) below. Assumes nothing.
use mathlib.Core.Path.{◌≡◌}
use Prim.Native.Nat.{ℕ, zero, ◌+◌, ◌*◌, ◌/◌, ◌^◌, ◌≤◌, ◌<◌}
use native.Mathlib.Nat.{le_trans, le_of_lt, le-add_right, mul-le-mul, mul-le-mul_left, mul-le-mul_right, le_of_mul-le-mul_right, lt_of_mul-lt-mul_right, mul-lt-mul_of_pos_left, mul-pos, div-mul-le_self, lt-div-mul-add}
use native.Mathlib.Omega.{arith}
use lib.Dec.{lit<}
use lib.Ieee.{Format, binary32, binary64}
use lib.Pow.{pow-add}
use Rattle.table.specs.Exact.{N, P}
use Rattle.table.proofs.Exact.Terms.{f23}
use Rattle.table.proofs.Exact.Taylor.{P-num, P-den}
use Rattle.table.proofs.Exact.Sums.{sum-le, prod_le}
use Rattle.table.specs.Entry.{entry}
use Rattle.laws.proofs.Distances.power.Steps.{unit, value, denom}
use Rattle.laws.proofs.Distances.power.Places.{W}
use Rattle.kernels.specs.Power.{hi, part, significand}
use Rattle.kernels.proofs.Definitions.Hi.{hi_le, hi_ge}
use Rattle.laws.proofs.Distances.power.Polynomial.{scale_of, tail, poly_le, le_poly}
use Rattle.laws.proofs.Distances.power.Part.{lost, part_chain, part_small}
use Rattle.laws.proofs.Distances.power.Table.{top, start, start_le, le_start, start_low, denom_pos, below_two}

-- what the significand can lack, in units of 1 / top of itself
abbrev pub lack : Format → ℕ
lack binary32 = 10
lack binary64 = 79

-- ---- arithmetic alone: D the common denominator, A the significand's unit, E the part's, e of them lost, t = 2 ^ 93
glue_up : (D Qi Qs Qr x d M A E t : ℕ) → zero < D → zero < E → x * D ≤ A * Qi → (E + d) * D ≤ E * Qs → Qi * Qs * t ≤ Qr * D * t + D * D
    → M * E ≤ x * (E + d) → M * D * t ≤ A * (Qr * t + D)
glue_up D Qi Qs Qr x d M A E t z y hi hs hp hm =
    le_of_mul-le-mul_right {k = E * D} (omega (arith, mul-le-mul_right t one, mul-le-mul_right (A * E) hp)) (mul-pos y z)
  where
    one : M * (E * D * D) ≤ A * E * (Qi * Qs)
    one = omega (arith, mul-le-mul_right (D * D) hm, mul-le-mul hi hs)

glue_down : (D Qi Qs Qr x d M A E e l c : ℕ) → zero < D → zero < E → A * Qi ≤ (x + 1) * D → E * Qs ≤ (E + d + e) * D → Qr * D ≤ Qi * Qs
    → x * (E + d) ≤ (M + l) * E → A ≤ M → x ≤ M → A * e + (l + 1) * E + d + e ≤ c * E → A * Qr * A ≤ M * (A + c) * D
glue_down D Qi Qs Qr x d M A E e l c z y hi hs hp hm am xm small =
    le_of_mul-le-mul_right {k = E} (omega (arith, mul-le-mul_right A one, mul-le-mul_right D two)) y
  where
    one : A * Qr * E ≤ (x + 1) * (E + d + e) * D
    one = le_of_mul-le-mul_right {k = D} (omega (arith, mul-le-mul_left (A * E) hp, mul-le-mul hi hs)) z

    two : (x + 1) * (E + d + e) * A ≤ M * (A + c) * E
    two = omega (arith, mul-le-mul_right A hm, mul-le-mul_right (e * A) xm, mul-le-mul_right ((l + 1) * E + d + e) am, mul-le-mul_left M small)

square : (f b c q y z : ℕ) → c ≡ b * b → y ≤ f * (b * z) * q + f * f * c → y ≤ z * (f * b) * q + f * b * (f * b)
square f b c q y z p l = omega (arith, rw p at l)

turn : (f b z y : ℕ) → f * (b * z) ≤ y → z * (f * b) ≤ y
turn f b z y l = omega arith

-- ---- the last product
abbrev cuts : Format → ℕ
cuts binary32 = 1
cuts binary64 = 3

M-le : (p : Format) (i f : ℕ) → significand p i f * scale_of p ≤ start p i * (scale_of p + part p f)
unfolding significand
M-le binary32 i f = omega (arith, div-mul-le_self ((start binary32 i) * (part binary32 f)) (2 ^ 40))
M-le binary64 i f = omega (arith, hi_le (entry i) (part binary64 f))

le_m : (p : Format) (i f : ℕ) → start p i * (scale_of p + part p f) ≤ (significand p i f + cuts p) * scale_of p
unfolding significand
le_m binary32 i f = go (start binary32 i) (part binary32 f) (2 ^ 40) (lit< tt)
  where
    go : (x d E : ℕ) → zero < E → x * (E + d) ≤ (x + x * d / E + 1) * E
    go x d E z = omega (arith, lt-div-mul-add {a = x * d} z)
le_m binary64 i f = omega (arith, hi_ge (entry i) (part binary64 f))

start_m : (p : Format) (i f : ℕ) → start p i ≤ significand p i f
unfolding significand
start_m binary32 i f = le-add_right (start binary32 i) (start binary32 i * part binary32 f / 2 ^ 40)
start_m binary64 i f = le-add_right (entry i) (hi (entry i) (part binary64 f))

fit : (p : Format) (d : ℕ) → d * 256 ≤ scale_of p → top p * (lost p + tail p) + (cuts p + 1) * scale_of p + d + (lost p + tail p) ≤ lack p * scale_of p
fit binary32 d l = omega arith
fit binary64 d l = omega arith

scale_pos : (p : Format) → zero < scale_of p
scale_pos binary32 = lit< tt
scale_pos binary64 = lit< tt

pub top_pos : (p : Format) → zero < top p
top_pos binary32 = lit< tt
top_pos binary64 = lit< tt

-- the arguments, W for 2 ^ 44
i_fits : (W i : ℕ) → i < 256 → W * (i * N) * 2560 ≤ 1792 * (W * 2 ^ 72)
i_fits W i l = go W (i * N) (2 ^ 72) (omega arith)
  where
    go : (W a b : ℕ) → a * 2560 ≤ 1792 * b → W * a * 2560 ≤ 1792 * (W * b)
    go W a b l = omega (arith, mul-le-mul_left W l)

f_fits : (W f : ℕ) → f ≤ W → N * f * 2560 ≤ 13 * (W * 2 ^ 72)
f_fits W f l = omega arith

-- ---- what the significand is
-- r = argument i f / 2 ^ 116
abbrev pub argument : (i f : ℕ) → ℕ
argument i f = (i * 2 ^ 44 + f) * N

module _ (p : Format) (i f : ℕ) (li : i < 256) (lf : f < 2 ^ 44) where
  arg : argument i f ≡ W * (i * N) + N * f
  arg = omega arith

  num_is : (P (argument i f) (2 ^ 116)).num ≡ value W (W * (i * N) + N * f)
  num_is = rw (P-num (argument i f) (2 ^ 116), arg)

  den_is : (P (argument i f) (2 ^ 116)).den ≡ denom W
  den_is = P-den (argument i f) (2 ^ 116)

  pub significand_low : top p ≤ significand p i f
  significand_low = le_trans (start_low p i li) (start_m p i f)

  pub significand_le : significand p i f * (P (argument i f) (2 ^ 116)).den * 2 ^ 93 ≤ top p * ((P (argument i f) (2 ^ 116)).num * 2 ^ 93 + (P (argument i f) (2 ^ 116)).den)
  significand_le =
      rw (num_is, den_is)
      (glue_up (denom W) (value W (W * (i * N))) (value W (N * f)) (value W (W * (i * N) + N * f)) (start p i) (part p f) (significand p i f) (top p) (scale_of p)
      (2 ^ 93) (denom_pos W (lit< tt)) (scale_pos p) (start_le p W i li)
      (poly_le p f W (scale_of p + part p f) (lost p) (le_of_lt lf) (part_chain p f (le_of_lt lf)))
      (square f23 (unit W ^ 23) (unit W ^ 46) (2 ^ 93) (value W (W * (i * N)) * value W (N * f) * 2 ^ 93) (value W (W * (i * N) + N * f)) (pow-add (unit W) 23 23)
      (prod_le (W * (i * N)) (N * f) (unit W) (i_fits W i li) (f_fits W f (le_of_lt lf))))
      (M-le p i f))

  pub le_significand : top p * (P (argument i f) (2 ^ 116)).num * top p ≤ significand p i f * (top p + lack p) * (P (argument i f) (2 ^ 116)).den
  le_significand =
      rw (num_is, den_is)
      (glue_down (denom W) (value W (W * (i * N))) (value W (N * f)) (value W (W * (i * N) + N * f)) (start p i) (part p f) (significand p i f) (top p) (scale_of p)
      (lost p + tail p) (cuts p) (lack p) (denom_pos W (lit< tt)) (scale_pos p) (le_start p W i li)
      (le_poly p f W (scale_of p + part p f) (lost p) (le_of_lt lf) (part_chain p f (le_of_lt lf)))
      (turn f23 (unit W ^ 23) (value W (W * (i * N) + N * f)) (value W (W * (i * N)) * value W (N * f))
      (sum-le (W * (i * N)) (N * f) (unit W) (i_fits W i li) (f_fits W f (le_of_lt lf))))
      (le_m p i f) significand_low (start_m p i f) (fit p (part p f) (part_small p f (le_of_lt lf))))

  pub significand_high : significand p i f < 2 * top p
  significand_high =
      go (significand p i f) (top p) (value W (W * (i * N) + N * f)) (denom W) (2 ^ 93) (top_pos p)
      (rw (num_is, den_is) at significand_le) (below_two W (W * (i * N) + N * f) (lit< tt) (omega (arith, li, mul-le-mul_left (W * N) li, mul-le-mul_left N (le_of_lt lf))))
    where
      go : (m A q d t : ℕ) → zero < A → m * d * t ≤ A * (q * t + d) → q * t + d < 2 * d * t → m < 2 * A
      go m A q d t z k n = lt_of_mul-lt-mul_right (d * t) (omega (arith, mul-lt-mul_of_pos_left {k = A} n z))
