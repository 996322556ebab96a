-- Single ln's first interval, x = 1 + n / 2 ^ 23, n < 2 ^ 14: within 255 + 2 ^ 31 L units of 2 ^ -56 of L's series. Assumes nothing.
use mathlib.Core.Path.{◌≡◌}
use Prim.Native.Nat.{ℕ, zero, ◌+◌, ◌*◌, ◌/◌, ◌^◌, ◌≤◌, ◌<◌}
use native.Mathlib.Nat.{le_trans, mul-le-mul_left, mul-le-mul_right, le_of_mul-le-mul_left, div-mul-le_self, le_of_lt}
use native.Mathlib.Omega.{arith}
use lib.Dec.{lit<, lit≤}
use Rattle.table.proofs.Exact.Poly.{h}
use Rattle.laws.proofs.Distances.logarithm.Pairs.{Within}
use Rattle.laws.proofs.Distances.logarithm.Sum.{Sn, Sd}
use Rattle.laws.proofs.Distances.power.Chain.{le_cut}
use Rattle.laws.proofs.Distances.logarithm.First.{An, Bn}
use Rattle.laws.proofs.Distances.logarithm.FirstNear.{Zn, Zd, W, G, first_up, first_down}

-- ---- arithmetic alone
relax : (x D w t A c z E : ℕ) → zero < w * t → x * D * w * t ≤ (A * w * t + c * D) * z → c * E ≤ w * t → x * D * E ≤ (A * E + D) * z
relax x D w t A c z E p a b = le_of_mul-le-mul_left {k = w * t} (omega (arith, mul-le-mul_right E a, mul-le-mul_left (D * z) b)) p

relax' : (A z w t x K D E Y : ℕ) → zero < w * t → A * z * w * t ≤ (x * w * t + K * z) * D → K * E ≤ Y * (w * t) → A * z * E ≤ (x * E + Y * z) * D
relax' A z w t x K D E Y p a b = le_of_mul-le-mul_left {k = w * t} (omega (arith, mul-le-mul_right E a, mul-le-mul_left (z * D) b)) p

thin : (b c n d A B f : ℕ) → zero < c * c → (2 * c * n + d * B) * (3 * (b * c)) * (c * f) ≤ (A * (c * f) + 3 * (b * c)) * (2 * c * d)
    → (2 * c * n + d * B) * (3 * b) * f ≤ (A * f + 3 * b) * (2 * d)
thin b c n d A B f p a = le_of_mul-le-mul_left {k = c * c} (omega (arith, a)) p

thin' : (b c n d A B f y : ℕ) → zero < c * c → A * (2 * c * d) * (c * f) ≤ ((2 * c * n + d * B) * (c * f) + y * (2 * c * d)) * (3 * (b * c))
    → A * (2 * d) * f ≤ (2 * c * n + d * B) * (3 * b) * f + 6 * y * b * d
thin' b c n d A B f y p a = le_of_mul-le-mul_left {k = c * c} (omega (arith, a)) p

An-is : (n : ℕ) → An n (2 ^ 23) ≡ 3 * n * 2 ^ 46 + n * n * n
unfolding h
An-is n = omega arith

Bn-is : (n : ℕ) → Bn n (2 ^ 23) ≡ n * n
unfolding h
Bn-is n = omega arith

count : (n k s W3 T t : ℕ) → k ≤ n * 2 ^ 42 → (n * (2 ^ 42 * T * (s + 1) * (t + 1)) + (W3 * T + W3 * (s + 1)) * (t + 1) + W3 * T * s) * 2 ^ 50 ≤ (n + 1) * (W3 * T * s * t)
    → ((W3 * T + (k * T + W3) * (s + 1)) * t + W3 * T * s + (W3 * T + (k * T + W3) * (s + 1))) * 2 ^ 50 ≤ (n + 1) * (W3 * T * s * t)
count n k s W3 T t l m = le_trans (mul-le-mul_right (2 ^ 50) (omega (arith, mul-le-mul_right (T * (s + 1) * (t + 1)) l))) m

split : (n x y0 y1 e z : ℕ) → x * e ≤ z → (y0 + y1) * e ≤ z → (n * x + y0 + y1) * e ≤ (n + 1) * z
split n x y0 y1 e z a b = omega (arith, mul-le-mul_left n a, b)

mono : (k m T s w z : ℕ) → k ≤ m → 3 * (w * T + (m * T + w) * (s + 1)) * 256 ≤ z → 3 * (w * T + (k * T + w) * (s + 1)) * 256 ≤ z
mono k m T s w z l a = le_trans (omega (arith, mul-le-mul_right (T * (s + 1)) l)) a

fin_a : (n nn nnn c x d : ℕ) → (3 * n * 2 ^ 46 + nnn) * (2 * d) * 16 ≤ (2 * 2 ^ 46 * x + d * nn) * (3 * 2 ^ 23) * 16 + 6 * (n + 1) * 2 ^ 23 * d → c * 24576 ≤ nnn
    → nn ≤ n * 2 ^ 14
    → (2 ^ 33 * n + c) * d ≤ x * 2 ^ 56 + (2 ^ 9 * nn + 255) * d + 2 ^ 31 * x
fin_a n nn nnn c x d a b e =
    omega (arith, three (n * d) (nn * d) (c * d) x d (two (n * d) (nn * d) (nnn * d) (c * d) x d (omega (arith, a)) (omega (arith, b, mul-le-mul_right d b))) (omega (arith, e, mul-le-mul_right d e)))
  where
    two : (n nn nnn c x d : ℕ) → 24576 * 2 ^ 33 * n + nnn ≤ 24576 * 2 ^ 56 * x + 24576 * 2 ^ 9 * nn + 24576 * 64 * n + 24576 * 64 * d → 24576 * c ≤ nnn
        → 2 ^ 33 * n + c ≤ 2 ^ 56 * x + 2 ^ 9 * nn + 64 * n + 64 * d
    two n nn nnn c x d a b = omega arith

    three : (nd nnd cd x d : ℕ) → 2 ^ 33 * nd + cd ≤ 2 ^ 56 * x + 2 ^ 9 * nnd + 64 * nd + 64 * d → nnd ≤ 2 ^ 14 * nd
        → 2 ^ 33 * nd + cd ≤ x * 2 ^ 56 + 2 ^ 9 * nnd + 255 * d + 2 ^ 31 * x
    three nd nnd cd x d a b = omega arith

module _ (n : ℕ) (l : n < 2 ^ 14) where
  abbrev b : ℕ
  b = 2 ^ 23

  abbrev x : ℕ
  x = Sn n (n + b + b)

  abbrev d : ℕ
  d = Sd (n + b + b)

  small : n * 512 ≤ 1 * b
  small = omega arith

  square : n * n ≤ n * 2 ^ 14
  square = mul-le-mul_left n (le_of_lt l)

  cube : n * n * n ≤ n * 2 ^ 28
  cube = omega (arith, l, square, mul-le-mul_right n square, mul-le-mul_right (2 ^ 14) square)

  fourth : n * (n * (n * n)) ≤ n * 2 ^ 42
  fourth = omega (arith, cube, square, mul-le-mul_right n cube, mul-le-mul_right (2 ^ 28) square)

  lb : Bn n b * 2560 ≤ 13 * (2 * b ^ 2)
  lb = rw (Bn-is n) (omega (arith, l, square))

  la : An n b * 20 ≤ 7 * (3 * b ^ 3)
  la = rw (An-is n) (omega (arith, l, cube))

  up : (2 * 2 ^ 46 * x + d * (n * n)) * (3 * 2 ^ 23) * 16 ≤ ((3 * n * 2 ^ 46 + n * n * n) * 16 + 3 * 2 ^ 23) * (2 * d)
  up =
      rw (An-is n, Bn-is n) at
      (thin (2 ^ 23) (2 ^ 46) x d (An n b) (Bn n b) 16 (lit< tt)
      (relax (Zn n b) (3 * b ^ 3) (2 * 2 ^ 93) (2 ^ 93) (An n b) (2 * 2 ^ 93 + 2 * 2 ^ 93 + 2) (Zd n b) (2 ^ 46 * 16) (lit< tt) (first_up n b (lit< tt) small lb la) (lit≤ tt)))

  rough : 3 * (W n b (lit< tt) small lb la + G n b (lit< tt) small lb la * (2 ^ 79 + 1)) * 256 ≤ W n b (lit< tt) small lb la * 2 ^ 79
  rough =
      mono (n * (n * (n * n))) (2 ^ 14 * 2 ^ 42) (2 ^ 90) (2 ^ 79) (3 * b ^ 4) (3 * b ^ 4 * 2 ^ 90 * 2 ^ 79) (le_trans fourth (mul-le-mul_right (2 ^ 42) (le_of_lt l)))
      (lit≤ tt)

  abbrev K : ℕ
  K = 3 * b ^ 4 * 2 ^ 90 + (n * (n * (n * n)) * 2 ^ 90 + 3 * b ^ 4) * (2 ^ 79 + 1)

  counted : (K * 2 ^ 93 + 3 * b ^ 4 * 2 ^ 90 * 2 ^ 79 + K) * 2 ^ 50 ≤ (n + 1) * (3 * b ^ 4 * 2 ^ 90 * 2 ^ 79 * 2 ^ 93)
  counted =
      count n (n * (n * (n * n))) (2 ^ 79) (3 * b ^ 4) (2 ^ 90) (2 ^ 93) fourth
      (split n (2 ^ 42 * 2 ^ 90 * (2 ^ 79 + 1) * (2 ^ 93 + 1)) ((3 * b ^ 4 * 2 ^ 90 + 3 * b ^ 4 * (2 ^ 79 + 1)) * (2 ^ 93 + 1)) (3 * b ^ 4 * 2 ^ 90 * 2 ^ 79) (2 ^ 50)
      (3 * b ^ 4 * 2 ^ 90 * 2 ^ 79 * 2 ^ 93) (lit≤ tt) (lit≤ tt))

  down : (3 * n * 2 ^ 46 + n * n * n) * (2 * d) * 16 ≤ (2 * 2 ^ 46 * x + d * (n * n)) * (3 * 2 ^ 23) * 16 + 6 * (n + 1) * 2 ^ 23 * d
  down =
      rw (An-is n, Bn-is n) at
      (thin' (2 ^ 23) (2 ^ 46) x d (An n b) (Bn n b) 16 (n + 1) (lit< tt)
      (relax' (An n b) (Zd n b) (3 * b ^ 4 * 2 ^ 90 * 2 ^ 79) (2 ^ 93) (Zn n b) (K * 2 ^ 93 + 3 * b ^ 4 * 2 ^ 90 * 2 ^ 79 + K) (3 * b ^ 3) (2 ^ 46 * 16) (n + 1) (lit< tt)
      (first_down n b (lit< tt) small lb la rough) counted))

  -- the first interval's number is (2 ^ 33 n + n^3 / 24576 - 2 ^ 9 n^2) / 2 ^ 56
  pub first_near : Within (2 ^ 56) 255 (2 ^ 31) (2 ^ 33 * n + n * n * n / 24576) (2 ^ 9 * (n * n)) (Sn n (n + 2 ^ 23 + 2 ^ 23)) (Sd (n + 2 ^ 23 + 2 ^ 23))
  first_near = (
    fin_a n (n * n) (n * n * n) (n * n * n / 24576) x d down (div-mul-le_self (n * n * n) 24576) square,
    omega (arith, up, mul-le-mul_right d (le_cut (n * n * n) 24576 (lit< tt))),
  )
