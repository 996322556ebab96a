-- P at the sum of S(z), L's series, and l(g), the chain's polynomial, against M / A / (1 - g): for z = za / (za + 2 A), M = za + A and
-- g = g / (g + q). Below, u / v stands for the fraction of two naturals, and every claim is a cross product. Assumes nothing.
use mathlib.Core.Path.{◌≡◌, refl, sym}
use Prim.Native.Nat.{ℕ, zero, ◌+◌, ◌-◌, ◌*◌, ◌^◌, ◌≤◌, ◌<◌}
use native.Mathlib.Nat.{mul_assoc, mul_comm, mul-le-mul_left, mul-le-mul_right, le_of_mul-le-mul_right, le_of_mul-le-mul_left, mul-pos, one-le-pow, pow-succ'}
use native.Mathlib.Omega.{arith}
use lib.Dec.{lit<, lit≤}
use lib.Pow.{pow-add}
use Rattle.table.proofs.Exact.Poly.{h}
use Rattle.table.proofs.Exact.Laws.{h_mono, pow-mul, pow-pow}
use Rattle.table.proofs.Exact.Near.{P-one}
use Rattle.table.proofs.Exact.Terms.{pcoef, f23}
use Rattle.table.proofs.Exact.Sums.{sum-le, prod_le}
use Rattle.table.proofs.Exact.Series as Series
use Rattle.table.proofs.Exact.Series.{scoef, d_s, u_s}
use Rattle.table.proofs.Exact.Below as Below
use Rattle.table.proofs.Exact.Below.{d_l, lcoef, u_l, less}
use Rattle.table.proofs.Exact.Frac.{h_homog}
use Rattle.table.proofs.Exact.Chain as Chain
use Rattle.table.proofs.Exact.Chain.{ac}

-- P(a / b) is PP a b / FF b
abbrev pub PP : ℕ → ℕ → ℕ
PP a b = h 23 pcoef a b

abbrev pub FF : ℕ → ℕ
FF b = f23 * b ^ 23

pub f_pos : zero < f23
unfolding f23
f_pos = lit< tt

-- ---- S(z) is Sn za zb / Sd zb
abbrev pub Sn : ℕ → ℕ → ℕ
Sn za zb = h 47 scoef za zb

abbrev pub Sd : ℕ → ℕ
Sd zb = d_s * zb ^ 47

pub d_s_pos : zero < d_s
unfolding d_s
d_s_pos = lit< tt

pub Sd-pos : (b : ℕ) → zero < b → zero < Sd b
Sd-pos b z = mul-pos d_s_pos (one-le-pow 47 b z)

FS-is : (zb : ℕ) → FF (Sd zb) ≡ u_s * zb ^ 1081
unfolding u_s f23
FS-is zb = rw (pow-mul d_s (zb ^ 47) 23, pow-pow zb 47 23) (sym (mul_assoc 25852016738884976640000 (d_s ^ 23) (zb ^ 1081)))

s_down : (za A y u r : ℕ) → ((za + A + A) * u + za * u + za * y) * (r + 1) ≤ (za + A + A) * y * (r + 1) + (za + A + A) * u → u * ((za + A) * (2 * r)) ≤ y * (A * (2 * (r + 1)))
s_down za A y u r l = omega arith

-- one factor b of b ^ 1082 comes out
out : (b u p : ℕ) → u * (b * p) ≡ b * (u * p)
out b u p = omega arith

pub S-up : (za A : ℕ) → zero < A → za ≤ A → PP (Sn za (za + A + A)) (Sd (za + A + A)) * (A * (2 * 2 ^ 93)) ≤ FF (Sd (za + A + A)) * ((za + A) * (2 * 2 ^ 93 + 2))
S-up za A z l =
    let b = za + A + A in
    rw (FS-is b)
    (omega (arith, (rw (pow-succ' b 1081, out b u_s (b ^ 1081)) at (Series.upper za b (omega arith) (omega arith)))))

pub S-down : (za A : ℕ) → zero < A → za ≤ A → FF (Sd (za + A + A)) * ((za + A) * (2 * (2 ^ 81 - 1))) ≤ PP (Sn za (za + A + A)) (Sd (za + A + A)) * (A * (2 * 2 ^ 81))
S-down za A z l =
    let b = za + A + A in
    rw (FS-is b)
    (s_down za A (Series.p_s za b) (u_s * b ^ 1081) (2 ^ 81 - 1) (rw (pow-succ' b 1081, out b u_s (b ^ 1081)) at (Series.lower za b (omega arith) (omega arith))))

-- S(z) ≤ 7 / 10
third : h 47 scoef 1 3 * 10 ≤ 7 * d_s * 3 ^ 47
unfolding h scoef d_s
third = lit≤ tt

pub S-small : (za zb : ℕ) → za * 3 ≤ 1 * zb → Sn za zb * 10 ≤ 7 * Sd zb
S-small za zb l = le_of_mul-le-mul_right {k = 3 ^ 47} (omega (arith, h_mono 47 scoef za zb 1 3 l, third, mul-le-mul_right (zb ^ 47) third)) (lit< tt)

-- ---- l(g / w) is Ln g w / Ld w
abbrev pub Ln : ℕ → ℕ → ℕ
Ln g w = h 7 lcoef g w

abbrev pub Ld : ℕ → ℕ
Ld w = d_l * w ^ 7

pub Ld-pos : (w : ℕ) → zero < w → zero < Ld w
Ld-pos w z = mul-pos {m = 420} (lit< tt) (one-le-pow 7 w z)

FL-is : (w : ℕ) → FF (Ld w) ≡ u_l * w ^ 161
unfolding u_l f23
FL-is w = rw (pow-mul d_l (w ^ 7) 23, pow-pow w 7 23) (sym (mul_assoc 25852016738884976640000 (d_l ^ 23) (w ^ 161)))

l_up : (g q y u t : ℕ) → (g + q) * y * t ≤ ((g + q) * u + g * y) * t + (g + q) * u → y * (q * t) ≤ u * ((g + q) * (t + 1))
l_up g q y u t l = omega arith

l_down : (g q y u r t : ℕ) → r + 1 ≡ t → ((g + q) * u + g * y) * t ≤ (g + q) * y * t + (g + q) * u → u * ((g + q) * r) ≤ y * (q * t)
l_down g q y u r t e l = rw (← e) (omega (arith, rw (← e) at l))

L-up : (g q : ℕ) → g * 2560 ≤ 12 * (g + q) → PP (Ln g (g + q)) (Ld (g + q)) * (q * 2 ^ 200) ≤ FF (Ld (g + q)) * ((g + q) * (2 ^ 200 + 1))
L-up g q l =
    let b = g + q in
    rw (FL-is b)
    (l_up g q (Below.p_l g b) (u_l * b ^ 161) (2 ^ 200) (rw (pow-succ' b 161, out b u_l (b ^ 161)) at (Below.upper g b l)))

L-down : (g q : ℕ) → g * 2560 ≤ 12 * (g + q) → FF (Ld (g + q)) * ((g + q) * (less - 1)) ≤ PP (Ln g (g + q)) (Ld (g + q)) * (q * less)
L-down g q l =
    let b = g + q in
    rw (FL-is b)
    (l_down g q (Below.p_l g b) (u_l * b ^ 161) (less - 1) less refl (rw (pow-succ' b 161, out b u_l (b ^ 161)) at (Below.lower g b l)))

-- l(g) ≤ 13 / 2560
little : h 7 lcoef 12 2560 * 2560 ≤ 13 * d_l * 2560 ^ 7
unfolding h lcoef
little = lit≤ tt

pub L-small : (g w : ℕ) → g * 2560 ≤ 12 * w → Ln g w * 2560 ≤ 13 * Ld w
L-small g w l =
    le_of_mul-le-mul_right {k = 2560 ^ 7} (omega (arith, h_mono 7 lcoef g w 12 2560 l, little, mul-le-mul_right (w ^ 7) little)) (lit< tt)

-- ---- P at the sum of two fractions y / e and u / f
over : (y e u f : ℕ) → PP (f * y) (f * e) * PP (e * u) (f * e) ≡ (f * e) ^ 23 * (PP y e * PP u f)
over y e u f =
    rw (h_homog 23 pcoef f y e, mul_comm f e, h_homog 23 pcoef e u f, pow-mul e f 23) (omega arith)

in_y : (y e f : ℕ) → y * 10 ≤ 7 * e → f * y * 2560 ≤ 1792 * (f * e)
in_y y e f l = omega (arith, mul-le-mul_left f l)

in_u : (u e f : ℕ) → u * 2560 ≤ 13 * f → e * u * 2560 ≤ 13 * (f * e)
in_u u e f l = omega (arith, mul-le-mul_left e l)

cancel : (F p x y : ℕ) → zero < p → F * (p * x) ≤ p * y → F * x ≤ y
cancel F p x y z l = le_of_mul-le-mul_left {k = p} (omega arith) z

cancel' : (F p pp x y t u : ℕ) → zero < p → pp ≡ p * p → F * p ≤ x → u ≡ t + 1 → p * y * t ≤ F * (p * x) * t + F * F * pp → y * t ≤ F * x * u
cancel' F p pp x y t u z e m eu l = le_of_mul-le-mul_left {k = p} (rw eu (omega (arith, rw e at l, mul-le-mul_left (F * p) m))) z

pub sum_up : (y e u f : ℕ) → zero < e → zero < f → y * 10 ≤ 7 * e → u * 2560 ≤ 13 * f → f23 * PP (f * y + e * u) (f * e) ≤ PP y e * PP u f
sum_up y e u f ze zf ly lu =
    cancel f23 ((f * e) ^ 23) (PP (f * y + e * u) (f * e)) (PP y e * PP u f) (one-le-pow 23 (f * e) (mul-pos zf ze))
    (rw (over y e u f) at (sum-le (f * y) (e * u) (f * e) (in_y y e f ly) (in_u u e f lu)))

pub sum_down : (y e u f : ℕ) → zero < e → zero < f → y * 10 ≤ 7 * e → u * 2560 ≤ 13 * f → PP y e * PP u f * 2 ^ 93 ≤ f23 * PP (f * y + e * u) (f * e) * (2 ^ 93 + 1)
sum_down y e u f ze zf ly lu =
    cancel' f23 ((f * e) ^ 23) ((f * e) ^ 46) (PP (f * y + e * u) (f * e)) (PP y e * PP u f) (2 ^ 93) (2 ^ 93 + 1) (one-le-pow 23 (f * e) (mul-pos zf ze))
    (pow-add (f * e) 23 23) (P-one (f * y + e * u) (f * e)) refl
    (rw (over y e u f) at (prod_le (f * y) (e * u) (f * e) (in_y y e f ly) (in_u u e f lu)))

pub FX-is : (e f : ℕ) → f23 * FF (f * e) ≡ FF e * FF f
FX-is e f = rw (pow-mul f e 23) (omega arith)

-- ---- S(z) + l(g / w), over Ld Sd
abbrev pub Xn : (za zb g w : ℕ) → ℕ
Xn za zb g w = Ld w * Sn za zb + Sd zb * Ln g w

abbrev pub Xd : (zb w : ℕ) → ℕ
Xd zb w = Ld w * Sd zb

-- x / A stands for P(c / d), the table's entry at c / d: M / A / (1 - g) is x / A, and P of the sum is P(c / d), but for the factors
-- of w8, w2, A1 and v, which the caller counts
module _ (za A g q c d x : ℕ) (lz : za ≤ A) (z_a : zero < A) (lg : g * 2560 ≤ 12 * (g + q)) (zq : zero < q) where
  abbrev b : ℕ
  b = za + A + A

  abbrev w : ℕ
  w = g + q

  s_small : Sn za b * 10 ≤ 7 * Sd b
  s_small = S-small za b (omega arith)

  z_s : zero < Sd b
  z_s = Sd-pos b (omega arith)

  z_l : zero < Ld w
  z_l = Ld-pos w (omega arith)

  -- w8, w2, A1, A2, u and v are what the caller counts
  pub close_up : (w8 w2 A1 A2 u v : ℕ) → zero < w8 * A1 → (za + A) * (g + q) * w8 ≤ q * w2 * x → x * FF d * A1 ≤ A * PP c d * A2
      → ((2 * 2 ^ 93 + 2) * (2 ^ 200 + 1)) * w2 * A2 * u ≤ ((2 * 2 ^ 93) * 2 ^ 200) * w8 * A1 * v
      → PP (Xn za (za + A + A) g (g + q)) (Xd (za + A + A) (g + q)) * FF d * u ≤ PP c d * FF (Xd (za + A + A) (g + q)) * v
  close_up w8 w2 A1 A2 u v z hq ht hk =
      times (PP (Xn za b g w) (Xd b w) * FF d) (PP c d * FF (Xd b w)) (2 * 2 ^ 93) (2 * 2 ^ 93 + 2) (2 ^ 200) (2 ^ 200 + 1) w8 w2 A1 A2 u v
      (mul-pos {m = 2 * 2 ^ 93} (lit< tt) (mul-pos {m = 2 ^ 200} (lit< tt) z))
      (Chain.sum_up f23 (FF (Sd b)) (FF (Ld w)) (FF (Xd b w)) (PP (Sn za b) (Sd b)) (PP (Ln g w) (Ld w)) (PP (Xn za b g w) (Xd b w)) (za + A) A
      (2 * 2 ^ 93) (2 * 2 ^ 93 + 2) (2 ^ 200 * w8 * A1) ((2 ^ 200 + 1) * w2 * A2) (FF d) (PP c d) (mul-pos f_pos z_a) (FX-is (Sd b) (Ld w))
      (sum_up (Sn za b) (Sd b) (Ln g w) (Ld w) z_s z_l s_small (L-small g w lg)) (S-up za A z_a lz)
      (Chain.entry_up (za + A) A q w (2 ^ 200) (2 ^ 200 + 1) w8 w2 A1 A2 x (FF (Ld w)) (PP (Ln g w) (Ld w)) (FF d) (PP c d) (mul-pos zq (omega arith)) (L-up g q lg) hq ht)) hk
    where
      times : (P Q a b k l w8 w2 A1 A2 u v : ℕ) → zero < a * (k * (w8 * A1)) → P * (a * (k * w8 * A1)) ≤ Q * (b * (l * w2 * A2)) → (b * l) * w2 * A2 * u ≤ (a * k) * w8 * A1 * v → P * u ≤ Q * v
      times P Q a b k l w8 w2 A1 A2 u v z h c = Chain.counted P Q (a * (k * w8 * A1)) (b * (l * w2 * A2)) u v (rw (mul_assoc k w8 A1) z) h (simp ac (simp ac at c))

  pub close_down : (w8 A1 A2 u v : ℕ) → zero < A2 → x * q ≤ (za + A) * w8 → A * PP c d * A2 ≤ x * FF d * A1
      → ((2 * 2 ^ 81) * less * (2 ^ 93 + 1)) * w8 * A1 * u ≤ ((2 * (2 ^ 81 - 1)) * (less - 1) * 2 ^ 93) * (g + q) * A2 * v
      → PP c d * FF (Xd (za + A + A) (g + q)) * u ≤ PP (Xn za (za + A + A) g (g + q)) (Xd (za + A + A) (g + q)) * FF d * v
  close_down w8 A1 A2 u v z2 hq ht hk =
      times (PP c d * FF (Xd b w)) (PP (Xn za b g w) (Xd b w) * FF d) (2 * (2 ^ 81 - 1)) (2 * 2 ^ 81) (less - 1) less (2 ^ 93) (2 ^ 93 + 1) w w8 A1 A2 u v
      (mul-pos (mul-pos {m = w * (less - 1)} (mul-pos {m = w} (omega arith) (lit< tt)) z2) (lit< tt))
      (Chain.sum_down f23 (FF (Sd b)) (FF (Ld w)) (FF (Xd b w)) (PP (Sn za b) (Sd b)) (PP (Ln g w) (Ld w)) (PP (Xn za b g w) (Xd b w)) (za + A) A
      (2 * 2 ^ 81) (2 * (2 ^ 81 - 1)) (2 ^ 93) (2 ^ 93 + 1) (w * (less - 1) * A2) (less * w8 * A1) (FF d) (PP c d) (mul-pos f_pos z_a) (FX-is (Sd b) (Ld w))
      (sum_down (Sn za b) (Sd b) (Ln g w) (Ld w) z_s z_l s_small (L-small g w lg)) (S-down za A z_a lz)
      (Chain.entry_down (za + A) A q w less (less - 1) w8 A1 A2 x (FF (Ld w)) (PP (Ln g w) (Ld w)) (FF d) (PP c d) zq (L-down g q lg) hq ht)) hk
    where
      times : (P Q a b k l t r w w8 A1 A2 u v : ℕ) → zero < w * k * A2 * (a * t) → P * (w * k * A2 * (a * t)) ≤ Q * (l * w8 * A1 * (b * r))
          → (b * l * r) * w8 * A1 * u ≤ (a * k * t) * w * A2 * v → P * u ≤ Q * v
      times P Q a b k l t r w w8 A1 A2 u v z h c = Chain.counted P Q (w * k * A2 * (a * t)) (l * w8 * A1 * (b * r)) u v z h (simp ac (simp ac at c))
