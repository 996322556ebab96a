-- E on either side of 0: below 2 ^ 125 for an argument up to 86, and next to 0 near 1 ± a / b. Assumes nothing.
use mathlib.Core.Path.{◌≡◌, refl, sym, ap, ◌∙◌}
use mathlib.Core.Bool.{Bool, true, false}
use mathlib.Core.List.{List, [], ◌∷◌}
use Prim.Native.Nat.{ℕ, zero, ◌+◌, ◌-◌, ◌*◌, ◌/◌, ◌%◌, ◌^◌, ◌≤◌, ◌<◌}
use native.Mathlib.Nat.{le_trans, le_of_eq, le_of_lt, one-mul, mul_assoc, mul-pos, mul-le-mul, mul-le-mul_left, mul-le-mul_right, lt_of_mul-lt-mul_right, mul-lt-mul_of_pos_left, div-add-mod', mod-lt, div-mul-le_self, lt-div-mul-add, pow-succ'}
use native.Mathlib.Omega.{arith}
use lib.Dec.{lit<, lit≤}
use lib.Pow.{pow_mono, pow_pos}
use Rattle.table.specs.Exact.{Frac, N, P, E}
use Rattle.table.proofs.Exact.Poly.{h}
use Rattle.table.proofs.Exact.Laws.{h_mono, pow-mul}
use Rattle.table.proofs.Exact.Frac.{h_homog}
use Rattle.table.proofs.Exact.Floor.{E-up, E-down}
use Rattle.table.proofs.Exact.Near.{h_grows, P-den-pos}
use Rattle.table.proofs.Exact.Taylor.{P-num, P-den}
use Rattle.table.proofs.Exact.Terms.{pcoef, f23}

-- ---- P(ln 2) is 2, nearly
two_hi : h 23 pcoef N (2 ^ 64) ≤ 2 * (f23 * (2 ^ 64) ^ 23)
unfolding h pcoef f23
two_hi = lit≤ tt

two_lo : 2 * (f23 * (2 ^ 64) ^ 23) * (2 ^ 48 - 1) ≤ h 23 pcoef N (2 ^ 64) * 2 ^ 48
unfolding h pcoef f23
two_lo = lit≤ tt

-- P at y / (b 2 ^ 64), and its denominator
abbrev pub over : (y b : ℕ) → ℕ
over y b = h 23 pcoef y (b * 2 ^ 64)

abbrev pub den : ℕ → ℕ
den b = f23 * (b * 2 ^ 64) ^ 23

pub den_pos : (b : ℕ) → zero < b → zero < den b
den_pos b z = P-den-pos (b * 2 ^ 64) (mul-pos z (lit< tt))

at_two : (b : ℕ) → over (b * N) b ≡ b ^ 23 * h 23 pcoef N (2 ^ 64)
at_two b = h_homog 23 pcoef b N (2 ^ 64)

den_is : (b : ℕ) → den b ≡ b ^ 23 * (f23 * (2 ^ 64) ^ 23)
den_is b = rw (pow-mul b (2 ^ 64) 23) (turn f23 (b ^ 23) ((2 ^ 64) ^ 23))
  where
    turn : (x y z : ℕ) → x * (y * z) ≡ y * (x * z)
    turn x y z = omega arith

pub P-two : (b : ℕ) → over (b * N) b ≤ 2 * den b
P-two b = rw (at_two b, den_is b) (turn (b ^ 23) (h 23 pcoef N (2 ^ 64)) (f23 * (2 ^ 64) ^ 23) two_hi)
  where
    turn : (k x y : ℕ) → x ≤ 2 * y → k * x ≤ 2 * (k * y)
    turn k x y l = omega (arith, mul-le-mul_left k l)

pub two_p : (b : ℕ) → 2 * den b * (2 ^ 48 - 1) ≤ over (b * N) b * 2 ^ 48
two_p b = rw (at_two b, den_is b) (turn (b ^ 23) (h 23 pcoef N (2 ^ 64)) (f23 * (2 ^ 64) ^ 23) two_lo)
  where
    turn : (k x y : ℕ) → 2 * y * (2 ^ 48 - 1) ≤ x * 2 ^ 48 → 2 * (k * y) * (2 ^ 48 - 1) ≤ k * x * 2 ^ 48
    turn k x y l = omega (arith, mul-le-mul_left k l)

pub P-below-two : (y b : ℕ) → y ≤ b * N → over y b ≤ 2 * den b
P-below-two y b l = le_trans (h_grows 23 pcoef y (b * N) (b * 2 ^ 64) l) (P-two b)

-- ---- P by its first terms
rest : List ℕ → List ℕ
rest [] = []
rest (x ∷ []) = []
rest (x ∷ y ∷ p) = p

later : List ℕ → List ℕ
later [] = []
later (x ∷ p) = p

shape : pcoef ≡ f23 ∷ f23 ∷ rest pcoef
unfolding pcoef f23 rest
shape = refl

split : (x b : ℕ) → h 23 pcoef x b ≡ f23 * b ^ 23 + x * (f23 * b ^ 22 + x * h 21 (rest pcoef) x b)
unfolding h rest
split x b = rw shape

half_shape : (f23 ≡ 2 * 12926008369442488320000) × (rest pcoef ≡ 12926008369442488320000 ∷ later (rest pcoef))
unfolding pcoef f23 rest later
half_shape = (refl, refl)

-- the third term is half of the square
third : (x b : ℕ) → f23 * b ^ 21 ≤ 2 * h 21 (rest pcoef) x b
unfolding h
third x b = rw (half_shape.1, half_shape.0) (turn 12926008369442488320000 (b ^ 21) (x * h 20 (later (rest pcoef)) x b))
  where
    turn : (c p r : ℕ) → 2 * c * p ≤ 2 * (c * p + r)
    turn c p r = omega arith

rest_one : h 21 (rest pcoef) 1 1 ≤ f23 * 1 ^ 21
unfolding h rest pcoef f23
rest_one = lit≤ tt

-- and the rest no more than the square, up to 1
rest_le : (x b : ℕ) → x ≤ b → h 21 (rest pcoef) x b ≤ f23 * b ^ 21
rest_le x b l = turn (h 21 (rest pcoef) x b) (h 21 (rest pcoef) 1 1) f23 (b ^ 21) (h_mono 21 (rest pcoef) x b 1 1 (omega arith)) rest_one
  where
    turn : (u v f p : ℕ) → u * 1 ^ 21 ≤ v * p → v ≤ f * 1 ^ 21 → u ≤ f * p
    turn u v f p k m = omega (arith, k, mul-le-mul_right p m)

-- arithmetic alone: f for 23!, p for B ^ 21, x / B = a / b, r what stands behind the square
one_more : (f p B b a x r : ℕ) → x * b ≡ a * B → (a + b) * (f * (B * (B * p))) ≤ (f * (B * (B * p)) + x * (f * (B * p) + x * r)) * b
one_more f p B b a x r e = omega (arith, ap (λ (n : ℕ). n * (f * B * p)) e)

half_more : (f p B b a x r : ℕ) → x * b ≡ a * B → f * p ≤ 2 * r
    → f * (B * (B * p)) * (2 * b * b + 2 * a * b + a * a) ≤ 2 * b * b * (f * (B * (B * p)) + x * (f * (B * p) + x * r))
half_more f p B b a x r e l = omega (arith, ap (λ (n : ℕ). n * (2 * b * f * B * p)) e, ap (λ (n : ℕ). n * n * (2 * r)) e, mul-le-mul_left (a * B * (a * B)) l)

no_more : (f p B b a x r : ℕ) → x * b ≡ a * B → r ≤ f * p → (f * (B * (B * p)) + x * (f * (B * p) + x * r)) * (b * b) ≤ f * (B * (B * p)) * (b * b + a * b + a * a)
no_more f p B b a x r e l = omega (arith, ap (λ (n : ℕ). n * (b * f * B * p)) e, ap (λ (n : ℕ). n * n * r) e, mul-le-mul_left (a * B * (a * B)) l)

-- P(a / b) is 1 + a / b and a little more, between half of the square and the square
module _ (a b : ℕ) where
  powers : (B : ℕ) → (B ^ 22 ≡ B * B ^ 21) × (B ^ 23 ≡ B * (B * B ^ 21))
  powers B = (pow-succ' B 21, pow-succ' B 22 ∙ ap (λ (n : ℕ). B * n) (pow-succ' B 21))

  same : a * 2 ^ 64 * b ≡ a * (b * 2 ^ 64)
  same = omega arith

  abbrev B : ℕ
  B = b * 2 ^ 64

  abbrev x : ℕ
  x = a * 2 ^ 64

  pub P-one-more : (a + b) * den b ≤ over x b * b
  P-one-more = rw (split x B, (powers B).1, (powers B).0) (one_more f23 (B ^ 21) B b a x (h 21 (rest pcoef) x B) same)

  pub P-half-more : den b * (2 * b * b + 2 * a * b + a * a) ≤ 2 * b * b * over x b
  P-half-more = rw (split x B, (powers B).1, (powers B).0) (half_more f23 (B ^ 21) B b a x (h 21 (rest pcoef) x B) same (third x B))

  pub P-no-more : a ≤ b → over x b * (b * b) ≤ den b * (b * b + a * b + a * a)
  P-no-more l = rw (split x B, (powers B).1, (powers B).0) (no_more f23 (B ^ 21) B b a x (h 21 (rest pcoef) x B) same (rest_le x B (mul-le-mul_right (2 ^ 64) l)))

-- ---- E as P
pub E-at : (a b : ℕ) → a * 2 ^ 64 < b * N → ((E false a b).num ≡ over (a * 2 ^ 64) b) × ((E false a b).den ≡ den b)
E-at a b l = (
  ap (λ (q : Frac). q.num) is ∙ one-mul (P (a * 2 ^ 64) (b * 2 ^ 64)).num ∙ P-num (a * 2 ^ 64) (b * 2 ^ 64),
  ap (λ (q : Frac). q.den) is ∙ P-den (a * 2 ^ 64) (b * 2 ^ 64),
)
  where
    is : E false a b ≡ record { num = 2 ^ 0 * (P (a * 2 ^ 64) (b * 2 ^ 64)).num; den = (P (a * 2 ^ 64) (b * 2 ^ 64)).den }
    is = E-up a b 0 (a * 2 ^ 64) (omega arith) l

-- ---- E is below 2 ^ 125 up to 86
under : (b x n : ℕ) → x ≤ 2 * n → b ≤ 2 ^ 124 → b * x ≤ 2 ^ 125 * n
under b x n l m = le_trans (mul-le-mul m l) (le_of_eq (sym (mul_assoc (2 ^ 124) 2 n)))

E-most-up : (a b : ℕ) → zero < b → a ≤ 86 * b → ((E false a b).num ≤ 2 ^ 125 * (E false a b).den) × (zero < (E false a b).den)
E-most-up a b z l =
    let k : ℕ = a * 2 ^ 64 / (b * N) in
    let y : ℕ = a * 2 ^ 64 % (b * N) in
    let is : k * (b * N) + y ≡ a * 2 ^ 64 = div-add-mod' (a * 2 ^ 64) (b * N) in
    let small : y < b * N = mod-lt (a * 2 ^ 64) (mul-pos z (lit< tt)) in
    rw (E-up a b k y is small, P-num y (b * 2 ^ 64), P-den y (b * 2 ^ 64))
    (under (2 ^ k) (over y b) (den b) (P-below-two y b (le_of_lt small)) (pow_mono (few k a b y z is l)), den_pos b z)
  where
    go : (k a b y n w : ℕ) → zero < b → k * (b * n) + y ≡ a * w → a ≤ 86 * b → 86 * w < 125 * n → k * (b * n) < 125 * (b * n)
    go k a b y n w z e l m = omega (arith, e, mul-le-mul_right w l, mul-lt-mul_of_pos_left {k = b} m z)

    last : (k : ℕ) → k < 125 → k ≤ 124
    last k h = omega arith

    few : (k a b y : ℕ) → zero < b → k * (b * N) + y ≡ a * 2 ^ 64 → a ≤ 86 * b → k ≤ 124
    few k a b y z e l = last k (lt_of_mul-lt-mul_right (b * N) {m = k} {n = 125} (go k a b y N (2 ^ 64) z e l (lit< tt)))

E-most-down : (a b : ℕ) → zero < b → ((E true a b).num ≤ 2 ^ 125 * (E true a b).den) × (zero < (E true a b).den)
E-most-down a b z =
    let k : ℕ = (a * 2 ^ 64 + (b * N - 1)) / (b * N) in
    let y : ℕ = k * (b * N) - a * 2 ^ 64 in
    let zm : zero < b * N = mul-pos z (lit< tt) in
    let ends : (y + a * 2 ^ 64 ≡ k * (b * N)) × (y < b * N) = omega (arith, zm, div-mul-le_self ((a * 2 ^ 64) + ((b * N) - 1)) (b * N), lt-div-mul-add {a = (a * 2 ^ 64) + ((b * N) - 1)} zm) in
    rw (E-down a b k y ends.0 ends.1, P-num y (b * 2 ^ 64), P-den y (b * 2 ^ 64))
    (le_trans (P-below-two y b (le_of_lt ends.1)) (mul-le-mul (two_le) (le_trans (le_of_eq (sym (one-mul (den b)))) (mul-le-mul_right (den b) (pow_pos k)))), mul-pos (pow_pos k) (den_pos b z))
  where
    two_le : 2 ≤ 2 ^ 125
    two_le = lit≤ tt

pub E-most : (s : Bool) (a b : ℕ) → zero < b → a ≤ 86 * b → ((E s a b).num ≤ 2 ^ 125 * (E s a b).den) × (zero < (E s a b).den)
E-most false a b z l = E-most-up a b z l
E-most true a b z l = E-most-down a b z
