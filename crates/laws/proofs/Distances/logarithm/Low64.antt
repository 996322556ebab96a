-- The double chain, its upper terms cut to fewer digits, against the polynomial l: never above it, and at most six units of 2 ^ -64 below. Assumes nothing.
use mathlib.Core.Path.{◌≡◌, refl, ap, subst}
use mathlib.Core.List.{List, [], ◌∷◌}
use Prim.Native.Nat.{ℕ, zero, suc, ◌+◌, ◌*◌, ◌/◌, ◌^◌, ◌≤◌, ◌<◌}
use native.Mathlib.Nat.{le_trans, le_refl, le_of_lt, mul-le-mul, mul-le-mul_left, mul-le-mul_right, le_of_mul-le-mul_left, le_of_mul-le-mul_right, pow-succ', zero-add, one-le-pow, div-mul-le_self}
use native.Mathlib.Omega.{arith}
use lib.Dec.{lit<, lit≤}
use Rattle.table.proofs.Exact.Poly.{h}
use Rattle.table.proofs.Exact.Laws.{h_mono}
use Rattle.kernels.specs.Power.{hi}
use Rattle.kernels.specs.Logarithm.{low64}
use Rattle.kernels.proofs.Definitions.Hi.{hi_le, hi_ge}
use Rattle.table.proofs.Exact.Below.{lcoef}
use Rattle.laws.proofs.Distances.power.Chain.{Cut, le_cut, quotient}
use Rattle.laws.proofs.Distances.logarithm.Sum.{Ln, Ld, Ld-pos, L-small}

pub le_hi : (a b : ℕ) → a * b ≤ (hi a b + 3) * 2 ^ 64
le_hi a b = le_of_lt (hi_ge a b)

-- ---- one step c + e H / d of a chain, q the quotient: H is in units of U, the answer in units of U1, e in units of E, g in units of w
up : (H c e q d U U1 E k t W w y g : ℕ) → zero < d → q * d ≤ e * H → e * w ≤ g * E → d * U1 ≡ E * U → c * k ≤ U1 * t → H * k * W ≤ U * y
    → (c + q) * k * (w * W) ≤ U1 * (t * (w * W) + g * y)
up H c e q d U U1 E k t W w y g z a b u m l = omega (arith, mul-le-mul_right (w * W) m, main)
  where
    main : q * (k * (w * W)) ≤ U1 * (g * y)
    main = le_of_mul-le-mul_left {k = d} (le_trans (omega (arith, mul-le-mul_right (k * (w * W)) a)) (subst (λ (x : ℕ). (e * w) * (H * k * W) ≤ x) (omega (arith, ap (λ (x : ℕ). x * (g * y)) u))
        (mul-le-mul b l))) z

-- j and s bound the quotient's and the coefficient's cut, r the argument's, D what H lacks; D1 is what the answer lacks
down : (H c e q d U U1 E k t W w y g j s r D D1 Em R : ℕ) → zero < d → e * H ≤ (q + j) * d → g * E ≤ (e + r) * w → d * U1 ≡ E * U → U1 * t ≤ (c + s) * k
    → U * y ≤ (H + D) * k * W → e ≤ Em → r * (H + D) ≤ R → d * j + Em * D + R + s * d ≤ D1 * d
    → U1 * (t * (w * W) + g * y) ≤ (c + q + D1) * k * (w * W)
down H c e q d U U1 E k t W w y g j s r D D1 Em R z a b u m l n p test =
    le_of_mul-le-mul_left {k = d} (le_trans {m = d * ((c + s) * k) * (w * W) + (e + r) * (H + D) * (k * (w * W))} (omega (
      arith,
      m,
      subst (λ (x : ℕ). x ≤ (e + r) * (H + D) * (k * (w * W))) s3 (subst (λ (x : ℕ). (g * E) * (U * y) ≤ x) (omega arith)
          (mul-le-mul b l)),
      mul-le-mul_right (d * (w * W)) m,
    )) two) z
  where
    s3 : (g * E) * (U * y) ≡ d * (U1 * (g * y))
    s3 = omega (arith, ap (λ (x : ℕ). x * (g * y)) u)

    two : d * ((c + s) * k) * (w * W) + (e + r) * (H + D) * (k * (w * W)) ≤ d * ((c + q + D1) * k * (w * W))
    two = fit ((e + r) * (H + D)) d (c + s) k (w * W) (c + q + D1) (omega (arith, a, p, test, mul-le-mul_right D n))
      where
        fit : (a d b k x v : ℕ) → a + d * b ≤ d * v → d * (b * k) * x + a * (k * x) ≤ d * (v * k * x)
        fit a d b k x v l = omega (arith, mul-le-mul_right (k * x) l)

-- the same of polynomials
hstep : (K t : ℕ) (p : List ℕ) (g w : ℕ) → h (suc K) (t ∷ p) g w ≡ t * (w * w ^ K) + g * h K p g w
unfolding h
hstep K t p g w = rw (pow-succ' w K)

-- ---- the same on both sides, and the size
-- e is g in units of 1 / E, but for r, and at most m
pub record Arg (g e E r m : ℕ) : Type 0 where
  pub under : e * 2 ^ 64 ≤ g * E
  pub over : g * E ≤ (e + r) * 2 ^ 64
  pub most : e ≤ m

-- H, in units of U, is never above p at g / 2 ^ 64, at most D below, and at most B
pub record Stage (K : ℕ) (p : List ℕ) (g H D U B : ℕ) : Type 0 where
  pub never : H * 420 * (2 ^ 64) ^ K ≤ U * h K p g (2 ^ 64)
  pub nearly : U * h K p g (2 ^ 64) ≤ (H + D) * 420 * (2 ^ 64) ^ K
  pub most : H ≤ B

pub step : {K : ℕ} {p : List ℕ} {g e E r m H D U B d q j : ℕ} (c U1 t s D1 B1 : ℕ) → Cut e H d q j → Arg g e E r m → Stage K p g H D U B
    → zero < d → d * U1 ≡ E * U → c * 420 ≤ U1 * t → U1 * t ≤ (c + s) * 420 → d * j + m * D + r * (B + D) + s * d ≤ D1 * d → c * d + m * B ≤ B1 * d
    → Stage (suc K) (t ∷ p) g (c + q) D1 U1 B1
step {K} {p} {g} {e} {E} {r} {m} {H} {D} {U} {B} {d} {q} {j} c U1 t s D1 B1 k a x z u lo hi few size = record {
  never = rw (hstep K t p g (2 ^ 64), pow-succ' (2 ^ 64) K) (up H c e q d U U1 E 420 t ((2 ^ 64) ^ K) (2 ^ 64) (h K p g (2 ^ 64)) g z k.under a.under u lo x.never);
  nearly =
      rw (hstep K t p g (2 ^ 64), pow-succ' (2 ^ 64) K)
      (down H c e q d U U1 E 420 t ((2 ^ 64) ^ K) (2 ^ 64) (h K p g (2 ^ 64)) g j s r D D1 m (r * (B + D)) z
      k.over a.over u hi x.nearly a.most (mul-le-mul_left r (more H B D x.most)) few);
  most = fits c e q H d m B B1 z k.under a.most x.most size;
}
  where
    more : (H B D : ℕ) → H ≤ B → H + D ≤ B + D
    more H B D l = omega arith

    fits : (c e q H d m B B1 : ℕ) → zero < d → q * d ≤ e * H → e ≤ m → H ≤ B → c * d + m * B ≤ B1 * d → c + q ≤ B1
    fits c e q H d m B B1 z a l n t = le_of_mul-le-mul_right {k = d} (omega (arith, mul-le-mul l n)) z

-- ---- the polynomial's coefficients, from the second term on
abbrev p6 : List ℕ
p6 = 70 ∷ 60 ∷ []

abbrev pub p5 : List ℕ
p5 = 84 ∷ p6

abbrev pub p4 : List ℕ
p4 = 105 ∷ p5

abbrev pub p3 : List ℕ
p3 = 140 ∷ p4

abbrev pub p2 : List ℕ
p2 = 210 ∷ p3

h_is : (t g w : ℕ) → h 7 (0 ∷ t ∷ p2) g w ≡ 0 * (w * w ^ 6) + g * (t * w ^ 6 + g * h 5 p2 g w)
unfolding h
h_is t g w = hstep 6 0 (t ∷ p2) g w

pub Ln-is : (g w : ℕ) → Ln g w ≡ 0 * (w * w ^ 6) + g * (420 * w ^ 6 + g * h 5 p2 g w)
unfolding lcoef
Ln-is g w = h_is 420 g w

-- a tail of it up to the largest gap, computed there
pub tail_le : (K : ℕ) (p : List ℕ) (g U c : ℕ) → g * 2560 ≤ 12 * 2 ^ 64 → U * h K p 12 2560 ≤ c * 2560 ^ K → U * h K p g (2 ^ 64) ≤ c * (2 ^ 64) ^ K
tail_le K p g U c m l =
    le_of_mul-le-mul_right {k = 2560 ^ K} (omega (arith, l, mul-le-mul_left U (h_mono K p g (2 ^ 64) 12 2560 m), mul-le-mul_right ((2 ^ 64) ^ K) l))
    (one-le-pow K 2560 (lit< tt))

-- what does not lie above the polynomial is small
pub below_small : (l g : ℕ) → g * 2560 ≤ 12 * 2 ^ 64 → l * Ld (2 ^ 64) ≤ Ln g (2 ^ 64) * 2 ^ 64 → l * 2560 ≤ 13 * 2 ^ 64
below_small l g m a = fit l (Ld (2 ^ 64)) (Ln g (2 ^ 64)) (2 ^ 64) (Ld-pos (2 ^ 64) (lit< tt)) a (L-small g (2 ^ 64) m)
  where
    fit : (l d n w : ℕ) → zero < d → l * d ≤ n * w → n * 2560 ≤ 13 * d → l * 2560 ≤ 13 * w
    fit l d n w z a b = le_of_mul-le-mul_right {k = d} (omega (arith, mul-le-mul_right w b)) z

-- y, in units of 1 / Z, is never above the polynomial at g, and at most r below
pub record Chain (g y r Z : ℕ) : Type 0 where
  pub never : y * Ld (2 ^ 64) ≤ Ln g (2 ^ 64) * Z
  pub nearly : Ln g (2 ^ 64) * Z ≤ (y + r) * Ld (2 ^ 64)

-- ---- the chain's numbers at g
fin_up : (g q2 w W y : ℕ) → (0 + q2) * 420 * (w * W) ≤ w * (0 * (w * W) + g * (0 * W + g * y)) → (g + q2) * (420 * (w * W)) ≤ (0 * (w * W) + g * (420 * W + g * y)) * w
fin_up g q2 w W y l = omega arith

fin_down : (g q2 w W y D : ℕ) → w * (0 * (w * W) + g * (0 * W + g * y)) ≤ (0 + q2 + D) * 420 * (w * W)
    → (0 * (w * W) + g * (420 * W + g * y)) * w ≤ (g + q2 + D) * (420 * (w * W))
fin_down g q2 w W y D l = omega arith

upper : (g : ℕ) → g * 2560 ≤ 12 * 2 ^ 64 → Arg g (g / 2 ^ 24) (2 ^ 40) 1 5153960755
upper g m =
    record { under = omega (arith, div-mul-le_self g (2 ^ 24)); over = omega (arith, le_cut g (2 ^ 24) (lit< tt)); most = omega (arith, div-mul-le_self g (2 ^ 24)) }

whole : (g : ℕ) → g * 2560 ≤ 12 * 2 ^ 64 → Arg g g (2 ^ 64) 0 86469331344763290
whole g m = record { under = le_refl (g * 2 ^ 64); over = omega arith; most = omega arith }

product : (g H : ℕ) → Cut g H (2 ^ 64) (hi g H) 3
product g H = record { under = hi_le g H; over = le_hi g H }

last : (g : ℕ) → Stage 0 (60 ∷ []) g (2 ^ 33 / 7) 1 (2 ^ 33) (2 ^ 33 / 7)
unfolding h
last g = record { never = lit≤ tt; nearly = lit≤ tt; most = le_refl (2 ^ 33 / 7) }

pub chain : (g : ℕ) → g * 2560 ≤ 12 * 2 ^ 64 → Chain g (low64 g) 6 (2 ^ 64)
unfolding low64
chain g m =
    let w = 2 ^ 64 in
    let e = g / 2 ^ 24 in
    let H6 = 2 ^ 33 / 6 + e * (2 ^ 33 / 7) / 2 ^ 40 in
    let H5 = 2 ^ 33 / 5 + e * H6 / 2 ^ 40 in
    let H4 = 2 ^ 33 / 4 + e * H5 / 2 ^ 40 in
    let H3 = 2 ^ 64 / 3 + e * H4 / 2 ^ 9 in
    let H2 = 2 ^ 63 + hi g H3 in
    let E = upper g m in
    let G = whole g m in
    let s6 = step (2 ^ 33 / 6) (2 ^ 33) 70 1 3 (2 ^ 33) (quotient e (2 ^ 33 / 7) (2 ^ 40) (lit< tt)) E (last g) (lit< tt) refl (lit≤ tt) (lit≤ tt) (lit≤ tt) (lit≤ tt) in
    let s5 = step (2 ^ 33 / 5) (2 ^ 33) 84 1 3 (2 ^ 33) (quotient e H6 (2 ^ 40) (lit< tt)) E s6 (lit< tt) refl (lit≤ tt) (lit≤ tt) (lit≤ tt) (lit≤ tt) in
    let s4 = step (2 ^ 33 / 4) (2 ^ 33) 105 0 2 (2 ^ 31 + 2 ^ 26) (quotient e H5 (2 ^ 40) (lit< tt)) E s5 (lit< tt) refl (lit≤ tt) (lit≤ tt) (lit≤ tt) (lit≤ tt) in
    let s3 = step (2 ^ 64 / 3) w 140 1 24458100 w (quotient e H4 (2 ^ 9) (lit< tt)) E s4 (lit< tt) refl (lit≤ tt) (lit≤ tt) (lit≤ tt) (lit≤ tt) in
    let s2 = step (2 ^ 63) w 210 0 114651 w (product g H3) G s3 (lit< tt) refl (lit≤ tt) (lit≤ tt) (lit≤ tt) (lit≤ tt) in
    let s1 : Stage 6 (0 ∷ p2) g (0 + hi g H2) 541 w w = step 0 w 0 0 541 w (product g H2) G s2 (lit< tt) refl (lit≤ tt) (lit≤ tt) (lit≤ tt) (lit≤ tt) in
    let s0 = step 0 w 0 0 6 w (product g (hi g H2)) G (rw (zero-add (hi g H2)) at s1) (lit< tt) refl (lit≤ tt) (lit≤ tt) (lit≤ tt) (lit≤ tt) in
    record {
      never = rw (Ln-is g w) (fin_up g (hi g (hi g H2)) w (w ^ 6) (h 5 p2 g w) (rw (h_is 0 g w) at s0.never));
      nearly = rw (Ln-is g w) (fin_down g (hi g (hi g H2)) w (w ^ 6) (h 5 p2 g w) 6 (rw (h_is 0 g w) at s0.nearly));
    }
