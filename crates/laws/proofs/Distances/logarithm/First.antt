-- Next to 1: t - t^2/2 + t^3/3 against L's series, for 0 ≤ t ≤ 1/512, by P(t + t^3/3) against (1 + t) P(t^2/2). Assumes nothing.
use mathlib.Core.Path.{◌≡◌}
use mathlib.Core.List.{List, [], ◌∷◌}
use Prim.Native.Nat.{ℕ, ◌+◌, ◌*◌, ◌^◌, ◌≤◌}
use native.Mathlib.Omega.{arith}
use lib.Dec.{T, lit<, lit≤}
use Rattle.table.proofs.Exact.Poly.{h, add, scale, axpy, mul, comp}
use Rattle.table.proofs.Exact.Laws.{sub, fits, near, h_scale, h_lift, h_mul, h_comp, fits_comp, fits_mul, pow-one}
use Rattle.table.proofs.Exact.Terms.{pcoef, f23}
use Rattle.laws.proofs.Distances.logarithm.Sum.{PP}

abbrev sa : List ℕ
sa = 0 ∷ 3 ∷ 0 ∷ 1 ∷ []

abbrev sb : List ℕ
sb = 0 ∷ 0 ∷ 1 ∷ []

pub pa : List ℕ
pa = comp 23 pcoef 3 sa

pub pb : List ℕ
pb = comp 23 pcoef 2 sb

-- (1 + t) P(t^2/2), and 3 + t^4 times that
q1 : List ℕ
q1 = mul (1 ∷ 1 ∷ []) pb

q2 : List ℕ
q2 = mul (3 ∷ 0 ∷ 0 ∷ 0 ∷ 1 ∷ []) q1

test_i : h 69 (sub (scale (3 ^ 23) q1) (scale (2 ^ 23) pa)) 1 512 * 1 ≤ 0 * 512 ^ 69
unfolding h sub scale q1 pa pb comp mul axpy add pcoef
test_i = lit≤ tt

test_ii : h 69 (sub (scale (3 * 2 ^ 23) pa) (scale (3 ^ 23) q2)) 1 512 * 2 ^ 90 ≤ 3 * 2 ^ 23 * 3 ^ 23 * f23 * 512 ^ 69
unfolding h sub scale q2 q1 pa pb comp mul axpy add pcoef f23
test_ii = lit≤ tt

-- t + t^3/3 and t^2/2 at n / b
abbrev pub An : ℕ → ℕ → ℕ
An n b = h 3 sa n b

abbrev pub Bn : ℕ → ℕ → ℕ
Bn n b = h 2 sb n b

pub PA : (n b : ℕ) → PP (An n b) (3 * b ^ 3) ≡ h 69 pa n b
unfolding pa
PA n b = h_comp 23 3 pcoef 3 sa n b tt

pub PB : (n b : ℕ) → PP (Bn n b) (2 * b ^ 2) ≡ h 46 pb n b
unfolding pb
PB n b = h_comp 23 2 pcoef 2 sb n b tt

fits_b : T (fits 46 pb)
unfolding pb
fits_b = fits_comp 23 2 pcoef 2 sb tt

fits_1 : T (fits 47 q1)
unfolding q1
fits_1 = fits_mul 1 46 (1 ∷ 1 ∷ []) pb tt fits_b

fits_2 : T (fits 51 q2)
unfolding q2
fits_2 = fits_mul 4 47 (3 ∷ 0 ∷ 0 ∷ 0 ∷ 1 ∷ []) q1 tt fits_1

l1_is : (n b : ℕ) → h 1 (1 ∷ 1 ∷ []) n b ≡ n + b
unfolding h
l1_is n b = rw (pow-one b) (omega arith)

l4_is : (n b : ℕ) → h 4 (3 ∷ 0 ∷ 0 ∷ 0 ∷ 1 ∷ []) n b ≡ 3 * b ^ 4 + n * (n * (n * n))
unfolding h
l4_is n b = omega arith

q1_is : (n b : ℕ) → h 47 q1 n b ≡ (n + b) * h 46 pb n b
unfolding q1
q1_is n b = rw (h_mul 1 46 (1 ∷ 1 ∷ []) pb n b tt fits_b, l1_is n b)

q2_is : (n b : ℕ) → h 51 q2 n b ≡ (3 * b ^ 4 + n * (n * (n * n))) * ((n + b) * h 46 pb n b)
unfolding q2
q2_is n b = rw (h_mul 4 47 (3 ∷ 0 ∷ 0 ∷ 0 ∷ 1 ∷ []) q1 n b tt fits_1, l4_is n b, q1_is n b)

pub at_i : (n b : ℕ) → n * 512 ≤ 1 * b → 3 ^ 23 * (b ^ 22 * ((n + b) * h 46 pb n b)) ≤ 2 ^ 23 * h 69 pa n b
at_i n b l =
    rw (h_scale 69 (3 ^ 23) q1 n b, h_scale 69 (2 ^ 23) pa n b, h_lift 22 47 q1 n b fits_1, q1_is n b) at
    (plain (h 69 (scale (3 ^ 23) q1) n b) (h 69 (scale (2 ^ 23) pa) n b) (b ^ 69) (near 69 (scale (3 ^ 23) q1) (scale (2 ^ 23) pa) n b 1 512 1 0 l (lit< tt) test_i))
  where
    plain : (x y p : ℕ) → x * 1 ≤ y * 1 + 0 * p → x ≤ y
    plain x y p l = omega arith

pub at_ii : (n b : ℕ) → n * 512 ≤ 1 * b
    → 3 * 2 ^ 23 * h 69 pa n b * 2 ^ 90 ≤ 3 ^ 23 * (b ^ 18 * ((3 * b ^ 4 + n * (n * (n * n))) * ((n + b) * h 46 pb n b))) * 2 ^ 90 + 3 * 2 ^ 23 * 3 ^ 23 * f23 * b ^ 69
at_ii n b l =
    rw (h_scale 69 (3 ^ 23) q2 n b, h_scale 69 (3 * 2 ^ 23) pa n b, h_lift 18 51 q2 n b fits_2, q2_is n b) at
    (near 69 (scale (3 * 2 ^ 23) pa) (scale (3 ^ 23) q2) n b 1 512 (2 ^ 90) (3 * 2 ^ 23 * 3 ^ 23 * f23) l (lit< tt) test_ii)
