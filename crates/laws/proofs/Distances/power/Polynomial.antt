-- The chains for e ^ s - 1 against P: s = f / W of a step, f ≤ W, in units of 1 / scale_of. Assumes nothing.
use mathlib.Core.Path.{◌≡◌, refl, ap, ◌∙◌}
use mathlib.Core.List.{List, [], ◌∷◌}
use Prim.Native.Nat.{ℕ, zero, suc, ◌+◌, ◌*◌, ◌^◌, ◌≤◌}
use native.Mathlib.Nat.{mul_comm, mul-le-mul_left}
use native.Mathlib.Omega.{arith}
use lib.Dec.{T, lit<, lit≤}
use lib.Ieee.{Format, binary32, binary64}
use lib.Pow.{pow-add}
use Rattle.table.specs.Exact.{N, fact}
use Rattle.table.proofs.Exact.Poly.{h, scale}
use Rattle.table.proofs.Exact.Laws.{sub, fits, h_scale, h_lift, near, pow-mul}
use Rattle.table.proofs.Exact.Terms.{pcoef, f23}
use Rattle.laws.proofs.Distances.power.Steps.{value, denom, D, denom_is}
use Rattle.kernels.specs.Power.{coef}
use Rattle.laws.proofs.Distances.power.Chain.{Chain}

-- one, in the units of `part`
abbrev pub scale_of : Format → ℕ
scale_of binary32 = 2 ^ 40
scale_of binary64 = 2 ^ 64

abbrev pub terms : Format → ℕ
terms binary32 = 2
terms binary64 = 5

-- the coefficients, after the constant one
unfoldable pub rest : Format → List ℕ
unfolding coef
rest binary32 = coef 40 1 ∷ coef 40 2 ∷ []
rest binary64 = coef 64 1 ∷ coef 64 2 ∷ coef 64 3 ∷ coef 64 4 ∷ coef 64 5 ∷ []

abbrev pub whole : Format → List ℕ
whole f = scale_of f ∷ rest f

-- what the missing terms and the cuts of the coefficients weigh
abbrev pub tail : Format → ℕ
tail binary32 = 3642
tail binary64 = 14

-- p at n a / (g b), as a polynomial in a / b
unfoldable stretch : (K n g : ℕ) → List ℕ → List ℕ
stretch zero n g p = p
stretch (suc K) n g [] = []
stretch (suc K) n g (c ∷ p) = c * g ^ suc K ∷ scale n (stretch K n g p)

h_stretch : (K n g : ℕ) (p : List ℕ) (a b : ℕ) → h K p (n * a) (g * b) ≡ h K (stretch K n g p) a b
unfolding h stretch
h_stretch zero n g [] a b = refl
h_stretch zero n g (c ∷ p) a b = refl
h_stretch (suc K) n g [] a b = refl
h_stretch (suc K) n g (c ∷ p) a b = rw (h_stretch K n g p a b, h_scale K n (stretch K n g p) a b, pow-mul g b (suc K)) (omega arith)

pc : List ℕ
pc = stretch 23 N (2 ^ 72) pcoef

no_more : (f : Format) → h 23 (sub (scale D (whole f)) (scale (scale_of f) pc)) 1 1 * 1 ≤ 0 * 1 ^ 23
unfolding h sub scale stretch pcoef rest coef fact D pc f23
no_more binary32 = lit≤ tt
no_more binary64 = lit≤ tt

little_less : (f : Format) → h 23 (sub (scale (scale_of f) pc) (scale D (whole f))) 1 1 * 1 ≤ tail f * D * 1 ^ 23
unfolding h sub scale stretch pcoef rest coef fact D pc f23
little_less binary32 = lit≤ tt
little_less binary64 = lit≤ tt

fits_whole : (f : Format) → T (fits (terms f) (whole f))
unfolding rest
fits_whole binary32 = tt
fits_whole binary64 = tt

value_at : (x W : ℕ) → value W (N * x) ≡ h 23 pc x W
unfolding pc
value_at x W = ap (h 23 pcoef (N * x)) (mul_comm W (2 ^ 72)) ∙ h_stretch 23 N (2 ^ 72) pcoef x W

abbrev others : Format → ℕ
others binary32 = 21
others binary64 = 18

lift : (f : Format) (x W : ℕ) → h 23 (whole f) x W ≡ W ^ others f * h (terms f) (whole f) x W
lift binary32 x W = h_lift 21 2 (whole binary32) x W (fits_whole binary32)
lift binary64 x W = h_lift 18 5 (whole binary64) x W (fits_whole binary64)

pow_is : (f : Format) (W : ℕ) → W ^ 23 ≡ W ^ others f * W ^ terms f
pow_is binary32 W = pow-add W 21 2
pow_is binary64 W = pow-add W 18 5

-- what the tests say at x / W
at_le : (f : Format) (x W : ℕ) → x * 1 ≤ 1 * W → D * h 23 (whole f) x W ≤ scale_of f * h 23 pc x W
at_le f x W l =
    rw (← h_scale 23 D (whole f) x W, ← h_scale 23 (scale_of f) pc x W)
    (omega (arith, near 23 (scale D (whole f)) (scale (scale_of f) pc) x W 1 1 1 0 l (lit< tt) (no_more f)))

le_at : (f : Format) (x W : ℕ) → x * 1 ≤ 1 * W → scale_of f * h 23 pc x W ≤ D * h 23 (whole f) x W + tail f * D * W ^ 23
le_at f x W l =
    rw (← h_scale 23 D (whole f) x W, ← h_scale 23 (scale_of f) pc x W)
    (omega (arith, near 23 (scale (scale_of f) pc) (scale D (whole f)) x W 1 1 1 (tail f * D) l (lit< tt) (little_less f)))

module _ (f : Format) (x W v e : ℕ) (l : x ≤ W) (c : Chain (terms f) (whole f) x W v e) where
  pub poly_le : v * denom W ≤ scale_of f * value W (N * x)
  poly_le =
      rw (denom_is W, value_at x W, pow_is f W)
      (omega (arith, (rw (lift f x W) at (at_le f x W (omega arith))), mul-le-mul_left (D * (W ^ others f)) c.under))

  pub le_poly : scale_of f * value W (N * x) ≤ (v + (e + tail f)) * denom W
  le_poly =
      rw (denom_is W, value_at x W, pow_is f W)
      (omega (arith, (rw (lift f x W, pow_is f W) at (le_at f x W (omega arith))), mul-le-mul_left (D * (W ^ others f)) c.over))
