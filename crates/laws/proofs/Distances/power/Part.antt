-- The two chains as the definition cuts them. Assumes nothing.
use mathlib.Core.List.{[], ◌∷◌}
use Prim.Native.Nat.{ℕ, ◌+◌, ◌*◌, ◌/◌, ◌^◌, ◌≤◌}
use native.Mathlib.Nat.{le_trans, div-mul-le_self}
use native.Mathlib.Omega.{arith}
use lib.Dec.{lit<, lit≤}
use lib.Ieee.{Format, binary32, binary64}
use Rattle.table.specs.Exact.{fact}
use Rattle.kernels.specs.Power.{hi, coef, upper, double4, double3, double2, double1, single1, part}
use Rattle.kernels.proofs.Definitions.Hi.{hi_le, hi_ge}
use Rattle.laws.proofs.Distances.power.Chain.{total, Chain, Cut, last, step, narrow}
use Rattle.laws.proofs.Distances.power.Polynomial.{scale_of, terms, rest, whole}

-- what the cuts of a chain take from it
abbrev pub lost : Format → ℕ
lost binary32 = 4
lost binary64 = 282

-- ---- the three kinds of products
-- f by its 32 digits, v whole
short : (f v : ℕ) → v ≤ 2 ^ 32 → Cut f v (2 ^ 44) (upper f * v / 2 ^ 32) 2
short f v l =
    narrow f v (2 ^ 12) 1 (2 ^ 32) (upper f) v 0 1 (lit< tt) (div-mul-le_self f (2 ^ 12)) (omega arith) (omega arith) (omega arith) (omega arith)

-- v without its last 8 digits
shorter : (f v : ℕ) → f ≤ 2 ^ 44 → v ≤ 2 ^ 36 → Cut f v (2 ^ 44) (upper f * (v / 2 ^ 8) / 2 ^ 24) 272
shorter f v k l =
    narrow f v (2 ^ 12) (2 ^ 8) (2 ^ 24) (upper f) (v / 2 ^ 8) 255 271 (lit< tt) (div-mul-le_self f (2 ^ 12)) (omega arith) (div-mul-le_self v (2 ^ 8))
    (omega arith) (omega arith)

-- the long product
long : (f v : ℕ) → Cut f v (2 ^ 44) (hi (2 ^ 20 * f) v) 3
long f v = record { under = omega (arith, hi_le (2 ^ 20 * f) v); over = omega (arith, hi_ge (2 ^ 20 * f) v) }

-- ---- the chains
-- what the products' second factors are at most
record Sizes : Type 0 where
  single2 : coef 40 2 ≤ 2 ^ 32
  single1 : total (coef 40 1 ∷ coef 40 2 ∷ []) ≤ 2 ^ 32
  double5 : coef 64 5 ≤ 2 ^ 32
  double4 : total (coef 64 4 ∷ coef 64 5 ∷ []) ≤ 2 ^ 32
  double3 : total (coef 64 3 ∷ coef 64 4 ∷ coef 64 5 ∷ []) ≤ 2 ^ 36

sizes : Sizes
unfolding total coef fact
sizes = record { single2 = lit≤ tt; single1 = lit≤ tt; double5 = lit≤ tt; double4 = lit≤ tt; double3 = lit≤ tt }

module _ (f : ℕ) (l : f ≤ 2 ^ 44) where
  at_single1 : Chain 1 (coef 40 1 ∷ coef 40 2 ∷ []) f (2 ^ 44) (single1 f) 2
  unfolding single1
  at_single1 = step (lit< tt) l (short f (coef 40 2) sizes.single2) (last (coef 40 2) f (2 ^ 44))

  at_single : Chain 2 (scale_of binary32 ∷ coef 40 1 ∷ coef 40 2 ∷ []) f (2 ^ 44) (scale_of binary32 + part binary32 f) 4
  unfolding part
  at_single = step (lit< tt) l (short f (single1 f) (le_trans at_single1.most sizes.single1)) at_single1

  at4 : Chain 1 (coef 64 4 ∷ coef 64 5 ∷ []) f (2 ^ 44) (double4 f) 2
  unfolding double4
  at4 = step (lit< tt) l (short f (coef 64 5) sizes.double5) (last (coef 64 5) f (2 ^ 44))

  at3 : Chain 2 (coef 64 3 ∷ coef 64 4 ∷ coef 64 5 ∷ []) f (2 ^ 44) (double3 f) 4
  unfolding double3
  at3 = step (lit< tt) l (short f (double4 f) (le_trans at4.most sizes.double4)) at4

  at2 : Chain 3 (coef 64 2 ∷ coef 64 3 ∷ coef 64 4 ∷ coef 64 5 ∷ []) f (2 ^ 44) (double2 f) 276
  unfolding double2
  at2 = step (lit< tt) l (shorter f (double3 f) l (le_trans at3.most sizes.double3)) at3

  at1 : Chain 4 (coef 64 1 ∷ coef 64 2 ∷ coef 64 3 ∷ coef 64 4 ∷ coef 64 5 ∷ []) f (2 ^ 44) (double1 f) 279
  unfolding double1
  at1 = step (lit< tt) l (long f (double2 f)) at2

  at_double : Chain 5 (scale_of binary64 ∷ coef 64 1 ∷ coef 64 2 ∷ coef 64 3 ∷ coef 64 4 ∷ coef 64 5 ∷ []) f (2 ^ 44) (scale_of binary64 + part binary64 f) 282
  unfolding part
  at_double = step (lit< tt) l (long f (double1 f)) at1

pub part_chain : (p : Format) (f : ℕ) → f ≤ 2 ^ 44 → Chain (terms p) (whole p) f (2 ^ 44) (scale_of p + part p f) (lost p)
unfolding rest
part_chain binary32 f l = at_single f l
part_chain binary64 f l = at_double f l

whole_most : (p : Format) → total (whole p) * 256 ≤ scale_of p * 257
unfolding total rest coef fact
whole_most binary32 = lit≤ tt
whole_most binary64 = lit≤ tt

-- e ^ s - 1 is at most 1 / 256
pub part_small : (p : Format) (f : ℕ) → f ≤ 2 ^ 44 → part p f * 256 ≤ scale_of p
part_small p f l = omega (arith, (part_chain p f l).most, whole_most p)
