-- P(u) P(v) against P(u + v), for 0 ≤ u ≤ 7/10 and 0 ≤ v ≤ 13/2560. Assumes nothing.
use mathlib.Core.Path.{◌≡◌}
use mathlib.Core.List.{List}
use Prim.Native.Nat.{ℕ, ◌+◌, ◌*◌, ◌^◌, ◌≤◌}
use native.Mathlib.Omega.{arith}
use lib.Dec.{T, lit<, lit≤}
use Rattle.table.proofs.Exact.Poly.{h, add, scale}
use Rattle.table.proofs.Exact.Laws.{sub, fits, h_scale, h_lift}
use Rattle.table.proofs.Exact.Two.{h2, outer, bin, add2, shift2, sub2, h2_outer, h2_bin, near2}
use Rattle.table.proofs.Exact.Terms.{pcoef, f23}

pub prod : List (List ℕ)
prod = outer pcoef pcoef

pub sum : List (List ℕ)
sum = bin 46 (scale f23 pcoef)

no_more : h2 46 (sub2 sum prod) 1792 13 2560 * 1 ≤ 0 * 2560 ^ 46
unfolding h2 sub2 sum prod outer bin add2 shift2 pcoef scale add sub h f23
no_more = lit≤ tt

little_less : h2 46 (sub2 prod sum) 1792 13 2560 * 2 ^ 93 ≤ f23 * f23 * 2560 ^ 46
unfolding h2 sub2 sum prod outer bin add2 shift2 pcoef scale add sub h f23
little_less = lit≤ tt

fits_p : T (fits 23 pcoef)
unfolding pcoef
fits_p = tt

prod_is : (a c b : ℕ) → h2 46 prod a c b ≡ h 23 pcoef a b * h 23 pcoef c b
unfolding prod
prod_is a c b = h2_outer 23 23 pcoef pcoef a c b fits_p fits_p

sum_is : (a c b : ℕ) → h2 46 sum a c b ≡ f23 * (b ^ 23 * h 23 pcoef (a + c) b)
unfolding sum
sum_is a c b = rw (h2_bin 46 (scale f23 pcoef) a c b, h_scale 46 f23 pcoef (a + c) b, h_lift 23 23 pcoef (a + c) b fits_p)

pub sum-le : (a c b : ℕ) → a * 2560 ≤ 1792 * b → c * 2560 ≤ 13 * b → f23 * (b ^ 23 * h 23 pcoef (a + c) b) ≤ h 23 pcoef a b * h 23 pcoef c b
sum-le a c b l m = rw (← prod_is a c b, ← sum_is a c b) (omega (arith, near2 46 sum prod a c b 1792 13 2560 1 0 l m (lit< tt) no_more))

pub prod_le : (a c b : ℕ) → a * 2560 ≤ 1792 * b → c * 2560 ≤ 13 * b
    → h 23 pcoef a b * h 23 pcoef c b * 2 ^ 93 ≤ f23 * (b ^ 23 * h 23 pcoef (a + c) b) * 2 ^ 93 + f23 * f23 * b ^ 46
prod_le a c b l m = rw (← prod_is a c b, ← sum_is a c b) (near2 46 prod sum a c b 1792 13 2560 (2 ^ 93) (f23 * f23) l m (lit< tt) little_less)
