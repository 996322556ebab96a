-- P(l(g)) against 1 / (1 - g), for l(g) = g + g^2/2 + .. + g^7/7 and 0 ≤ g ≤ 12/2560. Every kernel's chain is measured by this polynomial. Assumes nothing.
use mathlib.Core.Path.{◌≡◌}
use mathlib.Core.List.{List, [], ◌∷◌}
use Prim.Native.Nat.{ℕ, ◌+◌, ◌*◌, ◌^◌, ◌≤◌}
use lib.Dec.{T, lit<, lit≤}
use Rattle.table.proofs.Exact.Poly.{h, add, axpy, mul, comp}
use Rattle.table.proofs.Exact.Laws.{sub, fits, near, h_const, h_more, h_next, h_comp, fits_comp}
use Rattle.table.proofs.Exact.Terms.{pcoef, f23}

-- 420 is a common multiple of 1..7, and these are the coefficients of l(g) over it
abbrev pub d_l : ℕ
d_l = 420

unfoldable pub lcoef : List ℕ
lcoef = 0 ∷ 420 ∷ 210 ∷ 140 ∷ 105 ∷ 84 ∷ 70 ∷ 60 ∷ []

-- P(l(g)) (1 - g) is at most 1 / less below 1
abbrev pub less : ℕ
less = 7 * 2 ^ 62

unfoldable pub u_l : ℕ
unfolding f23
u_l = f23 * d_l ^ 23

pub pl : List ℕ
pl = comp 23 pcoef d_l lcoef

no_more : h 162 (sub pl (add (u_l ∷ []) (0 ∷ pl))) 12 2560 * 2 ^ 200 ≤ u_l * 2560 ^ 162
unfolding u_l f23 pl pcoef lcoef comp axpy mul add sub h
no_more = lit≤ tt

little_less : h 162 (sub (add (u_l ∷ []) (0 ∷ pl)) pl) 12 2560 * less ≤ u_l * 2560 ^ 162
unfolding u_l f23 pl pcoef lcoef comp axpy mul add sub h
little_less = lit≤ tt

fits_l : T (fits 7 lcoef)
unfolding lcoef
fits_l = tt

-- u_l * b ^ (23 n) times P(l(a / b))
abbrev pub p_l : ℕ → ℕ → ℕ
p_l a b = h 23 pcoef (h 7 lcoef a b) (d_l * b ^ 7)

pl_is : (a b : ℕ) → p_l a b ≡ h 161 pl a b
unfolding pl
pl_is a b = h_comp 23 7 pcoef d_l lcoef a b fits_l

fits_pl : T (fits 161 pl)
unfolding pl
fits_pl = fits_comp 23 7 pcoef d_l lcoef fits_l

-- the sides in h, and in P
sides : (a b : ℕ) → (h 162 pl a b ≡ b * p_l a b) × (h 162 (add (u_l ∷ []) (0 ∷ pl)) a b ≡ u_l * b ^ 162 + a * p_l a b)
sides a b = (rw (h_more 161 pl a b fits_pl, pl_is a b), rw (h_next 161 (u_l ∷ []) pl a b, h_const 162 u_l a b, pl_is a b))

pub upper : (a b : ℕ) → a * 2560 ≤ 12 * b → b * p_l a b * 2 ^ 200 ≤ (u_l * b ^ 162 + a * p_l a b) * 2 ^ 200 + u_l * b ^ 162
upper a b l = rw ((sides a b).0, (sides a b).1) at (near 162 pl (add (u_l ∷ []) (0 ∷ pl)) a b 12 2560 (2 ^ 200) u_l l (lit< tt) no_more)

pub lower : (a b : ℕ) → a * 2560 ≤ 12 * b → (u_l * b ^ 162 + a * p_l a b) * less ≤ b * p_l a b * less + u_l * b ^ 162
lower a b l = rw ((sides a b).0, (sides a b).1) at (near 162 (add (u_l ∷ []) (0 ∷ pl)) pl a b 12 2560 less u_l l (lit< tt) little_less)
