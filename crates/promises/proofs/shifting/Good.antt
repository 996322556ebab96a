-- A weight of zero, of either sign, is good. Assumes nothing.
use Prim.Native.Nat.{ℕ, ◌+◌, ◌*◌, ◌^◌, ◌<◌}
use mathlib.Core.Bool.{Bool, true, false, ◌||◌, beq}
use mathlib.Core.Path.{◌≡◌, refl, sym, subst}
use native.Mathlib.Nat.{mul-pos, zero-mul}
use native.Mathlib.Omega.{arith}
use borrow.Author.Tests.{lt-ltb, eq-eqb, not-false}
use lib.Dec.{T, eqb, eqb→eq, lit≤}
use lib.Ieee.{Float, nan, inf, fin, eq, lt, le, of_bits, up, down}
use lib.Ieee.Fits.{and_l, down_pos}
use lib.IntN.{ℤ, pos}
use Rattle.std.proofs.lemmas.Bool.{or_right}
use Rattle.domain.specs.Limits.{decimal, zero32}
use Rattle.domain.specs.Floats.{within}
use Rattle.checks.specs.Reads.{weight_max_def, weight_good_def, non_zero}

-- ---- both ends as data
abbrev least : Float
least = fin false 0 (pos 0)

abbrev most : Float
most = fin false 15625 (pos 6)

least_is : zero32 ≡ least
unfolding of_bits
least_is = refl

most_is : weight_max_def ≡ most
unfolding weight_max_def decimal
most_is = refl

-- a = 0 * c and 0 < d
less : (a c d : ℕ) → a ≡ 0 * c → 0 < d → (a < d) × (0 < a + d)
less a c d e l = (rw (e, zero-mul c) l, omega arith)

module _ (m : ℕ) (e : ℤ) where
  below : (s : Bool) → m * up e * 1 ≡ 0 * down e → lt (fin s m e) most ≡ true
  unfolding lt
  below true h = lt-ltb 0 _ (less (m * up e * 1) (down e) (15625 * 2 ^ 6 * down e) h (mul-pos (lit≤ tt) (down_pos e))).1
  below false h = lt-ltb _ _ (less (m * up e * 1) (down e) (15625 * 2 ^ 6 * down e) h (mul-pos (lit≤ tt) (down_pos e))).0

  above : (s : Bool) → m * up e * 1 ≡ 0 * down e → eq least (fin s m e) ≡ true
  unfolding eq
  above s h =
      rw (eq-eqb (0 * down e) (m * up e * 1) (sym h), eq-eqb (0 * down e) 0 (zero-mul (down e))) (or_right (beq false s) true refl)

between : (w : Float) → T (eq w least) → within w least most ≡ true
unfolding eq le
between nan h = absurd h
between (inf s) h = absurd h
between (fin s m e) h =
    let z = eqb→eq (m * up e * 1) (0 * down e) (and_l (eqb (m * up e * 1) (0 * down e)) (beq s false || eqb (m * up e * 1) 0) h) in
    rw (below m e s z) (rw (or_right (lt least (fin s m e)) (eq least (fin s m e)) (above m e s z)))

pub zero_good : (w : Float) → non_zero w ≡ false → weight_good_def w ≡ true
unfolding non_zero
zero_good w e = rw (least_is, most_is) (between w (subst T (sym (rw least_is at (not-false (eq w zero32) e))) tt))
