-- Which quotients are not negative, and what lies at 1 or more: x + 1 for an x that is not negative. Assumes nothing.
use mathlib.Core.Path.{◌≡◌, sym, ap, subst}
use mathlib.Core.Bool.{Bool, true, false, cond}
use Prim.Native.Nat.{ℕ, ◌+◌, ◌-◌, ◌*◌, ◌≤◌}
use native.Mathlib.Nat.{le_trans, le_of_eq, mul-one, mul-pos, le-add_left}
use borrow.Author.Tests.{le-ltb}
use lib.Dec.{T, eqb}
use lib.IntN.{ℤ}
use lib.Pow.{pow_pos}
use lib.Ieee.{Float, nan, inf, fin, binary32, up, down, round, neg, sum, add, sub, div, le}
use lib.Ieee.Fits.{down_pos}
use lib.Ieee.Order.{round_mono}
use lib.Ieee.Positive.{positive}
use lib.Ieee.Scale.{finite}
use Rattle.domain.specs.Floats.{◌+ᶠ◌, ◌-ᶠ◌, ◌/ᶠ◌}
use Rattle.kernels.proofs.Definitions.Cases.{below_or}
use Rattle.laws.proofs.Values.Sizes.{plus, plus_cond, plus_round, unit, one_round}

pub plus_of : (x : Float) → T (positive x) → T (plus x)
plus_of nan h = absurd h
plus_of (inf s) h = absurd h
plus_of (fin true m e) h = absurd h
plus_of (fin false m e) h = tt

quotient : (m : ℕ) (e : ℤ) (n : ℕ) (d : ℤ) → T (plus (cond (eqb n 0) (cond (eqb m 0) nan (inf false)) (round binary32 false (m * up e * down d) (n * up d * down e))))
quotient m e n d =
    plus_cond (eqb n 0) (cond (eqb m 0) nan (inf false)) (round binary32 false (m * up e * down d) (n * up d * down e)) (plus_cond (eqb m 0) nan (inf false) tt tt)
    (plus_round binary32 (m * up e * down d) (n * up d * down e))

-- a number above 0 over one that is not negative
pub plus_div : (x y : Float) → T (positive x) → T (plus y) → T (plus (x /ᶠ y))
unfolding div
plus_div nan y p h = absurd p
plus_div (inf s) y p h = absurd p
plus_div (fin true m e) y p h = absurd p
plus_div (fin false m e) nan p h = tt
plus_div (fin false m e) (inf true) p h = absurd h
plus_div (fin false m e) (inf false) p h = tt
plus_div (fin false m e) (fin true n d) p h = absurd h
plus_div (fin false m e) (fin false n d) p h = quotient m e n d

-- one that is not negative over one above 0
pub plus_over : (x y : Float) → T (plus x) → T (finite x) → T (positive y) → T (plus (x /ᶠ y))
unfolding div
plus_over nan y h a p = absurd a
plus_over (inf s) y h a p = absurd a
plus_over (fin true m e) y h a p = absurd h
plus_over (fin false m e) nan h a p = absurd p
plus_over (fin false m e) (inf t) h a p = absurd p
plus_over (fin false m e) (fin true n d) h a p = absurd p
plus_over (fin false m e) (fin false n d) h a p = quotient m e n d

-- two that are negative
pub both_negative : (m : ℕ) (e : ℤ) (y : Float) → T (positive y) → T (plus (fin true m e /ᶠ neg y))
unfolding div neg
both_negative m e nan p = absurd p
both_negative m e (inf s) p = absurd p
both_negative m e (fin true n d) p = absurd p
both_negative m e (fin false n d) p = quotient m e n d

from_one : (m : ℕ) (e : ℤ) → T (le unit (fin false m e)) → 1 * 1 * down e ≤ m * up e * 1
unfolding le
from_one m e h = below_or (1 * 1 * down e) (m * up e * 1) true h

pub less_one : (x : Float) → T (finite x) → T (plus x) → T (le unit x) → T (plus (x -ᶠ unit))
unfolding sub add neg sum
less_one nan a p h = absurd a
less_one (inf s) a p h = absurd a
less_one (fin true m e) a p h = absurd p
less_one (fin false m e) a p h =
    let x = m * up e * 1 in
    let y = 1 * 1 * down e in
    subst (λ (b : Bool). T (plus (cond b (round binary32 true (y - x) (down e * 1)) (round binary32 false (x - y) (down e * 1))))) (sym (le-ltb x y (from_one m e h))) (plus_round binary32 (x - y) (down e * 1))

pub one_more : (x : Float) → T (finite x) → T (plus x) → T (le unit (x +ᶠ unit))
unfolding add sum
one_more nan a p = absurd a
one_more (inf s) a p = absurd a
one_more (fin true m e) a p = absurd p
one_more (fin false m e) a p =
    let x = m * up e * 1 in
    let y = 1 * 1 * down e in
    subst (λ (z : Float). T (le z (round binary32 false (x + y) (down e * 1)))) one_round
    (round_mono binary32 1 1 (x + y) (down e * 1) (pow_pos 0) (mul-pos (down_pos e) (pow_pos 0)) (le_trans (le_of_eq (turn (down e))) (le_trans (le-add_left y x) (le_of_eq (sym (mul-one (x + y)))))))
  where
    turn : (d : ℕ) → 1 * (d * 1) ≡ 1 * 1 * d
    turn d = ap (λ (x : ℕ). 1 * x) (mul-one d)
