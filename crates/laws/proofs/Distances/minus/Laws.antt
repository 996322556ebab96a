-- All that is promised of exp less 1. Assumes nothing.
use mathlib.Core.Path.{◌≡◌, refl, ap, ◌∙◌}
use mathlib.Core.Bool.{Bool, true, false, not, cond}
use Prim.Native.Nat.{ℕ, zero, ◌*◌, ◌^◌, ◌≤◌, ◌<◌}
use native.Mathlib.Nat.{le_trans, le_of_eq, le_of_lt, one-mul}
use native.Mathlib.Omega.{arith}
use borrow.Author.Tests.{le-ltb}
use lib.Dec.{T, ltb, ltb→lt}
use lib.IntN.{ℤ, pos}
use lib.Ieee.{Float, nan, inf, fin, binary32, binary64, up, down, round, fits, is_nan, neg, add, sub, lt, of_bits}
use lib.Ieee.Bits.{is_false}
use lib.Ieee.Fits.{down_pos, fits_widens}
use lib.Ieee.Scale.{finite}
use Rattle.soft.proofs.Rounding.Pattern.{round_not_nan}
use Rattle.soft.proofs.Rounding.Sum.{sum_is}
use Rattle.soft.specs.Narrow.{narrow_def}
use Rattle.soft.specs.inner.Cuts.{sum_sign, sum_size_def}
use Rattle.table.specs.Exact.{E, minus_frac}
use Rattle.kernels.specs.Kernels.{tiny, one64, exp_def, expm1_def}
use Rattle.kernels.proofs.Definitions.Cases.{tiny_is}
use Rattle.laws.specs.Distances.{Near, Close, EMinus, Minus}
use Rattle.laws.proofs.Distances.Ends.{either, refusal_10, exp_nan}
use Rattle.laws.proofs.Distances.Exp.{exp_near}
use Rattle.laws.proofs.Distances.minus.Away.{less_one_close}
use Rattle.laws.proofs.Distances.minus.Ends.{far_up, far_down}
use Rattle.laws.proofs.Distances.minus.Exact.{E-most}
use Rattle.laws.proofs.Distances.minus.Sides.{close_by}
use Rattle.laws.proofs.Distances.minus.Tiny.{tiny_sides}

-- ---- near E - 1
less_one : (p q : ℕ) (y : Float) → zero < q → p ≤ 2 ^ 125 * q → Near 50 y (record { num = p; den = q }) → Close 23 48 (narrow_def binary32 (sub binary64 y one64)) (minus_frac p q q)
less_one p q nan z l h = absurd h
less_one p q (inf s) z l h = absurd h
less_one p q (fin true m e) z l h = absurd h
less_one p q (fin false m e) z l h = less_one_close p q m e z l h

module _ (s : Bool) (m : ℕ) (e : ℤ) where
  abbrev a : ℕ
  a = m * up e

  abbrev b : ℕ
  b = down e

  elsewhere : T (fits binary32 (fin s m e)) → a ≤ 86 * b → Close 23 48 (narrow_def binary32 (sub binary64 (exp_def binary64 (fin s m e)) one64)) (EMinus s a b)
  elsewhere k l =
      let n = E-most s a b (down_pos e) l in
      less_one (E s a b).num (E s a b).den (exp_def binary64 (fin s m e)) n.1 n.0
      (exp_near binary64 s m e (fits_widens (fin s m e) k) (wider a b l))
    where
      wider : (a b : ℕ) → a ≤ 86 * b → a ≤ 700 * b
      wider a b l = omega arith

  near : T (fits binary32 (fin s m e)) → a ≤ 86 * b → Close 23 48 (expm1_def (fin s m e)) (EMinus s a b)
  unfolding expm1_def
  near k l =
      rw (tiny_is s m e) (at (ltb (a * 2 ^ 24) (1 * 1 * b)) (ltb→lt (a * 2 ^ 24) (1 * 1 * b)))
    where
      at : (t : Bool) → (T t → a * 2 ^ 24 < 1 * 1 * b)
          → Close 23 48 (cond t (fin s m e) (narrow_def binary32 (sub binary64 (exp_def binary64 (fin s m e)) one64))) (EMinus s a b)
      at true h = close_by s m e (E s a b).num (E s a b).den (tiny_sides s a b (down_pos e) (le_trans (le_of_lt (h tt)) (le_of_eq (one-mul b))))
      at false h = elsewhere k l

-- ---- the ends
not_tiny : (s : Bool) (m : ℕ) (e : ℤ) → 89 * down e ≤ m * up e → tiny (fin s m e) ≡ false
not_tiny s m e h = tiny_is s m e ∙ le-ltb (m * up e * 2 ^ 24) (1 * 1 * down e) (more (m * up e) (down e) h)
  where
    more : (a b : ℕ) → 89 * b ≤ a → 1 * 1 * b ≤ a * 2 ^ 24
    more a b h = omega arith

ends : (s : Bool) (m : ℕ) (e : ℤ) → 89 * down e ≤ m * up e → expm1_def (fin s m e) ≡ cond s (fin true 1 (pos 0)) (inf false)
unfolding expm1_def
ends false m e h = rw (not_tiny false m e h) (far_up m e h)
ends true m e h = rw (not_tiny true m e h) (far_down m e h)

-- ---- no other NaN
sub_number : (x : Float) → is_nan x ≡ false → is_nan (sub binary64 x one64) ≡ false
unfolding sub add neg of_bits is_nan
sub_number nan h = h
sub_number (inf s) h = refl
sub_number (fin s m e) h =
    let x = m * up e * 1 in
    let y = 1 * 1 * down e in
    ap is_nan (sum_is binary64 s x true y (down e * 1))
    ∙ is_false (is_nan (round binary64 (sum_sign s x true y) (sum_size_def s x true y) (down e * 1))) (round_not_nan binary64 (sum_sign s x true y) (sum_size_def s x true y) (down e * 1))

narrow_number : (x : Float) → is_nan x ≡ false → is_nan (narrow_def binary32 x) ≡ false
unfolding narrow_def is_nan
narrow_number nan h = h
narrow_number (inf s) h = refl
narrow_number (fin s m e) h = is_false (is_nan (round binary32 s (m * up e) (down e))) (round_not_nan binary32 s (m * up e) (down e))

minus_nan : (x : Float) → is_nan (expm1_def x) ≡ not (finite x)
unfolding expm1_def exp_def narrow_def sub add neg lt of_bits is_nan
minus_nan nan = refl
minus_nan (inf true) = refl
minus_nan (inf false) = refl
minus_nan (fin s m e) =
    let y = sub binary64 (exp_def binary64 (fin s m e)) one64 in
    either (tiny (fin s m e)) (fin s m e) (narrow_def binary32 y) refl (narrow_number y (sub_number (exp_def binary64 (fin s m e)) (exp_nan binary64 (fin s m e))))

at_zero : (s : Bool) → expm1_def (fin s 0 (pos 0)) ≡ fin s 0 (pos 0)
unfolding expm1_def lt neg of_bits
at_zero true = refl
at_zero false = refl

pub minus : Minus
minus = record { near = near; at_zero = at_zero; ends = λ s m e k h. ends s m e h; refuses = λ x. refusal_10 (expm1_def x) (finite x) (minus_nan x) }
