-- Products and quotients with a zero, products with 1, and what `= 0` says of a single. Assumes nothing.
use mathlib.Core.Path.{◌≡◌, refl, sym, ap, ◌∙◌, subst}
use mathlib.Core.Bool.{Bool, true, false, ◌||◌, beq, cond}
use mathlib.Core.Logic.{inl, inr}
use Prim.Native.Nat.{ℕ, zero, suc, ◌*◌, ◌<◌}
use native.Mathlib.Nat.{lt_irrefl, eq-zero-or-pos, mul_assoc, mul_comm, mul-zero, zero-mul, mul-pos, zero-lt-suc}
use lib.Dec.{T, eqb, eqb→eq, eqb-suc-zero}
use lib.IntN.{ℤ, pos}
use lib.Pow.{pow_pos}
use lib.Ieee.{Float, nan, inf, fin, binary32, of_bits, unlike, up, down, round, fits, sub, mul, div, eq}
use lib.Ieee.Fits.{and_l, up_pos, down_pos}
use lib.Ieee.Positive.{positive}
use lib.Ieee.Scale.{finite}
use Rattle.soft.proofs.Rounding.Place.{round_none}
use Rattle.soft.proofs.units.Value.{holds}
use Rattle.domain.specs.Limits.{zero32, one}
use Rattle.domain.specs.Floats.{◌+ᶠ◌, ◌-ᶠ◌, ◌*ᶠ◌, ◌/ᶠ◌}
use Rattle.columns.proofs.scores.Settled.{unique, settles}
use Rattle.columns.proofs.scores.Zeros.{zero_plus}
use Rattle.laws.proofs.Values.Sizes.{unit}

-- the single 0, of either sign
abbrev pub Zero : Float → Type 0
Zero x = (t : Bool) × (x ≡ fin t 0 (pos 0))

-- ---- products and quotients
times_none : (t : Bool) (x : Float) → T (finite x) → Zero (x *ᶠ fin t 0 (pos 0))
unfolding mul
times_none t nan h = absurd h
times_none t (inf s) h = absurd h
times_none t (fin s m e) h = (
  unlike s t,
  ap (λ (n : ℕ). round binary32 (unlike s t) n (down e * 1)) (mul-zero (m * up e)) ∙ round_none binary32 (unlike s t) (down e * 1) (mul-pos (down_pos e) (pow_pos 0)),
)

none_times : (t : Bool) (x : Float) → T (finite x) → Zero (fin t 0 (pos 0) *ᶠ x)
unfolding mul
none_times t nan h = absurd h
none_times t (inf s) h = absurd h
none_times t (fin s m e) h = (
  unlike t s,
  ap (λ (n : ℕ). round binary32 (unlike t s) n (1 * down e)) (zero-mul (m * up e)) ∙ round_none binary32 (unlike t s) (1 * down e) (mul-pos (pow_pos 0) (down_pos e)),
)

none_over : (t : Bool) (y : Float) → T (positive y) → Zero (fin t 0 (pos 0) /ᶠ y)
unfolding div
none_over t nan h = absurd h
none_over t (inf s) h = absurd h
none_over t (fin true n d) h = absurd h
none_over t (fin false zero d) h = absurd h
none_over t (fin false (suc n) d) h = (
  unlike t false,
  ap (λ (b : Bool). cond b nan (round binary32 (unlike t false) (0 * down d) (suc n * up d * 1))) (eqb-suc-zero n)
      ∙ ap (λ (x : ℕ). round binary32 (unlike t false) x (suc n * up d * 1)) (zero-mul (down d))
      ∙ round_none binary32 (unlike t false) (suc n * up d * 1) (mul-pos (mul-pos (zero-lt-suc n) (up_pos d)) (pow_pos 0)),
)

pub times_zero : (x y : Float) → T (finite x) → Zero y → Zero (x *ᶠ y)
times_zero x y h z = subst (λ (o : Float). Zero (x *ᶠ o)) (sym z.1) (times_none z.0 x h)

pub zero_times : (x y : Float) → Zero x → T (finite y) → Zero (x *ᶠ y)
zero_times x y z h = subst (λ (o : Float). Zero (o *ᶠ y)) (sym z.1) (none_times z.0 y h)

pub zero_over : (x y : Float) → Zero x → T (positive y) → Zero (x /ᶠ y)
zero_over x y z h = subst (λ (o : Float). Zero (o /ᶠ y)) (sym z.1) (none_over z.0 y h)

pub times_one : (x : Float) → T (fits binary32 x) → x *ᶠ unit ≡ x
unfolding mul
times_one nan k = refl
times_one (inf true) k = refl
times_one (inf false) k = refl
times_one (fin s m e) k =
    ap (λ (t : Bool). round binary32 t (m * up e * 1) (down e * 1)) (same s)
    ∙ settles binary32 s m e (m * up e * 1) (down e * 1) k (mul-pos (down_pos e) (pow_pos 0)) (mul_assoc (m * up e) 1 (down e) ∙ ap (λ (x : ℕ). m * up e * x) (mul_comm 1 (down e)))
  where
    same : (t : Bool) → unlike t false ≡ t
    same true = refl
    same false = refl

-- ---- a single that equals 0 is a zero
zero_is : zero32 ≡ fin false 0 (pos 0)
unfolding of_bits
zero_is = refl

zero-fits : (s : Bool) → T (fits binary32 (fin s 0 (pos 0)))
unfolding fits
zero-fits s = tt

none : (a u d : ℕ) → 0 < u → a * u * 1 ≡ 0 * d → a ≡ 0
none a u d h q = elim (eq-zero-or-pos a) [ inl z ↦ z | inr p ↦ absurd (lt_irrefl 0 (subst (λ (x : ℕ). 0 < x) (q ∙ zero-mul d) (mul-pos (mul-pos p h) (pow_pos 0)))) ]

at_zero : (x : Float) → T (fits binary32 x) → T (eq x (fin false 0 (pos 0))) → Zero x
unfolding eq
at_zero nan k h = absurd h
at_zero (inf s) k h = absurd h
at_zero (fin s m e) k h =
    let z : m ≡ 0 = none m (up e) (down e) (up_pos e) (eqb→eq (m * up e * 1) (0 * down e) (and_l (eqb (m * up e * 1) (0 * down e)) (beq s false || eqb (m * up e * 1) 0) h)) in
    (s, unique binary32 (fin s m e) (fin s 0 (pos 0)) s 0 1 k (zero-fits s) (pow_pos 0) (refl, ap (λ (n : ℕ). n * up e * 1) z ∙ ap (λ (n : ℕ). n * 1) (zero-mul (up e)) ∙ sym (zero-mul (down e))) (refl, refl))

pub is_zero : (x : Float) → T (fits binary32 x) → eq x zero32 ≡ true → Zero x
is_zero x k h = at_zero x k (subst (λ (y : Float). T (eq x y)) zero_is (holds h))

-- ---- 1, and the positive numbers
pub one_is : one ≡ unit
unfolding of_bits
one_is = refl

pub unit_fits : T (fits binary32 unit)
unfolding fits
unit_fits = tt

-- 0 + 1, of either sign
pub zero_plus_one : (x : Float) → Zero x → x +ᶠ unit ≡ unit
zero_plus_one x z = ap (λ (y : Float). y +ᶠ unit) z.1 ∙ zero_plus binary32 z.0 (pos 0) unit unit_fits tt

-- 1 - 1
pub one_less_one : unit -ᶠ unit ≡ fin false 0 (pos 0)
unfolding sub
one_less_one = refl

pub shape : (x : Float) → T (positive x) → (m : ℕ) × (e : ℤ) × (x ≡ fin false (suc m) e)
shape nan h = absurd h
shape (inf s) h = absurd h
shape (fin true m e) h = absurd h
shape (fin false zero e) h = absurd h
shape (fin false (suc m) e) h = (m, e, refl)
