-- The sum of the two logarithms where the label is 1 or 0: one of them. Assumes nothing.
use Rattle.std.proofs.Common.{◌≡◌, ℕ, zero, suc, ◌-◌, ◌*◌, ◌^◌, ◌<◌, ◌≤◌, Bool, true, false, cond, not, ◌&&◌, ◌||◌, T, eqb, ltb, ℤ, pos, sym, refl, ap, ◌∙◌, subst, ap₂, inl, inr, zero-le, le_trans, le_of_eq, lt_of_le_of_lt, le_of_lt, lt_irrefl, eq-zero-or-pos, mul-le-mul, mul-pos, one-mul, zero-mul, arith, eqb→eq, ltb→lt, lt→ltb, pow_pos}
use mathlib.Core.Bool.{beq}
use lib.Arith.{le→nltb}
use lib.Ieee.{Float, nan, inf, fin, binary32, of_bits, up, down, round, fits, lt, eq, neg, sum, add, sub}
use lib.Ieee.Bits.{is_false}
use lib.Ieee.Exact.{HasValue}
use lib.Ieee.Fits.{and_l, and_r, up_pos, down_pos, sub-fits}
use lib.Ieee.Order.{round_mono}
use lib.Ieee.Positive.{positive, between, first_pos}
use Rattle.soft.proofs.units.Value.{holds}
use Rattle.kernels.specs.Calls.{ln32}
use Rattle.domain.specs.Limits.{zero32, one}
use Rattle.domain.specs.Floats.{◌+ᶠ◌, ◌-ᶠ◌, ◌*ᶠ◌}
use Rattle.columns.proofs.scores.Settled.{unique, not_low}
use Rattle.columns.proofs.scores.Zeros.{plain, one_times, zero_times, plus_zero, zero_plus}
use Rattle.columns.proofs.scores.Logs.{ln_plain, ln_fits}

-- ---- the two labels as data
abbrev unit : Float
unit = fin false 1 (pos 0)

one_is : one ≡ unit
unfolding of_bits
one_is = refl

one_fits : T (fits binary32 unit)
unfolding fits
one_fits = tt

no_zero : (a d : ℕ) → 0 < d → a ≡ d → a ≡ 0 → ⊥
no_zero a d z p q = omega arith

value_one : (x : Float) → T (eq x unit) → HasValue x false 1 1
unfolding eq
value_one nan h = absurd h
value_one (inf s) h = absurd h
value_one (fin false m e) h = (refl, eqb→eq (m * up e * 1) (1 * down e) (and_l (eqb (m * up e * 1) (1 * down e)) true h))
value_one (fin true m e) h =
    let a = m * up e * 1 in
    let d = 1 * down e in
    absurd (no_zero a d (mul-pos (pow_pos 0) (down_pos e)) (eqb→eq a d (and_l (eqb a d) (eqb a 0) h)) (eqb→eq a 0 (and_r (eqb a d) (eqb a 0) h)))

is_one : (x : Float) → T (fits binary32 x) → T (eq x one) → x ≡ unit
is_one x k h = unique binary32 x unit false 1 1 k one_fits (pow_pos 0) (value_one x (subst (λ (y : Float). T (eq x y)) one_is h)) (refl, refl)

value_zero : (x : Float) → T (eq x (fin false 0 (pos 0))) → (s : Bool) × (e : ℤ) × (x ≡ fin s 0 e)
unfolding eq
value_zero nan h = absurd h
value_zero (inf s) h = absurd h
value_zero (fin s m e) h = (s, e, ap (λ (n : ℕ). fin s n e) (none (eqb→eq (m * up e * 1) (0 * down e) (and_l (eqb (m * up e * 1) (0 * down e)) (beq s false || eqb (m * up e * 1) 0) h))))
  where
    none : m * up e * 1 ≡ 0 * down e → m ≡ 0
    none q = elim (eq-zero-or-pos m) [ inl z ↦ z | inr p ↦ absurd (lt_irrefl 0 (subst (λ (x : ℕ). 0 < x) (q ∙ zero-mul (down e)) (mul-pos (mul-pos p (up_pos e)) (pow_pos 0)))) ]

zero_is : zero32 ≡ fin false 0 (pos 0)
unfolding of_bits
zero_is = refl

is_zero : (x : Float) → T (eq x zero32) → (s : Bool) × (e : ℤ) × (x ≡ fin s 0 e)
is_zero x h = value_zero x (subst (λ (y : Float). T (eq x y)) zero_is h)

-- ---- r and 1 - r are above 0
abbrev inside : Float → Bool
inside r = lt (fin false 0 (pos 0)) r && lt r unit

above : (r : Float) → T (inside r) → T (positive r)
unfolding lt
above nan h = absurd h
above (inf true) h = absurd h
above (inf false) h = absurd h
above (fin true m e) h = absurd h
above (fin false m e) h =
    lt→ltb 0 m (first_pos m (up e) (first_pos (m * up e) 1 (lt_of_le_of_lt zero-le (ltb→lt (0 * down e) (m * up e * 1) (and_l (ltb (0 * down e) (m * up e * 1)) (ltb (m * up e * 1) (1 * down e)) h)))))

lowest : T (positive (round binary32 false 1 (2 ^ 149)))
unfolding round
lowest = tt

highest : T (positive (round binary32 false 1 1))
unfolding round
highest = tt

-- 1 - b / d, where d is no finer than the format's smallest value: above 0 after its rounding too
rest : (d b : ℕ) → b < d → d ≤ 2 ^ 149 → T (positive (round binary32 false (d - b) d))
rest d b h l =
    between (round binary32 false 1 (2 ^ 149)) (round binary32 false (d - b) d) (round binary32 false 1 1) lowest highest
    (round_mono binary32 1 (2 ^ 149) (d - b) d (pow_pos 149) (lt_of_le_of_lt zero-le h) (mul-le-mul (some d b h) l)) (round_mono binary32 (d - b) d 1 1 (lt_of_le_of_lt zero-le h) (pow_pos 0) (less d b))
  where
    some : (d b : ℕ) → b < d → 1 ≤ d - b
    some d b h = omega arith

    less : (d b : ℕ) → (d - b) * 1 ≤ 1 * d
    less d b = omega arith

beyond : (r : Float) → T (fits binary32 r) → T (inside r) → T (positive (sub binary32 unit r))
unfolding lt sub add neg sum
beyond nan k h = absurd h
beyond (inf true) k h = absurd h
beyond (inf false) k h = absurd h
beyond (fin true m e) k h = absurd h
beyond (fin false zero e) k h = absurd (above (fin false zero e) h)
beyond (fin false (suc m) e) k h =
    let d = 1 * down e in
    let b = suc m * up e * 1 in
    let l : b < d = ltb→lt b d (and_r (ltb (0 * down e) b) (ltb b d) h) in
    subst (λ (x : Bool). T (positive (cond x (round binary32 true (b - d) d) (round binary32 false (d - b) d)))) (sym (is_false (ltb d b) (le→nltb d b (le_of_lt l)))) (rest d b l (le_trans (le_of_eq (one-mul (down e))) (not_low binary32 false m e k)))

-- ---- the sum
nothing : unit -ᶠ unit ≡ fin false 0 (pos 0)
unfolding sub add neg sum round
nothing = refl

whole : (s : Bool) (e : ℤ) → unit -ᶠ fin s 0 e ≡ unit
unfolding sub neg
whole s e = plus_zero binary32 unit (not s) e one_fits tt

module _ (r label : Float) (k : T (fits binary32 r)) (h : lt zero32 r && lt r one ≡ true) where
  within : T (inside r)
  within = subst (λ (x : Float). T (lt x r && lt r unit)) zero_is (subst (λ (x : Float). T (lt zero32 r && lt r x)) one_is (holds h))

  first : T (plain (ln32 r))
  first = ln_plain r k (above r within)

  second : T (plain (ln32 (one -ᶠ r)))
  second = ln_plain (one -ᶠ r) (sub-fits binary32 one r) (subst (λ (x : Float). T (positive (x -ᶠ r))) (sym one_is) (beyond r k within))

  pub at_one : T (fits binary32 label) → eq label one ≡ true → label *ᶠ ln32 r +ᶠ (one -ᶠ label) *ᶠ ln32 (one -ᶠ r) ≡ ln32 r
  at_one l e =
      let a = ln32 r in
      let b = ln32 (one -ᶠ r) in
      let z = zero_times binary32 false (pos 0) b second in
      ap₂ (λ (x y : Float). x *ᶠ a +ᶠ (y -ᶠ x) *ᶠ b) (is_one label l (holds e)) one_is
      ∙ ap₂ (λ (x y : Float). x +ᶠ y *ᶠ b) (one_times binary32 a (ln_fits binary32 r)) nothing
      ∙ ap (λ (x : Float). a +ᶠ x) z.1
      ∙ plus_zero binary32 a z.0 (pos 0) (ln_fits binary32 r) first

  pub at_zero : eq label zero32 ≡ true → label *ᶠ ln32 r +ᶠ (one -ᶠ label) *ᶠ ln32 (one -ᶠ r) ≡ ln32 (one -ᶠ r)
  at_zero e =
      let a = ln32 r in
      let b = ln32 (one -ᶠ r) in
      let n = is_zero label (holds e) in
      let z = zero_times binary32 n.0 n.1 a first in
      ap₂ (λ (x y : Float). x *ᶠ a +ᶠ (y -ᶠ x) *ᶠ b) n.2 one_is
      ∙ ap₂ (λ (x y : Float). x +ᶠ y *ᶠ b) z.1 (whole n.0 n.1)
      ∙ ap (λ (x : Float). fin z.0 0 (pos 0) +ᶠ x) (one_times binary32 b (ln_fits binary32 (one -ᶠ r)))
      ∙ zero_plus binary32 z.0 (pos 0) b (ln_fits binary32 (one -ᶠ r)) second
