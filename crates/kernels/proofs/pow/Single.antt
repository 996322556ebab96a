-- y Λ of a single: the digits of y times Λ, shifted; and where its power is at an end. Assumes nothing.
use Rattle.std.proofs.Common.{◌≡◌, ℕ, zero, suc, ◌+◌, ◌-◌, ◌*◌, ◌^◌, ◌<◌, ◌≤◌, Bool, true, false, T, ℤ, pos, negsuc, ◌*ℤ◌, nat_abs, sym, refl, ap, ◌∙◌, subst, ap₂, le_trans, lt_trans, lt_of_lt_of_le, lt_of_le_of_lt, le_of_lt, mul-le-mul_right, mul-le-mul, add_comm, arith, lit<, pow_pos, pow_mono, pow-add, to_z-of_z, w64, SFits, ltb-false, ltb-true, leb-false, leb-true}
use mathlib.Core.Bool.{false≢true}
use native.Mathlib.Nat.{div-eq_of_lt, le-suc}
use lib.Signed.{mag, shr_z, nat_abs-le, lt_z, le_z}
use lib.Ieee.{Float, nan, inf, fin, binary32, up, down, fits, unlike, round}
use lib.Ieee.Fits.{down_pos}
use Rattle.table.specs.Whole.{signed, below0}
use Rattle.table.specs.Exact.{P, taylor, fact}
use Rattle.table.specs.Entry.{entry}
use Rattle.soft.specs.Units.{units_def}
use Rattle.soft.proofs.units.Value.{measured, digits_lt}
use Rattle.kernels.specs.Power.{power, coef, single1, part, significand, finish}
use Rattle.kernels.specs.Kernels.{raised, powered, pow_at_def}
use Rattle.kernels.proofs.Definitions.Cases.{powered_finite}
use Rattle.kernels.proofs.whole.Divide.{signed_times, times_signed, times_pos, shr_same}
use Rattle.kernels.proofs.whole.Words.{word, mag-le, shift_fits, signed_word}
use Rattle.kernels.specs.inner.Fields.{sign, field, rest}
use Rattle.kernels.proofs.power.Fields.{sign_is, places_is, digits_is, field_most}
use Rattle.kernels.proofs.power.Answers.{one, fallen, risen, at_zero}

-- d 2 ^ p L in units of 2 ^ -130
abbrev units : (d p L : ℕ) → ℕ
units d p L = d * 2 ^ p * L * 2 ^ 19

-- ---- from y's digits
by_units : (t : Bool) (n : ℕ) (e l : ℤ) → T (fits binary32 (fin t n e))
    → raised binary32 t (n * up e) (down e) l
    ≡ shr_z (signed (unlike (below0 l) t) (units (units_def binary32 (fin t n e)).digits (units_def binary32 (fin t n e)).places (nat_abs l))) (2 ^ 149) *ℤ pos 8
unfolding raised
by_units t n e l h =
    let u = units_def binary32 (fin t n e) in
    let s = unlike (below0 l) t in
    ap (λ (z : ℤ). shr_z z (down e) *ℤ pos 8) (ap (λ (z : ℤ). z *ℤ pos (2 ^ 19)) (signed_times t (n * up e) l) ∙ times_pos s (n * up e * nat_abs l) (2 ^ 19))
    ∙ ap (λ (z : ℤ). z *ℤ pos 8)
    (shr_same s (n * up e * nat_abs l * 2 ^ 19) (down e) (units u.digits u.places (nat_abs l)) (2 ^ 149) (down_pos e) (pow_pos 149)
    (cross (n * up e) (nat_abs l) (2 ^ 19) (2 ^ 149) (u.digits * 2 ^ u.places) (down e) (measured binary32 (fin t n e) h tt).1))
  where
    cross : (x L k w a v : ℕ) → x * w ≡ a * v → x * L * k * w ≡ a * L * k * v
    cross x L k w a v e = omega (arith, ap (λ (y : ℕ). y * (L * k)) e)

-- ---- by one shift
shift : (d p L s : ℕ) → s + p ≡ 130 → units d p L * 2 ^ s ≡ d * L * 2 ^ 149
shift d p L s h = turn d (2 ^ p) L (2 ^ 19) (2 ^ s) (2 ^ 149) (ap (λ (x : ℕ). 2 ^ 19 * x) (sym (pow-add 2 s p) ∙ ap (λ (x : ℕ). 2 ^ x) h) ∙ sym (pow-add 2 19 130))
  where
    turn : (d a L k b w : ℕ) → k * (b * a) ≡ w → d * a * L * k * b ≡ d * L * w
    turn d a L k b w e = omega (arith, ap (λ (x : ℕ). d * L * x) e)

by_shift : (y : Float) (l : ℤ) → T (fits binary32 y) → T (powered y) → 68 ≤ field binary32 y → field binary32 y ≤ 131
    → power binary32 (shr_z (l *ℤ signed (sign binary32 y) (rest binary32 y + 2 ^ 23)) (2 ^ (131 - field binary32 y)) *ℤ pos 8) ≡ pow_at_def binary32 l y
by_shift nan l h p a b = absurd (powered_finite nan p)
by_shift (inf s) l h p a b = absurd (powered_finite (inf s) p)
by_shift (fin t n e) l h p a b =
    let y = fin t n e in
    let F = field binary32 y in
    let u = units_def binary32 y in
    let s = unlike (below0 l) t in
    ap (λ (z : ℤ). power binary32 (z *ℤ pos 8))
    (ap (λ (z : ℤ). shr_z z (2 ^ (131 - F))) (times_signed l (sign binary32 y) (rest binary32 y + 2 ^ 23)
    ∙ ap₂ (λ (c : Bool) (m : ℕ). signed (unlike (below0 l) c) (m * nat_abs l)) (sign_is binary32 t n e h) (add_comm (rest binary32 y) (2 ^ 23) ∙ sym (digits_is binary32 y (lt_of_lt_of_le (lit< tt) a))))
    ∙ sym (shr_same s (units u.digits u.places (nat_abs l)) (2 ^ 149) (u.digits * nat_abs l) (2 ^ (131 - F)) (pow_pos 149) (pow_pos (131 - F))
    (shift u.digits u.places (nat_abs l) (131 - F) (omega (arith, places_is binary32 y)))))
    ∙ sym (ap (power binary32) (by_units t n e l h))

-- ---- a y so small that 1 is left
minus_8 : one ≡ power binary32 (negsuc 7)
unfolding power finish significand part single1 coef entry P taylor fact round
minus_8 = refl

near_0 : (s : Bool) (a b : ℕ) → a < b → one ≡ power binary32 (shr_z (signed s a) b *ℤ pos 8)
near_0 false a b h = at_zero binary32 false ∙ sym (ap (λ (q : ℕ). power binary32 (pos (q * 8))) (div-eq_of_lt h))
near_0 true zero b h = at_zero binary32 false ∙ sym (ap (λ (q : ℕ). power binary32 (pos (q * 8))) (div-eq_of_lt h))
near_0 true (suc a) b h = minus_8 ∙ sym (ap (λ (q : ℕ). power binary32 (negsuc q *ℤ pos 8)) (div-eq_of_lt (le_trans (le-suc (suc a)) h)))

under : (d p L : ℕ) → d < 2 ^ 24 → p ≤ 66 → L ≤ 2 ^ 38 → units d p L < 2 ^ 149
under d p L a b c = lt_of_le_of_lt (mul-le-mul_right (2 ^ 19) (mul-le-mul (mul-le-mul (le_of_lt a) (pow_mono b)) c)) (lit< tt)

pub too_small : (y : Float) (l : ℤ) → T (fits binary32 y) → T (powered y) → mag l < 2 ^ 38 → field binary32 y < 68 → one ≡ pow_at_def binary32 l y
too_small nan l h p a b = absurd (powered_finite nan p)
too_small (inf s) l h p a b = absurd (powered_finite (inf s) p)
too_small (fin t n e) l h p a b =
    let u = units_def binary32 (fin t n e) in
    near_0 (unlike (below0 l) t) (units u.digits u.places (nat_abs l)) (2 ^ 149)
    (under u.digits u.places (nat_abs l) (digits_lt binary32 (fin t n e)) (omega (arith, places_is binary32 (fin t n e))) (nat_abs-le l a))
    ∙ sym (ap (power binary32) (by_units t n e l h))

-- ---- as the code computes it: r the digits with their sign, v the shifted product
room : (l : ℤ) (s : Bool) (m : ℕ) → mag l < 2 ^ 38 → m < 2 ^ 24 → mag (l *ℤ signed s m) < 2 ^ 63
room l s m a b = subst (λ (z : ℤ). mag z < 2 ^ 63) (sym (times_signed l s m)) (lt_of_le_of_lt (le_trans (mag-le (unlike (below0 l) s) (m * nat_abs l)) (mul-le-mul (le_of_lt b) (nat_abs-le l a))) (lit< tt))

module _ (y : Float) (l r : ℤ) (k : SFits w64 l) (a : mag l < 2 ^ 38) (e : r ≡ signed (sign binary32 y) (rest binary32 y + 2 ^ 23)) where
  few : rest binary32 y + 2 ^ 23 < 2 ^ 24
  few = omega arith

  word_is : word r ≡ signed (sign binary32 y) (rest binary32 y + 2 ^ 23)
  word_is = signed_word (sign binary32 y) (rest binary32 y + 2 ^ 23) r (lt_trans few (lit< tt)) e

  product_is : word l *ℤ word r ≡ l *ℤ signed (sign binary32 y) (rest binary32 y + 2 ^ 23)
  product_is = ap₂ ◌*ℤ◌ (to_z-of_z k) word_is

  pub product_fits : mag (word l *ℤ word r) < 2 ^ 63
  product_fits = subst (λ (z : ℤ). mag z < 2 ^ 63) (sym product_is) (room l (sign binary32 y) (rest binary32 y + 2 ^ 23) a few)

  pub answer : (v : ℤ) → T (fits binary32 y) → T (powered y) → 68 ≤ field binary32 y → v ≡ shr_z (word l *ℤ word r) (2 ^ (131 - field binary32 y)) → power binary32 (word v *ℤ pos 8) ≡ pow_at_def binary32 l y
  answer v h p b d =
      ap (λ (z : ℤ). power binary32 (z *ℤ pos 8)) (ap word d ∙ to_z-of_z (shift_fits (word l *ℤ word r) (2 ^ (131 - field binary32 y)) (record { sfits = product_fits })) ∙ ap (λ (z : ℤ). shr_z z (2 ^ (131 - field binary32 y))) product_is)
      ∙ by_shift y l h p b (field_most binary32 y h p)

-- ---- the ends, for v in units of 8
pub is_low : (v : ℤ) → lt_z v (negsuc (126 * 2 ^ 49 - 1)) ≡ true → fin false 0 (pos 0) ≡ power binary32 (v *ℤ pos 8)
is_low (pos n) t = absurd (false≢true t)
is_low (negsuc n) t = fallen binary32 (suc n * 8) (omega (arith, ltb-true (126 * 2 ^ 49 - 1) n t))

pub is_high : (v : ℤ) → le_z (pos (2 ^ 56)) v ≡ true → inf false ≡ power binary32 (v *ℤ pos 8)
is_high (pos n) t = risen binary32 (n * 8) (omega (arith, leb-true (2 ^ 56) n t))
is_high (negsuc n) t = absurd (false≢true t)

pub is_between : (v : ℤ) → lt_z v (negsuc (126 * 2 ^ 49 - 1)) ≡ false → le_z (pos (2 ^ 56)) v ≡ false → mag (v *ℤ pos 8) < 2 ^ 63
is_between (pos n) t u = omega (arith, leb-false (2 ^ 56) n u)
is_between (negsuc n) t u = lt_of_le_of_lt (mag-le true (suc n * 8)) (omega (arith, ltb-false (126 * 2 ^ 49 - 1) n t))
