-- y Λ of a double, from y's digits: cut by one shift where Λ has one word. Assumes nothing.
use Rattle.std.proofs.Common.{◌≡◌, ℕ, ◌+◌, ◌-◌, ◌*◌, ◌/◌, ◌^◌, ◌<◌, ◌≤◌, Bool, true, false, not, T, ℤ, pos, negsuc, nat_abs, sym, refl, ap, ◌∙◌, ap₂, zero-le, lt_of_lt_of_le, lt_of_le_of_lt, le_of_lt, mul-le-mul, add_comm, mul-pos, arith, lit<, pow_pos, pow_mono, pow-add, shr-shr, shr_lt, to_z-of_z, w64, SFits, le-ltb}
use native.Mathlib.Nat.{div-eq_of_lt}
use mathlib.Core.Bool.{beq}
use lib.Signed.{lt_z}
use lib.Ieee.{Float, nan, inf, fin, binary64, up, down, fits, unlike}
use lib.Ieee.Fits.{down_pos}
use lib.Ieee.Nearest.{div_same}
use Rattle.table.specs.Whole.{signed, below0}
use Rattle.soft.specs.Units.{units_def}
use Rattle.soft.proofs.units.Value.{measured, digits_lt}
use Rattle.kernels.specs.Power.{power}
use Rattle.kernels.specs.Kernels.{raised, powered, pow_at_def}
use Rattle.kernels.proofs.Definitions.Cases.{powered_finite}
use Rattle.kernels.proofs.power.Answers.{one, at_zero}
use Rattle.kernels.specs.inner.Fields.{sign, field, rest}
use Rattle.kernels.proofs.power.Fields.{sign_is, places_is, digits_is, field_most}
use Rattle.kernels.proofs.whole.Words.{word, signed_word}

-- |y| L / 64, for L = |Λ|
abbrev pub cut : Float → ℕ → ℕ
cut y L = (units_def binary64 y).digits * 2 ^ (units_def binary64 y).places * L / 2 ^ 1080

by_units : (t : Bool) (n : ℕ) (e : ℤ) (L : ℕ) → T (fits binary64 (fin t n e)) → n * up e * L / (down e * 64) ≡ cut (fin t n e) L
by_units t n e L h =
    let u = units_def binary64 (fin t n e) in
    div_same (n * up e * L) (down e * 64) (u.digits * 2 ^ u.places * L) (2 ^ 1080) (mul-pos (down_pos e) (lit< tt)) (pow_pos 1080)
    (ap (λ (x : ℕ). n * up e * L * x) (pow-add 2 1074 6) ∙ cross (n * up e) L 64 (2 ^ 1074) (u.digits * 2 ^ u.places) (down e) (measured binary64 (fin t n e) h tt).1)
  where
    cross : (x L k w a v : ℕ) → x * w ≡ a * v → x * L * (w * k) ≡ a * L * (v * k)
    cross x L k w a v e = omega (arith, ap (λ (y : ℕ). y * (L * k)) e)

pub by_digits : (y : Float) (l : ℤ) → T (fits binary64 y) → T (powered y) → power binary64 (signed (unlike (below0 l) (sign binary64 y)) (cut y (nat_abs l))) ≡ pow_at_def binary64 l y
unfolding raised
by_digits nan l h p = absurd (powered_finite nan p)
by_digits (inf s) l h p = absurd (powered_finite (inf s) p)
by_digits (fin t n e) l h p = ap₂ (λ (s : Bool) (k : ℕ). power binary64 (signed (unlike (below0 l) s) k)) (sign_is binary64 t n e h) (sym (by_units t n e (nat_abs l) h))

-- ---- a y so small that 1 is left
under : (d p L : ℕ) → d < 2 ^ 53 → p ≤ 963 → L < 2 ^ 62 → d * 2 ^ p * L < 2 ^ 1080
under d p L a b c = lt_of_le_of_lt (mul-le-mul (mul-le-mul (le_of_lt a) (pow_mono b)) (le_of_lt c)) (lit< tt)

pub too_small : (y : Float) (l : ℤ) → T (fits binary64 y) → T (powered y) → nat_abs l < 2 ^ 62 → field binary64 y < 965 → one ≡ pow_at_def binary64 l y
too_small y l h p a b =
    let u = units_def binary64 y in
    at_zero binary64 (unlike (below0 l) (sign binary64 y))
    ∙ sym (ap (λ (n : ℕ). power binary64 (signed (unlike (below0 l) (sign binary64 y)) n)) (div-eq_of_lt (under u.digits u.places (nat_abs l) (digits_lt binary64 y) (omega (arith, places_is binary64 y)) a)))
    ∙ by_digits y l h p

-- ---- by one shift
shift : (d p L s : ℕ) → s + p ≡ 1027 → L * (d * 2 ^ 11) / 2 ^ 64 / 2 ^ s ≡ d * 2 ^ p * L / 2 ^ 1080
shift d p L s h =
    shr-shr (L * (d * 2 ^ 11)) 64 s
    ∙ div_same (L * (d * 2 ^ 11)) (2 ^ (64 + s)) (d * 2 ^ p * L) (2 ^ 1080) (pow_pos (64 + s)) (pow_pos 1080)
    (turn d L (2 ^ 11) (2 ^ 1080) (2 ^ p) (2 ^ (64 + s)) (sym (pow-add 2 11 1080) ∙ ap (λ (x : ℕ). 2 ^ x) (join p s h) ∙ pow-add 2 p (64 + s)))
  where
    turn : (d L a b u v : ℕ) → a * b ≡ u * v → L * (d * a) * b ≡ d * u * L * v
    turn d L a b u v e = omega (arith, ap (λ (x : ℕ). d * L * x) e)

    join : (p s : ℕ) → s + p ≡ 1027 → 11 + 1080 ≡ p + (64 + s)
    join p s h = omega arith

by_shift : (y : Float) (L : ℕ) → T (fits binary64 y) → T (powered y) → 965 ≤ field binary64 y → L * ((rest binary64 y + 2 ^ 52) * 2 ^ 11) / 2 ^ 64 / 2 ^ (1028 - field binary64 y) ≡ cut y L
by_shift y L h p b =
    let F = field binary64 y in
    let u = units_def binary64 y in
    ap (λ (d : ℕ). L * (d * 2 ^ 11) / 2 ^ 64 / 2 ^ (1028 - F)) (add_comm (rest binary64 y) (2 ^ 52) ∙ sym (digits_is binary64 y (lt_of_lt_of_le (lit< tt) b)))
    ∙ shift u.digits u.places L (1028 - F) (omega (arith, places_is binary64 y, field_most binary64 y h p))

-- ---- as the code computes it
-- the sign of a product, as `!=` has it
pub unlike_is : (a b : Bool) → not (beq a b) ≡ unlike a b
unlike_is true true = refl
unlike_is true false = refl
unlike_is false true = refl
unlike_is false false = refl

below_test : (z : ℤ) → lt_z z (pos 0) ≡ below0 z
below_test (pos n) = le-ltb n 0 zero-le
below_test (negsuc n) = refl

pub size-lt : (n F : ℕ) → n < 2 ^ 128 → F ≤ 1027 → n / 2 ^ 64 / 2 ^ (1028 - F) < 2 ^ 63
size-lt n F a b = let m : 64 ≤ 63 + (1028 - F) = omega arith in shr_lt 63 (1028 - F) (lt_of_lt_of_le (shr_lt 64 64 a) (pow_mono m))

module _ (y : Float) (s : ℤ) (k : SFits w64 s) (h : T (fits binary64 y)) (p : T (powered y)) (b : 965 ≤ field binary64 y) where
  pub near_is : (g d w : ℕ) (u : Bool) (z : ℤ) → w < 2 ^ 128 → g ≡ nat_abs (word s) → d ≡ (rest binary64 y + 2 ^ 52) * 2 ^ 11 → w ≡ g * d
      → u ≡ unlike (lt_z (word s) (pos 0)) (sign binary64 y) → z ≡ signed u (w / 2 ^ 64 / 2 ^ (1028 - field binary64 y)) → power binary64 (word z) ≡ pow_at_def binary64 s y
  near_is g d w u z a eg ed ew eu ez =
      ap (power binary64)
      (signed_word u (w / 2 ^ 64 / 2 ^ (1028 - field binary64 y)) z (size-lt w (field binary64 y) a (field_most binary64 y h p)) ez
      ∙ ap₂ signed (eu ∙ ap (λ (x : Bool). unlike x (sign binary64 y)) (below_test (word s) ∙ ap below0 (to_z-of_z k)))
      (ap (λ (n : ℕ). n / 2 ^ 64 / 2 ^ (1028 - field binary64 y)) (ew ∙ ap₂ ◌*◌ (eg ∙ ap nat_abs (to_z-of_z k)) ed) ∙ by_shift y (nat_abs s) h p b))
      ∙ by_digits y s h p
