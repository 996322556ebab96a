-- What is promised of exp, ln and pow, from document 01, 'Exact values behind the kernels', in double from change request K4, and of exp less 1 from K1. The code is proved
-- equal to exp_def, expm1_def, ln_def and pow_def (kernels/specs); these statements are about those definitions. Their proofs stand in proofs/Distances. Assumes nothing.
use Rattle.std.specs.Prelude.{◌≡◌, Bool, true, false, not, ◌&&◌, cond, ℕ, zero, suc, ◌+◌, ◌-◌, ◌*◌, ◌^◌, ◌≤◌, T, ℤ, pos, Float}
use Rattle.std.specs.Bool.{beq}
use Rattle.std.specs.Float.{nan, inf, fin, Format, binary32, binary64}
use Rattle.std.specs.Float.Ieee.{unlike, up, down, fits, le}
use Rattle.std.specs.Float.Ieee.Scale.{finite}
use Rattle.table.specs.Exact.{Frac, Signed, minus_frac, E, L}
use Rattle.kernels.specs.Kernels.{exp_def, expm1_def, ln_def, pow_def, powered, kernel_refusal}

-- ---- distances
-- y is a number, not negative, and within 2 ^ -p * q of the fraction q: (1 - 2 ^ -p) q ≤ y ≤ (1 + 2 ^ -p) q
abbrev pub Near : ℕ → Float → Frac → Type 0
Near p nan q = ⊥
Near p (inf s) q = ⊥
Near p (fin true m e) q = ⊥
Near p (fin false m e) q =
    (m * up e * q.den * 2 ^ p ≤ q.num * down e * (2 ^ p + 1))
    × (q.num * down e * (2 ^ p - 1) ≤ m * up e * q.den * 2 ^ p)

-- the distance of ±x and ±v
abbrev pub apart : Bool → ℕ → Bool → ℕ → ℕ
apart s x t v = cond (beq s t) ((x - v) + (v - x)) (x + v)

-- y is a number, and within 2 ^ -p * |q| + 2 ^ -a of q. Over one denominator d: y = ±x / d, q = ±v / d
abbrev pub Close : (p a : ℕ) → Float → Signed → Type 0
Close p a nan q = ⊥
Close p a (inf s) q = ⊥
Close p a (fin s m e) q =
    let x = m * up e * q.size.den in
    let v = q.size.num * down e in
    let d = q.size.den * down e in
    apart s x q.negative v * 2 ^ (p + a) ≤ v * 2 ^ a + d * 2 ^ p

-- |A| ≤ 86 and 2 ^ -23 in single, |A| ≤ 700 and 2 ^ -50 in double: document 01 asks 2 ^ -44 there, and K4 2 ^ -50 up to 32
abbrev pub reach : Format → ℕ
reach binary32 = 86
reach binary64 = 700

abbrev pub power_bits : Format → ℕ
power_bits binary32 = 23
power_bits binary64 = 50

-- 2 ^ -23 |L| + 2 ^ -48 in single, 2 ^ -52 |L| + 2 ^ -60 in double (K4; document 01 asks 2 ^ -50 |L| + 2 ^ -48)
abbrev pub log_bits : Format → ℕ
log_bits binary32 = 23
log_bits binary64 = 52

abbrev pub abs_bits : Format → ℕ
abs_bits binary32 = 48
abs_bits binary64 = 60

-- from |A| = 89 or 710 on the result is +infinity or +0
abbrev pub edge : Format → ℕ
edge binary32 = 89
edge binary64 = 710

abbrev pub ended : Bool → Float
ended neg = cond neg (fin false 0 (pos 0)) (inf false)

-- exp(x), for x = ±m * 2 ^ e: A is x
abbrev pub ExpNear : Format → Type 0
ExpNear f =
    (s : Bool) (m : ℕ) (e : ℤ) → T (fits f (fin s m e)) → m * up e ≤ reach f * down e
    → Near (power_bits f) (exp_def f (fin s m e)) (E s (m * up e) (down e))

abbrev pub ExpEnds : Format → Type 0
ExpEnds f = (s : Bool) (m : ℕ) (e : ℤ) → T (fits f (fin s m e)) → edge f * down e ≤ m * up e → exp_def f (fin s m e) ≡ ended s

-- ln(x), for x = m * 2 ^ e above 0
abbrev pub LnClose : Format → Type 0
LnClose f = (m : ℕ) (e : ℤ) → T (fits f (fin false (suc m) e)) → Close (log_bits f) (abs_bits f) (ln_def f (fin false (suc m) e)) (L (suc m) e)

-- pow(x, y), for x = m * 2 ^ e above 0 and y = ±n * 2 ^ d from -16 to 16: A is y * L(x) = ±(n 2 ^ d num) / den
abbrev pub argument : (n : ℕ) (d : ℤ) → Frac → Frac
argument n d l = record { num = n * up d * l.num; den = down d * l.den }

abbrev pub PowNear : Format → Type 0
PowNear f =
    (m : ℕ) (e : ℤ) (t : Bool) (n : ℕ) (d : ℤ) → T (fits f (fin false (suc m) e)) → T (fits f (fin t n d)) → T (powered (fin t n d))
    → (argument n d (L (suc m) e).size).num ≤ reach f * (argument n d (L (suc m) e).size).den
    → Near (power_bits f) (pow_def f (fin false (suc m) e) (fin t n d))
    (E (unlike (L (suc m) e).negative t) (argument n d (L (suc m) e).size).num (argument n d (L (suc m) e).size).den)

abbrev pub PowEnds : Format → Type 0
PowEnds f =
    (m : ℕ) (e : ℤ) (t : Bool) (n : ℕ) (d : ℤ) → T (fits f (fin false (suc m) e)) → T (fits f (fin t n d)) → T (powered (fin t n d))
    → edge f * (argument n d (L (suc m) e).size).den ≤ (argument n d (L (suc m) e).size).num
    → pow_def f (fin false (suc m) e) (fin t n d) ≡ ended (unlike (L (suc m) e).negative t)

-- ---- exact values
abbrev pub float_one : Float
float_one = fin false 1 (pos 0)

-- exp(±0) = 1
abbrev pub ExpZero : Format → Type 0
ExpZero f = (s : Bool) → exp_def f (fin s 0 (pos 0)) ≡ float_one

-- ln 1 = +0
abbrev pub LnOne : Format → Type 0
LnOne f = ln_def f float_one ≡ fin false 0 (pos 0)

-- pow(1, y) = pow(x, ±0) = 1
abbrev pub PowOne : Format → Type 0
PowOne f = (y : Float) → T (powered y) → pow_def f float_one y ≡ float_one

abbrev pub PowZero : Format → Type 0
PowZero f = (m : ℕ) (e : ℤ) (s : Bool) → pow_def f (fin false (suc m) e) (fin s 0 (pos 0)) ≡ float_one

-- x ≥ 1 with y ≤ 0 never gives above 1
abbrev pub PowAtMostOne : Format → Type 0
PowAtMostOne f =
    (x y : Float) → T (fits f x) → T (fits f y) → T (finite x) → T (powered y) → T (le float_one x) → T (le y (fin false 0 (pos 0))) →
    T (le (pow_def f x y) float_one)

-- ---- refusal 10 stands exactly outside the domain
abbrev pub positive : Float → Bool
positive nan = false
positive (inf s) = false
positive (fin s zero e) = false
positive (fin s (suc m) e) = not s

abbrev pub ExpRefuses : Format → Type 0
ExpRefuses f = (x : Float) → kernel_refusal (exp_def f x) ≡ cond (finite x) 0 10

abbrev pub LnRefuses : Format → Type 0
LnRefuses f = (x : Float) → kernel_refusal (ln_def f x) ≡ cond (positive x) 0 10

abbrev pub PowRefuses : Format → Type 0
PowRefuses f = (x y : Float) → kernel_refusal (pow_def f x y) ≡ cond (positive x && powered y) 0 10

-- ---- all of it
pub record Kernels (f : Format) : Type 0 where
  pub exp_near : ExpNear f
  pub exp_ends : ExpEnds f
  pub exp_zero : ExpZero f
  pub exp_refuses : ExpRefuses f
  pub ln_close : LnClose f
  pub ln_one : LnOne f
  pub ln_refuses : LnRefuses f
  pub pow_near : PowNear f
  pub pow_ends : PowEnds f
  pub pow-one : PowOne f
  pub pow-zero : PowZero f
  pub pow_at_most_one : PowAtMostOne f
  pub pow_refuses : PowRefuses f

-- ---- exp less 1, in single
-- E(±a / b) - 1
abbrev pub EMinus : Bool → (a b : ℕ) → Signed
EMinus s a b = minus_frac (E s a b).num (E s a b).den (E s a b).den

-- 'for |x| <= 86 within 2^-23 |E(x) - 1| + 2^-48 of the exact value, and exactly 0 at ±0' (change request K1): the zero that was given. From 89 on
-- it is +infinity, from -89 on -1, and refusal 10 stands exactly outside the domain
pub record Minus : Type 0 where
  pub near :
      (s : Bool) (m : ℕ) (e : ℤ) → T (fits binary32 (fin s m e)) → m * up e ≤ 86 * down e
      → Close 23 48 (expm1_def (fin s m e)) (EMinus s (m * up e) (down e))
  pub at_zero : (s : Bool) → expm1_def (fin s 0 (pos 0)) ≡ fin s 0 (pos 0)
  pub ends :
      (s : Bool) (m : ℕ) (e : ℤ) → T (fits binary32 (fin s m e)) → 89 * down e ≤ m * up e
      → expm1_def (fin s m e) ≡ cond s (fin true 1 (pos 0)) (inf false)
  pub refuses : (x : Float) → kernel_refusal (expm1_def x) ≡ cond (finite x) 0 10
