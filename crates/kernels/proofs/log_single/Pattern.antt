-- A positive single by its digits m and the place k of the leading one, as the code has them: of its own pattern, of a double's, and next to 1. Assumes nothing.
use Rattle.std.proofs.Common.{◌≡◌, ℕ, suc, ◌+◌, ◌-◌, ◌*◌, ◌/◌, ◌%◌, ◌^◌, ◌<◌, ◌≤◌, Bool, true, false, cond, ◌&&◌, T, eqb, ltb, leb, ℤ, pos, negsuc, ◌-ℤ◌, nat_abs, sym, refl, ap, ◌∙◌, subst, ap₂, inl, inr, lt_of_lt_of_le, mul_assoc, mul-one, mul-div_cancel, arith, lit<, lit≤, eqb→eq, ltb→lt, leb→le, pow_pos, pow-add, w64, SFits, to_z, lt-ltb}
use native.Mathlib.Nat.{div-eq_of_lt}
use lib.Dec.{not_T}
use lib.Ieee.{Float, binary32, binary64, size, minus, fits, to_bits}
use lib.Ieee.Bits.{is_false}
use lib.Ieee.Fits.{and_l, and_r, fits_widens}
use lib.Ieee.Positive.{positive}
use Rattle.soft.proofs.Rounding.Exponent.{read, exponent_fits, exponent_is}
use Rattle.soft.specs.Units.{units_def}
use Rattle.kernels.specs.Logarithm.{moved, next_to_one}
use Rattle.kernels.specs.inner.Single.{digits_of_def, place_of}
use Rattle.kernels.proofs.Definitions.Natural.{lt-or-ge}
use Rattle.kernels.proofs.log_double.Pattern.{count, placed, short, place_low, place_near, digits_in, field_lt, normal_place, normal_digits}

-- ---- next to 1
far_place : (n l m : ℕ) → (n ≡ l → m < 2 ^ 23 + 2 ^ 14 → ⊥) → next_to_one (minus n l) m ≡ false
far_place n l m h = go (leb l n) (leb→le l n)
  where
    same : (n l : ℕ) → l ≤ n → n - l ≡ 0 → n ≡ l
    same n l k q = omega arith

    go : (u : Bool) → (T u → l ≤ n) → next_to_one (cond u (pos (n - l)) (negsuc (l - suc n))) m ≡ false
    go true k =
        let a = eqb (n - l) 0 in
        let b = ltb m (2 ^ 23 + 2 ^ 14) in
        is_false (a && b) (not_T (a && b) (λ (q : T (a && b)). h (same n l (k tt) (eqb→eq (n - l) 0 (and_l a b q))) (ltb→lt m (2 ^ 23 + 2 ^ 14) (and_r a b q))))
    go false k = refl

-- by the upper digits of a pattern
upper : (b : ℕ) → b / 2 ^ 14 ≡ 0xfe00 → (2 ^ 23 ≤ b) × (b / 2 ^ 23 ≡ 127) × (2 ^ 23 + b % 2 ^ 23 < 2 ^ 23 + 2 ^ 14) × (b % 2 ^ 14 ≡ 2 ^ 23 + b % 2 ^ 23 - 2 ^ 23)
upper b h = (omega arith, omega arith, omega arith, omega arith)

together : (b : ℕ) → b / 2 ^ 23 ≡ 127 → 2 ^ 23 + b % 2 ^ 23 < 2 ^ 23 + 2 ^ 14 → b / 2 ^ 14 ≡ 0xfe00
together b e h = omega arith

-- ---- the digits and their place
pub record Known (x : Float) (m : ℕ) (k : ℤ) : Type 0 where
  pub digits : m ≡ digits_of_def x
  pub place : k ≡ place_of x
  pub asks : (2 ^ 23 ≤ m) × (m < 2 ^ 24) × (nat_abs k ≤ 149)

-- 53 digits of a number of 24
narrow : (n : ℕ) → size n ≤ 24 → moved 53 n / 2 ^ 29 ≡ moved 24 n
narrow n h =
    ap (λ (x : ℕ). x / 2 ^ 29) (ap (λ (j : ℕ). n * 2 ^ j) (omega arith) ∙ ap (λ (x : ℕ). n * x) (pow-add 2 (24 - size n) 29) ∙ sym (mul_assoc n (2 ^ (24 - size n)) (2 ^ 29)))
    ∙ mul-div_cancel (moved 24 n) (pow_pos 29)

module _ (x : Float) (h : T (fits binary32 x)) (p : T (positive x)) where
  pub known : (m : ℕ) (k : ℤ) → m ≡ digits_of_def x → k ≡ place_of x → Known x m k
  known m k a b =
      let d = digits_in binary32 x h p 24 (lit≤ tt) in
      record { digits = a; place = b; asks = (subst (λ (n : ℕ). 2 ^ 23 ≤ n) (sym a) d.0, subst (λ (n : ℕ). n < 2 ^ 24) (sym a) d.1, subst (λ (z : ℤ). nat_abs z ≤ 149) (sym b) (place_near binary32 x h p)) }

  abbrev b : ℕ
  b = to_bits binary32 x

  field_short : b / 2 ^ 23 < 2 ^ 13
  field_short = lt_of_lt_of_le (field_lt binary32 x h p) (lit≤ tt)

  pub field_in : SFits w64 (to_z w64 (b / 2 ^ 23) -ℤ pos 127)
  field_in = exponent_fits 126 (b / 2 ^ 23) (lit< tt) field_short

  pub tiny : b < 2 ^ 23 → next_to_one (place_of x) (digits_of_def x) ≡ false
  tiny l = ap (λ (k : ℤ). next_to_one k (digits_of_def x)) (placed binary32 x h p).place ∙ far_place (count binary32 x) 150 (digits_of_def x) (λ e n. omega (arith, place_low binary32 x h p (div-eq_of_lt l)))

  -- ---- a normal one
  module _ (n : 2 ^ 23 ≤ b) where
    some : b / 2 ^ 23 ≡ 0 → ⊥
    some e = omega arith

    led_is : 2 ^ 23 + b % 2 ^ 23 ≡ digits_of_def x
    led_is = sym (mul-one (2 ^ 23 + b % 2 ^ 23)) ∙ sym (normal_digits binary32 x h p some 24 (lit≤ tt))

    pub normal_known : Known x (2 ^ 23 + b % 2 ^ 23) (read (to_z w64 (b / 2 ^ 23) -ℤ pos 127))
    normal_known = known (2 ^ 23 + b % 2 ^ 23) (read (to_z w64 (b / 2 ^ 23) -ℤ pos 127)) led_is (exponent_is 126 (b / 2 ^ 23) (lit< tt) field_short ∙ sym (normal_place binary32 x h p some))

    near_is : next_to_one (place_of x) (digits_of_def x) ≡ next_to_one (minus (b / 2 ^ 23) 127) (2 ^ 23 + b % 2 ^ 23)
    near_is = ap₂ next_to_one (normal_place binary32 x h p some) (sym led_is)

    pub far_off : (b / 2 ^ 14 ≡ 0xfe00 → ⊥) → next_to_one (place_of x) (digits_of_def x) ≡ false
    far_off u = near_is ∙ far_place (b / 2 ^ 23) 127 (2 ^ 23 + b % 2 ^ 23) (λ e l. u (together b e l))

  pub apart : (b / 2 ^ 14 ≡ 0xfe00 → ⊥) → next_to_one (place_of x) (digits_of_def x) ≡ false
  apart u = elim (lt-or-ge b (2 ^ 23)) [ inl l ↦ tiny l | inr g ↦ far_off g u ]

  pub near : b / 2 ^ 14 ≡ 0xfe00 → (next_to_one (place_of x) (digits_of_def x) ≡ true) × (b % 2 ^ 14 ≡ digits_of_def x - 2 ^ 23)
  near e =
      let u = upper b e in
      (near_is u.0 ∙ ap (λ (y : ℕ). next_to_one (minus y 127) (2 ^ 23 + b % 2 ^ 23)) u.1 ∙ lt-ltb (2 ^ 23 + b % 2 ^ 23) (2 ^ 23 + 2 ^ 14) u.2, u.3 ∙ ap (λ (n : ℕ). n - 2 ^ 23) (led_is u.0))

  -- ---- the same number as a double, which is normal
  wide : T (fits binary64 x)
  wide = fits_widens x h

  abbrev B : ℕ
  B = to_bits binary64 x

  normal : B / 2 ^ 52 ≡ 0 → ⊥
  normal e = clash (count binary64 x) (place_low binary64 x wide p e) (subst (λ (z : ℤ). nat_abs z ≤ 149) (placed binary64 x wide p).place (place_near binary32 x h p))
    where
      clash : (n : ℕ) → n ≤ 53 → nat_abs (minus n 1075) ≤ 149 → ⊥
      clash n l = go (leb 1075 n) (leb→le 1075 n)
        where
          go : (t : Bool) → (T t → 1075 ≤ n) → nat_abs (cond t (pos (n - 1075)) (negsuc (1075 - suc n))) ≤ 149 → ⊥
          go true a k = let g : 1075 ≤ n = a tt in omega arith
          go false a k = omega arith

  pub wide_lt : B / 2 ^ 52 < 2 ^ 13
  wide_lt = lt_of_lt_of_le (field_lt binary64 x wide p) (lit≤ tt)

  pub wide_place : place_of x ≡ minus (B / 2 ^ 52) 1023
  wide_place = normal_place binary64 x wide p normal

  pub wide_digits : digits_of_def x ≡ (2 ^ 52 + B % 2 ^ 52) / 2 ^ 29
  wide_digits =
      let d = (units_def binary32 x).digits in
      (placed binary32 x h p).digits 24 (lit≤ tt) ∙ sym (narrow d (short binary32 x h p)) ∙ ap (λ (n : ℕ). n / 2 ^ 29)
      (sym ((placed binary32 x h p).digits 53 (lit≤ tt)) ∙ normal_digits binary64 x wide p normal 53 (lit≤ tt) ∙ mul-one (2 ^ 52 + B % 2 ^ 52))
