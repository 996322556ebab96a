-- What the fields of a finite float's pattern say of it: its value in units of the format's smallest one, and how large those fields get. Assumes nothing.
use Rattle.std.proofs.Common.{◌≡◌, ℕ, zero, suc, ◌+◌, ◌-◌, ◌*◌, ◌/◌, ◌%◌, ◌^◌, ◌<◌, ◌≤◌, Bool, true, false, cond, T, eqb, leb, ◌⊎◌, ℤ, sym, ap, ◌∙◌, subst, inl, inr, le_of_suc-le-suc, le-add_right, lt_irrefl, mod-lt, zero-lt-suc, mul_comm, div-lt_iff_lt-mul, eq-zero-or-pos, mul-pos, zero-mul, ne_of_lt, arith, lit≤, eqb→eq, pow_pos}
use lib.Dec.{eqb-suc-zero, not_T}
use lib.Arith.{lt_of_le-ne}
use lib.Ieee.{Float, nan, inf, fin, Format, binary32, binary64, prec, emax, low, down, hid, ones, top, odd, of_fields, of_bits, to_bits, fits}
use lib.Ieee.Bits.{cond_no, of_bits-to_bits}
use lib.Ieee.Exact.{HasValue, odd_sign}
use lib.Ieee.Fits.{up_pos, eq→eqb}
use lib.Ieee.Scale.{finite}
use Rattle.soft.proofs.Rounding.Pattern.{twice_hid}
use Rattle.soft.specs.Units.{split_def, units_def}

-- ---- the sign, the exponent's field and the digits of what is written for x
abbrev sign : Format → Float → Bool
sign f x = leb (top f) (to_bits f x)

abbrev field : Format → Float → ℕ
field f x = to_bits f x % top f / hid f

abbrev rest : Format → Float → ℕ
rest f x = to_bits f x % hid f

-- with the leading digit, which a field of 0 does not have
under : (f : Format) (y t : ℕ) → ℕ
under f y t = cond (eqb y 0) t (hid f + t)

field_in : (f : Format) (x : Float) → field f x < suc (ones f)
field_in f x =
    (div-lt_iff_lt-mul (pow_pos (prec f - 1))).1
    (subst (λ (a : ℕ). to_bits f x % top f < a) (mul_comm (hid f) (suc (ones f))) (mod-lt (to_bits f x) (mul-pos (pow_pos (prec f - 1)) (zero-lt-suc (ones f)))))

rest_in : (f : Format) (x : Float) → rest f x < hid f
rest_in f x = mod-lt (to_bits f x) (pow_pos (prec f - 1))

read : (f : Format) (x : Float) → T (fits f x) → of_fields f (sign f x) (field f x) (rest f x) ≡ x
unfolding of_bits
read f x k = of_bits-to_bits f x k

-- ---- the field of an infinity or a NaN stands for nothing finite
ones_pos : (e : ℕ) → 0 < 2 * e + 1
ones_pos e = omega arith

under_ones : (f : Format) (s : Bool) (y t : ℕ) → y < suc (ones f) → T (finite (of_fields f s y t)) → y < ones f
unfolding of_fields
under_ones f s zero t h k = ones_pos (emax f)
under_ones f s (suc y) t h k = lt_of_le-ne (le_of_suc-le-suc h) (λ (e : suc y ≡ ones f). go (eqb (suc y) (ones f)) (eqb t 0) (eq→eqb e) k)
  where
    go : (a b : Bool) → T a → T (finite (cond a (cond b (inf s) nan) (odd (prec f) s (hid f + t) y (low f)))) → ⊥
    go true true a k = k
    go true false a k = k
    go false b a k = absurd a

field_lt : (f : Format) (x : Float) → T (fits f x) → T (finite x) → field f x < ones f
field_lt f x k h = under_ones f (sign f x) (field f x) (rest f x) (field_in f x) (subst (λ (z : Float). T (finite z)) (sym (read f x k)) h)

-- ---- the value of the fields
under_suc : (f : Format) (y t : ℕ) → under f (suc y) t ≡ hid f + t
unfolding under
under_suc f y t = ap (λ (b : Bool). cond b t (hid f + t)) (eqb-suc-zero y)

less_one : (y : ℕ) → suc y - 1 ≡ y
less_one y = omega arith

fields_value : (f : Format) (s : Bool) (y t : ℕ) → y < ones f → HasValue (of_fields f s y t) s (under f y t * 2 ^ (y - 1)) (2 ^ low f)
unfolding of_fields under
fields_value f s zero t h = odd_sign (prec f) s t 0 (low f)
fields_value f s (suc y) t h =
    let n = not_T (eqb (suc y) (ones f)) (λ (q : T (eqb (suc y) (ones f))). ne_of_lt h (eqb→eq (suc y) (ones f) q)) in
    rw (under_suc, less_one y, cond_no (eqb (suc y) (ones f)) (cond (eqb t 0) (inf s) nan) (odd (prec f) s (hid f + t) y (low f)) n)
    (odd_sign (prec f) s (hid f + t) y (low f))

pub measured : (f : Format) (x : Float) → T (fits f x) → T (finite x) → HasValue x (units_def f x).negative ((units_def f x).digits * 2 ^ (units_def f x).places) (2 ^ low f)
unfolding split_def under
measured f x k h =
    subst (λ (z : Float). HasValue z (sign f x) (under f (field f x) (rest f x) * 2 ^ (field f x - 1)) (2 ^ low f)) (read f x k)
    (fields_value f (sign f x) (field f x) (rest f x) (field_lt f x k h))

-- ---- how large they get
doubled : (h t w : ℕ) (b : Bool) → w ≡ h * 2 → t < h → cond b t (h + t) < w
doubled h t w true e l = omega arith
doubled h t w false e l = omega arith

pub digits_lt : (f : Format) (x : Float) → (units_def f x).digits < 2 ^ prec f
unfolding split_def
digits_lt f x = doubled (hid f) (rest f x) (2 ^ prec f) (eqb (field f x) 0) (twice_hid f) (rest_in f x)

less : (y e : ℕ) → 0 < e → y < 2 * e + 1 → y - 1 < 2 * e
less y e a b = omega arith

emax_pos : (f : Format) → 0 < emax f
emax_pos binary32 = lit≤ tt
emax_pos binary64 = lit≤ tt

pub places_lt : (f : Format) (x : Float) → T (fits f x) → T (finite x) → (units_def f x).places < 2 * emax f
unfolding split_def
places_lt f x k h = less (field f x) (emax f) (emax_pos f) (field_lt f x k h)

-- from the field 1 on the leading digit is there
led : (f : Format) (y t : ℕ) → 0 < y - 1 → hid f ≤ under f y t
led f zero t h = absurd (lt_irrefl 0 h)
led f (suc y) t h = rw under_suc (le-add_right (hid f) t)

pub leading : (f : Format) (x : Float) → 0 < (units_def f x).places → hid f ≤ (units_def f x).digits
unfolding split_def under
leading f x p = led f (field f x) (rest f x) p

-- ---- of a float that is written out
pub negative_is : (f : Format) (s : Bool) (m : ℕ) (e : ℤ) → T (fits f (fin s m e)) → (units_def f (fin s m e)).negative ≡ s
negative_is f s m e k = sym (measured f (fin s m e) k tt).0

pub digits_pos : (f : Format) (s : Bool) (m : ℕ) (e : ℤ) → T (fits f (fin s (suc m) e)) → 0 < (units_def f (fin s (suc m) e)).digits
digits_pos f s m e k = go (eq-zero-or-pos d)
  where
    d : ℕ
    d = (units_def f (fin s (suc m) e)).digits

    p : ℕ
    p = 2 ^ (units_def f (fin s (suc m) e)).places

    go : (d ≡ 0) ⊎ (0 < d) → 0 < d
    go (inl z) =
        absurd
        (ne_of_lt (mul-pos (mul-pos (zero-lt-suc m) (up_pos e)) (pow_pos (low f)))
        (sym ((measured f (fin s (suc m) e) k tt).1 ∙ ap (λ (q : ℕ). q * p * down e) z ∙ ap (λ (q : ℕ). q * down e) (zero-mul p) ∙ zero-mul (down e))))
    go (inr h) = h

-- ---- what a need has of a test and of `is_finite`
pub holds : {b : Bool} → b ≡ true → T b
holds e = subst T (sym e) tt
