-- The fields of a float's pattern, its units by them, and the exponent's field of a y from -16 to 16. Assumes nothing.
use Rattle.std.proofs.Common.{◌≡◌, ℕ, zero, suc, ◌+◌, ◌-◌, ◌*◌, ◌^◌, ◌<◌, ◌≤◌, Bool, cond, not, T, eqb, ◌⊎◌, ℤ, sym, refl, ap, inl, inr, le_trans, le_of_eq, not-suc-le-zero, mul-le-mul_right, eq-zero-or-pos, le_of_mul-le-mul_right, arith, pow-add}
use lib.Dec.{eqb-suc-zero}
use lib.Ieee.{Float, nan, inf, fin, Format, hid, fits, is_nan, binary32, binary64, prec, emax, low, up, down}
use lib.Ieee.Scale.{finite}
use lib.Ieee.Fits.{down_pos}
use Rattle.soft.specs.Units.{split_def, units_def}
use Rattle.soft.proofs.units.Value.{negative_is, measured, leading}
use Rattle.soft.proofs.Rounding.Pattern.{pow_le_back}
use Rattle.kernels.specs.Kernels.{powered}
use Rattle.kernels.specs.inner.Fields.{sign, field, rest}
use Rattle.kernels.proofs.Definitions.Cases.{powered_finite, at_most_16}

pub no_nan : (x : Float) → T (finite x) → T (not (is_nan x))
unfolding is_nan
no_nan nan h = absurd h
no_nan (inf s) h = tt
no_nan (fin s m e) h = tt

-- x is ± digits 2 ^ places smallest values
pub sign_is : (f : Format) (s : Bool) (m : ℕ) (e : ℤ) → T (fits f (fin s m e)) → sign f (fin s m e) ≡ s
unfolding split_def
sign_is f s m e k = negative_is f s m e k

pub places_is : (f : Format) (x : Float) → (units_def f x).places ≡ field f x - 1
unfolding split_def
places_is f x = refl

pub digits_is : (f : Format) (x : Float) → 0 < field f x → (units_def f x).digits ≡ hid f + rest f x
unfolding split_def
digits_is f x h = go (field f x) h
  where
    go : (F : ℕ) → 0 < F → cond (eqb F 0) (rest f x) (hid f + rest f x) ≡ hid f + rest f x
    go zero h = absurd (not-suc-le-zero h)
    go (suc F) h = ap (λ (b : Bool). cond b (rest f x) (hid f + rest f x)) (eqb-suc-zero F)

-- ---- from -16 to 16
size_most : (u w a v : ℕ) → 0 < v → u ≤ 16 * v → u * w ≡ a * v → a ≤ 2 ^ 4 * w
size_most u w a v p h e = le_of_mul-le-mul_right {k = v} (omega (arith, e, mul-le-mul_right w h)) p

few : (r l d p : ℕ) → (0 < p → 2 ^ r ≤ d) → d * 2 ^ p ≤ 2 ^ (4 + l) → (p ≡ 0) ⊎ (r + p ≤ 4 + l)
few r l d p f h = elim (eq-zero-or-pos p) [
  | inl e ↦ inl e
  | inr q ↦ inr (pow_le_back (r + p) (4 + l) (le_trans (le_of_eq (pow-add 2 r p)) (le_trans (mul-le-mul_right (2 ^ p) (f q)) h)))
]

places_few : (f : Format) (y : Float) → T (fits f y) → T (powered y) → ((units_def f y).places ≡ 0) ⊎ (prec f - 1 + (units_def f y).places ≤ 4 + low f)
places_few f nan h p = absurd (powered_finite nan p)
places_few f (inf s) h p = absurd (powered_finite (inf s) p)
places_few f (fin t n d) h p =
    let u = units_def f (fin t n d) in
    few (prec f - 1) (low f) u.digits u.places (leading f (fin t n d))
    (le_trans (size_most (n * up d) (2 ^ low f) (u.digits * 2 ^ u.places) (down d) (down_pos d) (at_most_16 t n d p) (measured f (fin t n d) h tt).1) (le_of_eq (sym (pow-add 2 4 (low f)))))

pub field_most : (f : Format) (y : Float) → T (fits f y) → T (powered y) → field f y ≤ emax f + 4
unfolding split_def
field_most f y h p = go f (field f y) (places_few f y h p)
  where
    go : (f : Format) (F : ℕ) → (F - 1 ≡ 0) ⊎ (prec f - 1 + (F - 1) ≤ 4 + low f) → F ≤ emax f + 4
    go binary32 F (inl e) = omega arith
    go binary32 F (inr l) = omega arith
    go binary64 F (inl e) = omega arith
    go binary64 F (inr l) = omega arith
