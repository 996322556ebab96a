-- A value of the format is what its own fraction rounds to. Assumes nothing.
use Rattle.std.proofs.Common.{◌≡◌, ℕ, zero, suc, ◌+◌, ◌-◌, ◌*◌, ◌/◌, ◌%◌, ◌^◌, ◌<◌, ◌≤◌, Bool, cond, ◌&&◌, T, eqb, ltb, leb, ℤ, pos, negsuc, sym, refl, ap, ◌∙◌, ap₂, le_of_eq, lt_of_lt_of_le, lt_of_le_of_lt, mul_assoc, mul_comm, lt_of_mul-lt-mul_right, mul-lt-mul_of_pos_right, one-mul, zero-mul, mul-one, mul_right_comm, ltb→lt, leb→le, pow_pos, pow-add}
use lib.Ieee.{Float, nan, inf, fin, Format, prec, emax, low, size, up, down, round, fits, of_bits, to_bits, hid, top}
use lib.Ieee.Bits.{of_bits-to_bits}
use lib.Ieee.Digits.{back}
use lib.Ieee.Exact.{HasValue, round_exact}
use lib.Ieee.Fits.{and_l, and_r, down_pos, round-fits}
use lib.Ieee.Nearest.{div_same}
use lib.Ieee.Scale.{round_same}
use Rattle.soft.proofs.Rounding.Pattern.{pow_le_back}

-- ---- one value, one text: its bits are those of its sign and its size
bits : Format → Bool → ℕ → ℕ
bits f s n = cond s (top f) 0 + (size n - prec f) * hid f + n / 2 ^ (size n - prec f)

of_value : (f : Format) (x : Float) (s : Bool) (a c : ℕ) → T (fits f x) → 0 < c → HasValue x s a c → of_bits f (bits f s (a * 2 ^ low f / c)) ≡ x
unfolding bits to_bits
of_value f nan s a c k z v = absurd v
of_value f (inf t) s a c k z v = absurd v
of_value f (fin t m e) s a c k z v =
    sym (ap (of_bits f) (ap₂ (bits f) v.0 (div_same (m * up e * 2 ^ low f) (down e) (a * 2 ^ low f) c (down_pos e) z (turned (m * up e) (2 ^ low f) c a (down e) v.1))))
    ∙ of_bits-to_bits f (fin t m e) k
  where
    turned : (x l c a d : ℕ) → x * c ≡ a * d → x * l * c ≡ a * l * d
    turned x l c a d h = mul_right_comm x l c ∙ ap (λ (y : ℕ). y * l) h ∙ mul_right_comm a d l

pub unique : (f : Format) (x y : Float) (s : Bool) (a c : ℕ) → T (fits f x) → T (fits f y) → 0 < c → HasValue x s a c → HasValue y s a c → x ≡ y
unique f x y s a c k l z v w = sym (of_value f x s a c k z v) ∙ of_value f y s a c l z w

-- ---- what a value of the format says of its digits and its exponent
module _ (f : Format) (s : Bool) (m : ℕ) (e : ℤ) (k : T (fits f (fin s (suc m) e))) where
  parts : T (ltb (suc m) (2 ^ prec f)) × T (leb (down e) (2 ^ low f)) × T (ltb (suc m * up e) (2 ^ suc (emax f) * down e))
  unfolding fits
  parts =
      let a = eqb (suc m % 2) 1 in
      let b = ltb (suc m) (2 ^ prec f) in
      let c = leb (down e) (2 ^ low f) in
      let d = ltb (suc m * up e) (2 ^ suc (emax f) * down e) in
      (and_r a b (and_l (a && b) c (and_l (a && b && c) d k)), and_r (a && b) c (and_l (a && b && c) d k), and_r (a && b && c) d k)

  pub digits_below : suc m < 2 ^ prec f
  digits_below = ltb→lt (suc m) (2 ^ prec f) parts.0

  pub not_low : down e ≤ 2 ^ low f
  not_low = leb→le (down e) (2 ^ low f) parts.1

  pub not_high : suc m * up e < 2 ^ suc (emax f) * down e
  not_high = ltb→lt (suc m * up e) (2 ^ suc (emax f) * down e) parts.2

-- ---- nothing to round
-- 2 ^ e in smallest values
shift : (f : Format) (e : ℤ) → down e ≤ 2 ^ low f → (j : ℕ) × (up e * 2 ^ low f ≡ 2 ^ j * down e)
shift f (pos a) h = (a + low f, sym (pow-add 2 a (low f)) ∙ sym (mul-one (2 ^ (a + low f))))
shift f (negsuc a) h = (low f - suc a, one-mul (2 ^ low f) ∙ ap (λ (x : ℕ). 2 ^ x) (sym (back (low f) (suc a) (pow_le_back (suc a) (low f) h))) ∙ pow-add 2 (low f - suc a) (suc a))

in_units : (q u l j d : ℕ) → u * l ≡ j * d → q * u * l ≡ q * j * d
in_units q u l j d h = mul_assoc q u l ∙ ap (λ (x : ℕ). q * x) h ∙ sym (mul_assoc q j d)

in_range : (x l h d y : ℕ) → 0 < d → 0 < l → x * l ≡ y * d → x < h * d → y < l * h
in_range x l h d y D L e t =
    lt_of_mul-lt-mul_right d (lt_of_le_of_lt (le_of_eq (sym e)) (lt_of_lt_of_le (mul-lt-mul_of_pos_right t L) (le_of_eq (mul_comm (h * d) l ∙ sym (mul_assoc l h d)))))

exact : (f : Format) (s : Bool) (m : ℕ) (e : ℤ) → T (fits f (fin s m e)) → HasValue (round f s (m * up e) (down e)) s (m * up e) (down e)
exact f s zero e k = round_exact f s (zero * up e) (down e) 0 0 (down_pos e) (pow_pos (prec f)) (pow_pos (low f + suc (emax f))) (ap (λ (x : ℕ). x * 2 ^ low f) (zero-mul (up e)) ∙ zero-mul (2 ^ low f) ∙ sym (zero-mul (down e)))
exact f s (suc m) e k =
    let j = shift f e (not_low f s m e k) in
    let u = in_units (suc m) (up e) (2 ^ low f) (2 ^ j.0) (down e) j.1 in
    round_exact f s (suc m * up e) (down e) (suc m) j.0 (down_pos e) (digits_below f s m e k)
    (lt_of_lt_of_le (in_range (suc m * up e) (2 ^ low f) (2 ^ suc (emax f)) (down e) (suc m * 2 ^ j.0) (down_pos e) (pow_pos (low f)) u (not_high f s m e k)) (le_of_eq (sym (pow-add 2 (low f) (suc (emax f))))))
    u

-- from any fraction of the same size
pub settles : (f : Format) (s : Bool) (m : ℕ) (e : ℤ) (a c : ℕ) → T (fits f (fin s m e)) → 0 < c → a * down e ≡ m * up e * c → round f s a c ≡ fin s m e
settles f s m e a c k z h =
    round_same f s a c (m * up e) (down e) z (down_pos e) h
    ∙ unique f (round f s (m * up e) (down e)) (fin s m e) s (m * up e) (down e) (round-fits f s (m * up e) (down e)) k (down_pos e) (exact f s m e k) (refl, refl)
