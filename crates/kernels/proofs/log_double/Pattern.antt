-- A positive float of either format by its digits and the place of the leading one, from the fields of its pattern. Assumes nothing.
use Rattle.std.proofs.Common.{◌≡◌, ℕ, zero, suc, ◌+◌, ◌-◌, ◌*◌, ◌/◌, ◌%◌, ◌^◌, ◌<◌, ◌≤◌, Bool, true, false, cond, not, ◌&&◌, T, eqb, ltb, leb, ℤ, pos, negsuc, nat_abs, sym, ap, ◌∙◌, subst, ap₂, le_trans, le_of_eq, le_refl, le-add_right, lt_of_le_of_lt, mul-le-mul_right, mod-lt, mod-eq_of_lt, zero-lt-suc, mul_assoc, mul_comm, le_antisymm, zero-add, mul-one, mul_left_comm, arith, ltb→lt, leb→le, pow_pos, pow-add, shl_lt, ne_eqb, le-leb, leb-false}
use native.Mathlib.Nat.{eq_of_mul-eq-mul_right}
use lib.Dec.{nleb→lt}
use lib.Ieee.{Float, nan, inf, fin, Format, binary32, binary64, prec, emax, low, hid, top, size, up, down, minus, fits, is_nan, to_bits}
use lib.Ieee.Digits.{size-lt, size-le, size_reaches}
use lib.Ieee.Fits.{two, and_l, and_r}
use lib.Ieee.Positive.{positive, positive-finite}
use Rattle.soft.proofs.Rounding.Basics.{pos_of}
use Rattle.soft.proofs.Rounding.Exponent.{sub_minus}
use Rattle.soft.proofs.Rounding.Pattern.{pow_lt_back, twice_hid}
use Rattle.soft.proofs.Rounding.Place.{size_pos}
use Rattle.soft.specs.Units.{split_def, units_def}
use Rattle.soft.proofs.units.Value.{measured, digits_lt, places_lt, negative_is, digits_pos}
use Rattle.kernels.specs.Logarithm.{binade, moved}
use Rattle.kernels.specs.inner.Single.{digits_at, place_of}

pub by_parts : (P : Float → Type 0) → ((m : ℕ) (e : ℤ) → P (fin false (suc m) e)) → (x : Float) → T (positive x) → P x
by_parts P h nan p = absurd p
by_parts P h (inf s) p = absurd p
by_parts P h (fin true m e) p = absurd p
by_parts P h (fin false zero e) p = absurd p
by_parts P h (fin false (suc m) e) p = h m e

pub no_nan : (x : Float) → T (positive x) → T (not (is_nan x))
unfolding is_nan
no_nan x p = by_parts (λ (x : Float). T (not (is_nan x))) (λ (m : ℕ) (e : ℤ). tt) x p

-- ---- sizes
lead_le : (n : ℕ) → 0 < n → 2 ^ (size n - 1) ≤ n
lead_le n p = let h = size_pos n p in size_reaches n (size n - 1) (omega arith)

size_shift : (n k : ℕ) → 0 < n → size (n * 2 ^ k) ≡ size n + k
size_shift n k p =
    le_antisymm (size-le (n * 2 ^ k) (size n + k) (shl_lt (size n) k (size-lt n)))
    (back (size n) k (size (n * 2 ^ k)) (size_pos n p)
    (pow_lt_back (size n - 1 + k) (size (n * 2 ^ k)) (lt_of_le_of_lt (le_trans (le_of_eq (pow-add 2 (size n - 1) k)) (mul-le-mul_right (2 ^ k) (lead_le n p))) (size-lt (n * 2 ^ k)))))
  where
    back : (z k w : ℕ) → 0 < z → z - 1 + k < w → z + k ≤ w
    back z k w p h = omega arith

-- ---- the digits moved up to w
moved_out : (w n k : ℕ) → size n ≤ w → moved w n * 2 ^ (size n + k) ≡ n * 2 ^ k * 2 ^ w
moved_out w n k h =
    ap (λ (x : ℕ). moved w n * x) (pow-add 2 (size n) k) ∙ turn n (2 ^ (w - size n)) (2 ^ size n) (2 ^ k)
    ∙ ap (λ (x : ℕ). n * 2 ^ k * x) (sym (pow-add 2 (w - size n) (size n)) ∙ ap (λ (x : ℕ). 2 ^ x) (omega arith))
  where
    turn : (n u s k : ℕ) → n * u * (s * k) ≡ n * k * (u * s)
    turn n u s k = simp (mul_assoc, mul_comm, mul_left_comm)

pub moved_range : (w n : ℕ) → 0 < n → size n ≤ w → (2 ^ (w - 1) ≤ moved w n) × (moved w n < 2 ^ w)
moved_range w n p l = (
  le_trans (le_of_eq (ap (λ (j : ℕ). 2 ^ j) (less (size_pos n p)) ∙ pow-add 2 (size n - 1) (w - size n))) (mul-le-mul_right (2 ^ (w - size n)) (lead_le n p)),
  subst (λ (j : ℕ). moved w n < 2 ^ j) (omega arith) (shl_lt (size n) (w - size n) (size-lt n)),
)
  where
    less : 0 < size n → w - 1 ≡ size n - 1 + (w - size n)
    less h = omega arith

-- ---- one difference, two ways
minus_same : (a b c d : ℕ) → a + d ≡ c + b → minus a b ≡ minus c d
minus_same a b c d e = go (leb b a) (leb d c) (leb→le b a) (nleb→lt b a) (leb→le d c) (nleb→lt d c)
  where
    go : (s t : Bool) → (T s → b ≤ a) → (T (not s) → a < b) → (T t → d ≤ c) → (T (not t) → c < d) → cond s (pos (a - b)) (negsuc (b - suc a)) ≡ cond t (pos (c - d)) (negsuc (d - suc c))
    go true true p q u v = let h : b ≤ a = p tt in ap pos (omega arith)
    go true false p q u v = let h : b ≤ a = p tt in let k : c < d = v tt in absurd (omega arith)
    go false true p q u v = let h : a < b = q tt in let k : d ≤ c = u tt in absurd (omega arith)
    go false false p q u v = let h : a < b = q tt in ap negsuc (omega arith)

minus_pos : (v l : ℕ) → minus (v + l) l ≡ pos v
minus_pos v l = ap (λ (b : Bool). cond b (pos (v + l - l)) (negsuc (l - suc (v + l)))) (le-leb l (v + l) (omega arith)) ∙ ap pos (omega arith)

minus_size : (n l : ℕ) → 0 < n → n ≤ l + l → nat_abs (minus n (suc l)) ≤ l
minus_size n l a b = go (leb (suc l) n)
  where
    go : (t : Bool) → nat_abs (cond t (pos (n - suc l)) (negsuc (suc l - suc n))) ≤ l
    go true = omega arith
    go false = omega arith

-- ---- two ways to write a number: the place of the leading digit, and the digits
module _ (l w a d p : ℕ) (pa : 0 < a) (ha : size a ≤ w) (pd : 0 < d) (hd : size d ≤ w) where
  module _ (i j : ℕ) (e : a * 2 ^ i ≡ d * 2 ^ j) where
    sizes : size a + i ≡ size d + j
    sizes = sym (size_shift a i pa) ∙ ap size e ∙ size_shift d j pd

    same_moved : moved w a ≡ moved w d
    same_moved =
        eq_of_mul-eq-mul_right (2 ^ (size a + i)) (pow_pos (size a + i)) (moved w a) (moved w d)
        (moved_out w a i ha ∙ ap (λ (x : ℕ). x * 2 ^ w) e ∙ sym (ap (λ (x : ℕ). moved w d * 2 ^ x) sizes ∙ moved_out w d j hd))

  same : (e : ℤ) → a * up e * 2 ^ l ≡ d * 2 ^ p * down e → (binade a e ≡ minus (p + size d) (suc l)) × (moved w a ≡ moved w d)
  same (pos k) h =
      let e : a * 2 ^ (k + l) ≡ d * 2 ^ p = ap (λ (x : ℕ). a * x) (pow-add 2 k l) ∙ sym (mul_assoc a (2 ^ k) (2 ^ l)) ∙ h ∙ mul-one (d * 2 ^ p) in
      (sym (ap (λ (n : ℕ). minus n (suc l)) (place (size a) (size d) k l p (size_pos a pa) (sizes (k + l) p e)) ∙ minus_pos (k + (size a - 1)) (suc l)), same_moved (k + l) p e)
    where
      place : (s t k l p : ℕ) → 0 < s → s + (k + l) ≡ t + p → p + t ≡ k + (s - 1) + suc l
      place s t k l p h e = omega arith
  same (negsuc k) h =
      let e : a * 2 ^ l ≡ d * 2 ^ (p + suc k) = ap (λ (x : ℕ). x * 2 ^ l) (sym (mul-one a)) ∙ h ∙ mul_assoc d (2 ^ p) (2 ^ suc k) ∙ ap (λ (x : ℕ). d * x) (sym (pow-add 2 p (suc k))) in
      (sub_minus (size a - 1) (suc k) ∙ minus_same (size a - 1) (suc k) (p + size d) (suc l) (place (size a) (size d) k l p (size_pos a pa) (sizes l (p + suc k) e)), same_moved l (p + suc k) e)
    where
      place : (s t k l p : ℕ) → 0 < s → s + l ≡ t + (p + suc k) → s - 1 + suc l ≡ p + t + suc k
      place s t k l p h e = omega arith

-- ---- a float by its pattern
fits_digits : (f : Format) (s : Bool) (m : ℕ) (e : ℤ) → T (fits f (fin s (suc m) e)) → suc m < 2 ^ prec f
unfolding fits
fits_digits f s m e h =
    let a = eqb (suc m % 2) 1 in
    let b = ltb (suc m) (2 ^ prec f) in
    let c = leb (down e) (2 ^ low f) in
    ltb→lt (suc m) (2 ^ prec f) (and_r a b (and_l (a && b) c (and_l (a && b && c) (ltb (suc m * up e) (2 ^ suc (emax f) * down e)) h)))

-- the place of the leading digit, counted from the smallest value's
abbrev pub count : Format → Float → ℕ
count f x = (units_def f x).places + size (units_def f x).digits

pub record Placed (f : Format) (x : Float) : Type 0 where
  pub some : 0 < (units_def f x).digits
  pub plus : to_bits f x < top f
  pub place : place_of x ≡ minus (count f x) (suc (low f))
  pub digits : (w : ℕ) → prec f ≤ w → digits_at w x ≡ moved w (units_def f x).digits

placed_at : (f : Format) (m : ℕ) (e : ℤ) → T (fits f (fin false (suc m) e)) → (w : ℕ) → prec f ≤ w
    → (binade (suc m) e ≡ minus (count f (fin false (suc m) e)) (suc (low f))) × (moved w (suc m) ≡ moved w (units_def f (fin false (suc m) e)).digits)
placed_at f m e h w n =
    let x = fin false (suc m) e in
    let d = (units_def f x).digits in
    let l = size-le (suc m) (prec f) (fits_digits f false m e h) in
    let k = size-le d (prec f) (digits_lt f x) in
    same (low f) w (suc m) d (units_def f x).places (zero-lt-suc m) (le_trans l n) (digits_pos f false m e h) (le_trans k n) e (measured f x h tt).1

module _ (f : Format) (x : Float) (h : T (fits f x)) (p : T (positive x)) where
  abbrev b : ℕ
  b = to_bits f x

  pub short : size (units_def f x).digits ≤ prec f
  short = size-le (units_def f x).digits (prec f) (digits_lt f x)

  pub placed : Placed f x
  unfolding split_def
  placed = by_parts (λ (x : Float). T (fits f x) → Placed f x) go x p h
    where
      go : (m : ℕ) (e : ℤ) → T (fits f (fin false (suc m) e)) → Placed f (fin false (suc m) e)
      go m e h = record { some = digits_pos f false m e h; plus = leb-false (top f) (to_bits f (fin false (suc m) e)) (negative_is f false (suc m) e h); place = (placed_at f m e h (prec f) (le_refl (prec f))).0; digits = λ w n. (placed_at f m e h w n).1 }

  pub digits_in : (w : ℕ) → prec f ≤ w → (2 ^ (w - 1) ≤ digits_at w x) × (digits_at w x < 2 ^ w)
  digits_in w n = subst (λ (d : ℕ). (2 ^ (w - 1) ≤ d) × (d < 2 ^ w)) (sym (placed.digits w n)) (moved_range w (units_def f x).digits placed.some (le_trans short n))

  pub places_few : (units_def f x).places < 2 * emax f
  places_few = places_lt f x h (positive-finite x p)

  pub place_near : nat_abs (place_of x) ≤ low f
  place_near =
      let y = (units_def f x).places in
      let z = size (units_def f x).digits in
      subst (λ (k : ℤ). nat_abs k ≤ low f) (sym placed.place) (minus_size (count f x) (low f) (omega (arith, size_pos (units_def f x).digits placed.some)) (far f y z places_few short))
    where
      far : (f : Format) (a b : ℕ) → a < 2 * emax f → b ≤ prec f → a + b ≤ low f + low f
      far binary32 a b h k = omega arith
      far binary64 a b h k = omega arith

  pub field_lt : b / hid f < 2 ^ 11
  field_lt = go f b placed.plus
    where
      go : (f : Format) (b : ℕ) → b < top f → b / hid f < 2 ^ 11
      go binary32 b h = omega arith
      go binary64 b h = omega arith

  -- below the normal range
  pub place_low : b / hid f ≡ 0 → count f x ≤ prec f
  unfolding split_def
  place_low e = le_trans (le_of_eq (ap (λ (y : ℕ). y + size (units_def f x).digits) (ap (λ (y : ℕ). y / hid f - 1) (mod-eq_of_lt placed.plus) ∙ ap (λ (y : ℕ). y - 1) e) ∙ zero-add (size (units_def f x).digits))) short

  -- and within it
  module _ (n : b / hid f ≡ 0 → ⊥) where
    abbrev led : ℕ
    led = hid f + b % hid f

    units_are : ((units_def f x).digits ≡ led) × ((units_def f x).places ≡ b / hid f - 1)
    unfolding split_def
    units_are =
        let q = ap (λ (y : ℕ). y / hid f) (mod-eq_of_lt placed.plus) in
        (ap (λ (y : ℕ). cond (eqb y 0) (b % hid f) led) q ∙ ap (λ (t : Bool). cond t (b % hid f) led) (ne_eqb (b / hid f) 0 n), ap (λ (y : ℕ). y - 1) q)

    size_led : size led ≡ prec f
    size_led =
        le_antisymm (size-le led (prec f) (subst (λ (z : ℕ). led < z) (sym (twice_hid f)) (twice (hid f) (b % hid f) (mod-lt b (pow_pos (prec f - 1))))))
        (back (prec f) (size led) (two f) (pow_lt_back (prec f - 1) (size led) (lt_of_le_of_lt (le-add_right (hid f) (b % hid f)) (size-lt led))))
      where
        twice : (h t : ℕ) → t < h → h + t < h * 2
        twice h t k = omega arith

        back : (p s : ℕ) → 2 ≤ p → p - 1 < s → p ≤ s
        back p s a b = omega arith

    pub normal_place : place_of x ≡ minus (b / hid f) (emax f)
    normal_place =
        placed.place ∙ ap₂ (λ (y z : ℕ). minus (y + z) (suc (low f))) units_are.1 (ap size units_are.0 ∙ size_led)
        ∙ minus_same (b / hid f - 1 + prec f) (suc (low f)) (b / hid f) (emax f) (sums (b / hid f) (prec f) (emax f) (pos_of (b / hid f) n) (two f))
      where
        sums : (y p e : ℕ) → 0 < y → 2 ≤ p → y - 1 + p + e ≡ y + suc (e + p - 2)
        sums y p e h k = omega arith

    pub normal_digits : (w : ℕ) → prec f ≤ w → digits_at w x ≡ led * 2 ^ (w - prec f)
    normal_digits w l = placed.digits w l ∙ ap (moved w) units_are.0 ∙ ap (λ (z : ℕ). led * 2 ^ (w - z)) size_led
