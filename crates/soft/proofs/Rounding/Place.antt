-- A number of 63 digits times a power of two, rounded to a format: which digits are dropped, what is kept, and the bits.
-- The fraction is v * 2 ^ x / 2 ^ (low + g): x and g count from the format's smallest value, so nothing here is negative. Assumes nothing.
use Rattle.std.proofs.Common.{◌≡◌, ℕ, ◌+◌, ◌-◌, ◌*◌, ◌/◌, ◌%◌, ◌^◌, ◌<◌, ◌≤◌, min, Bool, true, false, cond, ◌⊎◌, pos, sym, refl, ap, ◌∙◌, subst, inl, inr, le_trans, le_of_eq, lt_of_lt_of_le, lt_of_le_of_lt, mul-le-mul_right, mul_assoc, mul_comm, div-lt_iff_lt-mul, eq-zero-or-pos, add_comm, eq-or-lt_of_le, mul-pos, le-div_iff_mul-le, zero-mul, mul_left_comm, arith, lit≤, pow_pos, pow_mono, pow-add, shl_lt}
use Prim.Native.Nat.{compare}
use native.Mathlib.Nat.{mul-div-mul_right}
use lib.Ieee.{fin, Format, binary32, binary64, prec, low, hid, ones, top, size, round, of_bits}
use lib.Ieee.Digits.{size-lt, size-le, size_reaches}
use lib.Ieee.Fits.{two, nearest-le}
use lib.Ieee.Nearest.{closest, closest_same, nearest-ge}
use lib.Ieee.Scale.{round_same}
use Rattle.soft.specs.inner.Pack.{normalised}
use Rattle.soft.proofs.Rounding.Pattern.{Kept, exactly, pow_lt_back, round_pattern}

-- t is where the normal range begins: an exponent of t or less drops no digit of the format's smallest value
pub record Range (f : Format) (g t : ℕ) : Type 0 where
  pub is : t + 63 ≡ g + prec f

wide : (f : Format) → prec f ≤ 63
wide binary32 = lit≤ tt
wide binary64 = lit≤ tt

-- exponents: x, the drop k = x - t, and the shift d = g + k - x
shift_back : (x t g p : ℕ) → p ≤ 63 → t + 63 ≡ g + p → g + (x - t) - x + x ≡ g + (x - t)
shift_back x t g p a e = omega arith

shift_least : (x t g p : ℕ) → p ≤ 63 → t + 63 ≡ g + p → 63 ≤ p + (g + (x - t) - x)
shift_least x t g p a e = omega arith

shift_is : (x t g p : ℕ) → 2 ≤ p → p ≤ 63 → t + 63 ≡ g + p → 0 < x - t → p - 1 + (g + (x - t) - x) ≡ 62
shift_is x t g p b a e h = omega arith

top-le : (x t g p : ℕ) → t + 63 ≡ g + p → 63 + x ≤ p + (x - t) + g
top-le x t g p e = omega arith

low-is : (x t g p : ℕ) → 2 ≤ p → t + 63 ≡ g + p → 0 < x - t → p - 1 + (x - t) + g ≡ 62 + x
low-is x t g p b e h = omega arith

none : (z p : ℕ) → z ≤ p + 0 → z - p ≡ 0
none z p h = omega arith

module _ (f : Format) (g t v x : ℕ) (r : Range f g t) (lo : 2 ^ 62 ≤ v) (hi : v < 2 ^ 63) where
  whole : v * 2 ^ x * 2 ^ low f / 2 ^ (low f + g) ≡ v * 2 ^ x / 2 ^ g
  whole = ap (λ (y : ℕ). v * 2 ^ x * 2 ^ low f / y) (pow-add 2 (low f) g ∙ mul_comm (2 ^ low f) (2 ^ g)) ∙ mul-div-mul_right (v * 2 ^ x) (2 ^ g) (pow_pos (low f))

  at_most : v * 2 ^ x / 2 ^ g < 2 ^ (prec f + (x - t))
  at_most = (div-lt_iff_lt-mul (pow_pos g)).1 (lt_of_lt_of_le (shl_lt 63 x hi) (le_trans (pow_mono (top-le x t g (prec f) r.is)) (le_of_eq (pow-add 2 (prec f + (x - t)) g))))

  at_least : 0 < x - t → 2 ^ (prec f - 1 + (x - t)) ≤ v * 2 ^ x / 2 ^ g
  at_least h =
      (le-div_iff_mul-le (pow_pos g)).1
      (le_trans (le_of_eq (sym (pow-add 2 (prec f - 1 + (x - t)) g) ∙ ap (λ (y : ℕ). 2 ^ y) (low-is x t g (prec f) (two f) r.is h)
      ∙ pow-add 2 62 x)) (mul-le-mul_right (2 ^ x) lo))

  drop_is : size (v * 2 ^ x * 2 ^ low f / 2 ^ (low f + g)) - prec f ≡ x - t
  drop_is = ap (λ (y : ℕ). size y - prec f) whole ∙ go (eq-zero-or-pos (x - t))
    where
      up_to : size (v * 2 ^ x / 2 ^ g) ≤ prec f + (x - t)
      up_to = size-le (v * 2 ^ x / 2 ^ g) (prec f + (x - t)) at_most

      go : ((x - t) ≡ 0) ⊎ (0 < x - t) → size (v * 2 ^ x / 2 ^ g) - prec f ≡ x - t
      go (inl e) = none (size (v * 2 ^ x / 2 ^ g)) (prec f) (subst (λ (k : ℕ). size (v * 2 ^ x / 2 ^ g) ≤ prec f + k) e up_to) ∙ sym e
      go (inr h) = exactly (size (v * 2 ^ x / 2 ^ g)) (prec f) (x - t) (two f) up_to
          (pow_lt_back (prec f - 1 + (x - t)) (size (v * 2 ^ x / 2 ^ g)) (lt_of_le_of_lt (at_least h) (size-lt (v * 2 ^ x / 2 ^ g))))

  -- the shift that the code makes
  abbrev d : ℕ
  d = g + (x - t) - x

  kept_is : closest (v * 2 ^ x * 2 ^ low f) (2 ^ (low f + g) * 2 ^ (x - t)) ≡ closest v (2 ^ d)
  kept_is =
      closest_same (v * 2 ^ x * 2 ^ low f) (2 ^ (low f + g) * 2 ^ (x - t)) v (2 ^ d) (mul-pos (pow_pos (low f + g)) (pow_pos (x - t))) (pow_pos d)
      (join (2 ^ x) (2 ^ low f) (2 ^ d) (2 ^ g) (2 ^ (x - t))
      (sym (pow-add 2 d x) ∙ ap (λ (y : ℕ). 2 ^ y) (shift_back x t g (prec f) (wide f) r.is) ∙ pow-add 2 g (x - t))
      ∙ ap (λ (y : ℕ). v * (y * 2 ^ (x - t))) (sym (pow-add 2 (low f) g)))
    where
      join : (a l b c k : ℕ) → b * a ≡ c * k → v * a * l * b ≡ v * (l * c * k)
      join a l b c k e = simp (mul_assoc, mul_comm, mul_left_comm) (simp (mul_assoc, mul_comm, mul_left_comm) at (ap (λ (y : ℕ). v * (l * y)) e))

  top_lt : v / 2 ^ d < 2 ^ prec f
  top_lt = (div-lt_iff_lt-mul (pow_pos d)).1 (lt_of_lt_of_le hi (le_trans (pow_mono (shift_least x t g (prec f) (wide f) r.is)) (le_of_eq (pow-add 2 (prec f) d))))

  q_le : closest v (2 ^ d) ≤ 2 ^ prec f
  q_le = le_trans (nearest-le (v / 2 ^ d) (compare (v % 2 ^ d * 2) (2 ^ d))) top_lt

  q_ge : 0 < x - t → hid f ≤ closest v (2 ^ d)
  q_ge h =
      le_trans
      ((le-div_iff_mul-le (pow_pos d)).1 (le_trans (le_of_eq (sym (pow-add 2 (prec f - 1) d) ∙ ap (λ (y : ℕ). 2 ^ y) (shift_is x t g (prec f) (two f) (wide f) r.is h))) lo))
      (nearest-ge (v / 2 ^ d) (compare (v % 2 ^ d * 2) (2 ^ d)))

  kept : Kept f (closest v (2 ^ d)) (x - t)
  kept = elim (eq-or-lt_of_le q_le) [
    | inl e ↦ inr e
    | inr l ↦ inl (l, elim (eq-zero-or-pos (x - t)) [ inl z ↦ inl z | inr h ↦ inr (q_ge h) ])
  ]

  pub placed : (s : Bool) → of_bits f (cond s (top f) 0 + min ((x - t) * hid f + closest v (2 ^ d)) (ones f * hid f)) ≡ round f s (v * 2 ^ x) (2 ^ (low f + g))
  placed s = round_pattern f s (v * 2 ^ x) (2 ^ (low f + g)) (x - t) (closest v (2 ^ d)) drop_is kept_is kept

-- ---- any number of at most 63 digits: it is first moved up to 63
back63 : (z : ℕ) → z ≤ 63 → 63 - z + z ≡ 63
back63 z h = omega arith

pub digits63 : (v : ℕ) → v < 2 ^ 63 → size v ≤ 63
digits63 v h = size-le v 63 h

pub normalised_lt : (v : ℕ) → v < 2 ^ 63 → normalised v < 2 ^ 63
normalised_lt v h =
    subst (λ (y : ℕ). normalised v < 2 ^ y) (add_comm (size v) (63 - size v) ∙ back63 (size v) (digits63 v h)) (shl_lt (size v) (63 - size v) (size-lt v))

pred_lt : (z : ℕ) → 0 < z → z - 1 < z
pred_lt z h = omega arith

sixty_two : (z : ℕ) → 0 < z → z ≤ 63 → z - 1 + (63 - z) ≡ 62
sixty_two z a b = omega arith

pub size_pos : (v : ℕ) → 0 < v → 0 < size v
size_pos v h = elim (eq-zero-or-pos (size v)) [ inl e ↦ absurd (none_below v h (subst (λ (y : ℕ). v < 2 ^ y) e (size-lt v))) | inr p ↦ p ]
  where
    none_below : (v : ℕ) → 0 < v → v < 1 → ⊥
    none_below v a b = omega arith

pub normalised_ge : (v : ℕ) → 0 < v → v < 2 ^ 63 → 2 ^ 62 ≤ normalised v
normalised_ge v p h =
    let z = size v in
    le_trans (le_of_eq (ap (λ (y : ℕ). 2 ^ y) (sym (sixty_two z (size_pos v p) (digits63 v h))) ∙ pow-add 2 (z - 1) (63 - z)))
    (mul-le-mul_right (2 ^ (63 - z)) (size_reaches v (z - 1) (pred_lt z (size_pos v p))))

none_is : (f : Format) (s : Bool) → round f s 0 1 ≡ fin s 0 (pos 0)
unfolding round
none_is binary32 true = refl
none_is binary32 false = refl
none_is binary64 true = refl
none_is binary64 false = refl

pub round_none : (f : Format) (s : Bool) (b : ℕ) → 0 < b → round f s 0 b ≡ fin s 0 (pos 0)
round_none f s b h = round_same f s 0 b 0 1 h (lit≤ tt) (zero-mul 1 ∙ sym (zero-mul b)) ∙ none_is f s
