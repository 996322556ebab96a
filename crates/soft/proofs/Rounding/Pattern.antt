-- The bit pattern of a rounded value, as whole-number arithmetic: k * hid + q, and never above an infinity's. Assumes nothing.
use Rattle.std.proofs.Common.{◌≡◌, ℕ, zero, suc, ◌+◌, ◌-◌, ◌*◌, ◌/◌, ◌^◌, ◌<◌, ◌≤◌, min, Bool, true, false, cond, not, T, ltb, ◌⊎◌, sym, refl, ap, ◌∙◌, subst, inl, inr, le_trans, le_of_eq, le_refl, lt_of_lt_of_le, lt_of_le_of_lt, add_assoc, lt_irrefl, mul-le-mul_right, mul_assoc, lt_of_not-le, mul-div_cancel, arith, ltb→lt, nltb→le, pow_pos, pow_mono, pow-add, shl_lt}
use lib.Pow.{pow-lt}
use lib.Ieee.{Float, nan, inf, fin, Format, binary32, binary64, prec, emax, low, hid, ones, top, up, down, size, units, round, odd, to_bits, of_bits, is_nan, nan_bits}
use lib.Ieee.Digits.{size-lt, size-le}
use lib.Ieee.Fits.{down_pos, core, round_is, round-fits, inf-fits, two}
use lib.Ieee.Exact.{HasValue, units_val}
use lib.Ieee.Bits.{of_bits-to_bits, nan_bits_is, cond_no}
use lib.Ieee.Nearest.{closest}

-- what `to_bits` writes below the sign, for a smallest values
pat : Format → ℕ → ℕ
pat f a = (size a - prec f) * hid f + a / 2 ^ (size a - prec f)

value_bits : (f : Format) (x : Float) (s : Bool) (a : ℕ) → HasValue x s a (2 ^ low f) → to_bits f x ≡ cond s (top f) 0 + pat f a
unfolding to_bits pat
value_bits f nan s a h = absurd h
value_bits f (inf t) s a h = absurd h
value_bits f (fin t m e) s a (g, h) =
    let n : m * up e * 2 ^ low f / down e ≡ a = ap (λ (x : ℕ). x / down e) h ∙ mul-div_cancel a (down_pos e) in
    ap (λ (x : ℕ). cond t (top f) 0 + (size x - prec f) * hid f + x / 2 ^ (size x - prec f)) n
    ∙ ap (λ (z : Bool). cond z (top f) 0 + (size a - prec f) * hid f + a / 2 ^ (size a - prec f)) g
    ∙ add_assoc (cond s (top f) 0) ((size a - prec f) * hid f) (a / 2 ^ (size a - prec f))

pub pow_lt_back : (i p : ℕ) → 2 ^ i < 2 ^ p → i < p
pow_lt_back i p h = lt_of_not-le (λ (g : p ≤ i). lt_irrefl (2 ^ i) (lt_of_lt_of_le h (pow_mono g)))

pub pow_le_back : (i p : ℕ) → 2 ^ i ≤ 2 ^ p → i ≤ p
pow_le_back i p h = lt-suc (pow_lt_back i (suc p) (lt_of_le_of_lt h (pow-lt (le_refl (suc p)))))
  where
    lt-suc : i < suc p → i ≤ p
    lt-suc l = omega arith

-- what a rounding to the format f keeps: prec digits, or fewer where nothing was dropped; or one more than all prec digits, by a carry
abbrev pub Kept : Format → ℕ → ℕ → Type 0
Kept f q k = ((q < 2 ^ prec f) × ((k ≡ 0) ⊎ (hid f ≤ q))) ⊎ (q ≡ 2 ^ prec f)

none : (z p : ℕ) → z ≤ p + 0 → z - p ≡ 0
none z p h = omega arith

pub exactly : (z p k : ℕ) → 2 ≤ p → z ≤ p + k → p - 1 + k < z → z - p ≡ k
exactly z p k h a b = omega arith

drops : (f : Format) (q k : ℕ) → q < 2 ^ prec f → (k ≡ 0) ⊎ (hid f ≤ q) → size (q * 2 ^ k) - prec f ≡ k
drops f q k h (inl e) = subst (λ (j : ℕ). size (q * 2 ^ j) - prec f ≡ j) (sym e) (none (size (q * 2 ^ 0)) (prec f) (size-le (q * 2 ^ 0) (prec f + 0) (shl_lt (prec f) 0 h)))
drops f q k h (inr g) =
    exactly (size (q * 2 ^ k)) (prec f) k (two f) (size-le (q * 2 ^ k) (prec f + k) (shl_lt (prec f) k h))
    (pow_lt_back (prec f - 1 + k) (size (q * 2 ^ k)) (lt_of_le_of_lt (le_trans (le_of_eq (pow-add 2 (prec f - 1) k)) (mul-le-mul_right (2 ^ k) g)) (size-lt (q * 2 ^ k))))

pat_is : (f : Format) (q k : ℕ) → q < 2 ^ prec f → (k ≡ 0) ⊎ (hid f ≤ q) → pat f (q * 2 ^ k) ≡ k * hid f + q
unfolding pat
pat_is f q k h g = ap (λ (j : ℕ). j * hid f + q * 2 ^ k / 2 ^ j) (drops f q k h g) ∙ ap (λ (x : ℕ). k * hid f + x) (mul-div_cancel q (pow_pos k))

pub twice_hid : (f : Format) → 2 ^ prec f ≡ hid f * 2
twice_hid binary32 = refl
twice_hid binary64 = refl

hid_lt : (f : Format) → hid f < 2 ^ prec f
hid_lt binary32 = omega arith
hid_lt binary64 = omega arith

pat_carry : (f : Format) (k : ℕ) → pat f (2 ^ prec f * 2 ^ k) ≡ k * hid f + 2 ^ prec f
pat_carry f k =
    ap (pat f) (ap (λ (x : ℕ). x * 2 ^ k) (twice_hid f) ∙ mul_assoc (hid f) 2 (2 ^ k) ∙ ap (λ (x : ℕ). hid f * x) (sym (pow-add 2 1 k)))
    ∙ pat_is f (hid f) (1 + k) (hid_lt f) (inr (le_refl (hid f)))
    ∙ carry (hid f) ∙ ap (λ (x : ℕ). k * hid f + x) (sym (twice_hid f))
  where
    carry : (h : ℕ) → (1 + k) * h + h ≡ k * h + h * 2
    carry h = omega arith

kept_pat : (f : Format) (q k : ℕ) → Kept f q k → pat f (q * 2 ^ k) ≡ k * hid f + q
kept_pat f q k (inl h) = pat_is f q k h.0 h.1
kept_pat f q k (inr e) = ap (λ (x : ℕ). pat f (x * 2 ^ k)) e ∙ pat_carry f k ∙ ap (λ (x : ℕ). k * hid f + x) (sym e)

-- ---- below the end of the format the pattern is below an infinity's, and from there on it is not
reach : (f : Format) → low f + suc (emax f) ≡ prec f - 1 + 2 * emax f
reach binary32 = refl
reach binary64 = refl

below_end : (h k q E : ℕ) → q < h * 2 → suc k ≤ 2 * E → k * h + q ≤ (2 * E + 1) * h
below_end h k q E a b = let m : suc k * h ≤ 2 * E * h = mul-le-mul_right h b in omega arith

below_end_carry : (h k E : ℕ) → suc (suc k) ≤ 2 * E → k * h + h * 2 ≤ (2 * E + 1) * h
below_end_carry h k E b = let m : suc (suc k) * h ≤ 2 * E * h = mul-le-mul_right h b in omega arith

one_up : (f : Format) → 1 ≤ 2 * emax f
one_up binary32 = omega arith
one_up binary64 = omega arith

from_left : (p k m : ℕ) → p + k < p + m → suc k ≤ m
from_left p k m h = omega arith

from_left_carry : (p k m : ℕ) → 2 ≤ p → p + k < p - 1 + m → suc (suc k) ≤ m
from_left_carry p k m t h = omega arith

pub under_end : (f : Format) (q k : ℕ) → Kept f q k → q * 2 ^ k < 2 ^ (low f + suc (emax f)) → k * hid f + q ≤ ones f * hid f
under_end f q k (inl (a, inl e)) o = subst (λ (j : ℕ). j * hid f + q ≤ ones f * hid f) (sym e)
    (below_end (hid f) 0 q (emax f) (subst (λ (x : ℕ). q < x) (twice_hid f) a) (one_up f))
under_end f q k (inl (a, inr g)) o =
    below_end (hid f) k q (emax f) (subst (λ (x : ℕ). q < x) (twice_hid f) a)
    (from_left (prec f - 1) k (2 * emax f)
    (pow_lt_back (prec f - 1 + k) (prec f - 1 + 2 * emax f)
    (subst (λ (x : ℕ). 2 ^ (prec f - 1 + k) < 2 ^ x) (reach f)
    (lt_of_le_of_lt (le_trans (le_of_eq (pow-add 2 (prec f - 1) k)) (mul-le-mul_right (2 ^ k) g)) o))))
under_end f q k (inr e) o =
    subst (λ (x : ℕ). k * hid f + x ≤ ones f * hid f) (sym (e ∙ twice_hid f))
    (below_end_carry (hid f) k (emax f)
    (from_left_carry (prec f) k (2 * emax f) (two f)
    (pow_lt_back (prec f + k) (prec f - 1 + 2 * emax f)
    (subst (λ (x : ℕ). 2 ^ (prec f + k) < 2 ^ x) (reach f)
    (lt_of_le_of_lt (le_of_eq (pow-add 2 (prec f) k ∙ ap (λ (x : ℕ). x * 2 ^ k) (sym e))) o)))))

over_more : (h k q E : ℕ) → h ≤ q → 2 * E ≤ k → (2 * E + 1) * h ≤ k * h + q
over_more h k q E a b = let m : 2 * E * h ≤ k * h = mul-le-mul_right h b in omega arith

over_carry : (h k E : ℕ) → 2 * E ≤ suc k → (2 * E + 1) * h ≤ k * h + h * 2
over_carry h k E b = let m : 2 * E * h ≤ suc k * h = mul-le-mul_right h b in omega arith

close : (p k m : ℕ) → 2 ≤ p → p - 1 + m ≤ p + k → m ≤ suc k
close p k m t h = omega arith

close_strict : (p k m : ℕ) → 2 ≤ p → p - 1 + m < p + k → m ≤ k
close_strict p k m t h = omega arith

positive : (k m : ℕ) → k ≡ 0 → m ≤ k → 1 ≤ m → ⊥
positive k m e a b = omega arith

pub past_end : (f : Format) (q k : ℕ) → Kept f q k → 2 ^ (low f + suc (emax f)) ≤ q * 2 ^ k → ones f * hid f ≤ k * hid f + q
past_end f q k (inl (a, b)) o =
    let l : 2 * emax f ≤ k =
    close_strict (prec f) k (2 * emax f) (two f)
    (pow_lt_back (prec f - 1 + 2 * emax f) (prec f + k) (subst (λ (x : ℕ). 2 ^ x < 2 ^ (prec f + k)) (reach f) (lt_of_le_of_lt o (shl_lt (prec f) k a)))) in
    go b l
  where
    go : (k ≡ 0) ⊎ (hid f ≤ q) → 2 * emax f ≤ k → ones f * hid f ≤ k * hid f + q
    go (inl e) l = absurd (positive k (2 * emax f) e l (one_up f))
    go (inr g) l = over_more (hid f) k q (emax f) g l
past_end f q k (inr e) o =
    subst (λ (x : ℕ). ones f * hid f ≤ k * hid f + x) (sym (e ∙ twice_hid f))
    (over_carry (hid f) k (emax f)
    (close (prec f) k (2 * emax f) (two f)
    (pow_le_back (prec f - 1 + 2 * emax f) (prec f + k)
    (subst (λ (x : ℕ). 2 ^ x ≤ 2 ^ (prec f + k)) (reach f) (le_trans o (le_of_eq (ap (λ (x : ℕ). x * 2 ^ k) e ∙ sym (pow-add 2 (prec f) k))))))))

-- ---- `units` is read from the pattern
min_left : (a b : ℕ) → a ≤ b → min a b ≡ a
min_left a b h = omega arith

min_right : (a b : ℕ) → b ≤ a → min a b ≡ b
min_right a b h = omega arith

inf_bits : (f : Format) (s : Bool) → of_bits f (cond s (top f) 0 + ones f * hid f) ≡ inf s
unfolding to_bits
inf_bits f s = of_bits-to_bits f (inf s) (inf-fits f s)

units_over : (f : Format) (s : Bool) (q k : ℕ) → T (not (ltb (q * 2 ^ k) (2 ^ (low f + suc (emax f))))) → units f s q k ≡ inf s
unfolding units
units_over f s q k h = cond_no (ltb (q * 2 ^ k) (2 ^ (low f + suc (emax f)))) (odd (suc (prec f)) s q k (low f)) (inf s) h

-- `round` at a fraction whose drop k and whose kept number q are known
pub round_pattern : (f : Format) (s : Bool) (num den k q : ℕ) → size (num * 2 ^ low f / den) - prec f ≡ k → closest (num * 2 ^ low f) (den * 2 ^ k) ≡ q → Kept f q k
    → of_bits f (cond s (top f) 0 + min (k * hid f + q) (ones f * hid f)) ≡ round f s num den
round_pattern f s num den k q d c h = go (ltb (q * 2 ^ k) (2 ^ (low f + suc (emax f)))) (ltb→lt (q * 2 ^ k) (2 ^ (low f + suc (emax f))))
    (λ n. (nltb→le (q * 2 ^ k) (2 ^ (low f + suc (emax f))) n, units_over f s q k n))
  where
    is : round f s num den ≡ units f s q k
    is = round_is f s num den ∙ ap (λ (j : ℕ). core f s (num * 2 ^ low f) den j) d ∙ ap (λ (x : ℕ). units f s x k) c

    go : (b : Bool) → (T b → q * 2 ^ k < 2 ^ (low f + suc (emax f))) → (T (not b) → (2 ^ (low f + suc (emax f)) ≤ q * 2 ^ k) × (units f s q k ≡ inf s))
        → of_bits f (cond s (top f) 0 + min (k * hid f + q) (ones f * hid f)) ≡ round f s num den
    go true l g =
        let o = l tt in
        ap (λ (x : ℕ). of_bits f (cond s (top f) 0 + x)) (min_left (k * hid f + q) (ones f * hid f) (under_end f q k h o) ∙ sym (kept_pat f q k h))
        ∙ ap (of_bits f) (sym (value_bits f (units f s q k) s (q * 2 ^ k) (units_val f s q k o)))
        ∙ ap (λ (x : Float). of_bits f (to_bits f x)) (sym is)
        ∙ of_bits-to_bits f (round f s num den) (round-fits f s num den)
    go false l g =
        let o = g tt in
        ap (λ (x : ℕ). of_bits f (cond s (top f) 0 + x)) (min_right (k * hid f + q) (ones f * hid f) (past_end f q k h o.0)) ∙ inf_bits f s ∙ sym (is ∙ o.1)

-- ---- `round` gives no NaN
pub round_not_nan : (f : Format) (s : Bool) (a c : ℕ) → T (not (is_nan (round f s a c)))
unfolding round units is_nan odd
round_not_nan f s a c = go (ltb (q * 2 ^ k) (2 ^ (low f + suc (emax f)))) q
  where
    k : ℕ
    k = size (a * 2 ^ low f / c) - prec f

    q : ℕ
    q = closest (a * 2 ^ low f) (c * 2 ^ k)

    go : (b : Bool) (n : ℕ) → T (not (is_nan (cond b (odd (suc (prec f)) s n k (low f)) (inf s))))
    go true zero = tt
    go true (suc n) = tt
    go false n = tt

pub pattern_not_nan : (f : Format) (s : Bool) (a c b : ℕ) → of_bits f b ≡ round f s a c → T (not (nan_bits f b))
pattern_not_nan f s a c b e = subst (λ (t : Bool). T (not t)) (sym (nan_bits_is f b ∙ ap is_nan e)) (round_not_nan f s a c)
