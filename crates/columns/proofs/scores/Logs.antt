-- The logarithm of a single above 0 is a number and not -0: the fixed-point one is small, and where it is negative it is not 0. Assumes nothing.
use Rattle.std.proofs.Common.{ℕ, zero, suc, ◌+◌, ◌-◌, ◌*◌, ◌^◌, ◌<◌, ◌≤◌, Bool, true, false, T, ℤ, pos, negsuc, nat_abs, sym, ap, ◌∙◌, subst, inl, inr, le_trans, le_of_eq, lt_of_lt_of_le, lt_of_le_of_lt, le_of_lt, add-le-add, lt_irrefl, mul-le-mul_right, zero-lt-suc, eq-zero-or-pos, mul-pos, one-mul, zero-mul, mul-one, arith, lit≤, lt→ltb, pow_pos}
use lib.Ieee.{Float, nan, inf, fin, Format, binary32, low, size, up, down, round, fits}
use lib.Ieee.Digits.{size-le}
use lib.Ieee.Exact.{HasValue, units_val}
use lib.Ieee.Fits.{round_is, round-fits, nan-fits, down_pos}
use lib.Ieee.Order.{round_mono, drop, kept}
use lib.Ieee.Positive.{positive, positive-finite, value_pos, between}
use lib.Ieee.Scale.{grid, round_val, round_under}
use Rattle.table.specs.Whole.{below0}
use Rattle.kernels.specs.Logarithm.{binade, logarithm, log_units}
use Rattle.kernels.specs.Kernels.{ln_def}
use Rattle.kernels.proofs.Definitions.Sizes.{nat_abs_add, log_most}
use Rattle.soft.proofs.Rounding.Pattern.{pow_lt_back, pow_le_back}
use Rattle.soft.proofs.Rounding.Place.{round_none}
use Rattle.columns.proofs.scores.Settled.{digits_below, not_low, not_high}
use Rattle.columns.proofs.scores.Zeros.{plain}

-- ---- rounding keeps a fraction from 2 ^ -56 to 2 ^ 8 a number above 0
lowest : T (positive (round binary32 false 1 (2 ^ 56)))
unfolding round
lowest = tt

highest : T (positive (round binary32 false (2 ^ 64) (2 ^ 56)))
unfolding round
highest = tt

plain_of_value : (y : Float) (s : Bool) (a c : ℕ) → HasValue y s a c → 0 < a → T (plain y)
plain_of_value nan s a c v h = absurd v
plain_of_value (inf t) s a c v h = absurd v
plain_of_value (fin t zero e) s a c v h = absurd (lt_irrefl 0 (subst (λ (x : ℕ). 0 < x) (sym v.1 ∙ ap (λ (x : ℕ). x * c) (zero-mul (up e)) ∙ zero-mul c) (mul-pos h (down_pos e))))
plain_of_value (fin true (suc m) e) s a c v h = lt→ltb 0 (suc m) (zero-lt-suc m)
plain_of_value (fin false (suc m) e) s a c v h = tt

more_plain : (s : Bool) (g : ℕ) → 0 < g → g ≤ 2 ^ 64 → T (plain (round binary32 s g (2 ^ 56)))
more_plain s g z h =
    let y = round binary32 false g (2 ^ 56) in
    let p : T (positive y) =
    between (round binary32 false 1 (2 ^ 56)) y (round binary32 false (2 ^ 64) (2 ^ 56)) lowest highest
    (round_mono binary32 1 (2 ^ 56) g (2 ^ 56) (pow_pos 56) (pow_pos 56) (mul-le-mul_right (2 ^ 56) z))
    (round_mono binary32 g (2 ^ 56) (2 ^ 64) (2 ^ 56) (pow_pos 56) (pow_pos 56) (mul-le-mul_right (2 ^ 56) h)) in
    let u = round_under binary32 g (2 ^ 56) (positive-finite y p) in
    plain_of_value (round binary32 s g (2 ^ 56)) s (grid binary32 g (2 ^ 56)) (2 ^ low binary32)
    (subst (λ (x : Float). HasValue x s (grid binary32 g (2 ^ 56)) (2 ^ low binary32)) (sym (round_is binary32 s g (2 ^ 56))) (units_val binary32 s (kept 24 (g * 2 ^ 149) (2 ^ 56)) (drop 24 (g * 2 ^ 149) (2 ^ 56)) u))
    (value_pos y (grid binary32 g (2 ^ 56)) (2 ^ low binary32) p (pow_pos (low binary32)) (round_val binary32 g (2 ^ 56) u))

round_plain : (z : ℤ) → nat_abs z ≤ 2 ^ 64 → T (plain (round binary32 (below0 z) (nat_abs z) (2 ^ 56)))
round_plain (negsuc g) h = more_plain true (suc g) (zero-lt-suc g) h
round_plain (pos g) h = elim (eq-zero-or-pos g) [
  | inl e ↦ subst (λ (x : Float). T (plain x)) (sym (ap (λ (x : ℕ). round binary32 false x (2 ^ 56)) e ∙ round_none binary32 false (2 ^ 56) (pow_pos 56))) tt
  | inr p ↦ more_plain false g p h
]

-- ---- the exponents of the last digit and of the leading one
last_most : (m : ℕ) (e : ℤ) → down e ≤ 2 ^ 149 → suc m * up e < 2 ^ 128 * down e → nat_abs e ≤ 149
last_most m (negsuc a) d u = pow_le_back (suc a) 149 d
last_most m (pos a) d u =
    le_trans (le_of_lt (pow_lt_back a 128 (lt_of_le_of_lt (le_trans (le_of_eq (sym (one-mul (2 ^ a)))) (mul-le-mul_right (2 ^ a) (zero-lt-suc m))) (lt_of_lt_of_le u (le_of_eq (mul-one (2 ^ 128))))))) (lit≤ tt)

lead_most : (m : ℕ) (e : ℤ) → suc m < 2 ^ 24 → nat_abs e ≤ 149 → nat_abs (binade (suc m) e) ≤ 173
lead_most m e h l = le_trans (nat_abs_add e (pos (size (suc m) - 1))) (add-le-add l (less (size (suc m)) (size-le (suc m) 24 h)))
  where
    less : (z : ℕ) → z ≤ 24 → z - 1 ≤ 24
    less z h = omega arith

pub ln_plain : (x : Float) → T (fits binary32 x) → T (positive x) → T (plain (ln_def binary32 x))
unfolding ln_def
ln_plain nan k h = absurd h
ln_plain (inf s) k h = absurd h
ln_plain (fin true m e) k h = absurd h
ln_plain (fin false zero e) k h = absurd h
ln_plain (fin false (suc m) e) k h =
    round_plain (logarithm binary32 (suc m) e)
    (le_trans (log_most (suc m) e)
    (few (nat_abs (binade (suc m) e)) (lead_most m e (digits_below binary32 false m e k) (last_most m e (not_low binary32 false m e k) (not_high binary32 false m e k)))))
  where
    few : (k : ℕ) → k ≤ 173 → (k * 256 + 256) * 2 ^ 48 + 2 ^ 58 ≤ 2 ^ 64
    few k h = omega arith

pub ln_fits : (f : Format) (x : Float) → T (fits f (ln_def f x))
unfolding ln_def
ln_fits f nan = nan-fits f
ln_fits f (inf s) = nan-fits f
ln_fits f (fin s zero e) = nan-fits f
ln_fits f (fin true (suc m) e) = nan-fits f
ln_fits f (fin false (suc m) e) = round-fits f (below0 (logarithm f (suc m) e)) (nat_abs (logarithm f (suc m) e)) (2 ^ log_units f)
