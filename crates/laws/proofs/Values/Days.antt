-- A whole number of days as a single: it is that number, a good day up to 100000, and none that rounding days changes. Assumes nothing.
use mathlib.Core.Path.{◌≡◌, refl, sym, ap, ◌∙◌}
use mathlib.Core.Bool.{true, false, true≢false}
use Prim.Native.Nat.{ℕ, zero, suc, ◌+◌, ◌*◌, ◌/◌, ◌^◌, ◌≤◌, ◌<◌}
use native.Mathlib.Nat.{lt_of_lt_of_le, lt_of_le_of_lt, mul-one, mul-pos, add-mul-div_right, div-eq_of_lt, zero-add, zero-lt-suc}
use native.Mathlib.Omega.{arith}
use borrow.Author.Tests.{lt-ltb}
use lib.Dec.{T, ltb, lt→ltb, lit<, lit≤}
use lib.Pow.{pow_mono, pow_pos, shl_lt}
use lib.Ieee.{Float, nan, inf, fin, binary32, up, down, round, is_nan, lt, le, neg, of_int, of_bits}
use lib.Ieee.Exact.{HasValue, round_exact}
use lib.Ieee.Fits.{and_i, down_pos}
use lib.Ieee.Order.{round_mono}
use Rattle.soft.specs.HalfAway.{round_def}
use Rattle.domain.specs.Floats.{max_def}
use Rattle.domain.specs.Limits.{decimal, zero32, day_max_def, day_good_def}
use Rattle.model_v6.specs.Curve.{days_def}
use Rattle.model_v6.specs.Stability.{as_f32}
use Rattle.laws.proofs.Values.Curve.{yes}

-- below 2 ^ 24 nothing is rounded
pub whole_value : (n : ℕ) → n < 2 ^ 24 → HasValue (as_f32 n) false n 1
unfolding of_int
whole_value n h = round_exact binary32 false n 1 n 149 (lit< tt) h (lt_of_lt_of_le (shl_lt 24 149 h) (pow_mono {i = 173} {j = 277} (lit≤ tt))) (sym (mul-one (n * 2 ^ 149)))

-- ---- a good day
above_least : (y : Float) (n : ℕ) → HasValue y false n 1 → T (le (neg day_max_def) y)
unfolding day_max_def decimal le neg
above_least nan n v = absurd v
above_least (inf s) n v = absurd v
above_least (fin true m e) n v = absurd (true≢false v.0)
above_least (fin false m e) n v =
    yes (ltb 0 (100000 * down e + m * up e * 1)) _ (lt→ltb 0 (100000 * down e + m * up e * 1) (some (down e) (m * up e * 1) (down_pos e)))
  where
    some : (a b : ℕ) → 0 < a → 0 < 100000 * a + b
    some a b h = omega arith

below_most : (n : ℕ) → n ≤ 100000 → T (le (as_f32 n) day_max_def)
unfolding of_int day_max_def decimal
below_most n h = round_mono binary32 n 1 100000 1 (lit< tt) (lit< tt) (omega (arith, h))

in_format : (n : ℕ) → n ≤ 100000 → n < 2 ^ 24
in_format n h = lt_of_le_of_lt h (lit< tt)

pub whole_good : (n : ℕ) → n ≤ 100000 → T (day_good_def (as_f32 n))
whole_good n h = and_i (le (neg day_max_def) (as_f32 n)) (le (as_f32 n) day_max_def) (above_least (as_f32 n) n (whole_value n (in_format n h))) (below_most n h)

-- ---- t.max(0.0).round()
-- the greater of it and 0
some_above : (n d a : ℕ) → 0 < d → a * 1 ≡ suc n * d → 0 * d < a * 1
some_above n d a h v = omega (arith, v, mul-pos (zero-lt-suc n) h)

above_zero : (x : Float) (n : ℕ) → HasValue x false (suc n) 1 → max_def x zero32 ≡ x
unfolding max_def lt is_nan of_bits
above_zero nan n v = absurd v
above_zero (inf s) n v = absurd v
above_zero (fin true m e) n v = absurd (true≢false v.0)
above_zero (fin false m e) n v = rw (lt-ltb (0 * down e) (m * up e * 1) (some_above n (down e) (m * up e) (down_pos e) v.1))

not-below : (n : ℕ) → n < 2 ^ 24 → max_def (as_f32 n) zero32 ≡ as_f32 n
unfolding max_def lt is_nan of_bits of_int
not-below zero h = refl
not-below (suc n) h = above_zero (as_f32 (suc n)) n (whole_value (suc n) h)

-- the whole part of n + 1/2
half_more : (a d n : ℕ) → 0 < d → a * 1 ≡ n * d → (a * 2 + d) / (d * 2) ≡ n
half_more a d n h v =
    ap (λ (x : ℕ). x / (d * 2)) (ring a d n v) ∙ add-mul-div_right d n (mul-pos h (pow_pos 1)) ∙ ap (λ (x : ℕ). x + n) (div-eq_of_lt (twice d h)) ∙ zero-add n
  where
    ring : (a d n : ℕ) → a * 1 ≡ n * d → a * 2 + d ≡ d + n * (d * 2)
    ring a d n v = omega (arith, v)

    twice : (d : ℕ) → 0 < d → d < d * 2
    twice d h = omega (arith, h)

rounded : (x : Float) (n : ℕ) → HasValue x false n 1 → round_def binary32 x ≡ round binary32 false n 1
unfolding round_def
rounded nan n v = absurd v
rounded (inf s) n v = absurd v
rounded (fin s m e) n v = rw (v.0, half_more (m * up e) (down e) n (down_pos e) v.1)

pub whole_kept : (n : ℕ) → n < 2 ^ 24 → days_def (as_f32 n) ≡ as_f32 n
unfolding days_def of_int
whole_kept n h = rw (not-below n h) (rounded (as_f32 n) n (whole_value n h))
