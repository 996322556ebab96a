-- The next interval (model_v6.rs), at a stability inside the range and any finite retention: from 0 to 36500. Assumes nothing.
use mathlib.Core.Path.{◌≡◌, refl, sym, ap, ◌∙◌, subst}
use mathlib.Core.Bool.{Bool, true, false, not, ◌&&◌, cond, true≢false}
use mathlib.Core.List.{List}
use Prim.Native.Nat.{ℕ, zero, suc, ◌*◌, ◌^◌, ◌≤◌}
use native.Mathlib.Nat.{le_trans, le_of_eq, one-mul, mul-pos, mul-le-mul, zero-lt-suc}
use native.Mathlib.Omega.{arith}
use lib.Dec.{T, eqb-suc-zero, lit<, lit≤}
use lib.Pow.{pow_pos}
use lib.Ieee.{Float, nan, inf, fin, binary32, of_bits, up, down, unlike, round, neg, is_nan, add, sub, mul, div, lt, le, eq}
use lib.Ieee.Bits.{is_true}
use lib.Ieee.Fits.{up_pos, down_pos}
use lib.Ieee.Order.{round_mono}
use lib.Ieee.Positive.{positive, positive-finite}
use lib.Ieee.Scale.{finite}
use Rattle.soft.specs.inner.Cuts.{sum_sign, sum_size_def}
use Rattle.soft.proofs.Rounding.Sum.{sum_is}
use Rattle.soft.proofs.Rounding.Pattern.{round_not_nan}
use Rattle.kernels.specs.Calls.{pow32}
use Rattle.kernels.specs.Kernels.{powered}
use Rattle.domain.specs.Floats.{◌-ᶠ◌, ◌*ᶠ◌, ◌/ᶠ◌, clamp_def, max_def, within}
use Rattle.domain.specs.Limits.{decimal, zero32, one, s_min_def, s_max_def, stability_good}
use Rattle.domain.specs.Weights.{◌!◌, weights_refusal_def}
use Rattle.model_v6.specs.Curve.{factor_def, interval_def}
use Rattle.laws.specs.Distances.{positive as aboveNone}
use Rattle.laws.proofs.Distances.pow.Laws.{pow_nan}
use Rattle.laws.proofs.Values.Sizes.{Size, size_finite, unit}
use Rattle.laws.proofs.Values.Operations.{Least, div_size}
use Rattle.laws.proofs.Values.Between.{within_size, above, least}
use Rattle.laws.proofs.Values.Zeros.{one_is}
use Rattle.laws.proofs.Values.Box.{weight_size, above_20, least_20}
use Rattle.laws.proofs.Ranges.Order.{clamp_within}
use Rattle.laws.proofs.Ranges.States.{number}
use Rattle.laws.proofs.Ranges.Low.{above_finite}
use Rattle.laws.proofs.Ranges.Branches.{size_cond}
use Rattle.laws.proofs.Ranges.Factor.{exponent_in, factor_size, factor_above, factor_least}

-- ---- a stability inside the range, also after max(0.0001)
floored_above : (s : Float) → T (positive s) → T (positive (max_def s s_min_def))
unfolding max_def s_min_def decimal is_nan
floored_above s p = go (lt (decimal 1 10000) s)
  where
    go : (b : Bool) → T (positive (cond b s (decimal 1 10000)))
    go true = p
    go false = tt

floored_least : (s : Float) → Least 14 s → Least 14 (max_def s s_min_def)
unfolding max_def s_min_def decimal is_nan
floored_least s h = go (lt (decimal 1 10000) s)
  where
    go : (b : Bool) → Least 14 (cond b s (decimal 1 10000))
    go true = h
    go false = lit≤ tt

max_size : (k : ℕ) (x y : Float) → Size k x → Size k y → Size k (max_def x y)
unfolding max_def
max_size k x y h g = size_cond k (is_nan y) x (cond (lt y x) x y) h (size_cond k (lt y x) x y h g)

pub stability_finite : (s : Float) → T (stability_good s) → T (finite s)
unfolding s_min_def s_max_def decimal
stability_finite s h = size_finite 16 s (within_size 16 s_min_def s s_max_def (lit≤ tt) (lit≤ tt) h)

-- ---- numbers that are no NaN
not_nan : (x : Float) → T (not (is_nan x)) → is_nan x ≡ false
not_nan x h = go (is_nan x) h
  where
    go : (b : Bool) → T (not b) → b ≡ false
    go true t = absurd t
    go false t = refl

round_number : (s : Bool) (a c : ℕ) → is_nan (round binary32 s a c) ≡ false
round_number s a c = not_nan (round binary32 s a c) (round_not_nan binary32 s a c)

pub within_number : (x low high : Float) → T (within x low high) → is_nan x ≡ false
unfolding is_nan le lt eq
within_number nan nan high h = absurd h
within_number nan (inf s) high h = absurd h
within_number nan (fin s m e) high h = absurd h
within_number (inf s) low high h = refl
within_number (fin s m e) low high h = refl

less_one_number : (x : Float) → is_nan x ≡ false → is_nan (x -ᶠ unit) ≡ false
unfolding sub add neg is_nan
less_one_number nan n = absurd (true≢false n)
less_one_number (inf s) n = refl
less_one_number (fin s m e) n =
    let x = m * up e * 1 in
    let y = 1 * 1 * down e in
    ap is_nan (sum_is binary32 s x true y (down e * 1)) ∙ round_number (sum_sign s x true y) (sum_size_def s x true y) (down e * 1)

times_number : (x y : Float) → T (positive x) → is_nan y ≡ false → is_nan (x *ᶠ y) ≡ false
unfolding mul is_nan
times_number nan y p n = absurd p
times_number (inf s) y p n = absurd p
times_number (fin true m e) y p n = absurd p
times_number (fin false zero e) y p n = absurd p
times_number (fin false (suc m) e) nan p n = absurd (true≢false n)
times_number (fin false (suc m) e) (inf t) p n = rw (eqb-suc-zero m) refl
times_number (fin false (suc m) e) (fin t k d) p n = round_number (unlike false t) (suc m * up e * (k * up d)) (down e * down d)

as_positive : (x : Float) → T (positive x) → aboveNone x ≡ true
as_positive nan p = absurd p
as_positive (inf s) p = absurd p
as_positive (fin true m e) p = absurd p
as_positive (fin false zero e) p = absurd p
as_positive (fin false (suc m) e) p = refl

-- a quotient of numbers above 0 that are not too far apart
quotient_above : (x y : Float) → T (positive x) → T (positive y) → Least 14 x → Size 4 y → T (le (round binary32 false 1 (2 ^ 18)) (x /ᶠ y))
unfolding div
quotient_above nan y p q h g = absurd p
quotient_above (inf s) y p q h g = absurd p
quotient_above (fin true m e) y p q h g = absurd p
quotient_above (fin false m e) nan p q h g = absurd q
quotient_above (fin false m e) (inf t) p q h g = absurd q
quotient_above (fin false m e) (fin true n d) p q h g = absurd q
quotient_above (fin false m e) (fin false zero d) p q h g = absurd q
quotient_above (fin false m e) (fin false (suc n) d) p q h g =
    rw (eqb-suc-zero n)
    (round_mono binary32 1 (2 ^ 18) (m * up e * down d) (suc n * up d * down e) (pow_pos 18) (mul-pos (mul-pos (zero-lt-suc n) (up_pos d)) (down_pos e)) (over (m * up e) (down e) (suc n * up d) (down d) h g))
  where
    over : (x p y q : ℕ) → p ≤ x * 2 ^ 14 → y ≤ 2 ^ 4 * q → 1 * (y * p) ≤ x * q * 2 ^ 18
    over x p y q h g = le_trans (le_of_eq (one-mul (y * p))) (le_trans (mul-le-mul g h) (le_of_eq (turn x q)))
      where
        turn : (x q : ℕ) → 2 ^ 4 * q * (x * 2 ^ 14) ≡ x * q * 2 ^ 18
        turn x q = omega arith

module _ (w : List Float) (box : weights_refusal_def w ≡ 0) where
  abbrev y : Float
  y = w ! 20

  y_above : T (positive y)
  y_above = above_20 w box

  y_size : Size 0 y
  y_size = weight_size w box 20 (lit< tt)

  y_least : Least 4 y
  y_least = least_20 w box

  -- ---- the next interval
  module _ (s : Float) (good : T (stability_good s)) (desired : Float) (a : T (finite desired)) where
    abbrev kept : Float
    kept = clamp_def desired (decimal 1 10000) (decimal 9999 10000)

    kept_above : T (positive kept)
    unfolding decimal is_nan le lt eq
    kept_above = above (decimal 1 10000) kept (decimal 9999 10000) tt tt (clamp_within desired (decimal 1 10000) (decimal 9999 10000) refl refl tt tt (number desired a))

    power_number : is_nan (pow32 kept (one /ᶠ neg y)) ≡ false
    power_number =
        let e = one /ᶠ neg y in
        pow_nan binary32 kept e ∙ ap (λ (b : Bool). not (b && powered e)) (as_positive kept kept_above) ∙ ap not (is_true (powered e) (exponent_in y y_above y_size y_least))

    abbrev floor : Float
    floor = max_def s s_min_def

    abbrev factor_of : Float
    factor_of = factor_def (neg y)

    floor_above : T (positive floor)
    unfolding s_min_def s_max_def decimal
    floor_above = floored_above s (above s_min_def s s_max_def tt tt good)

    floor_least : Least 14 floor
    unfolding s_min_def s_max_def decimal
    floor_least = floored_least s (least s_min_def s s_max_def tt tt good 14 (lit≤ tt))

    floor_most : Size 16 floor
    unfolding s_min_def s_max_def decimal
    floor_most = max_size 16 s s_min_def (within_size 16 s_min_def s s_max_def (lit≤ tt) (lit≤ tt) good) (lit≤ tt)

    ratio_above : T (positive (floor /ᶠ factor_of))
    unfolding round
    ratio_above =
        let f = factor_above y y_above y_size y_least in
        above_finite (round binary32 false 1 (2 ^ 18)) (floor /ᶠ factor_of) tt
        (size_finite 26 (floor /ᶠ factor_of) (div_size 16 10 floor factor_of (lit< tt) floor_most (positive-finite factor_of f) (factor_least y y_above y_size y_least)))
        (quotient_above floor factor_of floor_above f floor_least (factor_size y y_above y_size y_least))

    abbrev days : Float
    days = floor /ᶠ factor_of *ᶠ (pow32 kept (one /ᶠ neg y) -ᶠ one)

    days_number : is_nan days ≡ false
    days_number =
        let p = pow32 kept (one /ᶠ neg y) in
        times_number (floor /ᶠ factor_of) (p -ᶠ one) ratio_above (subst (λ (x : Float). is_nan (p -ᶠ x) ≡ false) (sym one_is) (less_one_number p power_number))

    bounds : (x : Float) → is_nan x ≡ false → T (within (clamp_def x zero32 s_max_def) zero32 s_max_def)
    unfolding s_max_def decimal is_nan le lt eq of_bits
    bounds x n = clamp_within x zero32 s_max_def refl refl tt tt n

    pub interval_good : T (within (interval_def w s desired) zero32 s_max_def)
    unfolding interval_def
    interval_good = bounds days days_number
