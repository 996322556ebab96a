-- The curve on any good day, at a stability inside the range: a number from 0 to 1. Assumes nothing.
use mathlib.Core.Path.{◌≡◌, refl, sym, subst}
use mathlib.Core.Bool.{Bool, true, false, cond, true≢false}
use Prim.Native.Nat.{ℕ, zero-le}
use lib.Dec.{T, lit<, lit≤}
use lib.Ieee.{Float, nan, inf, fin, binary32, of_bits, fits, neg, is_nan, lt}
use lib.Ieee.Fits.{neg-fits, add-fits}
use lib.Ieee.Positive.{positive, positive-finite}
use Rattle.kernels.specs.Calls.{pow32}
use Rattle.domain.specs.Floats.{◌+ᶠ◌, ◌*ᶠ◌, ◌/ᶠ◌, max_def}
use Rattle.domain.specs.Limits.{decimal, zero32, day_max_def, day_good_def}
use Rattle.forward.specs.Params.{curve_factor_def}
use Rattle.forward.specs.Curve.{base_def, curve_forward_def}
use Rattle.laws.proofs.Values.Sizes.{Size, size_finite, plus, most, unit}
use Rattle.laws.proofs.Values.Operations.{plus_mul, mul_size, add_size, Least, div_size}
use Rattle.laws.proofs.Values.Between.{within_size}
use Rattle.laws.proofs.Values.Signs.{plus_over, one_more}
use Rattle.laws.proofs.Values.Powers.{plus_pow}
use Rattle.laws.proofs.Values.Zeros.{one_is}
use Rattle.laws.proofs.Values.Curve.{factor_size, factor_plus, decay_in, decay_low}
use Rattle.laws.proofs.Distances.pow.Laws.{pow_at_most_one}

-- ---- t.max(0.0)
above_zero : (t : Float) → lt zero32 t ≡ true → T (plus t)
unfolding lt of_bits
above_zero nan h = absurd (true≢false (sym h))
above_zero (inf true) h = absurd (true≢false (sym h))
above_zero (inf false) h = tt
above_zero (fin true m e) h = absurd (true≢false (sym h))
above_zero (fin false m e) h = tt

pub day_size : (t : Float) → T (day_good_def t) → Size 17 t
unfolding day_max_def decimal neg
day_size t g = within_size 17 (neg day_max_def) t day_max_def (lit≤ tt) (lit≤ tt) g

pub not_negative : (j : ℕ) (t : Float) → Size j t → Size j (max_def t zero32) × T (plus (max_def t zero32))
unfolding max_def is_nan of_bits
not_negative j t h = go (lt zero32 t) refl
  where
    go : (b : Bool) → b ≡ lt zero32 t → Size j (cond b t zero32) × T (plus (cond b t zero32))
    go true e = (h, above_zero t (sym e))
    go false e = (zero-le, tt)

module _ (t : Float) (g : T (day_good_def t)) where
  floored : Size 17 (max_def t zero32) × T (plus (max_def t zero32))
  floored = not_negative 17 t (day_size t g)

  -- y is minus the decay, s the stability
  module _ (y : Float) (p : T (positive y)) (u : Size 0 y) (l : Least 4 y) (s : Float) (q : T (positive s)) (v : Least 14 s) where
    abbrev quotient : Float
    quotient = max_def t zero32 /ᶠ s

    abbrev product : Float
    product = quotient *ᶠ curve_factor_def (neg y)

    product_size : Size 56 product
    product_size =
        mul_size 31 25 quotient (curve_factor_def (neg y)) (lit< tt) (div_size 17 14 (max_def t zero32) s (lit< tt) floored.0 (positive-finite s q) v) (factor_size y p u l)

    product_plus : T (plus product)
    product_plus = plus_mul quotient (curve_factor_def (neg y)) (plus_over (max_def t zero32) s floored.1 (size_finite 17 (max_def t zero32) floored.0) q) (factor_plus y p u l)

    base_is : base_def (curve_factor_def (neg y)) t s ≡ product +ᶠ unit
    unfolding base_def
    base_is = rw one_is

    sum_size : Size 57 (product +ᶠ unit)
    sum_size = add_size 56 product unit (lit< tt) product_size (lit≤ tt)

    pub base_size : Size 57 (base_def (curve_factor_def (neg y)) t s)
    base_size = subst (Size 57) (sym base_is) sum_size

    pub recall_plus : T (plus (curve_forward_def (neg y) (curve_factor_def (neg y)) t s).retrievability)
    unfolding curve_forward_def
    recall_plus = plus_pow (base_def (curve_factor_def (neg y)) t s) (neg y)

    pub recall_size : T (fits binary32 y) → Size 0 (curve_forward_def (neg y) (curve_factor_def (neg y)) t s).retrievability
    unfolding curve_forward_def
    recall_size k =
        subst (λ (b : Float). Size 0 (pow32 b (neg y))) (sym base_is)
        (most 0 (pow32 (product +ᶠ unit) (neg y)) (plus_pow (product +ᶠ unit) (neg y))
        (pow_at_most_one binary32 (product +ᶠ unit) (neg y) (add-fits binary32 product unit) (neg-fits binary32 y k) (size_finite 57 (product +ᶠ unit) sum_size) (decay_in y p u l) (one_more product (size_finite 56 product product_size) product_plus) (decay_low y p)))
