-- The curve of a decay from -1 to -0.1: its factor is a number and not negative, so that a day of 1 is recalled with at most 1, and one before 0 with 1. Assumes nothing.
use mathlib.Core.Path.{◌≡◌, refl, sym, ap, ◌∙◌, subst}
use mathlib.Core.Bool.{Bool, true, false, ◌||◌}
use Prim.Native.Nat.{ℕ, ◌+◌, ◌*◌, ◌<◌}
use native.Mathlib.Nat.{mul-pos}
use native.Mathlib.Omega.{arith}
use lib.Dec.{T, ltb, ltb→lt, lt→ltb, lit<, lit≤}
use lib.IntN.{pos, negsuc}
use lib.Ieee.{Float, nan, inf, fin, binary32, of_bits, up, down, fits, neg, is_nan, lt, le}
use lib.Ieee.Fits.{up_pos, neg-fits, add-fits}
use lib.Ieee.Positive.{positive, positive-finite}
use lib.Ieee.Scale.{finite}
use Rattle.table.specs.Exact.{P, taylor, fact}
use Rattle.table.specs.Entry.{entry, first_from}
use Rattle.kernels.specs.Logarithm.{gap63, low63, below24, logarithm}
use Rattle.kernels.specs.Kernels.{powered, ln_def}
use Rattle.kernels.specs.Calls.{exp32, ln32, pow32}
use Rattle.domain.specs.Floats.{◌+ᶠ◌, ◌-ᶠ◌, ◌*ᶠ◌, ◌/ᶠ◌, max_def}
use Rattle.domain.specs.Limits.{decimal, one}
use Rattle.forward.specs.Params.{curve_factor_def}
use Rattle.forward.specs.Curve.{base_def, curve_forward_def}
use Rattle.laws.proofs.Values.Sizes.{Size, size_finite, plus, most, wider, neg_size, unit}
use Rattle.laws.proofs.Values.Operations.{plus_mul, mul_size, add_size, sub_size, Least, div_size}
use Rattle.laws.proofs.Values.Signs.{plus_of, plus_div, both_negative, less_one, one_more}
use Rattle.laws.proofs.Values.Powers.{plus_exp, plus_pow, exp_size, exp_least}
use Rattle.laws.proofs.Values.Logs.{in_reach}
use Rattle.laws.proofs.Values.Zeros.{one_is, zero_times, zero_over, zero_plus_one}
use Rattle.laws.proofs.Distances.pow.Laws.{pow-one, pow_at_most_one}

-- ---- the factor
-- ln 0.9, about -0.105
ln_nine : ln32 (decimal 9 10) ≡ fin true 14141253 (negsuc 26)
unfolding ln_def logarithm below24 first_from gap63 low63 entry P taylor fact decimal
ln_nine = refl

pub neg_least : (j : ℕ) (y : Float) → T (positive y) → Least j y → T (finite (neg y)) × Least j (neg y)
unfolding neg
neg_least j nan p h = absurd p
neg_least j (inf s) p h = absurd p
neg_least j (fin s m e) p h = (tt, h)

pub yes : (a b : Bool) → T a → T (a || b)
yes true b t = tt
yes false b t = absurd t

-- a decay is not above 0
pub decay_low : (y : Float) → T (positive y) → T (le (neg y) (fin false 0 (pos 0)))
unfolding le neg
decay_low nan p = absurd p
decay_low (inf s) p = absurd p
decay_low (fin true m e) p = absurd p
decay_low (fin false m e) p = yes (ltb 0 (m * up e * 1 + 0 * down e)) _ (lt→ltb 0 (m * up e * 1 + 0 * down e) (some (m * up e) (0 * down e) (mul-pos (ltb→lt 0 m p) (up_pos e))))
  where
    some : (a b : ℕ) → 0 < a → 0 < a * 1 + b
    some a b h = omega arith

-- y is minus the decay
module _ (y : Float) (p : T (positive y)) (u : Size 0 y) (l : Least 4 y) where
  abbrev argument : Float
  argument = fin true 14141253 (negsuc 26) /ᶠ neg y

  arg_size : Size 4 argument
  arg_size = let n = neg_least 4 y p l in div_size 0 4 (fin true 14141253 (negsuc 26)) (neg y) (lit< tt) (lit≤ tt) n.0 n.1

  grown : Size 24 (exp32 argument)
  grown = exp_size 4 24 argument (lit< tt) (lit< tt) arg_size

  at_least : T (le unit (exp32 argument))
  at_least = go argument (size_finite 4 argument arg_size) (both_negative 14141253 (negsuc 26) y p)
    where
      go : (x : Float) → T (finite x) → T (plus x) → T (le unit (exp32 x))
      go nan a h = absurd a
      go (inf s) a h = absurd a
      go (fin true m e) a h = absurd h
      go (fin false m e) a h = exp_least m e

  factor_is : curve_factor_def (neg y) ≡ exp32 argument -ᶠ unit
  unfolding curve_factor_def
  factor_is = rw (ln_nine, one_is)

  pub factor_size : Size 25 (curve_factor_def (neg y))
  factor_size = subst (Size 25) (sym factor_is) (sub_size 24 (exp32 argument) unit (lit< tt) grown (lit≤ tt))

  pub factor_plus : T (plus (curve_factor_def (neg y)))
  factor_plus = subst (λ (x : Float). T (plus x)) (sym factor_is) (less_one (exp32 argument) (size_finite 24 (exp32 argument) grown) (plus_exp argument) at_least)

  pub decay_in : T (powered (neg y))
  decay_in = in_reach (neg y) (wider 0 4 (neg y) (lit≤ tt) (neg_size 0 y u))

  -- ---- the curve, at a stability s
  module _ (s : Float) (q : T (positive s)) (g : Least 14 s) where
    abbrev product : Float
    product = unit /ᶠ s *ᶠ curve_factor_def (neg y)

    product_size : Size 39 product
    product_size = mul_size 14 25 (unit /ᶠ s) (curve_factor_def (neg y)) (lit< tt) (div_size 0 14 unit s (lit< tt) (lit≤ tt) (positive-finite s q) g) factor_size

    base_is : base_def (curve_factor_def (neg y)) one s ≡ product +ᶠ unit
    unfolding base_def max_def is_nan lt of_bits
    base_is = refl

    base_size : Size 40 (product +ᶠ unit)
    base_size = add_size 39 product unit (lit< tt) product_size (lit≤ tt)

    product_plus : T (plus product)
    product_plus = plus_mul (unit /ᶠ s) (curve_factor_def (neg y)) (plus_div unit s tt (plus_of s q)) factor_plus

    -- after a day
    pub after_day : T (fits binary32 y) → Size 0 (curve_forward_def (neg y) (curve_factor_def (neg y)) one s).retrievability
    unfolding curve_forward_def
    after_day k =
        subst (λ (b : Float). Size 0 (pow32 b (neg y))) (sym base_is)
        (most 0 (pow32 (product +ᶠ unit) (neg y)) (plus_pow (product +ᶠ unit) (neg y))
        (pow_at_most_one binary32 (product +ᶠ unit) (neg y) (add-fits binary32 product unit) (neg-fits binary32 y k) (size_finite 40 (product +ᶠ unit) base_size) decay_in (one_more product (size_finite 39 product product_size) product_plus) (decay_low y p)))

    -- before day 0
    early_is : base_def (curve_factor_def (neg y)) (neg one) s ≡ fin false 0 (pos 0) /ᶠ s *ᶠ curve_factor_def (neg y) +ᶠ unit
    unfolding base_def max_def is_nan lt neg of_bits
    early_is = refl

    pub early : (curve_forward_def (neg y) (curve_factor_def (neg y)) (neg one) s).retrievability ≡ unit
    unfolding curve_forward_def
    early =
        let zero-quotient = zero_over (fin false 0 (pos 0)) s (false, refl) q in
        let zero-product = zero_times (fin false 0 (pos 0) /ᶠ s) (curve_factor_def (neg y)) zero-quotient (size_finite 25 (curve_factor_def (neg y)) factor_size) in
        ap (λ (b : Float). pow32 b (neg y)) (early_is ∙ zero_plus_one (fin false 0 (pos 0) /ᶠ s *ᶠ curve_factor_def (neg y)) zero-product) ∙ pow-one binary32 (neg y) decay_in
