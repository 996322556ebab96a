-- What is worked out of weights inside the box, singles and doubles: every number of it is finite, and no kernel call is refused. Assumes nothing.
use mathlib.Core.Path.{◌≡◌, refl, sym, subst}
use mathlib.Core.Bool.{true, false}
use mathlib.Core.List.{List}
use lib.Dec.{T, lit<, lit≤}
use lib.Ieee.{Float, nan, inf, fin, binary64, of_bits, neg, mul, le, round}
use lib.Ieee.Fits.{and_l}
use lib.Ieee.Positive.{positive, mul_mono}
use lib.Ieee.Scale.{finite}
use lib.ListN.{get_or}
use Rattle.table.specs.Exact.{P, taylor, fact}
use Rattle.table.specs.Entry.{entry, first_from}
use Rattle.kernels.specs.Power.{hi}
use Rattle.kernels.specs.Logarithm.{gap63, low63, below24, gap64, low64, below64, logarithm}
use Rattle.kernels.specs.Kernels.{ln_def}
use Rattle.kernels.specs.Calls.{exp32, ln32, exp64, ln64}
use Rattle.domain.specs.Doubles.{◌*ᵈ◌, ◌/ᵈ◌, three64}
use Rattle.domain.specs.Floats.{◌*ᶠ◌, ◌/ᶠ◌}
use Rattle.domain.specs.Limits.{decimal, rating_offset_def}
use Rattle.domain.specs.Weights.{◌!◌, low_def, high_def, weights_refusal_def}
use Rattle.forward.specs.Params.{curve_factor_def, nine_tenths, curve_slope_def, init_difficulty_of, params_def}
use Rattle.laws.specs.KernelCalls.{NoneRefused, param_calls}
use Rattle.laws.specs.Numbers.{FiniteParams}
use Rattle.laws.proofs.Values.Sizes.{Size, size_finite, neg_size}
use Rattle.laws.proofs.Values.Operations.{mul_size, mul_size_in, Least, div_size, div_size_in}
use Rattle.laws.proofs.Values.Between.{least_of}
use Rattle.laws.proofs.Values.Powers.{exp_size, exp_size_in}
use Rattle.laws.proofs.Values.Box.{sizes, weight_size, inside, above_20, least_20}
use Rattle.laws.proofs.Values.Curve.{neg_least, factor_size}
use Rattle.laws.proofs.Values.Difficulty.{init_exp_size, offset_size, easy_size}
use Rattle.laws.proofs.Ranges.Low.{above_finite, exp_low}
use Rattle.laws.proofs.Ranges.Accepted.{accepted}

-- ---- ln 0.9, in both formats
ln_single : Size 0 (ln32 (decimal 9 10))
unfolding ln_def logarithm below24 first_from gap63 low63 entry P taylor fact decimal
ln_single = lit≤ tt

ln_double : Size 0 (ln64 nine_tenths)
unfolding ln_def logarithm below64 first_from gap64 low64 hi entry P taylor fact nine_tenths round
ln_double = lit≤ tt

three_size : Size 2 three64
unfolding of_bits
three_size = lit≤ tt

-- ---- the square of the decay, in double: 0.1 squared or more
neg_square : (y : Float) → neg y *ᵈ neg y ≡ y *ᵈ y
unfolding mul neg
neg_square nan = refl
neg_square (inf true) = refl
neg_square (inf false) = refl
neg_square (fin true m e) = refl
neg_square (fin false m e) = refl

abbrev tenth : Float
tenth = decimal 1 10

square_least : T (positive (tenth *ᵈ tenth)) × Least 7 (tenth *ᵈ tenth)
unfolding decimal mul
square_least = (tt, lit≤ tt)

module _ (w : List Float) (box : weights_refusal_def w ≡ 0) where
  abbrev decay : Float
  decay = neg (w ! 20)

  abbrev square : Float
  square = decay *ᵈ decay

  at_least : T (le tenth (w ! 20))
  unfolding low_def
  at_least = and_l (le tenth (w ! 20)) (le (w ! 20) (high_def ! 20)) (inside w box 20 (lit< tt))

  own_above : T (positive (w ! 20))
  own_above = above_20 w box

  tenth_above : T (positive tenth)
  unfolding decimal
  tenth_above = tt

  decay_least : T (finite decay) × Least 4 decay
  decay_least = neg_least 4 (w ! 20) own_above (least_20 w box)

  own_square : T (le (tenth *ᵈ tenth) (w ! 20 *ᵈ w ! 20))
  own_square = mul_mono binary64 tenth (w ! 20) tenth (w ! 20) tenth_above own_above tenth_above own_above at_least at_least

  square_size : Size 0 (w ! 20 *ᵈ w ! 20)
  square_size = mul_size_in binary64 0 0 (w ! 20) (w ! 20) (lit< tt) (weight_size w box 20 (lit< tt)) (weight_size w box 20 (lit< tt))

  square_above : T (positive (w ! 20 *ᵈ w ! 20))
  square_above = above_finite (tenth *ᵈ tenth) (w ! 20 *ᵈ w ! 20) square_least.0 (size_finite 0 (w ! 20 *ᵈ w ! 20) square_size) own_square

  divided : Size 7 (neg (ln64 nine_tenths) /ᵈ square)
  divided =
      subst (λ (x : Float). Size 7 (neg (ln64 nine_tenths) /ᵈ x)) (sym (neg_square (w ! 20)))
      (div_size_in binary64 0 7 (neg (ln64 nine_tenths)) (w ! 20 *ᵈ w ! 20) (lit< tt) (neg_size 0 (ln64 nine_tenths) ln_double) (size_finite 0 (w ! 20 *ᵈ w ! 20) square_size)
      (least_of 7 (tenth *ᵈ tenth) (w ! 20 *ᵈ w ! 20) square_least.0 square_above own_square square_least.1))

  -- the kernels' answers
  grown_single : Size 24 (exp32 (ln32 (decimal 9 10) /ᶠ decay))
  grown_single =
      let x = ln32 (decimal 9 10) /ᶠ decay in
      exp_size 4 24 x (lit< tt) (lit< tt) (div_size 0 4 (ln32 (decimal 9 10)) decay (lit< tt) ln_single decay_least.0 decay_least.1)

  grown_double : Size 24 (exp64 (ln64 nine_tenths /ᵈ decay))
  grown_double =
      let x = ln64 nine_tenths /ᵈ decay in
      exp_size_in binary64 4 24 x (lit< tt) (lit< tt) (div_size_in binary64 0 4 (ln64 nine_tenths) decay (lit< tt) ln_double decay_least.0 decay_least.1)

  slope_size : Size 31 (curve_slope_def decay)
  unfolding curve_slope_def
  slope_size = mul_size_in binary64 24 7 (exp64 (ln64 nine_tenths /ᵈ decay)) (neg (ln64 nine_tenths) /ᵈ square) (lit< tt) grown_double divided

  pub exp_w8_size : Size 12 (exp32 (w ! 8))
  exp_w8_size = exp_size 3 12 (w ! 8) (lit< tt) (lit< tt) (weight_size w box 8 (lit< tt))

  exp_w8_double : Size 12 (exp64 (w ! 8))
  exp_w8_double = exp_size_in binary64 3 12 (w ! 8) (lit< tt) (lit< tt) (weight_size w box 8 (lit< tt))

  divisor_argument : Size 4 (w ! 17 *ᶠ w ! 18)
  divisor_argument = mul_size 2 2 (w ! 17) (w ! 18) (lit< tt) (weight_size w box 17 (lit< tt)) (weight_size w box 18 (lit< tt))

  pub divisor_size : Size 24 (exp32 (w ! 17 *ᶠ w ! 18))
  divisor_size = exp_size 4 24 (w ! 17 *ᶠ w ! 18) (lit< tt) (lit< tt) divisor_argument

  pub divisor_least : Least 24 (exp32 (w ! 17 *ᶠ w ! 18))
  divisor_least = exp_low (w ! 17 *ᶠ w ! 18) divisor_argument

  pub easy_d_size : Size 26 (init_difficulty_of (w ! 4) (w ! 5) 4)
  easy_d_size = easy_size (w ! 4) (w ! 5) (weight_size w box 4 (lit< tt)) (weight_size w box 5 (lit< tt))

  thrice_size : Size 24 (exp64 (three64 *ᵈ w ! 5))
  thrice_size =
      let x = three64 *ᵈ w ! 5 in
      exp_size_in binary64 4 24 x (lit< tt) (lit< tt) (mul_size_in binary64 2 2 three64 (w ! 5) (lit< tt) three_size (weight_size w box 5 (lit< tt)))

  pub params_finite : FiniteParams (params_def w)
  unfolding params_def
  params_finite = record {
    w = λ k l. size_finite (get_or sizes k 0) (w ! k) (weight_size w box k l);
    curve_decay = decay_least.0;
    curve_factor = size_finite 25 (curve_factor_def decay) (factor_size (w ! 20) own_above (weight_size w box 20 (lit< tt)) (least_20 w box));
    curve_slope = size_finite 31 (curve_slope_def decay) slope_size;
    exp_w8 = size_finite 12 (exp32 (w ! 8)) exp_w8_size;
    exp_w8_f64 = size_finite 12 (exp64 (w ! 8)) exp_w8_double;
    floor_divisor = size_finite 24 (exp32 (w ! 17 *ᶠ w ! 18)) divisor_size;
    easy_d = size_finite 26 (init_difficulty_of (w ! 4) (w ! 5) 4) easy_d_size;
    easy_d_f64 = size_finite 26 (init_difficulty_of (w ! 4) (w ! 5) 4) easy_d_size;
    exp_3w5_f64 = size_finite 24 (exp64 (three64 *ᵈ w ! 5)) thrice_size;
  }

  pub params_called : NoneRefused (param_calls w)
  unfolding param_calls
  params_called = (
    accepted 0 (ln32 (decimal 9 10)) ln_single,
    (
      accepted 24 (exp32 (ln32 (decimal 9 10) /ᶠ decay)) grown_single,
      (
        accepted 0 (ln64 nine_tenths) ln_double,
        (
          accepted 24 (exp64 (ln64 nine_tenths /ᵈ decay)) grown_double,
          (
            accepted 12 (exp32 (w ! 8)) exp_w8_size,
            (
              accepted 12 (exp64 (w ! 8)) exp_w8_double,
              (
                accepted 24 (exp32 (w ! 17 *ᶠ w ! 18)) divisor_size,
                (accepted 24 (exp32 (w ! 5 *ᶠ rating_offset_def 4)) (init_exp_size (w ! 5) 4 offset_size (weight_size w box 5 (lit< tt))), (accepted 24 (exp64 (three64 *ᵈ w ! 5)) thrice_size, tt)),
              ),
            ),
          ),
        ),
      ),
    ),
  )
