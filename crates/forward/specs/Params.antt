-- RuntimeParams::new and init_difficulty of analytic_v6.rs: each number as a function of the weights that it comes from.
-- A single widened to a double is the same value here. Assumes nothing.
use Rattle.std.specs.Prelude.{ℕ, false, List, Float}
use Rattle.std.specs.Float.{binary64}
use Rattle.std.specs.Float.Ieee.{neg, round}
use Rattle.domain.specs.Floats.{◌+ᶠ◌, ◌-ᶠ◌, ◌*ᶠ◌, ◌/ᶠ◌}
use Rattle.domain.specs.Limits.{decimal, one, rating_offset_def}
use Rattle.domain.specs.Weights.{◌!◌}
use Rattle.kernels.specs.Calls.{exp32, ln32, exp64, ln64}
use Rattle.domain.specs.Doubles.{◌*ᵈ◌, ◌/ᵈ◌, three64}
use Rattle.forward.specs.declared.parameters.RuntimeParams.{RuntimeParams}

-- ((0.9f32.ln()) / curve_decay).exp() - 1.0
unfoldable pub curve_factor_def : (decay : Float) → Float
curve_factor_def decay = exp32 (ln32 (decimal 9 10) /ᶠ decay) -ᶠ one

-- 0.9f64
unfoldable pub nine_tenths : Float
nine_tenths = round binary64 false 9 10

-- exp_term * (-c / (decay * decay)), for c = 0.9f64.ln() and exp_term = (c / decay).exp()
unfoldable pub curve_slope_def : (decay : Float) → Float
curve_slope_def decay = let c = ln64 nine_tenths in exp64 (c /ᵈ decay) *ᵈ (neg c /ᵈ (decay *ᵈ decay))

-- w[4] - (w[5] * offset).exp() + 1.0, for offset = rating.saturating_sub(1) as f32
unfoldable pub init_difficulty_of : (w4 w5 : Float) (rating : ℕ) → Float
init_difficulty_of w4 w5 rating = w4 -ᶠ exp32 (w5 *ᶠ rating_offset_def rating) +ᶠ one

unfoldable pub params_def : List Float → RuntimeParams
params_def w =
    record {
      w = w;
      curve_decay = neg (w ! 20);
      curve_factor = curve_factor_def (neg (w ! 20));
      curve_dfactor_ddecay = curve_slope_def (neg (w ! 20));
      exp_w8 = exp32 (w ! 8);
      exp_w8_f64 = exp64 (w ! 8);
      failure_floor_divisor = exp32 (w ! 17 *ᶠ w ! 18);
      easy_d = init_difficulty_of (w ! 4) (w ! 5) 4;
      easy_d_f64 = init_difficulty_of (w ! 4) (w ! 5) 4;
      exp_3w5_f64 = exp64 (three64 *ᵈ w ! 5);
    }
