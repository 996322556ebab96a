-- memory_state_from_sm2_scalar of model_v6.rs, line for line: `w` is the 21 weights, and each product, sum and quotient stands where
-- the Rust has it. Nothing is clamped here. Assumes nothing.
use Rattle.std.specs.Prelude.{List, Float}
use Rattle.std.specs.Float.Ieee.{neg}
use Rattle.domain.specs.Floats.{◌-ᶠ◌, ◌*ᶠ◌, ◌/ᶠ◌, max_def}
use Rattle.domain.specs.Limits.{one, eleven, s_min_def}
use Rattle.domain.specs.Weights.{◌!◌}
use Rattle.kernels.specs.Calls.{exp32, pow32}
use Rattle.kernels.specs.Kernels.{expm1_def}
use Rattle.model_v6.specs.Curve.{factor_def}
use Rattle.model_v6.specs.declared.state.MemoryState.{MemoryState}

-- interval.max(S_MIN) * factor / (sm2_retention.powf(1.0 / decay) - 1.0)
unfoldable pub sm2_stability_def : (w : List Float) (interval retention : Float) → Float
sm2_stability_def w interval retention =
    let decay = neg (w ! 20) in
    max_def interval s_min_def *ᶠ factor_def decay /ᶠ (pow32 retention (one /ᶠ decay) -ᶠ one)

-- 11.0 - (ease_factor - 1.0) / (w[8].exp() * stability.powf(-w[9]) * ((1.0 - sm2_retention) * w[10]).exp_m1())
unfoldable pub sm2_difficulty_def : (w : List Float) (ease stability retention : Float) → Float
sm2_difficulty_def w ease stability retention =
    eleven -ᶠ (ease -ᶠ one) /ᶠ (exp32 (w ! 8) *ᶠ pow32 stability (neg (w ! 9)) *ᶠ expm1_def ((one -ᶠ retention) *ᶠ w ! 10))

-- both, before the difficulty's clamp
unfoldable pub sm2_raw : (w : List Float) (ease interval retention : Float) → MemoryState
sm2_raw w ease interval retention =
    let s = sm2_stability_def w interval retention in
    record { stability = s; difficulty = sm2_difficulty_def w ease s retention }
