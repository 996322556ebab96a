-- power_forgetting_curve_scalar and next_interval_scalar of model_v6.rs, line for line: `w` is the 21 weights, and each product,
-- sum and clamp stands where the Rust has it. Assumes nothing.
use Rattle.std.specs.Prelude.{List, Float}
use Rattle.std.specs.Float.{binary32}
use Rattle.std.specs.Float.Ieee.{neg}
use Rattle.domain.specs.Floats.{◌-ᶠ◌, ◌*ᶠ◌, ◌/ᶠ◌, clamp_def, max_def}
use Rattle.domain.specs.Limits.{decimal, zero32, one, s_min_def, s_max_def}
use Rattle.domain.specs.Weights.{◌!◌}
use Rattle.kernels.specs.Calls.{pow32}
use Rattle.soft.specs.Fma.{fma_def}
use Rattle.soft.specs.HalfAway.{round_def}

-- x.mul_add(a, b)
abbrev pub mul-add : (x a b : Float) → Float
mul-add x a b = fma_def binary32 x a b

-- 0.9f32.powf(1.0 / decay) - 1.0
unfoldable pub factor_def : (decay : Float) → Float
factor_def decay = pow32 (decimal 9 10) (one /ᶠ decay) -ᶠ one

-- t.max(0.0).round()
unfoldable pub days_def : (t : Float) → Float
days_def t = round_def binary32 (max_def t zero32)

-- power_forgetting_curve_scalar
unfoldable pub curve_def : (w : List Float) (t s : Float) → Float
curve_def w t s =
    let s = max_def s s_min_def in
    let decay = neg (w ! 20) in
    pow32 (mul-add (days_def t /ᶠ s) (factor_def decay) one) decay

-- next_interval_scalar
unfoldable pub interval_def : (w : List Float) (stability desired : Float) → Float
interval_def w stability desired =
    let stability = max_def stability s_min_def in
    let desired = clamp_def desired (decimal 1 10000) (decimal 9999 10000) in
    let decay = neg (w ! 20) in
    clamp_def (stability /ᶠ factor_def decay *ᶠ (pow32 desired (one /ᶠ decay) -ᶠ one)) zero32 s_max_def
