-- The difficulty, by model_v6.rs, line for line: `w` is the 21 weights, and each product, sum and clamp stands where the Rust has
-- it. Assumes nothing.
use Rattle.std.specs.Prelude.{ℕ, List, Float}
use Rattle.std.specs.Float.Ieee.{neg}
use Rattle.domain.specs.Floats.{◌+ᶠ◌, ◌-ᶠ◌, ◌*ᶠ◌, ◌/ᶠ◌, clamp_def}
use Rattle.domain.specs.Limits.{one, three, nine, ten, rating_offset_def, d_min, d_max}
use Rattle.domain.specs.Weights.{◌!◌}
use Rattle.kernels.specs.Calls.{exp32}
use Rattle.model_v6.specs.Stability.{as_f32}

-- init_difficulty_scalar
unfoldable pub init_difficulty_def : (w : List Float) (rating : ℕ) → Float
init_difficulty_def w rating = w ! 4 -ᶠ exp32 (w ! 5 *ᶠ rating_offset_def rating) +ᶠ one

-- mean_reversion_scalar
unfoldable pub mean_reversion_def : (w : List Float) (init current : Float) → Float
mean_reversion_def w init current = w ! 7 *ᶠ init +ᶠ (one -ᶠ w ! 7) *ᶠ current

-- next_difficulty_scalar
unfoldable pub next_difficulty_def : (w : List Float) (d : Float) (rating : ℕ) → Float
next_difficulty_def w d rating =
    let delta-d = neg (w ! 6) *ᶠ (as_f32 rating -ᶠ three) in
    let new-d = d +ᶠ (ten -ᶠ d) /ᶠ nine *ᶠ delta-d in
    clamp_def (mean_reversion_def w (init_difficulty_def w 4) new-d) d_min d_max
