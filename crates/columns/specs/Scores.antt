-- bce_loss_and_grad_r of analytic_v6.rs, in singles; a single widened is the same number. Assumes nothing.
use Rattle.std.specs.Prelude.{Bool, cond, ◌&&◌, Float}
use Rattle.std.specs.Float.Ieee.{neg, eq, lt}
use Rattle.kernels.specs.Calls.{ln32}
use Rattle.domain.specs.Floats.{◌+ᶠ◌, ◌-ᶠ◌, ◌*ᶠ◌, ◌/ᶠ◌, clamp_def}
use Rattle.domain.specs.Limits.{decimal, zero32, one}
use Rattle.domain.specs.Doubles.{zero64}
use Rattle.columns.specs.declared.scores.Score.{Score}

-- const MIN_PROB: f32 = 1e-7
unfoldable pub min_prob_def : Float
min_prob_def = decimal 1 10000000

-- const MAX_PROB: f32 = 1.0 - 1e-7
unfoldable pub max_prob_def : Float
max_prob_def = one -ᶠ min_prob_def

-- clamp(r_raw, MIN_PROB, MAX_PROB)
unfoldable pub probability : (r-raw : Float) → Float
probability r-raw = clamp_def r-raw min_prob_def max_prob_def

-- -((label * r.ln()) + ((1.0 - label) * (1.0 - r).ln())) * weight
unfoldable pub bce_loss_def : (r label weight : Float) → Float
bce_loss_def r label weight = neg (label *ᶠ ln32 r +ᶠ (one -ᶠ label) *ᶠ ln32 (one -ᶠ r)) *ᶠ weight

-- -weight * (label / r - (1.0 - label) / (1.0 - r))
unfoldable pub bce_grad_def : (r label weight : Float) → Float
bce_grad_def r label weight = neg weight *ᶠ (label /ᶠ r -ᶠ (one -ᶠ label) /ᶠ (one -ᶠ r))

-- r_raw > MIN_PROB && r_raw < MAX_PROB: 'at 1e-7 and at 1 - 1e-7 the gradient is 0'
unfoldable pub is_inside_def : (r-raw : Float) → Bool
is_inside_def r-raw = lt min_prob_def r-raw && lt r-raw max_prob_def

unfoldable pub no_score_def : Score
no_score_def = record { loss = zero64; g_r = zero64 }

-- 'A review weight of 0, of either sign, ends its item'
unfoldable pub score_def : (r-raw label weight : Float) → Score
unfolding no_score_def
score_def r-raw label weight =
    let r = probability r-raw in
    cond (eq weight zero32) no_score_def (record { loss = bce_loss_def r label weight; g_r = cond (is_inside_def r-raw) (bce_grad_def r label weight) zero64 })
