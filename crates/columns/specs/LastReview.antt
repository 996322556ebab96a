-- A column's last scored review: the target of a prefix, and the last row of a card. Assumes nothing.
use Rattle.std.specs.Prelude.{ℕ, cond, List, Float}
use Rattle.std.specs.Float.Ieee.{eq}
use Rattle.domain.specs.Floats.{clamp_def}
use Rattle.domain.specs.Limits.{zero32, s_min_def, s_max_def}
use Rattle.checks.specs.Reads.{card_label}
use Rattle.forward.specs.Curve.{curve_forward_def}
use Rattle.domain.specs.Doubles.{◌+ᵈ◌, ◌*ᵈ◌, zero64}
use Rattle.forward.specs.declared.curve.CurveCache.{CurveCache}
use Rattle.forward.specs.declared.parameters.RuntimeParams.{RuntimeParams}
use Rattle.backward.specs.Curve.{curve_back, curve_slots}
use Rattle.backward.specs.Slots.{clamp_grad}
use Rattle.columns.specs.Scores.{score_def}
use Rattle.columns.specs.declared.scores.Score.{Score}

module _ (p : RuntimeParams) (s day label weight : Float) where
  -- curve_forward(p, delta_t, state.s)
  abbrev pub curve_at : CurveCache
  curve_at = curve_forward_def p.curve_decay p.curve_factor day s

  abbrev pub scored : Score
  scored = score_def curve_at.retrievability label weight

  -- 'no scored curve, loss or starting gradient is worked from it': a weight of 0
  unfoldable pub target_loss_def : Float
  target_loss_def = cond (eq weight zero32) zero64 scored.loss

  unfoldable pub target_grad : Float
  target_grad = cond (eq weight zero32) zero64 (curve_back curve_at scored.g_r)

  unfoldable pub target_slots : (gw : List Float) → List Float
  target_slots gw = cond (eq weight zero32) gw (curve_slots p.curve_dfactor_ddecay curve_at scored.g_r gw)

-- a card's last row, t: if t != 0 && weights[idx] != 0.0; it is scored exactly where its label is read
module _ (p : RuntimeParams) (row : ℕ) (s day label weight : Float) where
  -- loss += step_loss, at the clamped stability
  unfoldable pub last_loss_def : (loss : Float) → Float
  last_loss_def loss = cond (card_label row weight) (loss +ᵈ target_loss_def p (clamp_def s s_min_def s_max_def) day label weight) loss

  -- final_g_s *= clamp_grad(state.s, S_MIN, S_MAX)
  unfoldable pub last_grad : Float
  last_grad = cond (card_label row weight) (target_grad p (clamp_def s s_min_def s_max_def) day label weight *ᵈ clamp_grad s s_min_def s_max_def) zero64

  unfoldable pub last_slots : (gw : List Float) → List Float
  last_slots gw = cond (card_label row weight) (target_slots p (clamp_def s s_min_def s_max_def) day label weight gw) gw
