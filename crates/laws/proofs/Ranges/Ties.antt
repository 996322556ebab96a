-- Each formula of the forward pass, by the answers of its kernel calls: both sides are one text. Assumes nothing.
use mathlib.Core.Path.{◌≡◌, refl}
use mathlib.Core.Bool.{Bool, true, false, cond}
use lib.Ieee.{Float, eq}
use Rattle.domain.specs.Limits.{zero32, one}
use Rattle.domain.specs.Weights.{◌!◌}
use Rattle.forward.specs.Curve.{curve_forward_def}
use Rattle.forward.specs.Params.{curve_factor_def, curve_slope_def, init_difficulty_of, params_def}
use Rattle.forward.specs.Stability.{short_raw_def, short_def, lapse_raw_def, lapse_def, success_def}
use Rattle.forward.specs.Step.{move_def}
use Rattle.forward.specs.declared.parameters.RuntimeParams.{RuntimeParams}
use Rattle.forward.specs.declared.state.State.{State}
use Rattle.columns.specs.Scores.{bce_loss_def}
use Rattle.laws.specs.KernelCalls.{answers, param_calls, params_from, curve_calls, curve_from, short_calls, short_from, lapse_calls, lapse_from, success_calls, success_from, move_calls, move_from, first_calls, first_from, score_calls, score_from, Ties}

-- the choice of a move is that of its calls
same_move : (p : RuntimeParams) (last : State) (day rating r : Float) → move_def p last day rating r ≡ move_from p last day rating (answers (move_calls p last day rating r))
unfolding move_def move_from move_calls short_def short_raw_def lapse_def lapse_raw_def success_def short_calls short_from lapse_calls lapse_from success_calls success_from
same_move p last day rating r = go (eq day zero32) (eq rating one)
  where
    go : (a b : Bool) →
        cond a (short_def (p.w ! 17) (p.w ! 18) (p.w ! 19) last.s rating)
        (cond b (lapse_def (p.w ! 11) (p.w ! 12) (p.w ! 13) (p.w ! 14) p.failure_floor_divisor last r) (success_def p.exp_w8 (p.w ! 9) (p.w ! 10) (p.w ! 15) (p.w ! 16) last rating r)) ≡
        (let answer =
        answers
        (cond a (short_calls (p.w ! 17) (p.w ! 18) (p.w ! 19) last.s rating)
        (cond b (lapse_calls (p.w ! 12) (p.w ! 13) (p.w ! 14) last.s last.d r) (success_calls (p.w ! 9) (p.w ! 10) last.s r))) in
        cond a (short_from last.s rating answer)
        (cond b (lapse_from (p.w ! 11) p.failure_floor_divisor last.s answer) (success_from p.exp_w8 (p.w ! 15) (p.w ! 16) last rating answer)))
    go true b = refl
    go false true = refl
    go false false = refl

pub ties : Ties
unfolding params_def curve_factor_def curve_slope_def init_difficulty_of curve_forward_def short_def short_raw_def lapse_def lapse_raw_def success_def bce_loss_def param_calls params_from curve_calls curve_from short_calls short_from lapse_calls lapse_from success_calls success_from first_calls first_from score_calls score_from
ties = record {
  params = λ w. refl;
  curve = λ decay factor t s. refl;
  short = λ w17 w18 w19 s rating. refl;
  lapse = λ w11 w12 w13 w14 divisor last r. refl;
  success = λ exp_w8 w9 w10 w15 w16 last rating r. refl;
  move = same_move;
  first = λ w4 w5 rating. refl;
  score = λ r label weight. refl;
}
