-- step_forward of analytic_v6.rs by document 01's step rules: clamp first; padding returns the clamped state; a first step is at row 0 from a
-- stability of 0; day -0.0 is same-day. A day that goes unread stands as +0.0 in the record. Assumes nothing.
use Rattle.std.specs.Prelude.{ℕ, ◌-◌, Bool, cond, ◌&&◌, ◌==◌, Float}
use Rattle.std.specs.Float.Ieee.{neg, eq}
use Rattle.domain.specs.Floats.{◌+ᶠ◌, ◌-ᶠ◌, ◌*ᶠ◌, ◌/ᶠ◌, clamp_def}
use Rattle.domain.specs.Limits.{zero32, one, two, three, nine, ten, s_min_def, s_max_def, d_min, d_max}
use Rattle.domain.specs.Weights.{◌!◌}
use Rattle.forward.specs.Curve.{curve_forward_def}
use Rattle.forward.specs.Params.{init_difficulty_of}
use Rattle.forward.specs.Stability.{short_def, lapse_def, success_def}
use Rattle.forward.specs.declared.parameters.RuntimeParams.{RuntimeParams}
use Rattle.forward.specs.declared.state.Branch.TheVariants.{Padding, First}
use Rattle.forward.specs.declared.state.Move.{Move}
use Rattle.forward.specs.declared.state.State.{State}
use Rattle.forward.specs.declared.state.Stepped.{Stepped}

-- 'from (0,0)'
unfoldable pub no_state_def : State
no_state_def = record { s = zero32; d = zero32 }

unfoldable pub clamp_state_def : State → State
clamp_state_def q = record { s = clamp_def q.s s_min_def s_max_def; d = clamp_def q.d d_min d_max }

-- a rating of 1 to 4 as a whole number: clamp(rating, 1.0, 4.0) as usize
unfoldable pub rating_number_def : Float → ℕ
rating_number_def rating = cond (eq rating one) 1 (cond (eq rating two) 2 (cond (eq rating three) 3 4))

unfoldable pub is_first_def : (row : ℕ) (s : Float) → Bool
is_first_def row s = row == 0 && eq s zero32

-- mean_d, from delta_d = -w[6] * (rating - 3.0) and next_d = last_d + (10.0 - last_d) * delta_d / 9.0
unfoldable pub difficulty_def : (w6 w7 easy_d d rating : Float) → Float
difficulty_def w6 w7 easy_d d rating =
    let delta-d = neg w6 *ᶠ (rating -ᶠ three) in
    let next-d = d +ᶠ (ten -ᶠ d) *ᶠ delta-d /ᶠ nine in
    w7 *ᶠ (easy_d -ᶠ next-d) +ᶠ next-d

unfoldable pub move_def : (p : RuntimeParams) (last : State) (day rating r : Float) → Move
move_def p last day rating r =
    let w = p.w in
    cond (eq day zero32)
    (short_def (w ! 17) (w ! 18) (w ! 19) last.s rating)
    (cond (eq rating one)
    (lapse_def (w ! 11) (w ! 12) (w ! 13) (w ! 14) p.failure_floor_divisor last r)
    (success_def p.exp_w8 (w ! 9) (w ! 10) (w ! 15) (w ! 16) last rating r))

unfoldable pub padding_def : (q : State) (rating : Float) → Stepped
padding_def q rating =
    let last = clamp_state_def q in
    record {
      state = last;
      step = record {
        state = q;
        last = last;
        day = zero32;
        rating = rating;
        retrievability = zero32;
        pre_s = last.s;
        pre_d = last.d;
        branch = Padding;
      };
    }

-- s: the weight of the rating
unfoldable pub first_def : (s w4 w5 : Float) (q : State) (rating : Float) → Stepped
first_def s w4 w5 q rating =
    let d = init_difficulty_of w4 w5 (rating_number_def rating) in
    record {
      state = clamp_state_def (record { s = s; d = d });
      step = record {
        state = q;
        last = clamp_state_def q;
        day = zero32;
        rating = rating;
        retrievability = zero32;
        pre_s = s;
        pre_d = d;
        branch = First (rating_number_def rating);
      };
    }

unfoldable pub review_def : (p : RuntimeParams) (q : State) (day rating : Float) → Stepped
review_def p q day rating =
    let last = clamp_state_def q in
    let r = (curve_forward_def p.curve_decay p.curve_factor day last.s).retrievability in
    let move = move_def p last day rating r in
    let mean = difficulty_def (p.w ! 6) (p.w ! 7) p.easy_d last.d rating in
    record {
      state = clamp_state_def (record { s = move.s; d = mean });
      step = record {
        state = q;
        last = last;
        day = day;
        rating = rating;
        retrievability = r;
        pre_s = move.s;
        pre_d = mean;
        branch = move.branch;
      };
    }

unfoldable pub step_def : (p : RuntimeParams) (q : State) (day rating : Float) (row : ℕ) → Stepped
step_def p q day rating row =
    cond (eq rating zero32)
    (padding_def q rating)
    (cond (is_first_def row q.s)
    (first_def (p.w ! (rating_number_def rating - 1)) (p.w ! 4) (p.w ! 5) q rating)
    (review_def p q day rating))
