-- backward_difficulty and backward_init of analytic_v6.rs. Assumes nothing.
use Rattle.std.specs.Prelude.{ℕ, ◌-◌, cond, List, Float}
use Rattle.std.specs.Float.Ieee.{neg, eq, ne}
use Rattle.domain.specs.Floats.{◌-ᶠ◌}
use Rattle.domain.specs.Limits.{three, rating_offset_def, d_min, d_max}
use Rattle.domain.specs.Weights.{◌!◌}
use Rattle.forward.specs.Params.{init_difficulty_of}
use Rattle.kernels.specs.Calls.{exp64}
use Rattle.domain.specs.Doubles.{◌+ᵈ◌, ◌-ᵈ◌, ◌*ᵈ◌, ◌/ᵈ◌, zero64, one64, three64, nine64, ten64}
use Rattle.forward.specs.declared.parameters.RuntimeParams.{RuntimeParams}
use Rattle.backward.specs.Slots.{bump, clamp_grad}
use Rattle.backward.specs.declared.difficulty.DifficultyParts.{DifficultyParts}

unfoldable pub difficulty_parts_def : (w6 w7 d rating : Float) → DifficultyParts
difficulty_parts_def w6 w7 d rating =
    let rating-minus-3 = rating -ᶠ three in
    let delta-d = neg w6 *ᵈ rating-minus-3 in
    record {
      rating_minus_3 = rating-minus-3;
      last_d = d;
      delta_d = delta-d;
      next_d = d +ᵈ (ten64 -ᵈ d) *ᵈ delta-d /ᵈ nine64;
      w7 = w7;
    }

-- slots 7, 4, 5, 6; g is g_mean, and g_next = g_mean * (1.0 - w[7])
unfoldable pub difficulty_slots_def : (c : DifficultyParts) (easy_d exp-3w5 g : Float) (gw : List Float) → List Float
difficulty_slots_def c easy_d exp-3w5 g gw =
    let with7 = bump gw 7 (g *ᵈ (easy_d -ᵈ c.next_d)) in
    let with4 = bump with7 4 (g *ᵈ c.w7) in
    let with5 = bump with4 5 (g *ᵈ c.w7 *ᵈ neg three64 *ᵈ exp-3w5) in
    bump with5 6 (g *ᵈ (one64 -ᵈ c.w7) *ᵈ (ten64 -ᵈ c.last_d) *ᵈ neg c.rating_minus_3 /ᵈ nine64)

unfoldable pub difficulty_grad_def : (c : DifficultyParts) (g : Float) → Float
difficulty_grad_def c g = g *ᵈ (one64 -ᵈ c.w7) *ᵈ (one64 -ᵈ c.delta_d /ᵈ nine64)

-- g * clamp_grad(pre_d, D_MIN, D_MAX)
unfoldable pub mean_grad_def : (pre_d g : Float) → Float
mean_grad_def pre_d g = g *ᵈ clamp_grad pre_d d_min d_max

abbrev pub parts_of : (p : RuntimeParams) (d rating : Float) → DifficultyParts
parts_of p d rating = difficulty_parts_def (p.w ! 6) (p.w ! 7) d rating

-- both zero tests of the text
unfoldable pub difficulty_back : (p : RuntimeParams) (d rating pre_d g-out : Float) → Float
difficulty_back p d rating pre_d g-out =
    let g = mean_grad_def pre_d g-out in
    cond (eq g-out zero64) zero64 (cond (eq g zero64) zero64 (difficulty_grad_def (parts_of p d rating) g))

unfoldable pub difficulty_moved : (p : RuntimeParams) (d rating pre_d g-out : Float) (gw : List Float) → List Float
difficulty_moved p d rating pre_d g-out gw =
    let g = mean_grad_def pre_d g-out in
    cond (eq g-out zero64) gw
    (cond (eq g zero64) gw (difficulty_slots_def (parts_of p d rating) p.easy_d_f64 p.exp_3w5_f64 g gw))

-- slots 4 and 5; the offset, rating - 1, is the same number as a single and as a double
unfoldable pub init_slots_def : (w5 : Float) (rating : ℕ) (g : Float) (gw : List Float) → List Float
init_slots_def w5 rating g gw =
    let offset = rating_offset_def rating in
    bump (bump gw 4 g) 5 (g *ᵈ neg offset *ᵈ exp64 (offset *ᵈ w5))

-- backward_init: the rating's own slot first
unfoldable pub init_moved : (w4 w5 : Float) (rating : ℕ) (g-s g-d : Float) (gw : List Float) → List Float
init_moved w4 w5 rating g-s g-d gw =
    let g = mean_grad_def (init_difficulty_of w4 w5 rating) g-d in
    let own = bump gw (rating - 1) g-s in
    cond (ne g zero64) (init_slots_def w5 rating g own) own
