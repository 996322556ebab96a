-- How a review moves the stability, from step_forward of analytic_v6.rs.
-- Each takes the weights that document 01 lets its branch read, and no other. Assumes nothing.
use Rattle.std.specs.Prelude.{Bool, cond, not, ◌&&◌, Float}
use Rattle.std.specs.Float.Ieee.{neg, lt, le, eq}
use Rattle.domain.specs.Floats.{◌+ᶠ◌, ◌-ᶠ◌, ◌*ᶠ◌, ◌/ᶠ◌, max_def}
use Rattle.domain.specs.Limits.{one, two, three, four, eleven}
use Rattle.kernels.specs.Calls.{exp32, pow32}
use Rattle.forward.specs.declared.state.Branch.TheVariants.{SameDay, Lapse, Success}
use Rattle.forward.specs.declared.state.Move.{Move}
use Rattle.forward.specs.declared.state.State.{State}

-- (w[17] * (rating - 3.0 + w[18])).exp() * last_s.powf(-w[19])
unfoldable pub short_raw_def : (w17 w18 w19 s rating : Float) → Float
short_raw_def w17 w18 w19 s rating = exp32 (w17 *ᶠ (rating -ᶠ three +ᶠ w18)) *ᶠ pow32 s (neg w19)

-- for ratings 2-4 a raw multiplier below 1 becomes 1; exactly 1 counts as raw
unfoldable pub is_floored_def : (rating raw : Float) → Bool
is_floored_def rating raw = le two rating && lt raw one

-- if rating >= 2.0 { short_raw.max(1.0) } else { short_raw }
unfoldable pub short_value_def : (rating raw : Float) → Float
short_value_def rating raw = cond (le two rating) (max_def raw one) raw

-- short_raw_active is !(rating >= 2.0 && short_raw < 1.0)
unfoldable pub short_def : (w17 w18 w19 s rating : Float) → Move
short_def w17 w18 w19 s rating =
    let raw = short_raw_def w17 w18 w19 s rating in
    let value = short_value_def rating raw in
    record { s = s *ᶠ value; branch = SameDay raw value (not (is_floored_def rating raw)) }

-- w[11] * last_d.powf(-w[12]) * ((last_s + 1.0).powf(w[13]) - 1.0) * ((1.0 - r) * w[14]).exp()
unfoldable pub lapse_raw_def : (w11 w12 w13 w14 s d r : Float) → Float
lapse_raw_def w11 w12 w13 w14 s d r =
    w11 *ᶠ pow32 d (neg w12) *ᶠ (pow32 (s +ᶠ one) w13 -ᶠ one) *ᶠ exp32 ((one -ᶠ r) *ᶠ w14)

-- failure_used_floor is failure_floor < failure_raw: equality takes raw
unfoldable pub lapse_move_def : (raw floor : Float) → Move
lapse_move_def raw floor =
    let floored = lt floor raw in
    record { s = cond floored floor raw; branch = Lapse raw floor floored }

-- divisor: (w[17] * w[18]).exp()
unfoldable pub lapse_def : (w11 w12 w13 w14 divisor : Float) (last : State) (r : Float) → Move
lapse_def w11 w12 w13 w14 divisor last r =
    lapse_move_def (lapse_raw_def w11 w12 w13 w14 last.s last.d r) (last.s /ᶠ divisor)

-- w15 is read if the rating is 2, and w16 if it is 4
unfoldable pub success_def : (exp_w8 w9 w10 w15 w16 : Float) (last : State) (rating r : Float) → Move
success_def exp_w8 w9 w10 w15 w16 last rating r =
    let hard-penalty = cond (eq rating two) w15 one in
    let easy-bonus = cond (eq rating four) w16 one in
    let inc =
    exp_w8 *ᶠ (eleven -ᶠ last.d) *ᶠ pow32 last.s (neg w9) *ᶠ (exp32 ((one -ᶠ r) *ᶠ w10) -ᶠ one) *ᶠ hard-penalty *ᶠ easy-bonus
    in
    record { s = last.s *ᶠ (inc +ᶠ one); branch = Success }
