-- step_backward of analytic_v6.rs: what reaches the state before the step, and the slots after it, by the branch that the record `c` names.
-- The text's sums that begin at 0.0 begin there here too. Assumes nothing.
use Rattle.std.specs.Prelude.{ℕ, Bool, List, Float}
use Rattle.domain.specs.Floats.{max_def}
use Rattle.domain.specs.Limits.{zero32, s_min_def, s_max_def, d_min, d_max}
use Rattle.domain.specs.Weights.{◌!◌}
use Rattle.domain.specs.Doubles.{◌+ᵈ◌, ◌*ᵈ◌, zero64}
use Rattle.forward.specs.Curve.{base_def}
use Rattle.forward.specs.declared.curve.CurveCache.{CurveCache}
use Rattle.forward.specs.declared.parameters.RuntimeParams.{RuntimeParams}
use Rattle.forward.specs.declared.state.Branch.{Branch}
use Rattle.forward.specs.declared.state.Branch.TheVariants.{Padding, First, SameDay, Lapse, Success}
use Rattle.forward.specs.declared.state.StepRecord.{StepRecord}
use Rattle.backward.specs.Curve.{curve_back, curve_slots}
use Rattle.backward.specs.Difficulty.{difficulty_back, difficulty_moved, init_moved}
use Rattle.backward.specs.Slots.{clamp_grad}
use Rattle.backward.specs.Short.{short_back_def, short_moved_def}
use Rattle.backward.specs.Failure.{failure_back, failure_moved}
use Rattle.backward.specs.Success.{success_back_def, success_moved_def}
use Rattle.backward.specs.declared.grads.Grads.{Grads}
use Rattle.backward.specs.declared.step.StateGrad.{StateGrad}

-- padding hands both gradients on
unfoldable pub carried : (g-s g-d g-r : Float) → Grads
carried g-s g-d g-r = record { s = zero64 +ᵈ g-s; d = zero64 +ᵈ g-d; r = g-r }

-- a first review has no state before it
unfoldable pub first_flow_def : (g-r : Float) → Grads
first_flow_def g-r = record { s = zero64; d = zero64; r = g-r }

unfoldable pub first_moved : (p : RuntimeParams) (rating : ℕ) (g-s g-d : Float) (gw : List Float) → List Float
first_moved p rating g-s g-d gw = init_moved (p.w ! 4) (p.w ! 5) rating g-s g-d gw

-- what goes back through a part of the step: the stability's, by the branch, and the difficulty's, which all reviews but the first share
abbrev pub through_short : (p : RuntimeParams) (c : StepRecord) (raw value : Float) (active : Bool) (g-s : Float) → Float
through_short p c raw value active g-s = short_back_def (p.w ! 19) c.last.s raw value active g-s

abbrev pub through_lapse : (p : RuntimeParams) (c : StepRecord) (raw floor : Float) (floored : Bool) (g-s : Float) → Grads
through_lapse p c raw floor floored g-s = failure_back p c.last c.retrievability raw floor floored g-s

abbrev pub through_success : (p : RuntimeParams) (c : StepRecord) (g-s : Float) → Grads
through_success p c g-s = success_back_def p c.last c.rating c.retrievability g-s

abbrev pub through_difficulty : (p : RuntimeParams) (c : StepRecord) (g-d : Float) → Float
through_difficulty p c g-d = difficulty_back p c.last.d c.rating c.pre_d g-d

-- and the slots after each
abbrev pub then_short : (p : RuntimeParams) (c : StepRecord) (raw : Float) (active : Bool) (g-s : Float) (gw : List Float) → List Float
then_short p c raw active g-s gw = short_moved_def (p.w ! 17) (p.w ! 18) c.last.s c.rating raw active g-s gw

abbrev pub then_lapse : (p : RuntimeParams) (c : StepRecord) (raw floor : Float) (floored : Bool) (g-s : Float) (gw : List Float) → List Float
then_lapse p c raw floor floored g-s gw = failure_moved p c.last c.retrievability raw floor floored g-s gw

abbrev pub then_success : (p : RuntimeParams) (c : StepRecord) (g-s : Float) (gw : List Float) → List Float
then_success p c g-s gw = success_moved_def p c.last c.rating c.retrievability g-s gw

abbrev pub then_difficulty : (p : RuntimeParams) (c : StepRecord) (g-d : Float) (gw : List Float) → List Float
then_difficulty p c g-d gw = difficulty_moved p c.last.d c.rating c.pre_d g-d gw

unfoldable pub short_flow_def : (p : RuntimeParams) (c : StepRecord) (raw value : Float) (active : Bool) (g-s g-d g-r : Float) → Grads
short_flow_def p c raw value active g-s g-d g-r =
    record { s = zero64 +ᵈ through_short p c raw value active g-s; d = zero64 +ᵈ through_difficulty p c g-d; r = g-r }

unfoldable pub short_all : (p : RuntimeParams) (c : StepRecord) (raw : Float) (active : Bool) (g-s g-d : Float) (gw : List Float) → List Float
short_all p c raw active g-s g-d gw = then_difficulty p c g-d (then_short p c raw active g-s gw)

-- a lapse and a success: g is what goes back through the stability, d through the difficulty
abbrev pub together : (g : Grads) (d g-r : Float) → Grads
together g d g-r = record { s = zero64 +ᵈ g.s; d = zero64 +ᵈ g.d +ᵈ d; r = g-r +ᵈ g.r }

unfoldable pub lapse_flow_def : (p : RuntimeParams) (c : StepRecord) (raw floor : Float) (floored : Bool) (g-s g-d g-r : Float) → Grads
lapse_flow_def p c raw floor floored g-s g-d g-r = together (through_lapse p c raw floor floored g-s) (through_difficulty p c g-d) g-r

unfoldable pub lapse_all : (p : RuntimeParams) (c : StepRecord) (raw floor : Float) (floored : Bool) (g-s g-d : Float) (gw : List Float) → List Float
lapse_all p c raw floor floored g-s g-d gw = then_difficulty p c g-d (then_lapse p c raw floor floored g-s gw)

unfoldable pub success_flow_def : (p : RuntimeParams) (c : StepRecord) (g-s g-d g-r : Float) → Grads
success_flow_def p c g-s g-d g-r = together (through_success p c g-s) (through_difficulty p c g-d) g-r

unfoldable pub success_all : (p : RuntimeParams) (c : StepRecord) (g-s g-d : Float) (gw : List Float) → List Float
success_all p c g-s g-d gw = then_difficulty p c g-d (then_success p c g-s gw)

unfoldable pub flow_def : (p : RuntimeParams) (c : StepRecord) (branch : Branch) (g-s g-d g-r : Float) → Grads
flow_def p c Padding g-s g-d g-r = carried g-s g-d g-r
flow_def p c (First rating) g-s g-d g-r = first_flow_def g-r
flow_def p c (SameDay raw value active) g-s g-d g-r = short_flow_def p c raw value active g-s g-d g-r
flow_def p c (Lapse raw floor floored) g-s g-d g-r = lapse_flow_def p c raw floor floored g-s g-d g-r
flow_def p c Success g-s g-d g-r = success_flow_def p c g-s g-d g-r

unfoldable pub flow_moved : (p : RuntimeParams) (c : StepRecord) (branch : Branch) (g-s g-d : Float) (gw : List Float) → List Float
flow_moved p c Padding g-s g-d gw = gw
flow_moved p c (First rating) g-s g-d gw = first_moved p rating g-s g-d gw
flow_moved p c (SameDay raw value active) g-s g-d gw = short_all p c raw active g-s g-d gw
flow_moved p c (Lapse raw floor floored) g-s g-d gw = lapse_all p c raw floor floored g-s g-d gw
flow_moved p c Success g-s g-d gw = success_all p c g-s g-d gw

-- the step's curve as it was
unfoldable pub record_curve_def : (decay factor : Float) (c : StepRecord) → CurveCache
record_curve_def decay factor c =
    record {
      t = max_def c.day zero32;
      s = c.last.s;
      decay = decay;
      factor = factor;
      base = base_def factor c.day c.last.s;
      retrievability = c.retrievability;
    }

abbrev pub curve_of : (p : RuntimeParams) (c : StepRecord) → CurveCache
curve_of p c = record_curve_def p.curve_decay p.curve_factor c

-- g_out_s * clamp_grad(pre_clamp_s, S_MIN, S_MAX)
unfoldable pub pre_grad : (c : StepRecord) (g-out-s : Float) → Float
pre_grad c g-out-s = g-out-s *ᵈ clamp_grad c.pre_s s_min_def s_max_def

unfoldable pub step_grad : (p : RuntimeParams) (c : StepRecord) (g-out-s g-out-d g-r : Float) → StateGrad
step_grad p c g-out-s g-out-d g-r =
    let g = flow_def p c c.branch (pre_grad c g-out-s) g-out-d g-r in
    let last-s = g.s +ᵈ curve_back (curve_of p c) g.r in
    record { s = last-s *ᵈ clamp_grad c.state.s s_min_def s_max_def; d = g.d *ᵈ clamp_grad c.state.d d_min d_max }

unfoldable pub step_moved : (p : RuntimeParams) (c : StepRecord) (g-out-s g-out-d g-r : Float) (gw : List Float) → List Float
step_moved p c g-out-s g-out-d g-r gw =
    let g-s = pre_grad c g-out-s in
    let g = flow_def p c c.branch g-s g-out-d g-r in
    curve_slots p.curve_dfactor_ddecay (curve_of p c) g.r (flow_moved p c c.branch g-s g-out-d gw)
