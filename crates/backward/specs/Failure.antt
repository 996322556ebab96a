-- backward_failure of analytic_v6.rs: the weights that its branch reads, and the slots that it may move, in the text's order. Assumes nothing.
use Rattle.std.specs.Prelude.{Bool, cond, List, Float}
use Rattle.std.specs.Float.Ieee.{neg, eq}
use Rattle.domain.specs.Weights.{◌!◌}
use Rattle.kernels.specs.Calls.{exp64, ln64, pow64}
use Rattle.domain.specs.Doubles.{◌+ᵈ◌, ◌-ᵈ◌, ◌*ᵈ◌, ◌/ᵈ◌, zero64, one64}
use Rattle.forward.specs.declared.parameters.RuntimeParams.{RuntimeParams}
use Rattle.forward.specs.declared.state.State.{State}
use Rattle.backward.specs.Grads.{no_grads_def}
use Rattle.backward.specs.Slots.{bump}
use Rattle.backward.specs.declared.grads.Grads.{Grads}
use Rattle.backward.specs.declared.failure.LapseParts.{LapseParts}

-- where the floor was taken: slots 17, 18
unfoldable pub floor_grads : (s floor g : Float) → Grads
floor_grads s floor g = record { s = g *ᵈ (floor /ᵈ s); d = zero64; r = zero64 }

unfoldable pub floor_slots : (w17 w18 floor g : Float) (gw : List Float) → List Float
floor_slots w17 w18 floor g gw = bump (bump gw 17 (g *ᵈ floor *ᵈ neg w18)) 18 (g *ᵈ floor *ᵈ neg w17)

-- where the raw value was: slots 11, 12, 13, 14
unfoldable pub lapse_parts_def : (w11 w12 w13 w14 : Float) (last : State) (r raw : Float) → LapseParts
lapse_parts_def w11 w12 w13 w14 last r raw =
    let base = last.s +ᵈ one64 in
    record {
      d = last.d;
      r = r;
      base = base;
      p = pow64 base w13;
      ln_base = ln64 base;
      last_d_pow = pow64 last.d (neg w12);
      ln_d = ln64 last.d;
      er = exp64 ((one64 -ᵈ r) *ᵈ w14);
      w11 = w11;
      w12 = w12;
      w13 = w13;
      w14 = w14;
      raw = raw;
    }

unfoldable pub lapse_slots_def : (c : LapseParts) (g : Float) (gw : List Float) → List Float
lapse_slots_def c g gw =
    let with11 = bump gw 11 (g *ᵈ c.raw /ᵈ c.w11) in
    let with12 = bump with11 12 (g *ᵈ c.raw *ᵈ neg c.ln_d) in
    let with13 = bump with12 13 (g *ᵈ c.w11 *ᵈ c.last_d_pow *ᵈ c.er *ᵈ c.p *ᵈ c.ln_base) in
    bump with13 14 (g *ᵈ c.raw *ᵈ (one64 -ᵈ c.r))

unfoldable pub lapse_grads_def : (c : LapseParts) (g : Float) → Grads
lapse_grads_def c g =
    record {
      s = g *ᵈ c.w11 *ᵈ c.last_d_pow *ᵈ c.er *ᵈ c.w13 *ᵈ c.p /ᵈ c.base;
      d = g *ᵈ c.raw *ᵈ (neg c.w12 /ᵈ c.d);
      r = g *ᵈ c.raw *ᵈ neg c.w14;
    }

abbrev pub lapse_of : (p : RuntimeParams) (last : State) (r raw : Float) → LapseParts
lapse_of p last r raw = lapse_parts_def (p.w ! 11) (p.w ! 12) (p.w ! 13) (p.w ! 14) last r raw

unfoldable pub failure_back : (p : RuntimeParams) (last : State) (r raw floor : Float) (floored : Bool) (g : Float) → Grads
failure_back p last r raw floor floored g =
    cond (eq g zero64) no_grads_def
    (cond floored (floor_grads last.s floor g) (lapse_grads_def (lapse_of p last r raw) g))

unfoldable pub failure_moved : (p : RuntimeParams) (last : State) (r raw floor : Float) (floored : Bool) (g : Float) (gw : List Float) → List Float
failure_moved p last r raw floor floored g gw =
    cond (eq g zero64) gw
    (cond floored (floor_slots (p.w ! 17) (p.w ! 18) floor g gw) (lapse_slots_def (lapse_of p last r raw) g gw))
