-- backward_success of analytic_v6.rs: the weights that its branch reads, and the slots that it may move, in the text's order. Assumes nothing.
use Rattle.std.specs.Prelude.{cond, List, Float}
use Rattle.std.specs.Float.Ieee.{neg, eq}
use Rattle.domain.specs.Limits.{one, two, four}
use Rattle.domain.specs.Weights.{◌!◌}
use Rattle.kernels.specs.Calls.{exp64, ln64, pow64}
use Rattle.domain.specs.Doubles.{◌+ᵈ◌, ◌-ᵈ◌, ◌*ᵈ◌, ◌/ᵈ◌, zero64, one64, eleven64}
use Rattle.forward.specs.declared.parameters.RuntimeParams.{RuntimeParams}
use Rattle.forward.specs.declared.state.State.{State}
use Rattle.backward.specs.Grads.{no_grads_def}
use Rattle.backward.specs.Slots.{bump, bump_if}
use Rattle.backward.specs.declared.grads.Grads.{Grads}
use Rattle.backward.specs.declared.success.SuccessParts.{SuccessParts}

-- hp and eb are 1 unless the rating is 2 or 4
unfoldable pub success_parts_def : (a w9 w10 hp eb : Float) (last : State) (r g : Float) → SuccessParts
success_parts_def a w9 w10 hp eb last r g =
    let b = eleven64 -ᵈ last.d in
    let c-s = pow64 last.s (neg w9) in
    let e = exp64 ((one64 -ᵈ r) *ᵈ w10) -ᵈ one64 in
    record {
      s = last.s;
      r = r;
      a = a;
      b = b;
      c_s = c-s;
      ln_s = ln64 last.s;
      e = e;
      exp_e = e +ᵈ one64;
      hp = hp;
      eb = eb;
      inc = a *ᵈ b *ᵈ c-s *ᵈ e *ᵈ hp *ᵈ eb;
      g_inc = g *ᵈ last.s;
      w9 = w9;
      w10 = w10;
    }

-- slots 8, 9, 10, and 15 if the rating is 2, 16 if it is 4
unfoldable pub success_slots_def : (c : SuccessParts) (rating : Float) (gw : List Float) → List Float
success_slots_def c rating gw =
    let g = c.g_inc in
    let with8 = bump gw 8 (g *ᵈ c.inc) in
    let with9 = bump with8 9 (g *ᵈ c.inc *ᵈ neg c.ln_s) in
    let with10 = bump with9 10 (g *ᵈ c.a *ᵈ c.b *ᵈ c.c_s *ᵈ c.hp *ᵈ c.eb *ᵈ ((one64 -ᵈ c.r) *ᵈ c.exp_e)) in
    let with15 = bump_if (eq rating two) with10 15 (g *ᵈ c.a *ᵈ c.b *ᵈ c.c_s *ᵈ c.e *ᵈ c.eb) in
    bump_if (eq rating four) with15 16 (g *ᵈ c.a *ᵈ c.b *ᵈ c.c_s *ᵈ c.e *ᵈ c.hp)

unfoldable pub success_grads_def : (c : SuccessParts) (g : Float) → Grads
success_grads_def c g =
    let h = c.g_inc in
    record {
      s = g *ᵈ (c.inc +ᵈ one64) +ᵈ h *ᵈ c.inc *ᵈ (neg c.w9 /ᵈ c.s);
      d = neg (h *ᵈ c.a *ᵈ c.c_s *ᵈ c.e *ᵈ c.hp *ᵈ c.eb);
      r = h *ᵈ c.a *ᵈ c.b *ᵈ c.c_s *ᵈ c.hp *ᵈ c.eb *ᵈ (neg c.w10 *ᵈ c.exp_e);
    }

abbrev pub success_of : (p : RuntimeParams) (last : State) (rating r g : Float) → SuccessParts
success_of p last rating r g =
    let hp = cond (eq rating two) (p.w ! 15) one in
    let eb = cond (eq rating four) (p.w ! 16) one in
    success_parts_def p.exp_w8_f64 (p.w ! 9) (p.w ! 10) hp eb last r g

unfoldable pub success_back_def : (p : RuntimeParams) (last : State) (rating r g : Float) → Grads
success_back_def p last rating r g = cond (eq g zero64) no_grads_def (success_grads_def (success_of p last rating r g) g)

unfoldable pub success_moved_def : (p : RuntimeParams) (last : State) (rating r g : Float) (gw : List Float) → List Float
success_moved_def p last rating r g gw = cond (eq g zero64) gw (success_slots_def (success_of p last rating r g) rating gw)
