-- curve_backward of analytic_v6.rs: `c` is the cached curve, `slope` the factor's derivative by the decay. Assumes nothing.
use Rattle.std.specs.Prelude.{cond, List, Float}
use Rattle.std.specs.Float.Ieee.{neg, eq}
use Rattle.kernels.specs.Calls.{ln64}
use Rattle.domain.specs.Doubles.{◌+ᵈ◌, ◌*ᵈ◌, ◌/ᵈ◌, zero64}
use Rattle.forward.specs.declared.curve.CurveCache.{CurveCache}
use Rattle.backward.specs.Slots.{bump}
use Rattle.backward.specs.declared.curve.WideCurve.{WideCurve}

-- the same numbers, as doubles
unfoldable pub widened_def : CurveCache → WideCurve
widened_def c = record { t = c.t; s = c.s; decay = c.decay; factor = c.factor; base = c.base; r = c.retrievability }

-- g_r * r * decay / base * db_ds, for db_ds = -t * factor / (s * s)
unfoldable pub curve_grad_def : (c : WideCurve) (g-r : Float) → Float
curve_grad_def c g-r = g-r *ᵈ c.r *ᵈ c.decay /ᵈ c.base *ᵈ (neg c.t *ᵈ c.factor /ᵈ (c.s *ᵈ c.s))

-- -g_r * dr_ddecay, for db_ddecay = t / s * dfactor_ddecay and dr_ddecay = r * (base.ln() + decay / base * db_ddecay)
unfoldable pub curve_slot_def : (c : WideCurve) (slope g-r : Float) → Float
curve_slot_def c slope g-r = neg g-r *ᵈ (c.r *ᵈ (ln64 c.base +ᵈ c.decay /ᵈ c.base *ᵈ (c.t /ᵈ c.s *ᵈ slope)))

unfoldable pub curve_back : (c : CurveCache) (g-r : Float) → Float
curve_back c g-r = cond (eq g-r zero64) zero64 (curve_grad_def (widened_def c) g-r)

unfoldable pub curve_slots : (slope : Float) (c : CurveCache) (g-r : Float) (gw : List Float) → List Float
curve_slots slope c g-r gw = cond (eq g-r zero64) gw (bump gw 20 (curve_slot_def (widened_def c) slope g-r))
