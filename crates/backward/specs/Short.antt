-- backward_short of analytic_v6.rs: the weights that its branch reads, and the slots that it may move, in the text's order. Assumes nothing.
use Rattle.std.specs.Prelude.{Bool, cond, List, Float}
use Rattle.std.specs.Float.Ieee.{neg, eq}
use Rattle.domain.specs.Floats.{◌+ᶠ◌, ◌-ᶠ◌}
use Rattle.domain.specs.Limits.{three}
use Rattle.kernels.specs.Calls.{ln64}
use Rattle.domain.specs.Doubles.{◌+ᵈ◌, ◌*ᵈ◌, ◌/ᵈ◌, zero64}
use Rattle.backward.specs.Slots.{bump}

-- where the raw multiplier counts: slots 17, 18, 19
unfoldable pub short_slots_def : (w17 w18 s rating raw g : Float) (gw : List Float) → List Float
short_slots_def w17 w18 s rating raw g gw =
    let g-raw = g *ᵈ s in
    let q = rating -ᶠ three +ᶠ w18 in
    let with17 = bump gw 17 (g-raw *ᵈ raw *ᵈ q) in
    let with18 = bump with17 18 (g-raw *ᵈ raw *ᵈ w17) in
    bump with18 19 (g-raw *ᵈ raw *ᵈ neg (ln64 s))

unfoldable pub short_grad_def : (w19 s raw value g : Float) → Float
short_grad_def w19 s raw value g = let g-raw = g *ᵈ s in g *ᵈ value +ᵈ g-raw *ᵈ raw *ᵈ (neg w19 /ᵈ s)

unfoldable pub short_back_def : (w19 s raw value : Float) (active : Bool) (g : Float) → Float
short_back_def w19 s raw value active g = cond (eq g zero64) zero64 (cond active (short_grad_def w19 s raw value g) (g *ᵈ value))

unfoldable pub short_moved_def : (w17 w18 s rating raw : Float) (active : Bool) (g : Float) (gw : List Float) → List Float
short_moved_def w17 w18 s rating raw active g gw = cond (eq g zero64) gw (cond active (short_slots_def w17 w18 s rating raw g gw) gw)
