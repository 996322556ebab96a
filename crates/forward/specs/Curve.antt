-- curve_forward of analytic_v6.rs. Assumes nothing.
use Rattle.std.specs.Prelude.{Float}
use Rattle.domain.specs.Floats.{◌+ᶠ◌, ◌*ᶠ◌, ◌/ᶠ◌, max_def}
use Rattle.domain.specs.Limits.{zero32, one}
use Rattle.kernels.specs.Calls.{pow32}
use Rattle.forward.specs.declared.curve.CurveCache.{CurveCache}

-- t / s * factor + 1.0, for t = t.max(0.0)
unfoldable pub base_def : (factor t s : Float) → Float
base_def factor t s = max_def t zero32 /ᶠ s *ᶠ factor +ᶠ one

unfoldable pub curve_forward_def : (decay factor t s : Float) → CurveCache
curve_forward_def decay factor t s =
    record {
      t = max_def t zero32;
      s = s;
      decay = decay;
      factor = factor;
      base = base_def factor t s;
      retrievability = pow32 (base_def factor t s) decay;
    }
