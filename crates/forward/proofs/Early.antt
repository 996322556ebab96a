-- To the curve a day that is not above 0 is day +0.0: 'The curve of either .. uses +0.0'. Its base is then no less than 1, and has a power. Assumes nothing.
use Rattle.std.proofs.Common.{◌≡◌, false}
use lib.Ieee.{Float, is_nan, lt, of_bits}
use Rattle.domain.specs.Floats.{max_def}
use Rattle.domain.specs.Limits.{zero32}
use Rattle.forward.specs.Curve.{base_def, curve_forward_def}

pub early : (decay factor t s : Float) → lt zero32 t ≡ false → curve_forward_def decay factor t s ≡ curve_forward_def decay factor zero32 s
unfolding curve_forward_def base_def max_def is_nan lt of_bits
early decay factor t s e = rw e
