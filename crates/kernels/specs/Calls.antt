-- The kernels under short names, by their format, for formulas that call them. Assumes nothing.
use Rattle.std.specs.Prelude.{Float}
use Rattle.std.specs.Float.{binary32, binary64}
use Rattle.kernels.specs.Kernels.{exp_def, ln_def, pow_def}

abbrev pub exp32 : Float → Float
exp32 x = exp_def binary32 x

abbrev pub ln32 : Float → Float
ln32 x = ln_def binary32 x

abbrev pub pow32 : Float → Float → Float
pow32 x y = pow_def binary32 x y

abbrev pub exp64 : Float → Float
exp64 x = exp_def binary64 x

abbrev pub ln64 : Float → Float
ln64 x = ln_def binary64 x

abbrev pub pow64 : Float → Float → Float
pow64 x y = pow_def binary64 x y
