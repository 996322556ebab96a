-- The pattern of the largest review weight. It is computed. Assumes nothing.
use mathlib.Core.Path.{◌≡◌, refl}
use lib.Ieee.{binary32, of_bits}
use Rattle.domain.specs.Limits.{decimal}
use Rattle.checks.specs.Reads.{weight_max_def}

pub weight_max : weight_max_def ≡ of_bits binary32 0x4974_2400
unfolding weight_max_def decimal of_bits
weight_max = refl
