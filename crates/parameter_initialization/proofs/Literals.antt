-- The numbers that the code and the definitions write as patterns. Each is computed. Assumes nothing.
use Rattle.std.proofs.Common.{◌≡◌, false, refl}
use lib.Ieee.{binary32, binary64, of_bits, round}
use Rattle.domain.specs.Limits.{decimal, day_max_def}
use Rattle.parameter_initialization.specs.Derivatives.{nine_tenths}
use Rattle.parameter_initialization.specs.Search.{two64, sixteenth, init_s_max_def}
use Rattle.parameter_initialization.specs.Start.{count_max_def}

pub init_s_max : init_s_max_def ≡ of_bits binary32 0x42c8_0000
unfolding init_s_max_def decimal of_bits
init_s_max = refl

pub day_max : day_max_def ≡ of_bits binary64 0x40f8_6a00_0000_0000
unfolding day_max_def decimal of_bits
day_max = refl

pub count_max : count_max_def ≡ of_bits binary64 0x41f0_0000_0000_0000
unfolding count_max_def round of_bits
count_max = refl

-- each is the number that it is called
named : (nine_tenths ≡ round binary64 false 9 10) × (two64 ≡ round binary64 false 2 1) × (sixteenth ≡ round binary64 false 1 16)
unfolding round of_bits
named = (refl, refl, refl)
