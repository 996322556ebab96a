-- The patterns of the decimals that the code writes. Each is computed. Assumes nothing.
use Rattle.std.proofs.Common.{◌≡◌, refl}
use lib.Ieee.{binary32, of_bits}
use Rattle.domain.specs.Limits.{decimal, s_min_def, s_max_def, day_max_def}

pub ten_thousandth : decimal 1 10000 ≡ of_bits binary32 0x38d1_b717
unfolding decimal of_bits
ten_thousandth = refl

pub s_min : s_min_def ≡ of_bits binary32 0x38d1_b717
unfolding s_min_def
s_min = ten_thousandth

pub s_max : s_max_def ≡ of_bits binary32 0x470e_9400
unfolding s_max_def decimal of_bits
s_max = refl

pub day_max : day_max_def ≡ of_bits binary32 0x47c3_5000
unfolding day_max_def decimal of_bits
day_max = refl

pub nine_tenths : decimal 9 10 ≡ of_bits binary32 0x3f66_6666
unfolding decimal of_bits
nine_tenths = refl
