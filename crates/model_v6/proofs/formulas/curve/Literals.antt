-- The patterns of the decimals that the formulas write. Each is computed. Assumes nothing.
use Rattle.std.proofs.Common.{◌≡◌, refl}
use lib.Ieee.{binary32, of_bits}
use Rattle.domain.specs.Limits.{decimal}

pub greatest_retention : decimal 9999 10000 ≡ of_bits binary32 0x3f7f_f972
unfolding decimal of_bits
greatest_retention = refl
