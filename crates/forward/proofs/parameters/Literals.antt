-- The patterns of the decimals that the code writes. Each is computed. Assumes nothing.
use Rattle.std.proofs.Common.{◌≡◌, refl}
use lib.Ieee.{binary64, of_bits, round}
use Rattle.forward.specs.Params.{nine_tenths}

pub nine_tenths_double : nine_tenths ≡ of_bits binary64 0x3fec_cccc_cccc_cccd
unfolding nine_tenths round of_bits
nine_tenths_double = refl
