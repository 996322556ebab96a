-- The patterns of the tables that the code writes. Each is computed. Assumes nothing.
use Rattle.std.proofs.Common.{◌≡◌, ℕ, [], ◌∷◌, refl}
use lib.Ieee.{Float, binary32, of_bits, neg}
use Rattle.domain.specs.Limits.{decimal, s_min_def, s_max_def}
use Rattle.domain.specs.Weights.{low_def, high_def, FSRS6_DEFAULT_PARAMETERS}

-- a single by its bits
abbrev single : ℕ → Float
single n = of_bits binary32 n

pub low :
    low_def ≡
    single 0x38d1_b717 ∷ single 0x38d1_b717 ∷ single 0x38d1_b717 ∷ single 0x38d1_b717 ∷ single 0 ∷ single 0 ∷ single 0 ∷
    single 0 ∷ single 0xc0a0_0000 ∷ single 0 ∷ single 0 ∷ single 0x3a83_126f ∷ single 0 ∷ single 0 ∷
    single 0 ∷ single 0 ∷ single 0x3f80_0000 ∷ single 0 ∷ single 0 ∷ single 0 ∷ single 0x3dcc_cccd ∷ []
unfolding low_def s_min_def decimal neg of_bits
low = refl

pub high :
    high_def ≡
    single 0x470e_9400 ∷ single 0x470e_9400 ∷ single 0x470e_9400 ∷ single 0x470e_9400 ∷ single 0x41a0_0000 ∷ single 0x4080_0000 ∷ single 0x40c0_0000 ∷
    single 0x3f80_0000 ∷ single 0x40a0_0000 ∷ single 0x3f80_0000 ∷ single 0x40a0_0000 ∷ single 0x4120_0000 ∷ single 0x3f80_0000 ∷ single 0x3f80_0000 ∷
    single 0x40a0_0000 ∷ single 0x3f80_0000 ∷ single 0x4120_0000 ∷ single 0x4040_0000 ∷ single 0x4040_0000 ∷ single 0x3f80_0000 ∷ single 0x3f80_0000 ∷ []
unfolding high_def s_max_def decimal of_bits
high = refl

pub defaults :
    FSRS6_DEFAULT_PARAMETERS ≡
    single 0x3e59_1687 ∷ single 0x3fa5_844d ∷ single 0x4013_9db2 ∷ single 0x4104_bac7 ∷ single 0x40cd_39c1 ∷ single 0x3f55_59b4 ∷ single 0x4041_3dd9 ∷
    single 0x3a83_126f ∷ single 0x3fef_a440 ∷ single 0x3e2a_9931 ∷ single 0x3f4b_c6a8 ∷ single 0x3fbd_e354 ∷ single 0x3d7b_7e91 ∷ single 0x3e86_9ad4 ∷
    single 0x3fd2_fb7f ∷ single 0x3f19_f55a ∷ single 0x3fef_bb30 ∷ single 0x3f0a_e148 ∷ single 0x3dba_c711 ∷ single 0x3d86_c227 ∷ single 0x3e1d_e69b ∷ []
unfolding FSRS6_DEFAULT_PARAMETERS decimal of_bits
defaults = refl
