-- Numbers as singles: decimals, the whole numbers that the formulas write, and the ends of the domain. Assumes nothing.
use Rattle.std.specs.Prelude.{◌≡◌, ℕ, ◌-◌, Bool, false, pos, refl, Float}
use Rattle.std.specs.Float.{binary32}
use Rattle.std.specs.Float.Ieee.{of_bits, of_int, round, neg}
use Rattle.domain.specs.Floats.{within}

-- the single nearest to n / d, which is what a decimal stands for
unfoldable pub decimal : (n d : ℕ) → Float
unfolding round
decimal n d = round binary32 false n d

abbrev pub zero32 : Float
zero32 = of_bits binary32 0

abbrev pub half : Float
half = of_bits binary32 0x3f00_0000

abbrev pub one : Float
one = of_bits binary32 0x3f80_0000

abbrev pub two : Float
two = of_bits binary32 0x4000_0000

abbrev pub three : Float
three = of_bits binary32 0x4040_0000

abbrev pub four : Float
four = of_bits binary32 0x4080_0000

abbrev pub nine : Float
nine = of_bits binary32 0x4110_0000

abbrev pub ten : Float
ten = of_bits binary32 0x4120_0000

abbrev pub eleven : Float
eleven = of_bits binary32 0x4130_0000

-- each is the number that it is called
named :
    (zero32 ≡ decimal 0 1) × (half ≡ decimal 1 2) × (one ≡ decimal 1 1) × (two ≡ decimal 2 1) × (three ≡ decimal 3 1) ×
    (four ≡ decimal 4 1) × (nine ≡ decimal 9 1) × (ten ≡ decimal 10 1) × (eleven ≡ decimal 11 1)
unfolding decimal of_bits
named = (refl, refl, refl, refl, refl, refl, refl, refl, refl)

-- rating.saturating_sub(1) as f32: a natural difference stops at 0
abbrev pub rating_offset_def : ℕ → Float
rating_offset_def rating = of_int binary32 (pos (rating - 1))

-- simulation.rs's S_MIN, S_MAX, D_MIN and D_MAX
unfoldable pub s_min_def : Float
s_min_def = decimal 1 10000

unfoldable pub s_max_def : Float
s_max_def = decimal 36500 1

abbrev pub d_min : Float
d_min = one

abbrev pub d_max : Float
d_max = ten

-- document 01: days -100000..100000
unfoldable pub day_max_def : Float
day_max_def = decimal 100000 1

-- the ranges of document 01: both ends belong, and no NaN is within
abbrev pub day_good_def : Float → Bool
day_good_def t = within t (neg day_max_def) day_max_def

abbrev pub stability_good : Float → Bool
stability_good s = within s s_min_def s_max_def

abbrev pub difficulty_good_def : Float → Bool
difficulty_good_def d = within d d_min d_max
