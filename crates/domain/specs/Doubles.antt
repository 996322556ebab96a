-- Doubles: their operators as infix signs, and the whole numbers that the reverse writes. Assumes nothing.
use Rattle.std.specs.Prelude.{◌≡◌, false, refl, Float}
use Rattle.std.specs.Float.{binary64}
use Rattle.std.specs.Float.Ieee.{add, sub, mul, div, of_bits, round}

infixl 6 ◌+ᵈ◌
abbrev pub ◌+ᵈ◌ : Float → Float → Float
x +ᵈ y = add binary64 x y

infixl 6 ◌-ᵈ◌
abbrev pub ◌-ᵈ◌ : Float → Float → Float
x -ᵈ y = sub binary64 x y

infixl 7 ◌*ᵈ◌
abbrev pub ◌*ᵈ◌ : Float → Float → Float
x *ᵈ y = mul binary64 x y

infixl 7 ◌/ᵈ◌
abbrev pub ◌/ᵈ◌ : Float → Float → Float
x /ᵈ y = div binary64 x y

abbrev pub zero64 : Float
zero64 = of_bits binary64 0

abbrev pub one64 : Float
one64 = of_bits binary64 0x3ff0_0000_0000_0000

abbrev pub three64 : Float
three64 = of_bits binary64 0x4008_0000_0000_0000

abbrev pub nine64 : Float
nine64 = of_bits binary64 0x4022_0000_0000_0000

abbrev pub ten64 : Float
ten64 = of_bits binary64 0x4024_0000_0000_0000

abbrev pub eleven64 : Float
eleven64 = of_bits binary64 0x4026_0000_0000_0000

-- each is the number that it is called
named :
    (zero64 ≡ round binary64 false 0 1) × (one64 ≡ round binary64 false 1 1) × (three64 ≡ round binary64 false 3 1) ×
    (nine64 ≡ round binary64 false 9 1) × (ten64 ≡ round binary64 false 10 1) × (eleven64 ≡ round binary64 false 11 1)
unfolding round of_bits
named = (refl, refl, refl, refl, refl, refl)
