-- Rust's methods of an f32 that compare, and its operators as infix signs: one format, so that a formula reads like its line.
-- Assumes nothing.
use Rattle.std.specs.Prelude.{Bool, cond, ◌&&◌, is_nan, Float}
use Rattle.std.specs.Float.{binary32}
use Rattle.std.specs.Float.Ieee.{add, sub, mul, div, lt, le}

infixl 6 ◌+ᶠ◌
abbrev pub ◌+ᶠ◌ : Float → Float → Float
x +ᶠ y = add binary32 x y

infixl 6 ◌-ᶠ◌
abbrev pub ◌-ᶠ◌ : Float → Float → Float
x -ᶠ y = sub binary32 x y

infixl 7 ◌*ᶠ◌
abbrev pub ◌*ᶠ◌ : Float → Float → Float
x *ᶠ y = mul binary32 x y

infixl 7 ◌/ᶠ◌
abbrev pub ◌/ᶠ◌ : Float → Float → Float
x /ᶠ y = div binary32 x y

-- f32::clamp: if x < low { low } else if x > high { high } else { x }; so a NaN passes
unfoldable pub clamp_def : (x low high : Float) → Float
clamp_def x low high = cond (lt x low) low (cond (lt high x) high x)

-- f32::max and f32::min: the other operand where one is a NaN. Of two zeros with unlike signs the second: Rust leaves it open.
unfoldable pub max_def : Float → Float → Float
max_def x y = cond (is_nan y) x (cond (lt y x) x y)

unfoldable pub min_def : Float → Float → Float
min_def x y = cond (is_nan y) x (cond (lt x y) x y)

-- low <= x <= high: both ends belong, and no NaN is within
abbrev pub within : (x low high : Float) → Bool
within x low high = le low x && le x high
