-- The fields of a pattern: its sign, the exponent's field, and the digits below the leading one. Assumes nothing.
use Rattle.std.specs.Prelude.{ℕ, ◌/◌, ◌%◌, Bool, nat_le, to_bits, Float}
use Rattle.std.specs.Float.{Format, binary32, binary64}
use Rattle.std.specs.Float.Ieee.{hid, top}

abbrev pub sign : Format → Float → Bool
sign f x = nat_le (top f) (to_bits f x)

abbrev pub field : Format → Float → ℕ
field f x = to_bits f x % top f / hid f

abbrev pub rest : Format → Float → ℕ
rest f x = to_bits f x % hid f

-- the exponents' fields at which exp has a turn to count, and the last before the end
abbrev pub least : Format → ℕ
least binary32 = 74
least binary64 = 970

abbrev pub most : Format → ℕ
most binary32 = 133
most binary64 = 1032
