-- A number moved up to 63 digits. Assumes nothing.
use Rattle.std.specs.Prelude.{ℕ, ◌-◌, ◌*◌, ◌^◌}
use Rattle.std.specs.Float.Ieee.{size}

-- v moved up to 63 digits
abbrev pub normalised : ℕ → ℕ
normalised v = v * 2 ^ (63 - size v)
