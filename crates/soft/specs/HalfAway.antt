-- Rust's `round`: to the nearest whole number, half-way cases away from zero. The sign stays, that of a zero too. Assumes nothing.
use Rattle.std.specs.Prelude.{ℕ, ◌+◌, ◌*◌, ◌/◌, ℤ, Float}
use Rattle.std.specs.Float.{nan, inf, fin, Format}
use Rattle.std.specs.Float.Ieee.{up, down, round}

-- the whole part of m * 2 ^ e + 1/2
abbrev pub half_away_def : ℕ → ℤ → ℕ
half_away_def m e = (m * up e * 2 + down e) / (down e * 2)

unfoldable pub round_def : Format → Float → Float
round_def f nan = nan
round_def f (inf s) = inf s
round_def f (fin s m e) = round f s (half_away_def m e) 1
