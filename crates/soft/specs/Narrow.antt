-- Rust's `as f32` of an f64: rounded once to the nearest, ties to even; a NaN stays a NaN, an infinity an infinity. Assumes nothing.
use Rattle.std.specs.Prelude.{◌*◌, Float}
use Rattle.std.specs.Float.{nan, inf, fin, Format}
use Rattle.std.specs.Float.Ieee.{up, down, round}

unfoldable pub narrow_def : Format → Float → Float
narrow_def f nan = nan
narrow_def f (inf s) = inf s
narrow_def f (fin s m e) = round f s (m * up e) (down e)
