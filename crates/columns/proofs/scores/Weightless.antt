-- A weight of 0 has no score. Assumes nothing.
use Rattle.std.proofs.Common.{◌≡◌, refl}
use lib.Ieee.{Float, eq, of_bits}
use Rattle.domain.specs.Limits.{zero32}
use Rattle.columns.specs.Scores.{no_score_def, score_def}

pub weightless : (r label : Float) → score_def r label zero32 ≡ no_score_def
unfolding score_def eq of_bits
weightless r label = refl
