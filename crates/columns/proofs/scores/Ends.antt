-- Both ends of a probability lie inside 0 and 1, so that r and 1 - r have logarithms at either. Assumes nothing.
use Rattle.std.proofs.Common.{◌≡◌, true, ◌&&◌, refl}
use lib.Ieee.{lt, of_bits, sub}
use Rattle.domain.specs.Limits.{decimal, zero32, one}
use Rattle.columns.specs.Scores.{min_prob_def, max_prob_def}

pub ends_inside : (lt zero32 min_prob_def && lt min_prob_def one ≡ true) × (lt zero32 max_prob_def && lt max_prob_def one ≡ true)
unfolding min_prob_def max_prob_def decimal of_bits sub lt
ends_inside = (refl, refl)
