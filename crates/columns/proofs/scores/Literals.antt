-- The patterns of the two ends. Each is computed; the second is document 01's first value. Assumes nothing.
use Rattle.std.proofs.Common.{◌≡◌, refl}
use lib.Ieee.{binary32, of_bits, sub}
use Rattle.domain.specs.Limits.{decimal}
use Rattle.columns.specs.Scores.{min_prob_def, max_prob_def}

pub min_prob : min_prob_def ≡ of_bits binary32 0x33d6_bf95
unfolding min_prob_def decimal of_bits
min_prob = refl

pub max_prob : max_prob_def ≡ of_bits binary32 0x3f7f_fffe
unfolding max_prob_def min_prob_def decimal of_bits sub
max_prob = refl
