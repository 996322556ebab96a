use mathlib.Core.Path.{refl}
use lib.Ieee.{ne}
use Rattle.checks.specs.Reads.{non_zero}
use Rattle.checks.proofs.reads.is_nonzero.Goals as goal

pub returns : goal.returns
unfolding non_zero ne
returns c = refl
