-- `log_double::sum` meets its contract. Assumes nothing.
use Rattle.std.proofs.Common.{◌^◌, lit≤, rules}
use lib.Ieee.{nan_bits}
use Rattle.kernels.proofs.ln.Double.{asked, joined}
use Rattle.kernels.proofs.log_double.sum.Goals as goal

pub cast-requires : goal.cast-requires
cast-requires c = asked c.args.j (2 ^ 19) (2 ^ 52) c.ranges.j c.requires.0 (lit≤ tt)

pub float_from_bits-a : goal.float_from_bits-a
unfolding nan_bits
float_from_bits-a c = search rules

pub cast-requires-2 : goal.cast-requires-2
cast-requires-2 c = asked c.args.h (2 ^ 26) (2 ^ 52) c.ranges.h c.requires.1 (lit≤ tt)

pub float_from_bits-b : goal.float_from_bits-b
unfolding nan_bits
float_from_bits-b c = search rules

pub cast-requires-3 : goal.cast-requires-3
cast-requires-3 c = asked c.args.r (2 ^ 32) (2 ^ 52) c.ranges.r c.requires.2 (lit≤ tt)

pub float_from_bits-c : goal.float_from_bits-c
unfolding nan_bits
float_from_bits-c c = search rules

pub returns : goal.returns
returns c =
    joined c.args.j c.args.h c.args.r c.ranges.j c.ranges.h c.ranges.r c.requires.0 c.requires.1 c.requires.2
    c.cast.result c.cast-2.result c.cast-3.result
    c.cast.ensures c.cast-2.ensures c.cast-3.ensures
