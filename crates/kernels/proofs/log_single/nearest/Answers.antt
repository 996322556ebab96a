-- `ln::nearest_f32` meets its contract, by the sign of s. Assumes nothing.
use Rattle.std.proofs.Common.{◌+◌, ◌^◌, true, false}
use lib.Ieee.{binary32, of_bits}
use Rattle.soft.proofs.Rounding.Pattern.{pattern_not_nan}
use Rattle.kernels.proofs.ln.Single.{none, some, answer}
use Rattle.kernels.proofs.log_single.nearest.Goals as goal

pub returns-then-s-eq0 : goal.returns-then-s-eq0
unfolding of_bits
returns-then-s-eq0 c = none c.args.s c.ranges.s c.if-s-eq0.true

pub bits-b-requires : goal.bits-b-requires
bits-b-requires c =
    some c.args.s c.ranges.s c.unsigned_abs.result c.unsigned_abs.ensures.value c.requires c.if-s-eq0.false

pub float_from_bits-result : goal.float_from_bits-result
float_from_bits-result c = pattern_not_nan binary32 true c.unsigned_abs.result (2 ^ 56) (2 ^ 31 + c.bits-b.result) c.bits-b.ensures.1

pub returns-then-s-lt0 : goal.returns-then-s-lt0
returns-then-s-lt0 c =
    let m = c.unsigned_abs in
    let b = c.bits-b in
    answer c.args.s c.ranges.s m.result m.ensures.value true (of_bits binary32 (2 ^ 31 + b.result)) c.if-s-lt0.true b.ensures.1

pub float_from_bits-result-2 : goal.float_from_bits-result-2
float_from_bits-result-2 c = pattern_not_nan binary32 false c.unsigned_abs.result (2 ^ 56) c.bits-b.result c.bits-b.ensures.0

pub returns : goal.returns
returns c =
    let m = c.unsigned_abs in
    let b = c.bits-b in
    answer c.args.s c.ranges.s m.result m.ensures.value false (of_bits binary32 b.result) c.if-s-lt0.false b.ensures.0
