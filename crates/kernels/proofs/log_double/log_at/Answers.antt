-- `log_double::log_at` meets its contract. Assumes nothing.
use Rattle.std.proofs.Common.{◌≡◌, ◌≤◌, false}
use Rattle.table.specs.Entry.{index_at_def}
use Rattle.kernels.specs.Logarithm.{interval}
use Rattle.kernels.proofs.log_double.Index.{index_is, index_most}
use Rattle.kernels.proofs.log_double.Steps.{steps_line, log_given}
use Rattle.kernels.proofs.log_double.Words.{Line}
use Rattle.kernels.proofs.log_double.log_at.Goals.{After-index_at-i}
use Rattle.kernels.proofs.log_double.log_at.Goals as goal

index : (c : goal.After-index_at-i) → c.index_at-i.result ≡ index_at_def (interval c.args.m)
index c = index_is c.args.m c.index_at-i.result c.requires.0 c.ranges.m.fits c.index_at-i.ensures

most : (c : goal.After-index_at-i) → c.index_at-i.result ≤ 256
most c = index_most c.args.m c.index_at-i.result c.requires.0 c.ranges.m.fits (index c)

j_line : (c : goal.After-index_at-i) → Line false c.args.k 256 c.index_at-i.result
j_line c = steps_line c.args.k c.index_at-i.result c.ranges.k c.requires.1 (most c)

pub gap-g-requires : goal.gap-g-requires
gap-g-requires c = (c.requires.0, index c)

pub overflow_mul-s : goal.overflow_mul-s
overflow_mul-s c = (j_line (goal.at.overflow_mul-s c).After-index_at-i).times

pub overflow_cast-j : goal.overflow_cast-j
overflow_cast-j c = (j_line (goal.at.overflow_cast-j c).After-index_at-i).sum.cast

pub overflow_add-j : goal.overflow_add-j
overflow_add-j c = (j_line (goal.at.overflow_add-j c).After-index_at-i).sum.fits

pub invariant_of-result : goal.invariant_of-result
invariant_of-result c =
    let a = log_given c.args.k c.index_at-i.result c.ranges.k c.requires.1 (most (goal.at.invariant_of-result c).After-index_at-i) c.args.m c.gap-g.result c.below-l.result (index (goal.at.invariant_of-result c).After-index_at-i) c.gap-g.ensures.0 c.below-l.ensures.0 c.below-l.ensures.1 in
    record { few = a.2; short = a.3 }

pub returns : goal.returns
returns c =
    let a = log_given c.args.k c.index_at-i.result c.ranges.k c.requires.1 (most (goal.at.returns c).After-index_at-i) c.args.m c.gap-g.result c.below-l.result (index (goal.at.returns c).After-index_at-i) c.gap-g.ensures.0 c.below-l.ensures.0 c.below-l.ensures.1 in
    (a.0, a.1)
