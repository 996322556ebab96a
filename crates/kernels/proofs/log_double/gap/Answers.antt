-- `log_double::gap` meets its contract. Assumes nothing.
use Rattle.std.proofs.Common.{◌≡◌, ◌-◌, ◌*◌, ◌^◌}
use Rattle.kernels.specs.Logarithm.{gap64}
use Rattle.kernels.proofs.log_double.Index as Index
use Rattle.kernels.proofs.log_double.gap.Goals.{After-hi-p}
use Rattle.kernels.proofs.log_double.gap.Goals as goal

met : (c : goal.After-hi-p) → Index.Gap c.hi-p.result × (2 * (2 ^ 63 - c.hi-p.result) ≡ gap64 c.args.i c.args.m)
met c =
    let t = c.entry_at-t in
    Index.gap_of c.args.m c.args.i c.requires.0 c.ranges.m.fits c.requires.1 t.result t.ensures c.hi-p.result c.hi-p.ensures

pub overflow_sub-i : goal.overflow_sub-i
overflow_sub-i c = Index.index_most c.args.m c.args.i c.requires.0 c.ranges.m.fits c.requires.1

pub overflow_mul-t : goal.overflow_mul-t
overflow_mul-t c =
    record { fits = Index.partner_fits c.args.m c.args.i c.requires.0 c.ranges.m.fits c.requires.1 c.entry_at-t.result c.entry_at-t.ensures }

pub overflow_sub-d : goal.overflow_sub-d
overflow_sub-d c = (met c).0.part

pub overflow_mul-result : goal.overflow_mul-result
overflow_mul-result c = record { fits = (met c).0.fits }

pub returns : goal.returns
returns c = ((met c).1, (met c).0.twice)
