-- `log_single::gap_of` meets its contract. Assumes nothing.
use Rattle.std.proofs.Common.{◌≡◌, ◌-◌, ◌*◌, ◌/◌, ◌^◌, lt_of_le_of_lt, lit<}
use Rattle.kernels.specs.Logarithm.{gap63}
use Rattle.kernels.proofs.log_double.Index.{Gap}
use Rattle.kernels.proofs.log_single.Gap.{index_le, gap_of}
use Rattle.kernels.proofs.log_single.gap_of.Goals.{After-entry_at}
use Rattle.kernels.proofs.log_single.gap_of.Goals as goal

met : (c : goal.After-entry_at) → Gap (c.args.d.m * (c.entry_at.result / 2 ^ 23)) × (2 ^ 63 - c.args.d.m * (c.entry_at.result / 2 ^ 23) ≡ gap63 c.args.i c.args.d.m)
met c = gap_of c.args.d.m c.args.i c.args.d.least c.args.d.most c.requires c.entry_at.result c.entry_at.ensures

pub overflow_sub-i : goal.overflow_sub-i
overflow_sub-i c = index_le c.args.d.m c.args.i c.args.d.least c.args.d.most c.requires

pub overflow_mul-p : goal.overflow_mul-p
overflow_mul-p c = record { fits = lt_of_le_of_lt (met (goal.at.overflow_mul-p c).After-entry_at).0.part (lit< tt) }

pub overflow_sub-result : goal.overflow_sub-result
overflow_sub-result c = (met (goal.at.overflow_sub-result c).After-entry_at).0.part

pub returns : goal.returns
returns c = ((met (goal.at.returns c).After-entry_at).1, (met (goal.at.returns c).After-entry_at).0.once)
