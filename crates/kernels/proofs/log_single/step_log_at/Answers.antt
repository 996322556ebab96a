-- `log_single::step_log_at` meets its contract. Assumes nothing.
use Rattle.std.proofs.Common.{lt_of_le_of_lt, lit<, ◌≡◌, ◌≤◌, true, ℤ, nat_abs, sym, subst, to_z-of_z}
use Rattle.kernels.specs.inner.Single.{index_of}
use Rattle.kernels.proofs.log_double.Words.{fits_size, Line}
use Rattle.kernels.proofs.log_single.Gap.{read_is, index_le}
use Rattle.kernels.proofs.log_single.Joined.{step_line, step_joined}
use Rattle.kernels.proofs.log_single.step_log_at.Goals.{After-index_at-i, After-steps_of-j}
use Rattle.kernels.proofs.log_single.step_log_at.Goals as goal

index : (c : goal.After-index_at-i) → c.index_at-i.result ≡ index_of c.args.d.m
index c = read_is c.args.d.m c.index_at-i.result c.args.d.least c.args.d.most c.index_at-i.ensures

j_line : (c : goal.After-steps_of-j) → Line true c.steps_of-j.result 0x40_0000 c.below_steps-l.result
j_line c = step_line c.steps_of-j.result c.below_steps-l.result c.steps_of-j.ensures.1 c.below_steps-l.ensures.1

pub gap_of-requires : goal.gap_of-requires
gap_of-requires c = index c

pub steps_of-j-requires : goal.steps_of-j-requires
steps_of-j-requires c =
    (subst (λ (z : ℤ). nat_abs z ≤ 149) (sym (to_z-of_z (fits_size c.args.d.k (lt_of_le_of_lt c.args.d.few (lit< tt))))) c.args.d.few, index_le c.args.d.m c.index_at-i.result c.args.d.least c.args.d.most (index (goal.at.steps_of-j-requires c).After-index_at-i))

pub overflow_mul-j : goal.overflow_mul-j
overflow_mul-j c = (j_line c).times

pub overflow_sub-result : goal.overflow_sub-result
overflow_sub-result c = (j_line c).sum.fits

pub returns : goal.returns
returns c =
    let l = c.below_steps-l in
    let g = c.gap_of in
    step_joined c.steps_of-j.result l.result c.steps_of-j.ensures.1 c.args.d.m c.args.d.k c.index_at-i.result g.result (fits_size c.args.d.k (lt_of_le_of_lt c.args.d.few (lit< tt))) (index (goal.at.returns c).After-index_at-i) g.ensures.0 c.steps_of-j.ensures.0 l.ensures.0 l.ensures.1
