-- `pow::raised_f64` meets its contract, by the size of j. Assumes nothing.
use Rattle.std.proofs.Common.{ℕ, ◌^◌, ℤ, pos, ◌-ℤ◌, ◌*ℤ◌, ap, ◌∙◌}
use lib.Ieee.{binary64}
use Rattle.kernels.specs.Kernels.{pow_at_def}
use Rattle.kernels.proofs.pow.Steps.{cut_lt, below, above, Near, near}
use Rattle.kernels.proofs.log_double.Words.{fits_few}
use Rattle.kernels.proofs.pow_double.raised.Goals.{Else-g-gt4000}
use Rattle.kernels.proofs.pow_double.raised.Goals as goal

near_at : (c : goal.Else-g-gt4000) → Near c.args.g.j c.hi-h.result
near_at c =
    near c.args.g.j c.hi-h.result (fits_few c.args.g.j c.args.g.few) c.if-g-ltminus4000.false c.if-g-gt4000.false (cut_lt c.args.g.l c.hi-h.result c.args.g.short c.hi-h.ensures)

pub below-requires : goal.below-requires
below-requires c =
    let r = below c.args.g.j c.unsigned_abs.result c.args.g.l c.hi-h.result (fits_few c.args.g.j c.args.g.few) c.args.g.few c.args.g.short c.unsigned_abs.ensures.value c.hi-h.ensures c.if-g-ltminus4000.true in
    (r.0, r.1, r.2)

pub returns-then-g-ltminus4000 : goal.returns-then-g-ltminus4000
returns-then-g-ltminus4000 c =
    c.below.ensures
    ∙ ap (λ (z : ℤ). pow_at_def binary64 z c.args.y.number) (below c.args.g.j c.unsigned_abs.result c.args.g.l c.hi-h.result (fits_few c.args.g.j c.args.g.few) c.args.g.few c.args.g.short c.unsigned_abs.ensures.value c.hi-h.ensures c.if-g-ltminus4000.true).3

pub above-requires : goal.above-requires
above-requires c =
    let r = above c.args.g.j c.unsigned_abs-then-g-gt4000.result c.args.g.l c.hi-h.result (fits_few c.args.g.j c.args.g.few) c.args.g.few c.args.g.short c.unsigned_abs-then-g-gt4000.ensures.value c.hi-h.ensures c.if-g-gt4000.true in
    (r.0, r.1, r.2)

pub returns-then-g-gt4000 : goal.returns-then-g-gt4000
returns-then-g-gt4000 c =
    c.above.ensures
    ∙ ap (λ (z : ℤ). pow_at_def binary64 z c.args.y.number) (above c.args.g.j c.unsigned_abs-then-g-gt4000.result c.args.g.l c.hi-h.result (fits_few c.args.g.j c.args.g.few) c.args.g.few c.args.g.short c.unsigned_abs-then-g-gt4000.ensures.value c.hi-h.ensures c.if-g-gt4000.true).3

pub returns : goal.returns
returns c =
    c.near.ensures ∙ ap (λ (z : ℤ). pow_at_def binary64 z c.args.y.number) ((near_at (goal.at.returns c).Else-g-gt4000).is ∙ ap (λ (n : ℕ). c.args.g.j *ℤ pos (2 ^ 50) -ℤ pos n) c.hi-h.ensures)

pub overflow_mul-a : goal.overflow_mul-a
overflow_mul-a c = (near_at (goal.at.overflow_mul-a c).Else-g-gt4000).first

pub overflow_cast-b : goal.overflow_cast-b
overflow_cast-b c = (near_at (goal.at.overflow_cast-b c).Else-g-gt4000).second

pub overflow_sub-s : goal.overflow_sub-s
overflow_sub-s c = (near_at (goal.at.overflow_sub-s c).Else-g-gt4000).whole

pub near-requires : goal.near-requires
near-requires c = (near_at (goal.at.near-requires c).Else-g-gt4000).small
