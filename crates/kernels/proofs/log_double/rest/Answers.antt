-- `ln::rest_f64` meets its contract. Assumes nothing.
use Rattle.std.proofs.Common.{ℕ, ◌+◌, ◌*◌, ◌^◌, ◌<◌, ◌≤◌, true, ℤ, pos, ◌-ℤ◌, ◌*ℤ◌, nat_abs, lt_of_le_of_lt, arith}
use lib.Signed.{mag, nat_abs-le}
use Rattle.kernels.proofs.log_double.Words.{mag-le, given, fits_few, Line, line}
use Rattle.kernels.proofs.log_double.rest.Goals.{Start}
use Rattle.kernels.proofs.log_double.rest.Goals as goal

room : (n l : ℕ) → n ≤ 2 ^ 19 → l < 2 ^ 57 → (n * 1167226 + l < 2 ^ 63) × (n * 1167226 + l < 2 ^ 58)
room n l a b = (omega arith, omega arith)

j_line : (c : goal.Start) → Line true c.args.g.j 1167226 c.args.g.l
j_line c = line true c.args.g.j 1167226 c.args.g.l (fits_few c.args.g.j c.args.g.few) (room (nat_abs c.args.g.j) c.args.g.l (nat_abs-le c.args.g.j c.args.g.few) c.args.g.short).0

pub overflow_mul-a : goal.overflow_mul-a
overflow_mul-a c = (j_line (goal.at.overflow_mul-a c).Start).times

pub overflow_sub-result : goal.overflow_sub-result
overflow_sub-result c = (j_line (goal.at.overflow_sub-result c).Start).sum.fits

pub returns : goal.returns
returns c =
    given (λ (z : ℤ). mag z < 2 ^ 58) _ _ (j_line (goal.at.returns c).Start).sum.is
    (lt_of_le_of_lt (mag-le (c.args.g.j *ℤ pos 1167226 -ℤ pos c.args.g.l)) (lt_of_le_of_lt (j_line (goal.at.returns c).Start).size (room (nat_abs c.args.g.j) c.args.g.l (nat_abs-le c.args.g.j c.args.g.few) c.args.g.short).1))
