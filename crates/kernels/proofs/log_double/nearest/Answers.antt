-- `log_double::nearest` meets its contract. Assumes nothing.
use Rattle.std.proofs.Common.{◌≡◌, ℤ, pos, ◌-ℤ◌, ◌*ℤ◌, sym, ap, ◌∙◌, to_z-of_z}
use Rattle.soft.proofs.Rounding.Exponent.{read}
use Rattle.kernels.proofs.ln.Double.{sum_asks, nearest_given}
use Rattle.kernels.proofs.log_double.Words.{fits_few}
use Rattle.kernels.proofs.log_double.nearest.Goals.{After-rest-v}
use Rattle.kernels.proofs.log_double.nearest.Goals as goal

left : (c : goal.After-rest-v) → c.rest-v.result ≡ read c.args.g.j *ℤ pos 1167226 -ℤ pos c.args.g.l
left c = c.rest-v.ensures.0 ∙ ap (λ (j : ℤ). j *ℤ pos 1167226 -ℤ pos c.args.g.l) (sym (to_z-of_z (fits_few c.args.g.j c.args.g.few)))

pub sum-requires : goal.sum-requires
sum-requires c =
    sum_asks c.args.g.j c.rest-v.result c.upper-h.result c.lower-r.result c.args.g.l (fits_few c.args.g.j c.args.g.few) c.args.g.few
    (left (goal.at.sum-requires c).After-rest-v) c.rest-v.ensures.1 c.upper-h.ensures.0 c.upper-h.ensures.1 c.lower-r.ensures

pub returns : goal.returns
returns c =
    nearest_given c.args.g.j c.rest-v.result c.upper-h.result c.lower-r.result c.args.g.l (fits_few c.args.g.j c.args.g.few) c.args.g.few
    (left (goal.at.returns c).After-rest-v) c.rest-v.ensures.1 c.upper-h.ensures.0 c.upper-h.ensures.1 c.lower-r.ensures
    c.sum.result c.sum.ensures
