-- `pow::times` meets its contract. Assumes nothing.
use Rattle.std.proofs.Common.{ap₂, subst, sym, ℕ, ◌+◌, ◌/◌, ◌^◌, ◌<◌}
use mir.Facts.{Fits-bits}
use Rattle.kernels.proofs.pow.Far.{sum_lt, cut_is}
use Rattle.kernels.proofs.pow_double.times.Goals as goal

pub overflow_add-s : goal.overflow_add-s
overflow_add-s c =
    Fits-bits 128 tt
    (subst (λ (n : ℕ). n < 2 ^ 128) (sym (ap₂ (λ (x y : ℕ). x + y / 2 ^ 32) c.product.ensures c.product-2.ensures))
    (sum_lt c.args.digits c.args.high c.args.low c.requires.0 c.requires.2 c.requires.3))

pub returns : goal.returns
returns c =
    cut_is c.args.digits c.args.places c.args.high c.args.low c.requires.1 c.product.ensures c.product-2.ensures c.shr.ensures
