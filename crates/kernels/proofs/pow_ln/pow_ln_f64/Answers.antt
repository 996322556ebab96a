-- `pow_ln::pow_ln_f64` meets its contract: each half by the law of its own function. Assumes nothing.
use Rattle.std.proofs.Common.{◌≡◌, T, sym, ap, ◌∙◌, subst, ap₂}
use lib.Ieee.{Float, binary64, to_bits}
use lib.Ieee.Bits.{is_true}
use lib.Ieee.Positive.{positive}
use Rattle.kernels.specs.Kernels.{powered, ln_def, pow_def}
use Rattle.kernels.specs.declared.pow_ln.PowLn.{PowLn}
use Rattle.kernels.proofs.log_double.Pattern.{no_nan}
use Rattle.kernels.proofs.ln.One.{one_bits_def}
use Rattle.kernels.proofs.pow.One.{raised_is, nearest_is}
use Rattle.kernels.proofs.pow_ln.pow_ln_f64.Goals as goal

abbrev made : Float → Float → PowLn
made p l = record { pow = p; ln = l }

pub float_to_bits-x : goal.float_to_bits-x
float_to_bits-x c = no_nan c.args.x (subst (λ (z : Float). T (positive z)) c.in-Some.ensures.number c.in-Some.base.is_positive)

pub returns : goal.returns
returns c =
    let x = c.in-Some.base in
    let y = c.in-Some-new.exponent in
    let e = c.in-Some.ensures.number in
    let n = subst (λ (z : Float). to_bits binary64 z ≡ one_bits_def → ⊥) (sym e) c.if-x-eq4607182418800017408.false in
    ap₂ made
    (c.raised-pow.ensures ∙ raised_is x.number c.log-g.result x.is_positive n c.log-g.ensures y.number (is_true (powered y.number) y.is_powered) ∙ ap₂ (pow_def binary64) e c.in-Some-new.ensures.number)
    (c.nearest-ln.ensures ∙ nearest_is x.number c.log-g.result x.is_positive n c.log-g.ensures ∙ ap (ln_def binary64) e)
