-- `pow_double::near` meets its contract, by the fields of y's pattern. Assumes nothing.
use Rattle.std.proofs.Common.{ℕ, ◌+◌, ◌-◌, ◌*◌, ◌^◌, ◌<◌, ◌≤◌, ◌/◌, not, pos, ap, ◌∙◌, subst, sym, arith}
use mathlib.Core.Bool.{beq}
use lib.Signed.{lt_z}
use lib.Ieee.{binary64, of_bits, unlike}
use Rattle.table.specs.Whole.{signed}
use Rattle.kernels.proofs.whole.Words.{word}
use Rattle.kernels.proofs.pow.Double.{too_small, near_is, size-lt, unlike_is}
use Rattle.kernels.specs.inner.Fields.{field}
use Rattle.kernels.proofs.power.Fields.{field_most}
use Rattle.kernels.proofs.pow_double.near.Goals as goal

pub returns-then-b-lt965 : goal.returns-then-b-lt965
unfolding of_bits
returns-then-b-lt965 c =
    too_small c.args.y.number c.args.s c.args.y.holds c.args.y.is_powered c.requires (subst (λ (n : ℕ). n < 965) c.fields-b.ensures.exponent c.if-b-lt965.true)

pub overflow_sub-size : goal.overflow_sub-size
overflow_sub-size c = let l = field_most binary64 c.args.y.number c.args.y.holds c.args.y.is_powered in omega (arith, l, c.fields-b.ensures.exponent)

pub signed-z-requires : goal.signed-z-requires
signed-z-requires c =
    subst (λ (n : ℕ). c.product-p.result / 2 ^ 64 / 2 ^ (1028 - n) < 2 ^ 63) (sym c.fields-b.ensures.exponent)
    (size-lt c.product-p.result (field binary64 c.args.y.number) c.product-p.type_inv (field_most binary64 c.args.y.number c.args.y.holds c.args.y.is_powered))

pub returns : goal.returns
returns c =
    let y = c.args.y.number in
    let b = c.fields-b in
    let p = c.product-p in
    let t = lt_z (word c.args.s) (pos 0) in
    c.power.ensures
    ∙ near_is y c.args.s c.ranges.s c.args.y.holds c.args.y.is_powered (subst (λ (n : ℕ). 965 ≤ n) b.ensures.exponent c.if-b-lt965.false)
    c.unsigned_abs.result ((b.result.digits + 2 ^ 52) * 2 ^ 11) p.result (not (beq t b.result.negative)) c.signed-z.result p.type_inv
    c.unsigned_abs.ensures.value (ap (λ (n : ℕ). (n + 2 ^ 52) * 2 ^ 11) b.ensures.digits) p.ensures (unlike_is t b.result.negative ∙ ap (unlike t) b.ensures.negative)
    (c.signed-z.ensures ∙ ap (λ (n : ℕ). signed (not (beq t b.result.negative)) (p.result / 2 ^ 64 / 2 ^ (1028 - n))) b.ensures.exponent)
