-- `pow_single::raised` meets its contract, by the fields of y's pattern. Assumes nothing.
use Rattle.std.proofs.Common.{◌≡◌, ℕ, ◌+◌, ◌-◌, ◌^◌, ◌<◌, ◌≤◌, Bool, ℤ, ◌*ℤ◌, sym, ap, ◌∙◌, subst, ap₂, arith}
use lib.Ieee.{Float, binary32, of_bits}
use lib.Signed.{shr_z}
use Rattle.table.specs.Whole.{signed}
use Rattle.kernels.specs.inner.Fields.{sign, rest}
use Rattle.kernels.proofs.power.Fields.{field_most}
use Rattle.kernels.proofs.whole.Words.{word}
use Rattle.kernels.proofs.pow.Single.{too_small, product_fits, answer}
use Rattle.kernels.proofs.pow_single.raised.Goals as goal

pub returns-then-b-lt68 : goal.returns-then-b-lt68
unfolding of_bits
returns-then-b-lt68 c =
    too_small c.args.y.number c.args.l c.args.y.holds c.args.y.is_powered c.requires (subst (λ (n : ℕ). n < 68) c.fields-b.ensures.exponent c.if-b-lt68.true)

pub overflow_sub-s : goal.overflow_sub-s
overflow_sub-s c = subst (λ (n : ℕ). n ≤ 131) (sym c.fields-b.ensures.exponent) (field_most binary32 c.args.y.number c.args.y.holds c.args.y.is_powered)

turned : (y : Float) (r : ℤ) (s : Bool) (d : ℕ) → r ≡ signed s (d + 2 ^ 23) → s ≡ sign binary32 y → d ≡ rest binary32 y → r ≡ signed (sign binary32 y) (rest binary32 y + 2 ^ 23)
turned y r s d e p q = e ∙ ap₂ (λ (t : Bool) (n : ℕ). signed t (n + 2 ^ 23)) p q

pub product_down-v-requires : goal.product_down-v-requires
product_down-v-requires c =
    let y = c.args.y.number in
    let b = c.fields-b in
    (product_fits y c.args.l c.signed-m.result c.ranges.l c.requires (turned y c.signed-m.result b.result.negative b.result.digits c.signed-m.ensures b.ensures.negative b.ensures.digits), omega (arith, c.if-b-lt68.false))

pub returns : goal.returns
returns c =
    let y = c.args.y.number in
    let b = c.fields-b in
    let v = c.product_down-v in
    c.eighths.ensures
    ∙ answer y c.args.l c.signed-m.result c.ranges.l c.requires (turned y c.signed-m.result b.result.negative b.result.digits c.signed-m.ensures b.ensures.negative b.ensures.digits) v.result c.args.y.holds c.args.y.is_powered
    (subst (λ (n : ℕ). 68 ≤ n) b.ensures.exponent c.if-b-lt68.false) (v.ensures ∙ ap (λ (n : ℕ). shr_z (word c.args.l *ℤ word c.signed-m.result) (2 ^ (131 - n))) b.ensures.exponent)
