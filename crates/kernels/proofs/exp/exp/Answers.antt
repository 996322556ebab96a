-- `exp::exp` meets its contract, by the fields of x's pattern. Assumes nothing.
use Rattle.std.proofs.Common.{Bool, false, cond, pos, sym, ap, ◌∙◌}
use lib.Ieee.{fin, inf, of_bits, div}
use Rattle.kernels.proofs.exp.Cases.{refused, among, under, at_end, past_end}
use Rattle.kernels.proofs.exp.exp.Goals as goal

pub returns-then-is_no_number : goal.returns-then-is_no_number
unfolding of_bits div
returns-then-is_no_number g c =
    c.exact.ensures ∙ ap g.F.Binary.of (refused g.F.Binary.format (g.F.Binary.float c.args.x) (sym c.is_no_number.ensures ∙ c.if-is_no_number.true))

pub returns-then-has_turns : goal.returns-then-has_turns
returns-then-has_turns g c =
    let b = c.fields-b in
    let a = c.turns-a in
    c.power.ensures
    ∙ ap g.F.Binary.of
    (among g.F.Binary.format (g.F.Binary.float c.args.x) b.ensures.holds (sym c.is_no_number.ensures ∙ c.if-is_no_number.false) b.result.exponent b.result.digits b.result.negative
    b.ensures.exponent b.ensures.digits b.ensures.negative (sym c.has_turns.ensures ∙ c.if-has_turns.true) a.result c.signed.result a.ensures.0 a.ensures.1 c.signed.ensures)

pub returns-then-b-FIRST : goal.returns-then-b-FIRST
unfolding of_bits
returns-then-b-FIRST g c =
    let b = c.fields-b in
    c.exact-then-b-FIRST.ensures
    ∙ ap g.F.Binary.of
    (under g.F.Binary.format (g.F.Binary.float c.args.x) b.ensures.holds (sym c.is_no_number.ensures ∙ c.if-is_no_number.false) b.result.exponent b.result.digits b.result.negative
    b.ensures.exponent b.ensures.digits b.ensures.negative c.FIRST.result (c.FIRST.ensures ∙ g.met.F.PowerOfTwo.ends.0) c.if-b-FIRST.true)

pub returns-then-b-ONES : goal.returns-then-b-ONES
unfolding of_bits div
returns-then-b-ONES g c =
    let b = c.fields-b in
    c.exact-then-b-ONES.ensures
    ∙ ap g.F.Binary.of
    (at_end g.F.Binary.format (g.F.Binary.float c.args.x) b.ensures.holds (sym c.is_no_number.ensures ∙ c.if-is_no_number.false) b.result.exponent b.result.digits b.result.negative
    b.ensures.exponent b.ensures.digits b.ensures.negative c.ONES.result (c.ONES.ensures ∙ g.met.F.PowerOfTwo.ends.2) c.if-b-ONES.true)

pub returns-then-b : goal.returns-then-b
unfolding of_bits
returns-then-b g c =
    let b = c.fields-b in
    c.exact-then-b.ensures
    ∙ ap g.F.Binary.of
    (ap (λ (s : Bool). cond s (fin false 0 (pos 0)) (inf false)) (sym c.if-b.true)
    ∙ past_end g.F.Binary.format (g.F.Binary.float c.args.x) b.ensures.holds (sym c.is_no_number.ensures ∙ c.if-is_no_number.false) b.result.exponent b.result.digits b.result.negative
    b.ensures.exponent b.ensures.digits b.ensures.negative c.FIRST.result c.ONES.result (c.FIRST.ensures ∙ g.met.F.PowerOfTwo.ends.0) (c.ONES.ensures ∙ g.met.F.PowerOfTwo.ends.2)
    (sym c.has_turns.ensures ∙ c.if-has_turns.false) c.if-b-FIRST.false c.if-b-ONES.false)

pub returns : goal.returns
unfolding of_bits div
returns g c =
    let b = c.fields-b in
    c.exact-2.ensures
    ∙ ap g.F.Binary.of
    (ap (λ (s : Bool). cond s (fin false 0 (pos 0)) (inf false)) (sym c.if-b.false)
    ∙ past_end g.F.Binary.format (g.F.Binary.float c.args.x) b.ensures.holds (sym c.is_no_number.ensures ∙ c.if-is_no_number.false) b.result.exponent b.result.digits b.result.negative
    b.ensures.exponent b.ensures.digits b.ensures.negative c.FIRST.result c.ONES.result (c.FIRST.ensures ∙ g.met.F.PowerOfTwo.ends.0) (c.ONES.ensures ∙ g.met.F.PowerOfTwo.ends.2)
    (sym c.has_turns.ensures ∙ c.if-has_turns.false) c.if-b-FIRST.false c.if-b-ONES.false)
