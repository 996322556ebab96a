-- `power::power` meets its contract: +0, an infinity, or the significand rounded once. Assumes nothing.
use Rattle.std.proofs.Common.{◌≡◌, ◌^◌, ◌<◌, ℤ, sym, ap, ◌∙◌, to_z-of_z, w64}
use lib.Signed.{mag, lt_z}
use lib.Ieee.{of_bits}
use Rattle.kernels.proofs.power.Answers.{none, endless, rounded}
use Rattle.kernels.proofs.whole.Words.{word}
use Rattle.kernels.proofs.power.power.Goals as goal

whole : (e v : ℤ) → mag e < 2 ^ 63 → e ≡ v → v ≡ word e
whole e v h q = sym q ∙ sym (to_z-of_z {w = w64} (record { sfits = h }))

pub returns-then-parts-LEAST : goal.returns-then-parts-LEAST
unfolding of_bits
returns-then-parts-LEAST g c =
    let p = c.split-parts in
    let e = whole c.LEAST.result _ c.LEAST.type_inv (c.LEAST.ensures ∙ g.met.F.PowerOfTwo.ends.3) in
    c.exact.ensures ∙ ap g.F.Binary.of (none g.F.Binary.format c.args.z p.result c.ranges.z p.ensures (ap (lt_z (word p.result.k)) e ∙ c.if-parts-LEAST.true))

pub returns-then-parts-MOST : goal.returns-then-parts-MOST
unfolding of_bits
returns-then-parts-MOST g c =
    let p = c.split-parts in
    let e = whole c.LEAST.result _ c.LEAST.type_inv (c.LEAST.ensures ∙ g.met.F.PowerOfTwo.ends.3) in
    let m = whole c.MOST.result _ c.MOST.type_inv (c.MOST.ensures ∙ g.met.F.PowerOfTwo.ends.4) in
    c.exact-then-parts-MOST.ensures
    ∙ ap g.F.Binary.of
    (endless g.F.Binary.format c.args.z p.result c.ranges.z p.ensures (ap (lt_z (word p.result.k)) e ∙ c.if-parts-LEAST.false) (ap (λ (z : ℤ). lt_z z (word p.result.k)) m ∙ c.if-parts-MOST.true))

pub assemble-requires : goal.assemble-requires
assemble-requires g c =
    let k = word c.split-parts.result.k in
    let e = whole c.LEAST.result _ c.LEAST.type_inv (c.LEAST.ensures ∙ g.met.F.PowerOfTwo.ends.3) in
    let m = whole c.MOST.result _ c.MOST.type_inv (c.MOST.ensures ∙ g.met.F.PowerOfTwo.ends.4) in
    ((ap (lt_z k) e ∙ c.if-parts-LEAST.false, ap (λ (z : ℤ). lt_z z k) m ∙ c.if-parts-MOST.false), c.significand.ensures.1, c.significand.ensures.2)

pub returns : goal.returns
returns g c =
    let p = c.split-parts in
    c.assemble.ensures ∙ ap g.F.Binary.of (rounded g.F.Binary.format c.args.z p.result c.ranges.z p.ensures c.significand.result c.significand.ensures.0)
