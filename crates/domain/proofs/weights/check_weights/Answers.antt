use Rattle.std.proofs.Common.{rules, tests, ne_eqb}
use Rattle.std.proofs.lemmas.Iterator.{YieldsList-from_slice, YieldsList-from_zip}
use Rattle.std.proofs.lemmas.Iterator.Search.{all_from_yields_List}
use Rattle.domain.specs.Weights.{weights_refusal_def}
use Rattle.domain.specs.declared.weights.TheConstants.{BOX}
use Rattle.domain.proofs.weights.Box.{in_bounds, within_all, outside_one}
use Rattle.domain.proofs.weights.check_weights.Goals as goal

pub returns-then-w-ne21 : goal.returns-then-w-ne21
unfolding weights_refusal_def
returns-then-w-ne21 c = rw (ne_eqb _ 21 c.if-w-ne21.true)

pub returns-then-not-all : goal.returns-then-not-all
returns-then-not-all c =
    outside_one c.args.w.now c.all.result c.if-w-ne21.false c.if-not-all.true
    (all_from_yields_List in_bounds c.all.new.self _ _ c.all.ensures.ran (YieldsList-from_zip (YieldsList-from_slice c.args.w.now cc) (YieldsList-from_slice BOX cc)) (λ x b q k. search (rules, tests)))

pub returns : goal.returns
returns c =
    within_all c.args.w.now c.all.result c.if-w-ne21.false c.if-not-all.false
    (all_from_yields_List in_bounds c.all.new.self _ _ c.all.ensures.ran (YieldsList-from_zip (YieldsList-from_slice c.args.w.now cc) (YieldsList-from_slice BOX cc)) (λ x b q k. search (rules, tests)))
