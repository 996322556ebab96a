use Rattle.std.proofs.Common.{length, refl, ◌∙◌, rules, tests}
use Rattle.std.proofs.lemmas.Iterator.{YieldsList-from_slice}
use Rattle.std.proofs.lemmas.Iterator.Search.{all_from_yields_List}
use lib.Ieee.{nan}
use Rattle.domain.proofs.weights.All.{every}
use Rattle.training_v7.specs.Penalty.{spread_good}
use Rattle.training_v7.proofs.refusals.all_spreads.Goals as goal

pub returns : goal.returns
returns c =
    let s = c.args.params_stddev.now in
    all_from_yields_List spread_good _ _ _ c.all.ensures.ran (YieldsList-from_slice s cc) (λ x b q k. search (rules, tests)) ∙
    every spread_good (λ k x. spread_good x) s s nan (length s) (λ k h. refl) refl
