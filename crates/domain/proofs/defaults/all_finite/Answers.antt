use Rattle.std.proofs.Common.{length, refl, ◌∙◌, rules, tests}
use Rattle.std.proofs.lemmas.Iterator.{YieldsList-from_slice}
use Rattle.std.proofs.lemmas.Iterator.Search.{all_from_yields_List}
use lib.Ieee.{nan}
use lib.Ieee.Scale.{finite}
use Rattle.std.specs.Float.{float_is_finite}
use Rattle.soft.proofs.Tied.{finite_is}
use Rattle.domain.proofs.weights.All.{every}
use Rattle.domain.proofs.defaults.all_finite.Goals as goal

pub returns : goal.returns
returns c =
    let w = c.args.w.now in
    all_from_yields_List float_is_finite _ _ _ c.all.ensures.ran (YieldsList-from_slice w cc) (λ x b q k. search (rules, tests)) ∙
    every float_is_finite (λ k x. finite x) w w nan (length w) (λ k h. finite_is _) refl
