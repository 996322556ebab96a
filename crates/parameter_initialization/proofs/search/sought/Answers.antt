use Rattle.std.proofs.Common.{rules}
use Rattle.parameter_initialization.specs.Derivatives.{derivatives_def}
use Rattle.parameter_initialization.proofs.Rounds.{takes_default, takes_boundary, takes_found}
use Rattle.parameter_initialization.proofs.search.sought.Goals as goal

pub returns-then-is_flat : goal.returns-then-is_flat
returns-then-is_flat c =
    let r = c.args.recalls.now in
    takes_default (derivatives_def r.days.now r.shares.now r.counts.now) _ c.derivatives-here.result (search rules) _ c.is_flat.ensures c.if-is_flat.true

pub returns-then-keeps_sign : goal.returns-then-keeps_sign
returns-then-keeps_sign c =
    let r = c.args.recalls.now in
    takes_boundary (derivatives_def r.days.now r.shares.now r.counts.now) _ c.derivatives-here.result (search rules) _ c.is_flat.ensures c.if-is_flat.false
    _ c.side_of-side.ensures c.derivatives-there.result (search rules) _ c.keeps_sign.ensures c.if-keeps_sign.true

pub returns : goal.returns
returns c =
    let r = c.args.recalls.now in
    takes_found (derivatives_def r.days.now r.shares.now r.counts.now) _ c.derivatives-here.result (search rules) _ c.is_flat.ensures c.if-is_flat.false
    _ c.side_of-side.ensures c.derivatives-there.result (search rules) _ c.keeps_sign.ensures c.if-keeps_sign.false c.search.result (search rules)
