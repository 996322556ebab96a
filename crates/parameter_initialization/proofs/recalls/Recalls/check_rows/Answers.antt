use Rattle.std.proofs.Common.{◌≡◌, length, sym, ◌∙◌, rules}
use Rattle.domain.proofs.Refusals.{never_0}
use Rattle.domain.specs.Refusals.{number, number_of}
use Rattle.parameter_initialization.specs.Start.{rows_number_def}
use Rattle.parameter_initialization.proofs.Rows.{same_number, none, more, hit, all_rows}
use Rattle.parameter_initialization.proofs.recalls.Recalls.check_rows.Goals as goal

pub loop-i-init : goal.loop-i-init
loop-i-init c = none _

pub loop-i-preserved : goal.loop-i-preserved
loop-i-preserved c =
    let r = c.row.ensures in more _ c.loop-i.i _ c.loop-i.invariant (same_number _ _ _ _ _ _ r.2 r.1 r.0) (sym c.in_ok-check.ensures)

pub returns-in_err-check : goal.returns-in_err-check
unfolding rows_number_def
returns-in_err-check c =
    let r = c.row.ensures in
    let e = c.in_err-check.field-0.0 in
    let is : number_of c.from_residual.result ≡ number e = search rules in
    is ∙
    hit _ c.loop-i.i (length c.args.self.now.days.now) (number e) (search rules) c.loop-i.invariant
    (c.in_err-check.ensures ∙ same_number _ _ _ _ _ _ r.2 r.1 r.0)
    (never_0 e)

pub returns : goal.returns
unfolding rows_number_def
returns c = all_rows _ c.loop-i.i (length c.args.self.now.days.now) (search rules) c.loop-i.invariant
