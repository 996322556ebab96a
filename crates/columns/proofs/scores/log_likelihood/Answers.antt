use Rattle.std.proofs.Common.{sym, ◌∙◌}
use borrow.Author.Tests.{not-false}
use Rattle.soft.proofs.units.Value.{holds}
use Rattle.columns.proofs.scores.Labels.{at_one, at_zero}
use Rattle.columns.proofs.scores.log_likelihood.Goals as goal

pub returns-then-label : goal.returns-then-label
returns-then-label c =
    c.ln.ensures
    ∙ sym (at_one c.args.r c.args.label (holds c.well_formed.0.1) (sym c.has_logs.ensures ∙ not-false c.has_logs.result c.if-not-has_logs.false-raw) (holds c.well_formed.1.0.1) c.if-label.true)

pub returns-then-label-2 : goal.returns-then-label-2
returns-then-label-2 c =
    c.ln-then-label-2.ensures
    ∙ sym (at_zero c.args.r c.args.label (holds c.well_formed.0.1) (sym c.has_logs.ensures ∙ not-false c.has_logs.result c.if-not-has_logs.false-raw) c.if-label-2.true)
