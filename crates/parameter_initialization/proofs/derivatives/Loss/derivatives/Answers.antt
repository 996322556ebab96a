use Rattle.std.proofs.Common.{ap, ◌∙◌, rules}
use Rattle.checks.proofs.tables.Columns.{no_total, next_total}
use Rattle.parameter_initialization.specs.declared.derivatives.Derivatives.{Derivatives}
use Rattle.parameter_initialization.proofs.Curves.{same_row, worked}
use Rattle.parameter_initialization.proofs.derivatives.Loss.derivatives.Goals as goal

pub loop-i-init : goal.loop-i-init
loop-i-init c = (no_total _, no_total _)

pub loop-i-preserved : goal.loop-i-preserved
loop-i-preserved c =
    let l = c.loop-i in
    let r = c.row.ensures in
    let e = c.row_terms-d.ensures ∙ same_row _ _ _ _ _ _ _ _ _ r.2 r.1 r.0 in (
      next_total _ l.i _ _ l.invariant.0 (ap (λ (d : Derivatives). d.slope) e),
      next_total _ l.i _ _ l.invariant.1 (ap (λ (d : Derivatives). d.curvature) e),
    )

pub returns : goal.returns
returns c =
    let q = c.args.self.now in
    worked q.decay q.factor (search rules) (search rules) _ _ _ _ c.loop-i.i (search rules) _ _ c.loop-i.invariant.0 c.loop-i.invariant.1
