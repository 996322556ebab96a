use Rattle.std.proofs.Common.{arith}
use Rattle.columns.proofs.backward_pass.BackTurns.{back_turn, back_done}
use Rattle.columns.proofs.backward_pass.column_backward.Goals as goal

pub loop-row-preserved : goal.loop-row-preserved
loop-row-preserved g c =
    let l = c.loop-row in
    back_turn _ _ _ l.row l.g _ _ _ _ _ _ c.loop-row-test.true c.load-step.ensures c.cell_or-g_r.ensures c.step_backward-g.ensures.0 c.step_backward-g.ensures.1 l.invariant

pub returns : goal.returns
returns g c = let l = c.loop-row in back_done _ _ _ l.row _ _ _ (omega arith) l.invariant
