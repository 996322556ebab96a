use Rattle.columns.proofs.Left.{state_next, record_here, left_next, score_here, run_state, run_more, grads_more}
use Rattle.checks.specs.Decks.{rows_of, history_at, weights_at}
use Rattle.columns.proofs.forward_pass.card_forward_recorded.Goals as goal

pub loop-row-preserved : goal.loop-row-preserved
loop-row-preserved g c =
    let l = c.loop-row in
    let card = c.args.card.now in
    let h = history_at card.history in
    let labels = rows_of card.labels in
    let weights = weights_at card in
    let next = c.step_at-next.result in
    let before = run_state _ h labels weights l.row l.run l.invariant.run in
    let scored = score_here _ h labels weights l.row l.run.state next c.score_at-score.result before c.step_at-next.ensures c.score_at-score.ensures in
    record {
      run = run_more _ h labels weights l.row l.run _ _ l.invariant.run scored (state_next _ h l.row l.run.state next _ before c.step_at-next.ensures c.carried-run.ensures);
      records = left_next _ h _ l.row _ l.records _ next.step l.invariant.records (record_here _ h l.row l.run.state next before c.step_at-next.ensures) c.store.ensures;
      step_grads = grads_more _ h labels weights l.row _ l.step_grads _ _ l.invariant.step_grads scored c.put_cell.ensures;
    }
