use Rattle.std.proofs.Common.{rules}
use Rattle.checks.proofs.faults.First.{rows_found}
use Rattle.checks.proofs.deck.Card.check_rows.Goals as goal

pub returns-in_err-locate-clause-fault : goal.returns-in_err-locate-clause-fault
returns-in_err-locate-clause-fault c =
    let e = c.in_err-locate.field-0.0 in
    let hit = rows_found _ _ c.loop-row.row _ _ e.refusal e.place c.loop-row-test.true c.loop-row.invariant c.check_row.ensures c.in_err-locate.ensures.fault in
    search rules
