use Rattle.fsrs6.proofs.Given.{judged_row, refused_row}
use Rattle.fsrs6.proofs.study.fsrs_check_row.Goals as goal

pub returns-in-Ok : goal.returns-in-Ok
returns-in-Ok c = judged_row c.in-Ok.found _ _ _ c.in-Ok.ensures c.number.ensures

pub returns-in-Err : goal.returns-in-Err
returns-in-Err c = refused_row c.in-Err.refusal _ _ _ c.in-Err.ensures c.number-in-Err.ensures
