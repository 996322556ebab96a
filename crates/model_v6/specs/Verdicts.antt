-- What check_row answers, as a row's check. Assumes nothing.
use Rattle.std.specs.Prelude.{Result, Ok, Err}
use Rattle.domain.specs.Refusals.{number}
use Rattle.domain.specs.declared.refusal.Refusal.{Refusal}
use Rattle.model_v6.specs.Rows as rows
use Rattle.model_v6.specs.Rows.{RowCheck}
use Rattle.model_v6.specs.declared.rows.Verdict.{Verdict}
use Rattle.model_v6.specs.declared.rows.Verdict.TheVariants.{Accepted, Wrong}

abbrev pub judged : Verdict → RowCheck
judged Accepted = rows.Accepted
judged (Wrong field) = rows.Wrong field

abbrev pub row_answered : Result Verdict Refusal → RowCheck
row_answered (Ok v) = judged v
row_answered (Err e) = rows.Refused (number e)
