-- The answer that a row's check stands for. Assumes nothing.
use Rattle.std.proofs.Common.{◌≡◌, ℕ, refl, Result, Ok, Err}
use Rattle.domain.proofs.Refusals.{named}
use Rattle.domain.specs.declared.refusal.Refusal.{Refusal}
use Rattle.model_v6.specs.Rows.{RowCheck, Refused, Accepted, Wrong, refusal_of_def}
use Rattle.model_v6.specs.Verdicts.{judged}
use Rattle.model_v6.specs.declared.rows.Verdict.TheVariants as verdict
use Rattle.model_v6.specs.declared.rows.Verdict.{Verdict}

abbrev pub answer_of : RowCheck → Result Verdict Refusal
answer_of (Refused n) = Err (named n)
answer_of Accepted = Ok verdict.Accepted
answer_of (Wrong field) = Ok (verdict.Wrong field)

-- its refusal's number, 0 where there is a verdict
pub refused_number : (n : ℕ) → refusal_of_def (Refused n) ≡ n
unfolding refusal_of_def
refused_number n = refl

pub judged_number : (v : Verdict) → refusal_of_def (judged v) ≡ 0
unfolding refusal_of_def
judged_number verdict.Accepted = refl
judged_number (verdict.Wrong field) = refl
