-- An answer is known by its number and what stands beside it: so a contract that says these leaves one outcome. Assumes nothing.
use Rattle.std.proofs.Common.{◌≡◌, sym, ap, Result, Ok, Err}
use Rattle.domain.proofs.Refusals.{never_0, same_refusal}
use Rattle.domain.specs.declared.refusal.Refusal.{Refusal}
use Rattle.explain.specs.Results.{Explained, explain_answered}
use Rattle.explain.specs.declared.step.Explained.{Explained as Told}

pub explain_answered_one : (r s : Result Told Refusal) → explain_answered r ≡ explain_answered s → r ≡ s
explain_answered_one (Ok x) (Ok y) h = λ i. Ok (record { reason = ap (λ (a : Explained). a.reason) h i; stability = ap (λ (a : Explained). a.stability) h i; difficulty = ap (λ (a : Explained). a.difficulty) h i })
explain_answered_one (Ok x) (Err f) h = absurd (never_0 f (sym (ap (λ a. a.refusal) h)))
explain_answered_one (Err e) (Ok y) h = absurd (never_0 e (ap (λ a. a.refusal) h))
explain_answered_one (Err e) (Err f) h = ap Err (same_refusal e f (ap (λ a. a.refusal) h))
