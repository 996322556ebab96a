-- A Result is known by the number and the value that it stands for: so a contract that says these leaves one outcome. Assumes nothing.
use Rattle.std.proofs.Common.{◌≡◌, List, sym, refl, ap, ◌∙◌, Result, Ok, Err}
use lib.Ieee.{Float}
use Rattle.domain.proofs.Refusals.{named_back, never_0, same_refusal}
use Rattle.domain.specs.declared.refusal.Refusal.{Refusal}
use Rattle.domain.specs.declared.refusal.Refused.{Refused}
use Rattle.model_v6.specs.Results.{answered, state_answered, step_answered, seen_answered, filled_answered}
use Rattle.model_v6.proofs.rows.Known.{answer_of}
use Rattle.model_v6.specs.Verdicts.{row_answered}
use Rattle.model_v6.specs.declared.rows.Verdict.{Verdict}
use Rattle.model_v6.specs.declared.rows.Verdict.TheVariants.{Accepted, Wrong}
use Rattle.model_v6.specs.declared.seen.Seen.{Seen}
use Rattle.model_v6.specs.declared.state.MemoryState.{MemoryState}

pub answered_one : (r s : Result Float Refusal) → answered r ≡ answered s → r ≡ s
answered_one (Ok x) (Ok y) h = ap Ok (ap (λ a. a.value) h)
answered_one (Ok x) (Err f) h = absurd (never_0 f (sym (ap (λ a. a.refusal) h)))
answered_one (Err e) (Ok y) h = absurd (never_0 e (ap (λ a. a.refusal) h))
answered_one (Err e) (Err f) h = ap Err (same_refusal e f (ap (λ a. a.refusal) h))

pub state_answered_one : (r s : Result MemoryState Refusal) → state_answered r ≡ state_answered s → r ≡ s
state_answered_one (Ok x) (Ok y) h = ap Ok (ap (λ a. a.state) h)
state_answered_one (Ok x) (Err f) h = absurd (never_0 f (sym (ap (λ a. a.refusal) h)))
state_answered_one (Err e) (Ok y) h = absurd (never_0 e (ap (λ a. a.refusal) h))
state_answered_one (Err e) (Err f) h = ap Err (same_refusal e f (ap (λ a. a.refusal) h))

pub step_answered_one : (r s : Result MemoryState (Refused MemoryState)) → step_answered r ≡ step_answered s → r ≡ s
step_answered_one (Ok x) (Ok y) h = ap Ok (ap (λ a. a.state) h)
step_answered_one (Ok x) (Err f) h = absurd (never_0 f.refusal (sym (ap (λ a. a.refusal) h)))
step_answered_one (Err e) (Ok y) h = absurd (never_0 e.refusal (ap (λ a. a.refusal) h))
step_answered_one (Err e) (Err f) h = λ i. Err (record { refusal = same_refusal e.refusal f.refusal (ap (λ a. a.refusal) h) i; given = ap (λ a. a.state) h i })

pub seen_answered_one : (r s : Result Seen (Refused Seen)) → seen_answered r ≡ seen_answered s → r ≡ s
seen_answered_one (Ok x) (Ok y) h = ap Ok (ap (λ a. a.seen) h)
seen_answered_one (Ok x) (Err f) h = absurd (never_0 f.refusal (sym (ap (λ a. a.refusal) h)))
seen_answered_one (Err e) (Ok y) h = absurd (never_0 e.refusal (ap (λ a. a.refusal) h))
seen_answered_one (Err e) (Err f) h = λ i. Err (record { refusal = same_refusal e.refusal f.refusal (ap (λ a. a.refusal) h) i; given = ap (λ a. a.seen) h i })

pub filled_answered_one : (r s : Result (List Float) Refusal) → filled_answered r ≡ filled_answered s → r ≡ s
filled_answered_one (Ok x) (Ok y) h = ap Ok (ap (λ a. a.weights) h)
filled_answered_one (Ok x) (Err f) h = absurd (never_0 f (sym (ap (λ a. a.refusal) h)))
filled_answered_one (Err e) (Ok y) h = absurd (never_0 e (ap (λ a. a.refusal) h))
filled_answered_one (Err e) (Err f) h = ap Err (same_refusal e f (ap (λ a. a.refusal) h))

answer_back : (r : Result Verdict Refusal) → answer_of (row_answered r) ≡ r
answer_back (Ok Accepted) = refl
answer_back (Ok (Wrong field)) = refl
answer_back (Err e) = ap Err (named_back e)

pub row_answered_one : (r s : Result Verdict Refusal) → row_answered r ≡ row_answered s → r ≡ s
row_answered_one r s h = sym (answer_back r) ∙ ap answer_of h ∙ answer_back s
