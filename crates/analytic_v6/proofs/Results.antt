-- An answer is known by its number and what stands beside it: so a contract that says these leaves one outcome. Assumes nothing.
use Rattle.std.proofs.Common.{◌≡◌, sym, ap, Result, Ok, Err}
use lib.Ieee.{Float}
use Rattle.domain.proofs.Refusals.{never_0, same_refusal}
use Rattle.domain.specs.declared.refusal.Refusal.{Refusal}
use Rattle.forward.specs.declared.state.Stepped.{Stepped}
use Rattle.backward.specs.declared.step.StateGrad.{StateGrad}
use Rattle.analytic_v6.specs.Results.{TrainingStep, answered, step_answered, reverse_answered}

pub answered_one : (r s : Result Float Refusal) → answered r ≡ answered s → r ≡ s
answered_one (Ok x) (Ok y) h = ap Ok (ap (λ a. a.loss) h)
answered_one (Ok x) (Err f) h = absurd (never_0 f (sym (ap (λ a. a.refusal) h)))
answered_one (Err e) (Ok y) h = absurd (never_0 e (ap (λ a. a.refusal) h))
answered_one (Err e) (Err f) h = ap Err (same_refusal e f (ap (λ a. a.refusal) h))

pub step_answered_one : (r s : Result Stepped Refusal) → step_answered r ≡ step_answered s → r ≡ s
step_answered_one (Ok x) (Ok y) h = λ i. Ok (record { state = ap (λ (a : TrainingStep). a.state) h i; step = ap (λ (a : TrainingStep). a.step) h i })
step_answered_one (Ok x) (Err f) h = absurd (never_0 f (sym (ap (λ a. a.refusal) h)))
step_answered_one (Err e) (Ok y) h = absurd (never_0 e (ap (λ a. a.refusal) h))
step_answered_one (Err e) (Err f) h = ap Err (same_refusal e f (ap (λ a. a.refusal) h))

pub reverse_answered_one : (r s : Result StateGrad Refusal) → reverse_answered r ≡ reverse_answered s → r ≡ s
reverse_answered_one (Ok x) (Ok y) h = ap Ok (ap (λ a. a.grad) h)
reverse_answered_one (Ok x) (Err f) h = absurd (never_0 f (sym (ap (λ a. a.refusal) h)))
reverse_answered_one (Err e) (Ok y) h = absurd (never_0 e (ap (λ a. a.refusal) h))
reverse_answered_one (Err e) (Err f) h = ap Err (same_refusal e f (ap (λ a. a.refusal) h))
