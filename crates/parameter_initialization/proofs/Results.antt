-- What an answer stands for is one answer's only. Assumes nothing.
use Rattle.std.proofs.Common.{◌≡◌, sym, ap, Result, Ok, Err}
use lib.Ieee.{Float}
use Rattle.domain.specs.declared.refusal.Refusal.{Refusal}
use Rattle.domain.proofs.Refusals.{same_refusal, never_0}
use Rattle.parameter_initialization.specs.Start.{answered}

pub answered_one : (r s : Result Float Refusal) → answered r ≡ answered s → r ≡ s
answered_one (Ok x) (Ok y) h = ap Ok (ap (λ a. a.value) h)
answered_one (Ok x) (Err f) h = absurd (never_0 f (sym (ap (λ a. a.refusal) h)))
answered_one (Err e) (Ok y) h = absurd (never_0 e (ap (λ a. a.refusal) h))
answered_one (Err e) (Err f) h = ap Err (same_refusal e f (ap (λ a. a.refusal) h))
