-- What a weight set is taken as: itself, or its refusal. Assumes nothing.
use Rattle.std.specs.Prelude.{◌≡◌, List, Float, Result, MatchResult}
use Rattle.domain.specs.Refusals.{number}
use Rattle.domain.specs.Weights.{weights_refusal_def}
use Rattle.domain.specs.declared.refusal.Refusal.{Refusal}
use Rattle.domain.specs.declared.weights.Weights.{Weights}

abbrev pub Taken : List Float → Result Weights Refusal → Type 0
Taken w r = MatchResult r (λ v. (weights_refusal_def w ≡ 0) × (v.values ≡ w)) (λ e. number e ≡ weights_refusal_def w)
