-- What a loss call answers, and what it leaves in a slice that it was lent. Assumes nothing.
use Rattle.std.specs.Prelude.{ℕ, cond, List, eqb, Float}
use Rattle.domain.specs.Doubles.{zero64}
use Rattle.checks.specs.Columns.{through}
use Rattle.analytic_v6.specs.Results.{Loss}

-- 'A refusal gives +0.0 in every number of its answer'
unfoldable pub answer : (refusal : ℕ) (loss : Float) → Loss
answer refusal loss = record { refusal = refusal; loss = cond (eqb refusal 0) loss zero64 }

-- 'and writes nothing'; an accepted call goes through its columns in their order
abbrev pub leaves : {E : Type 0} (refusal : ℕ) (change : ℕ → List E → List E) (columns : ℕ) (xs : List E) → List E
leaves refusal change columns xs = cond (eqb refusal 0) (through change columns xs) xs
