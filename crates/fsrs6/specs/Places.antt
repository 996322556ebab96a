-- What a C function gives: the refusal's number, 0 where there is none, and what its lent places then hold, its answer, or what
-- they held where the call was refused. Assumes nothing.
use Rattle.std.specs.Prelude.{ℕ, cond, ◌≡◌, eqb, Float, Result, Ok, Err}
use Rattle.domain.specs.declared.refusal.Refusal.{Refusal}
use Rattle.analytic_v6.specs.Results.{Loss}

unfoldable pub written : {A : Type 0} → (refusal : ℕ) (x was : A) → A
written refusal x was = cond (eqb refusal 0) x was

-- the same by the answer itself
abbrev pub placed : {A : Type 0} → (answer : Result A Refusal) (was : A) → A
placed (Ok x) was = x
placed (Err e) was = was

-- a loss call returns the refusal's number, and its loss stands in its place
abbrev pub Answered : (a : Loss) (n : ℕ) (loss loss-exit : Float) → Type 0
Answered a n loss loss-exit = (n ≡ a.refusal) × (loss-exit ≡ written a.refusal a.loss loss)
