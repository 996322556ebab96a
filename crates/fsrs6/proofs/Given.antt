-- What is given for an answer, by the record that the answer stands for: its number, and what it leaves in a place. Assumes nothing.
use Rattle.std.proofs.Common.{refl, sym, ◌≡◌, ℕ, List, cond, eqb, ne_eqb, Ok, Err, Result}
use Rattle.std.specs.Float.Ieee.{Float}
use Rattle.domain.proofs.Refusals.{never_0}
use Rattle.domain.specs.Refusals.{number, number_of}
use Rattle.domain.specs.declared.refusal.Refusal.{Refusal}
use Rattle.analytic_v6.specs.Results.{Loss}
use Rattle.analytic_v6.specs.Results as losses
use Rattle.model_v6.specs.Results.{Scalar, Filled, answered, filled_answered}
use Rattle.model_v6.specs.Rows.{RowCheck, refusal_of_def, verdict_of_def}
use Rattle.model_v6.specs.Verdicts.{judged, row_answered}
use Rattle.model_v6.specs.declared.rows.Verdict.{Verdict}
use Rattle.model_v6.specs.declared.rows.Verdict.TheVariants.{Accepted, Wrong}
use Rattle.parameter_initialization.specs.Start as starts
use Rattle.training_v7.specs.Penalty as penalties
use Rattle.fsrs6.specs.Places.{written, placed, Answered}
use Rattle.fsrs6.specs.Study.{GivesSingle, GivesStart, GivesVerdict, GivesWeights}

pub unwritten : {A : Type 0} (e : Refusal) (x was : A) → cond (eqb (number e) 0) x was ≡ was
unwritten e x was = rw (ne_eqb _ 0 (never_0 e))

pub single : (r : Result Float Refusal) (a : Scalar) (n : ℕ) (was now : Float) → answered r ≡ a → n ≡ number_of r → now ≡ placed r was → GivesSingle a n was now
unfolding written
single (Ok x) a n was now h e p = rw (← h) (e, p)
single (Err f) a n was now h e p = rw (← h) (e, rw (unwritten f) p)

pub weights : (r : Result (List Float) Refusal) (a : Filled) (n : ℕ) (was now : List Float) → filled_answered r ≡ a → n ≡ number_of r → now ≡ placed r was → GivesWeights a n was now
unfolding written
weights (Ok x) a n was now h e p = rw (← h) (e, p)
weights (Err f) a n was now h e p = rw (← h) (e, rw (unwritten f) p)

pub start : (r : Result Float Refusal) (a : starts.Start) (n : ℕ) (was now : Float) → starts.answered r ≡ a → n ≡ number_of r → now ≡ placed r was → GivesStart a n was now
unfolding written
start (Ok x) a n was now h e p = rw (← h) (e, p)
start (Err f) a n was now h e p = rw (← h) (e, rw (unwritten f) p)

pub loss : (r : Result Float Refusal) (a : Loss) (n : ℕ) (was now : Float) → losses.answered r ≡ a → n ≡ number_of r → now ≡ placed r was → Answered a n was now
unfolding written
loss (Ok x) a n was now h e p = rw (← h) (e, p)
loss (Err f) a n was now h e p = rw (← h) (e, rw (unwritten f) p)

pub penalty : (r : Result Float Refusal) (a : penalties.Penalty) (n : ℕ) (was now : Float) → penalties.answered r ≡ a → n ≡ number_of r → now ≡ placed r was → (n ≡ a.refusal) × (now ≡ written a.refusal a.penalty was)
unfolding written
penalty (Ok x) a n was now h e p = rw (← h) (e, p)
penalty (Err f) a n was now h e p = rw (← h) (e, rw (unwritten f) p)

-- a row's check
pub judged_row : (v : Verdict) (a : RowCheck) (was now : ℕ) → judged v ≡ a → now ≡ verdict_of_def (judged v) → GivesVerdict a 0 was now
unfolding written refusal_of_def verdict_of_def
judged_row Accepted a was now h e = rw (← h) (refl, e)
judged_row (Wrong field) a was now h e = rw (← h) (refl, e)

pub refused_row : (e : Refusal) (a : RowCheck) (n was : ℕ) → row_answered (Err e) ≡ a → n ≡ number e → GivesVerdict a n was was
unfolding written refusal_of_def verdict_of_def
refused_row e a n was h m = rw (← h) (m, sym (unwritten e _ was))

pub ruleset given = (unwritten, single, weights, start, loss, penalty)
