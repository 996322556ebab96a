-- What the entry answers, as a number and the rest: 0 and why the card moved, or the refusal's number and the numbers 0. Assumes nothing.
use Rattle.std.specs.Prelude.{ℕ, Result, Ok, Err}
use Rattle.domain.specs.Refusals.{number}
use Rattle.domain.specs.declared.refusal.Refusal.{Refusal}
use Rattle.explain.specs.declared.reasons.Held.{Held}
use Rattle.explain.specs.declared.reasons.Held.TheVariants.{Free}
use Rattle.explain.specs.declared.reasons.Reason.{Reason}
use Rattle.explain.specs.declared.reasons.Reason.TheVariants.{Padding}
use Rattle.explain.specs.declared.step.Explained.{Explained as Told}

pub record Explained : Type 0 where
  pub refusal : ℕ
  pub reason : Reason
  pub stability : Held
  pub difficulty : Held

abbrev pub explain_answered : Result Told Refusal → Explained
explain_answered (Ok t) = record { refusal = 0; reason = t.reason; stability = t.stability; difficulty = t.difficulty }
explain_answered (Err e) = record { refusal = number e; reason = Padding; stability = Free; difficulty = Free }
