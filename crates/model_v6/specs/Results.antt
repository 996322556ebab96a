-- What an entry answers, as a number and a value: 0 and the value, or the refusal's number and +0.0, or what a step was given. Assumes nothing.
use Rattle.std.specs.Prelude.{ℕ, Float, List, replicate, Result, Ok, Err}
use Rattle.domain.specs.Limits.{zero32}
use Rattle.domain.specs.Refusals.{number}
use Rattle.domain.specs.declared.refusal.Refusal.{Refusal}
use Rattle.domain.specs.declared.refusal.Refused.{Refused}
use Rattle.model_v6.specs.declared.seen.Seen.{Seen}
use Rattle.model_v6.specs.declared.state.MemoryState.{MemoryState}

pub record Scalar : Type 0 where
  pub refusal : ℕ
  pub value : Float

pub record NextState : Type 0 where
  pub refusal : ℕ
  pub state : MemoryState

pub record NextSeen : Type 0 where
  pub refusal : ℕ
  pub seen : Seen

abbrev pub no_memory : MemoryState
no_memory = record { stability = zero32; difficulty = zero32 }

abbrev pub answered : Result Float Refusal → Scalar
answered (Ok x) = record { refusal = 0; value = x }
answered (Err e) = record { refusal = number e; value = zero32 }

-- of an entry that was given no state
abbrev pub state_answered : Result MemoryState Refusal → NextState
state_answered (Ok m) = record { refusal = 0; state = m }
state_answered (Err e) = record { refusal = number e; state = no_memory }

-- of a step, which hands back the state that it was given
abbrev pub step_answered : Result MemoryState (Refused MemoryState) → NextState
step_answered (Ok m) = record { refusal = 0; state = m }
step_answered (Err e) = record { refusal = number e.refusal; state = e.given }

abbrev pub seen_answered : Result Seen (Refused Seen) → NextSeen
seen_answered (Ok s) = record { refusal = 0; seen = s }
seen_answered (Err e) = record { refusal = number e.refusal; seen = e.given }

pub record Filled : Type 0 where
  pub refusal : ℕ
  pub weights : List Float

abbrev pub filled_answered : Result (List Float) Refusal → Filled
filled_answered (Ok w) = record { refusal = 0; weights = w }
filled_answered (Err e) = record { refusal = number e; weights = replicate 21 zero32 }
