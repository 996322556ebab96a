-- What the functions for the study screen, and those that make a weight set, give: n is what is returned, and `-exit` is what a
-- place then holds. Assumes nothing.
use Rattle.std.specs.Prelude.{ℕ, ◌≡◌, List, Float}
use Rattle.model_v6.specs.Results.{Scalar, NextState, NextSeen, Filled}
use Rattle.model_v6.specs.Rows.{RowCheck, refusal_of_def, verdict_of_def}
use Rattle.model_v6.specs.declared.rows.Claimed.{Claimed}
use Rattle.model_v6.specs.declared.seen.Seen.{Seen}
use Rattle.model_v6.specs.declared.state.MemoryState.{MemoryState}
use Rattle.parameter_initialization.specs.Start.{Start}
use Rattle.fsrs6.specs.Places.{written}

abbrev pub GivesSingle : (a : Scalar) (n : ℕ) (single single-exit : Float) → Type 0
GivesSingle a n single single-exit = (n ≡ a.refusal) × (single-exit ≡ written a.refusal a.value single)

abbrev pub GivesWeights : (a : Filled) (n : ℕ) (weights weights-exit : List Float) → Type 0
GivesWeights a n weights weights-exit = (n ≡ a.refusal) × (weights-exit ≡ written a.refusal a.weights weights)

abbrev pub GivesStart : (a : Start) (n : ℕ) (stability stability-exit : Float) → Type 0
GivesStart a n stability stability-exit = (n ≡ a.refusal) × (stability-exit ≡ written a.refusal a.value stability)

abbrev pub GivesState : (a : NextState) (n : ℕ) (stability stability-exit difficulty difficulty-exit : Float) → Type 0
GivesState a n stability stability-exit difficulty difficulty-exit =
    (n ≡ a.refusal) ×
    (stability-exit ≡ written a.refusal a.state.stability stability) ×
    (difficulty-exit ≡ written a.refusal a.state.difficulty difficulty)

abbrev pub GivesSeen : (a : NextSeen) (n : ℕ) (stability stability-exit difficulty difficulty-exit : Float) (day day-exit : ℕ) → Type 0
GivesSeen a n stability stability-exit difficulty difficulty-exit day day-exit =
    (n ≡ a.refusal) ×
    (stability-exit ≡ written a.refusal a.seen.state.stability stability) ×
    (difficulty-exit ≡ written a.refusal a.seen.state.difficulty difficulty) ×
    (day-exit ≡ written a.refusal a.seen.day day)

-- a refused row has no verdict
abbrev pub GivesVerdict : (a : RowCheck) (n verdict verdict-exit : ℕ) → Type 0
GivesVerdict a n verdict verdict-exit = (n ≡ refusal_of_def a) × (verdict-exit ≡ written (refusal_of_def a) (verdict_of_def a) verdict)

-- ---- what a function is given number by number
abbrev pub state_of : (stability difficulty : Float) → MemoryState
state_of stability difficulty = record { stability = stability; difficulty = difficulty }

abbrev pub seen_of : (stability difficulty : Float) (day : ℕ) → Seen
seen_of stability difficulty day = record { state = state_of stability difficulty; day = day }

abbrev pub claimed_of : (stability difficulty interval : ℕ) → Claimed
claimed_of stability difficulty interval = record { stability = stability; difficulty = difficulty; interval = interval }
