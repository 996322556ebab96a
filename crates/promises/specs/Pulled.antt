-- A pull toward the old weights, change request K13: whatever the factor, the sizes and the spreads are, what comes back is finite, and what stood
-- in the slots does not count. Said of `penalty_answer` and `penalty_slots_def`, which the entry is proved to equal (training_v7/specs/Penalty.antt).
-- Assumes nothing.
use Rattle.std.specs.Prelude.{ℕ, ◌<◌, List, ◌≡◌, T, Float, length}
use Rattle.std.specs.Float.Ieee.Scale.{finite}
use Rattle.domain.specs.Doubles.{zero64}
use Rattle.domain.specs.Limits.{zero32}
use Rattle.domain.specs.Weights.{◌!◌}
use Rattle.training_v7.specs.Penalty.{penalty_answer, penalty_slots_def}

pub record Pulled : Type 0 where
  -- 'a penalty not finite gives zero throughout': the penalty is finite in every call, a refused one included
  pub finite_penalty :
      (w v : List Float) (batch-size total_size : ℕ) (l2-weight : Float) (s : List Float) (slots : ℕ)
      → T (finite (penalty_answer w v batch-size total_size l2-weight s slots).penalty)
  -- 'a slot alone not finite gives 0': in an accepted call all 21 are finite
  pub finite_slots :
      (w v : List Float) (batch-size total_size : ℕ) (l2-weight : Float) (s slots : List Float)
      → (penalty_answer w v batch-size total_size l2-weight s (length slots)).refusal ≡ 0
      → (i : ℕ) → i < 21 → T (finite (penalty_slots_def w v batch-size total_size l2-weight s slots ! i))
  -- 'It writes its own 21 single slots, all of them': nothing is left of what stood there, in an accepted call
  pub own_slots :
      (w v : List Float) (batch-size total_size : ℕ) (l2-weight : Float) (s slots others : List Float)
      → (penalty_answer w v batch-size total_size l2-weight s (length slots)).refusal ≡ 0 → length slots ≡ length others
      → penalty_slots_def w v batch-size total_size l2-weight s slots ≡ penalty_slots_def w v batch-size total_size l2-weight s others
  -- 'a zero total gives zeros', whatever the factor is: +0.0 in the penalty and in each slot
  pub no_total :
      (w v : List Float) (batch-size : ℕ) (l2-weight : Float) (s slots : List Float)
      → (penalty_answer w v batch-size 0 l2-weight s (length slots)).refusal ≡ 0
      → ((penalty_answer w v batch-size 0 l2-weight s (length slots)).penalty ≡ zero64) ×
      ((i : ℕ) → i < 21 → penalty_slots_def w v batch-size 0 l2-weight s slots ! i ≡ zero32)
