-- The penalty's refusals, one for each way out of their test. Assumes nothing.
use Rattle.std.proofs.Common.{◌≡◌, ℕ, true, false, ◌&&◌, List, eq-eqb, ne_eqb}
use lib.Ieee.{Float}
use Rattle.training_v7.specs.Penalty.{are_sets_def, inside, all_spreads_def, size_good, number, penalty_refusal_def}

module _ (w v : List Float) (batch-size total_size : ℕ) (s : List Float) (slots : ℕ) where
  pub no_sets : are_sets_def w v s ≡ false → 1 ≡ penalty_refusal_def w v batch-size total_size s slots
  unfolding penalty_refusal_def number
  no_sets h = rw h

  pub no_boxes : are_sets_def w v s ≡ true → inside w && inside v ≡ false → 2 ≡ penalty_refusal_def w v batch-size total_size s slots
  unfolding penalty_refusal_def number
  no_boxes h k = rw (h, k)

  module _ (sets : are_sets_def w v s ≡ true) (boxes : inside w && inside v ≡ true) where
    pub no_slots : (slots ≡ 21 → ⊥) → 5 ≡ penalty_refusal_def w v batch-size total_size s slots
    unfolding penalty_refusal_def number
    no_slots h = rw (sets, boxes, ne_eqb slots 21 h)

    pub no_argument : slots ≡ 21 → all_spreads_def s && (size_good batch-size && size_good total_size) ≡ false → 13 ≡ penalty_refusal_def w v batch-size total_size s slots
    unfolding penalty_refusal_def number
    no_argument h k = rw (sets, boxes, eq-eqb slots 21 h, k)

    pub none : slots ≡ 21 → all_spreads_def s && (size_good batch-size && size_good total_size) ≡ true → 0 ≡ penalty_refusal_def w v batch-size total_size s slots
    unfolding penalty_refusal_def number
    none h k = rw (sets, boxes, eq-eqb slots 21 h, k)

pub ruleset refusals = (no_sets, no_boxes, no_slots, no_argument, none)
