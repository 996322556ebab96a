-- Change request K13, a pull toward the old weights: l2_penalty_value_and_grad of training_v7.rs for 21 weights, with the spreads lent by the caller.
-- A single widened is the same number, so that `as f64` of one leaves no trace here. Assumes nothing.
use Rattle.std.specs.Prelude.{◌≡◌, ℕ, Bool, cond, not, ◌&&◌, List, length, pos, ◌==◌, from_bits, nat_le, slice_set, Float, Result, Ok, Err}
use Rattle.std.specs.Float.{binary32, binary64}
use Rattle.std.specs.Float.Ieee.{lt, of_int}
use Rattle.std.specs.Float.Ieee.Scale.{finite}
use Rattle.soft.specs.Narrow.{narrow_def}
use Rattle.domain.specs.Doubles.{◌-ᵈ◌, ◌*ᵈ◌, ◌/ᵈ◌, zero64}
use Rattle.domain.specs.Limits.{zero32}
use Rattle.domain.specs.Refusals as refusals
use Rattle.domain.specs.Weights.{◌!◌, all, weights_refusal_def}
use Rattle.domain.specs.declared.refusal.Refusal.{Refusal}
use Rattle.checks.specs.Columns.{total, through}

abbrev pub two64 : Float
two64 = from_bits binary64 0x4000_0000_0000_0000

-- ---- the Rust's lines
-- let scale = l2_weight * batch_size as f64 / total_size as f64;
unfoldable pub scale_def : (l2-weight : Float) (batch-size total_size : ℕ) → Float
scale_def l2-weight batch-size total_size = l2-weight *ᵈ of_int binary64 (pos batch-size) /ᵈ of_int binary64 (pos total_size)

-- let denom = sigma * sigma; let diff = w[i] as f64 - init_w[i] as f64; .. diff * diff / denom
unfoldable pub term_def : (x y sigma : Float) → Float
term_def x y sigma = let diff = x -ᵈ y in diff *ᵈ diff /ᵈ (sigma *ᵈ sigma)

-- 2.0 * diff / denom * scale
unfoldable pub slope_def : (x y sigma scale : Float) → Float
slope_def x y sigma scale = let diff = x -ᵈ y in two64 *ᵈ diff /ᵈ (sigma *ᵈ sigma) *ᵈ scale

-- if total_size == 0 { return (0.0, grad); } .. if !penalty.is_finite() { return (0.0, vec![0.0; w.len()]); }
unfoldable pub counts_def : (total_size : ℕ) (penalty : Float) → Bool
counts_def total_size penalty = not (total_size == 0) && finite penalty

-- of 21 weights w, the old ones v and the spreads s
module _ (w v s : List Float) where
  -- penalty_sum += diff * diff / denom;
  unfoldable pub sum_def : Float
  sum_def = total (λ i. term_def (w ! i) (v ! i) (s ! i)) 21

  module _ (scale : Float) (counted : Bool) where
    -- (..) as f32, and if !g.is_finite() { *g = 0.0; }
    unfoldable pub slot_def : (i : ℕ) → Float
    slot_def i =
        let d = slope_def (w ! i) (v ! i) (s ! i) scale in
        let g = narrow_def binary32 d in
        cond (counted && finite g) g zero32

    -- grad[i] = ..: what stood there goes
    unfoldable pub store_slot_def : (i : ℕ) (slots : List Float) → List Float
    store_slot_def i slots = slice_set slots i (slot_def i)

-- ---- the refusals of K13
-- '1 for any of the three sets'
abbrev pub are_sets_def : (w v s : List Float) → Bool
are_sets_def w v s = length w == 21 && (length v == 21 && length s == 21)

-- '2 for either weight set'
abbrev pub inside : List Float → Bool
inside w = weights_refusal_def w == 0

-- 'a spread is finite and above 0'
abbrev pub spread_good : Float → Bool
spread_good x = finite x && lt zero32 x

abbrev pub all_spreads_def : List Float → Bool
all_spreads_def s = all (λ i x. spread_good x) (length s) s

-- 'Batch size and total are at most 2^31'
abbrev pub size_good : ℕ → Bool
size_good n = nat_le n 2147483648

-- '1 .., 2 .., 5 for the output, then 13 for a spread or size outside its range'
unfoldable pub number : (sets boxes slots good : Bool) → ℕ
number sets boxes slots good = cond sets (cond boxes (cond slots (cond good 0 13) 5) 2) 1

-- the output stands for its length
unfoldable pub penalty_refusal_def : (w v : List Float) (batch-size total_size : ℕ) (s : List Float) (slots : ℕ) → ℕ
penalty_refusal_def w v batch-size total_size s slots =
    number (are_sets_def w v s) (inside w && inside v) (slots == 21) (all_spreads_def s && (size_good batch-size && size_good total_size))

-- ---- the entry
-- what it answers, as a number and a value: 0 and the penalty, or the refusal's number and +0.0
pub record Penalty : Type 0 where
  pub refusal : ℕ
  pub penalty : Float

abbrev pub answered : Result Float Refusal → Penalty
answered (Ok x) = record { refusal = 0; penalty = x }
answered (Err e) = record { refusal = refusals.number e; penalty = zero64 }

module _ (w v : List Float) (batch-size total_size : ℕ) (l2-weight : Float) (s : List Float) where
  -- let penalty = penalty_sum * scale;
  abbrev pub raw_penalty : Float
  raw_penalty = sum_def w v s *ᵈ scale_def l2-weight batch-size total_size

  abbrev pub counted : Bool
  counted = counts_def total_size raw_penalty

  -- (penalty, ..): 'a zero total gives zeros, a penalty not finite gives zero throughout'
  unfoldable pub penalty_def : Float
  penalty_def = cond counted raw_penalty zero64

  -- (.., grad): 'It writes its own 21 single slots, all of them'
  unfoldable pub slots_def : (slots : List Float) → List Float
  slots_def slots = through (store_slot_def w v s (scale_def l2-weight batch-size total_size) counted) 21 slots

  unfoldable pub penalty_answer : (slots : ℕ) → Penalty
  penalty_answer slots =
      let n = penalty_refusal_def w v batch-size total_size s slots in record { refusal = n; penalty = cond (n == 0) penalty_def zero64 }

  unfoldable pub penalty_slots_def : (slots : List Float) → List Float
  penalty_slots_def slots = cond (penalty_refusal_def w v batch-size total_size s (length slots) == 0) (slots_def slots) slots

  -- what the call leaves in the slots
  abbrev pub PenaltyLeaves : (slots slots-exit : List Float) → Type 0
  PenaltyLeaves slots slots-exit = slots-exit ≡ penalty_slots_def slots
