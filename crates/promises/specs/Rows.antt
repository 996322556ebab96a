-- Rows that an app exports, change request K9: which are accepted, which field is named where one is not, and that our own are accepted. Said of
-- `row_check`, which the entry is proved to equal, and of the numbers of its answers (model_v6/specs/Rows.antt). Assumes nothing.
use Rattle.std.specs.Prelude.{ℕ, ◌-◌, ◌≡◌, false, ◌&&◌, List, T, Float}
use Rattle.std.specs.Float.{binary32}
use Rattle.std.specs.Float.Ieee.{fits, is_nan, to_bits}
use Rattle.std.specs.Float.Ieee.Scale.{finite}
use Rattle.domain.specs.Floats.{within}
use Rattle.domain.specs.Limits.{zero32, s_max_def, day_good_def, stability_good, difficulty_good_def}
use Rattle.domain.specs.Weights.{◌!◌}
use Rattle.model_v6.specs.Answers.{scalar_refusal_def, finite_memory, next_state_scalar_def, interval_scalar}
use Rattle.model_v6.specs.Curve.{interval_def}
use Rattle.model_v6.specs.NextState.{next_state_def}
use Rattle.model_v6.specs.Rows.{RowCheck, Refused, Accepted, row_check, refusal_of_def, verdict_of_def}
use Rattle.model_v6.specs.Seen.{on_day_scalar}
use Rattle.model_v6.specs.Stability.{as_f32}
use Rattle.model_v6.specs.declared.rows.Claimed.{Claimed}
use Rattle.model_v6.specs.declared.seen.Seen.{Seen}
use Rattle.model_v6.specs.declared.state.MemoryState.{MemoryState}

-- a review, without what an app claims of it
pub record Row : Type 0 where
  pub w : List Float
  pub before : MemoryState
  pub day : Float
  pub rating : ℕ
  pub retention : Float

abbrev pub check : (r : Row) (claimed : Claimed) → RowCheck
check r claimed = row_check r.w r.before r.day r.rating r.retention claimed

-- 'Refusals: 1, 2, 13 as before'
abbrev pub refusal : Row → ℕ
refusal r = scalar_refusal_def r.w ((finite_memory r.before && day_good_def r.day) && finite r.retention)

-- 'our scalar formulas'
abbrev pub after : Row → MemoryState
after r = next_state_def r.w r.before r.day r.rating

abbrev pub interval : Row → Float
interval r = interval_def r.w (after r).stability r.retention

-- 'have the bits of'
abbrev pub Has : (bits : ℕ) (x : Float) → Type 0
Has bits x = bits ≡ to_bits binary32 x

-- the bits of three singles
abbrev pub bits_of : (state : MemoryState) (days : Float) → Claimed
bits_of state days = record { stability = to_bits binary32 state.stability; difficulty = to_bits binary32 state.difficulty; interval = to_bits binary32 days }

-- the weights and the state before are singles, as all lent ones are
pub record Singles (r : Row) : Type 0 where
  pub weights : (k : ℕ) → T (fits binary32 (r.w ! k))
  pub stability : T (fits binary32 r.before.stability)
  pub difficulty : T (fits binary32 r.before.difficulty)

pub record Rows : Type 0 where
  -- 'given before any verdict'
  pub refused : (r : Row) (claimed : Claimed) → (refusal r ≡ 0 → ⊥) → check r claimed ≡ Refused (refusal r)
  pub judged : (r : Row) (claimed : Claimed) → refusal r ≡ 0 → refusal_of_def (check r claimed) ≡ 0
  -- 'accept a row exactly if state and interval have the bits of our scalar formulas'
  pub accepted :
      (r : Row) (claimed : Claimed) → refusal_of_def (check r claimed) ≡ 0 → verdict_of_def (check r claimed) ≡ 0
      → Has claimed.stability (after r).stability × Has claimed.difficulty (after r).difficulty × Has claimed.interval (interval r)
  pub exactly :
      (r : Row) (claimed : Claimed) → refusal r ≡ 0 → Has claimed.stability (after r).stability → Has claimed.difficulty (after r).difficulty
      → Has claimed.interval (interval r) → check r claimed ≡ Accepted
  -- 'and otherwise name the first wrong field': it differs, and all before it agree
  pub wrong_stability : (r : Row) (claimed : Claimed) → verdict_of_def (check r claimed) ≡ 1 → Has claimed.stability (after r).stability → ⊥
  pub wrong_difficulty :
      (r : Row) (claimed : Claimed) → verdict_of_def (check r claimed) ≡ 2
      → Has claimed.stability (after r).stability × (Has claimed.difficulty (after r).difficulty → ⊥)
  pub wrong_interval :
      (r : Row) (claimed : Claimed) → verdict_of_def (check r claimed) ≡ 3
      → Has claimed.stability (after r).stability × Has claimed.difficulty (after r).difficulty × (Has claimed.interval (interval r) → ⊥)
  -- 'What next_state_scalar and next_interval_scalar give is proved always accepted'
  pub always :
      (r : Row)
      → (let q = next_state_scalar_def r.w r.before r.day r.rating in
      let i = interval_scalar r.w q.state.stability r.retention in
      q.refusal ≡ 0 → i.refusal ≡ 0 → check r (bits_of q.state i.value) ≡ Accepted)
  -- so is what a review on a day gives (change request K2): 'The row's day is 01's elapsed day, not K2's number'
  pub always_on :
      (w : List Float) (seen : Seen) (day rating : ℕ) (retention : Float)
      → (let q = on_day_scalar w seen day rating in
      let i = interval_scalar w q.seen.state.stability retention in
      q.refusal ≡ 0 → i.refusal ≡ 0
      → row_check w seen.state (as_f32 (day - seen.day)) rating retention (bits_of q.seen.state i.value) ≡ Accepted)
  -- what a row is held to lies in its range, and is no NaN
  pub ranges :
      (r : Row) → Singles r → refusal r ≡ 0
      → T (stability_good (after r).stability) × T (difficulty_good_def (after r).difficulty) × T (within (interval r) zero32 s_max_def)
  pub numbers :
      (r : Row) → Singles r → refusal r ≡ 0
      → (is_nan (after r).stability ≡ false) × (is_nan (after r).difficulty ≡ false) × (is_nan (interval r) ≡ false)
  -- '1, 2, 13 as before': a row that is not refused is one that neither entry refuses
  pub as_before :
      (r : Row) → Singles r → refusal r ≡ 0
      → (let q = next_state_scalar_def r.w r.before r.day r.rating in
      (q.refusal ≡ 0) × ((interval_scalar r.w q.state.stability r.retention).refusal ≡ 0))
