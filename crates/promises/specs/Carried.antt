-- A state that carries the day when its card was last seen, change request K2: what a review on a day is to one after so many days, which days are
-- taken, and what a refused review hands back. Said of `on_day_scalar` and `next_state_scalar_def`, which the entries are proved to equal
-- (model_v6/specs/Seen.antt, Answers.antt). Assumes nothing.
use Rattle.std.specs.Prelude.{ℕ, ◌-◌, ◌<◌, ◌≤◌, ◌≡◌, false, List, T, Float}
use Rattle.std.specs.Float.Ieee.Exact.{HasValue}
use Rattle.domain.specs.Floats.{clamp_def}
use Rattle.domain.specs.Limits.{s_min_def, s_max_def}
use Rattle.domain.specs.Weights.{weights_refusal_def}
use Rattle.model_v6.specs.Answers.{finite_memory, next_state_scalar_def}
use Rattle.model_v6.specs.Curve.{days_def}
use Rattle.model_v6.specs.NextState.{clamp_rating_def}
use Rattle.model_v6.specs.Seen.{day_number_max, on_day_scalar}
use Rattle.model_v6.specs.Stability.{as_f32, stability_short_term_def}
use Rattle.model_v6.specs.declared.seen.Seen.{Seen}
use Rattle.model_v6.specs.declared.state.MemoryState.{MemoryState}

pub record Carried : Type 0 where
  -- 'the elapsed days are the difference': as a single that is the same number, and the rounding of days leaves it
  pub elapsed : (n : ℕ) → n ≤ day_number_max → HasValue (as_f32 n) false n 1 × (days_def (as_f32 n) ≡ as_f32 n)
  -- 'Stability and difficulty are what they were': next_state_scalar takes the same review, and its state is the one that now carries the day named
  pub as_before :
      (w : List Float) (seen : Seen) (day rating : ℕ) → (on_day_scalar w seen day rating).refusal ≡ 0
      → (let after = next_state_scalar_def w seen.state (as_f32 (day - seen.day)) rating in
      (after.refusal ≡ 0) × ((on_day_scalar w seen day rating).seen ≡ record { state = after.state; day = day }))
  -- 'A review on an earlier day than the one carried is refused': 15, where nothing before it is wrong
  pub earlier :
      (w : List Float) (seen : Seen) (day rating : ℕ) → weights_refusal_def w ≡ 0 → T (finite_memory seen.state) → seen.day ≤ day_number_max
      → day < seen.day → (on_day_scalar w seen day rating).refusal ≡ 15
  -- and no other day in range is, the same day included
  pub not_earlier :
      (w : List Float) (seen : Seen) (day rating : ℕ) → weights_refusal_def w ≡ 0 → T (finite_memory seen.state) → day ≤ day_number_max
      → seen.day ≤ day → (on_day_scalar w seen day rating).refusal ≡ 0
  -- 'the same day is same-day study'
  pub same_day :
      (w : List Float) (seen : Seen) (rating : ℕ) → (on_day_scalar w seen seen.day rating).refusal ≡ 0
      → (on_day_scalar w seen seen.day rating).seen.state.stability
      ≡ stability_short_term_def w (clamp_def seen.state.stability s_min_def s_max_def) (clamp_rating_def rating)
  -- 'from now on a refused step hands back the given state in place of zeros', in both forms
  pub handed_back :
      (w : List Float) (seen : Seen) (day rating : ℕ) → ((on_day_scalar w seen day rating).refusal ≡ 0 → ⊥) → (on_day_scalar w seen day rating).seen ≡ seen
  pub state_handed_back :
      (w : List Float) (state : MemoryState) (delta-t : Float) (rating : ℕ) → ((next_state_scalar_def w state delta-t rating).refusal ≡ 0 → ⊥)
      → (next_state_scalar_def w state delta-t rating).state ≡ state
