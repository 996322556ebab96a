-- next_state_scalar of model_v6.rs, and the state after a card's first review. Assumes nothing.
use Rattle.std.specs.Prelude.{ℕ, ◌-◌, cond, List, ◌==◌, nat_lt, Float}
use Rattle.std.specs.Float.Ieee.{eq}
use Rattle.domain.specs.Floats.{clamp_def}
use Rattle.domain.specs.Limits.{zero32, s_min_def, s_max_def, d_min, d_max}
use Rattle.domain.specs.Weights.{◌!◌}
use Rattle.model_v6.specs.Curve.{days_def, curve_def}
use Rattle.model_v6.specs.Difficulty.{init_difficulty_def, next_difficulty_def}
use Rattle.model_v6.specs.Stability.{stability_after_success_def, stability_after_failure_def, stability_short_term_def}
use Rattle.model_v6.specs.declared.state.MemoryState.{MemoryState}

-- rating.clamp(1, 4)
unfoldable pub clamp_rating_def : ℕ → ℕ
clamp_rating_def n = cond (nat_lt n 1) 1 (cond (nat_lt 4 n) 4 n)

-- the stability after a review of the clamped s and d: same day, a lapse, or a success
unfoldable pub stability_after_def : (w : List Float) (s d delta-t : Float) (rating : ℕ) (r : Float) → Float
stability_after_def w s d delta-t rating r =
    cond (eq delta-t zero32)
    (stability_short_term_def w s rating)
    (cond (rating == 1) (stability_after_failure_def w s r d) (stability_after_success_def w s r d rating))

unfoldable pub next_state_def : (w : List Float) (state : MemoryState) (delta-t : Float) (rating : ℕ) → MemoryState
next_state_def w state delta-t rating =
    let rating = clamp_rating_def rating in
    let delta-t = days_def delta-t in
    let s = clamp_def state.stability s_min_def s_max_def in
    let d = clamp_def state.difficulty d_min d_max in
    let r = curve_def w delta-t s in
    record { stability = stability_after_def w s d delta-t rating r; difficulty = next_difficulty_def w d rating }

-- change request K11: 'stability from weights 0-3, difficulty from the clamped first difficulty'
unfoldable pub first_state_def : (w : List Float) (rating : ℕ) → MemoryState
first_state_def w rating = record { stability = w ! (rating - 1); difficulty = clamp_def (init_difficulty_def w rating) d_min d_max }
