-- What the entries of model_v6.rs answer, by document 01's refusals: 1 and 2 for the weights, then 13 for an argument, and change request K1's 14
-- for a deck from SM-2. A refusal gives +0.0, and a refused step the state that it was given, by change request K2. Assumes nothing.
use Rattle.std.specs.Prelude.{ℕ, Bool, cond, ◌&&◌, List, ◌==◌, nat_le, Float}
use Rattle.std.specs.Float.Ieee.Scale.{finite}
use Rattle.domain.specs.Floats.{within, clamp_def}
use Rattle.domain.specs.Limits.{zero32, one, d_min, d_max, day_good_def, stability_good, difficulty_good_def}
use Rattle.domain.specs.Weights.{weights_refusal_def}
use Rattle.model_v6.specs.Curve.{curve_def, interval_def}
use Rattle.model_v6.specs.Difficulty.{init_difficulty_def, mean_reversion_def, next_difficulty_def}
use Rattle.model_v6.specs.NextState.{next_state_def, first_state_def}
use Rattle.model_v6.specs.Sm2.{sm2_raw}
use Rattle.model_v6.specs.Stability.{stability_after_success_def, stability_after_failure_def, stability_short_term_def}
use Rattle.model_v6.specs.Results.{Scalar, NextState, no_memory}
use Rattle.model_v6.specs.declared.state.MemoryState.{MemoryState}

-- the order 1, 2, 13
unfoldable pub scalar_refusal_def : (w : List Float) (good : Bool) → ℕ
scalar_refusal_def w good = cond (weights_refusal_def w == 0) (cond good 0 13) (weights_refusal_def w)

abbrev pub refused : ℕ → Scalar
refused n = record { refusal = n; value = zero32 }

abbrev pub accepted : Float → Scalar
accepted x = record { refusal = 0; value = x }

-- x, for weights w inside the box and good arguments
unfoldable pub scalar_def : (w : List Float) (good : Bool) (x : Float) → Scalar
scalar_def w good x = cond (scalar_refusal_def w good == 0) (accepted x) (refused (scalar_refusal_def w good))

abbrev pub refused_state_def : ℕ → NextState
refused_state_def n = record { refusal = n; state = no_memory }

abbrev pub accepted_state : MemoryState → NextState
accepted_state m = record { refusal = 0; state = m }

-- the same for a state, with what a refused call hands back
unfoldable pub state_def : (w : List Float) (good : Bool) (back m : MemoryState) → NextState
state_def w good back m = let n = scalar_refusal_def w good in record { refusal = n; state = cond (n == 0) m back }

-- ---- row 13: 'anything not finite', 'stability, difficulty or retrievability outside [0.0001,36500], [1,10], [0,1], or rating
-- outside 1-4'
abbrev pub in_ranges_def : (s r d : Float) → Bool
in_ranges_def s r d = (stability_good s && within r zero32 one) && difficulty_good_def d

abbrev pub grade_good : (rating : ℕ) → Bool
grade_good rating = nat_le 1 rating && nat_le rating 4

abbrev pub finite_memory : MemoryState → Bool
finite_memory state = finite state.stability && finite state.difficulty

-- ---- the entries, each after the Rust's function of its name: which arguments are good, and the formula
-- power_forgetting_curve_scalar
unfoldable pub curve_scalar : (w : List Float) (t s : Float) → Scalar
curve_scalar w t s = scalar_def w (day_good_def t && finite s) (curve_def w t s)

-- next_interval_scalar
unfoldable pub interval_scalar : (w : List Float) (stability desired : Float) → Scalar
interval_scalar w stability desired = scalar_def w (finite stability && finite desired) (interval_def w stability desired)

unfoldable pub stability_after_success_scalar_def : (w : List Float) (s r d : Float) (rating : ℕ) → Scalar
stability_after_success_scalar_def w s r d rating = scalar_def w (in_ranges_def s r d && grade_good rating) (stability_after_success_def w s r d rating)

unfoldable pub stability_after_failure_scalar_def : (w : List Float) (s r d : Float) → Scalar
stability_after_failure_scalar_def w s r d = scalar_def w (in_ranges_def s r d) (stability_after_failure_def w s r d)

unfoldable pub stability_short_term_scalar_def : (w : List Float) (s : Float) (rating : ℕ) → Scalar
stability_short_term_scalar_def w s rating = scalar_def w (stability_good s && grade_good rating) (stability_short_term_def w s rating)

unfoldable pub init_difficulty_scalar_def : (w : List Float) (rating : ℕ) → Scalar
init_difficulty_scalar_def w rating = scalar_def w (grade_good rating) (init_difficulty_def w rating)

unfoldable pub mean_reversion_scalar_def : (w : List Float) (init current : Float) → Scalar
mean_reversion_scalar_def w init current = scalar_def w (finite init && finite current) (mean_reversion_def w init current)

unfoldable pub next_difficulty_scalar_def : (w : List Float) (d : Float) (rating : ℕ) → Scalar
next_difficulty_scalar_def w d rating = scalar_def w (difficulty_good_def d && grade_good rating) (next_difficulty_def w d rating)

-- any rating is taken: 'clamps any whole rating to 1-4'. Change request K2: 'from now on a refused step hands back the given state in place of zeros'
unfoldable pub next_state_scalar_def : (w : List Float) (state : MemoryState) (delta-t : Float) (rating : ℕ) → NextState
next_state_scalar_def w state delta-t rating = state_def w (finite_memory state && day_good_def delta-t) state (next_state_def w state delta-t rating)

-- first_state_scalar, by change request K11
unfoldable pub first_state_scalar_def : (w : List Float) (rating : ℕ) → NextState
first_state_scalar_def w rating = state_def w (grade_good rating) no_memory (first_state_def w rating)

-- memory_state_from_sm2_scalar: 'if !stability.is_finite() || !difficulty.is_finite()', asked before the clamp, is 14, after 1, 2 and 13
unfoldable pub sm2_refusal : (w : List Float) (ease interval retention : Float) → ℕ
sm2_refusal w ease interval retention =
    let n = scalar_refusal_def w ((finite ease && finite interval) && finite retention) in
    cond (n == 0) (cond (finite_memory (sm2_raw w ease interval retention)) 0 14) n

-- the stability as it is, difficulty.clamp(D_MIN, D_MAX)
abbrev pub sm2_held : MemoryState → MemoryState
sm2_held m = record { stability = m.stability; difficulty = clamp_def m.difficulty d_min d_max }

unfoldable pub sm2_scalar : (w : List Float) (ease interval retention : Float) → NextState
sm2_scalar w ease interval retention =
    let n = sm2_refusal w ease interval retention in
    cond (n == 0) (accepted_state (sm2_held (sm2_raw w ease interval retention))) (refused_state_def n)
