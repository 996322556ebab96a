-- The entries of one training step and of its reverse, with document 01's refusals: 1, 2, 5 (the reverse), 13 for a state not
-- finite, 6, 7. Assumes nothing.
use Rattle.std.specs.Prelude.{ℕ, Bool, true, ◌&&◌, ◌||◌, cond, List, eqb, Float, length}
use Rattle.std.specs.Float.Ieee.{eq}
use Rattle.std.specs.Float.Ieee.Scale.{finite}
use Rattle.domain.specs.Doubles.{zero64}
use Rattle.domain.specs.Limits.{zero32, day_good_def}
use Rattle.checks.specs.Reads.{rating_good_def}
use Rattle.domain.specs.Weights.{weights_refusal_def}
use Rattle.forward.specs.Params.{params_def}
use Rattle.forward.specs.Step.{no_state_def, is_first_def, step_def}
use Rattle.forward.specs.declared.state.State.{State}
use Rattle.forward.specs.declared.state.Stepped.{Stepped}
use Rattle.backward.specs.Step.{step_grad, step_moved}
use Rattle.columns.specs.StepRecords.{no_step_def}
use Rattle.analytic_v6.specs.Results.{TrainingStep, TrainingReverse}

-- 'its day goes unread in padding and in a first step'
abbrev pub is_unread_def : (rating : Float) (row : ℕ) (s : Float) → Bool
is_unread_def rating row s = eq rating zero32 || is_first_def row s

unfoldable pub finite_state : State → Bool
finite_state q = finite q.s && finite q.d

unfoldable pub step_refusal_def : List Float → (slots : Bool) (q : State) (day rating : Float) (row : ℕ) → ℕ
step_refusal_def w slots q day rating row =
    cond (eqb (weights_refusal_def w) 0)
    (cond slots
    (cond (finite_state q) (cond (rating_good_def rating) (cond (is_unread_def rating row q.s || day_good_def day) 0 7) 6) 13)
    5)
    (weights_refusal_def w)

abbrev pub stepped : List Float → (q : State) (day rating : Float) (row : ℕ) → Stepped
stepped w q day rating row = step_def (params_def w) q day rating row

unfoldable pub training_step_def : List Float → (q : State) (day rating : Float) (row : ℕ) → TrainingStep
unfolding no_state_def no_step_def
training_step_def w q day rating row =
    let n = step_refusal_def w true q day rating row in
    let t = stepped w q day rating row in
    cond (eqb n 0) (record { refusal = 0; state = t.state; step = t.step }) (record { refusal = n; state = no_state_def; step = no_step_def })

abbrev pub reverse_refusal : List Float → (q : State) (day rating : Float) (row : ℕ) (slots : ℕ) → ℕ
reverse_refusal w q day rating row slots = step_refusal_def w (eqb slots 21) q day rating row

unfoldable pub no_reverse : ℕ → TrainingReverse
no_reverse n = record { refusal = n; grad = record { s = zero64; d = zero64 } }

-- slots: how many there are
unfoldable pub training_reverse : List Float → (q : State) (day rating : Float) (row : ℕ) (g-s g-d g-r : Float) (slots : ℕ) → TrainingReverse
training_reverse w q day rating row g-s g-d g-r slots =
    let n = reverse_refusal w q day rating row slots in
    cond (eqb n 0) (record { refusal = 0; grad = step_grad (params_def w) (stepped w q day rating row).step g-s g-d g-r }) (no_reverse n)

unfoldable pub reverse_slots_def : List Float → (q : State) (day rating : Float) (row : ℕ) (g-s g-d g-r : Float) (gw : List Float) → List Float
reverse_slots_def w q day rating row g-s g-d g-r gw =
    cond (eqb (reverse_refusal w q day rating row (length gw)) 0) (step_moved (params_def w) (stepped w q day rating row).step g-s g-d g-r gw) gw
