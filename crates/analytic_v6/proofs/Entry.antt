-- How an entry of one step goes on by its `?`: refused, or accepted with 21 weights. Assumes nothing.
use Rattle.std.proofs.Common.{◌≡◌, ℕ, Bool, true, false, eqb, List, length, refl, ◌&&◌, ◌||◌, eq-eqb, ne_eqb, Ok, Err}
use lib.Ieee.{Float, nan, inf, fin, eq}
use lib.Ieee.Scale.{finite}
use Rattle.std.specs.Float.{float_is_finite}
use Rattle.domain.specs.Limits.{zero32, day_good_def}
use Rattle.domain.specs.Refusals.{number}
use Rattle.domain.specs.Weights.{weights_refusal_def}
use Rattle.domain.specs.declared.refusal.Refusal.{Refusal}
use Rattle.domain.proofs.Refusals.{never_0}
use Rattle.checks.specs.Reads.{rating_good_def}
use Rattle.forward.specs.Params.{params_def}
use Rattle.forward.specs.Step.{no_state_def, is_first_def}
use Rattle.forward.specs.declared.state.State.{State}
use Rattle.forward.specs.declared.state.Stepped.{Stepped}
use Rattle.backward.specs.declared.step.StateGrad.{StateGrad}
use Rattle.backward.specs.Step.{step_grad, step_moved}
use Rattle.columns.specs.StepRecords.{no_step_def}
use Rattle.analytic_v6.specs.Results.{step_answered, reverse_answered}
use Rattle.analytic_v6.specs.Step.{step_refusal_def, finite_state, stepped, training_step_def, no_reverse, training_reverse, reverse_refusal, reverse_slots_def}

std_finite : (x : Float) → float_is_finite x ≡ finite x
unfolding float_is_finite
std_finite nan = refl
std_finite (inf s) = refl
std_finite (fin s m e) = refl

module _ (w : List Float) (slots : Bool) (q : State) (day rating : Float) (row : ℕ) where
  -- ---- the tests, in their order
  pub weights_bad : (e : Refusal) → number e ≡ weights_refusal_def w → number e ≡ step_refusal_def w slots q day rating row
  unfolding step_refusal_def
  weights_bad e h = rw (← h, ne_eqb _ 0 (never_0 e))

  pub slots_bad : weights_refusal_def w ≡ 0 → slots ≡ false → 5 ≡ step_refusal_def w slots q day rating row
  unfolding step_refusal_def
  slots_bad z s = rw (z, s)

  module _ (z : weights_refusal_def w ≡ 0) (s : slots ≡ true) where
    pub state_bad : float_is_finite q.s && float_is_finite q.d ≡ false → 13 ≡ step_refusal_def w slots q day rating row
    unfolding step_refusal_def finite_state
    state_bad f = rw (z, s, ← std_finite q.s, ← std_finite q.d, f)

    module _ (f : float_is_finite q.s && float_is_finite q.d ≡ true) where
      pub rating_bad : rating_good_def rating ≡ false → 6 ≡ step_refusal_def w slots q day rating row
      unfolding step_refusal_def finite_state
      rating_bad g = rw (z, s, ← std_finite q.s, ← std_finite q.d, f, g)

      module _ (g : rating_good_def rating ≡ true) where
        pub day_bad : (eq rating zero32 || is_first_def row q.s) || day_good_def day ≡ false → 7 ≡ step_refusal_def w slots q day rating row
        unfolding step_refusal_def finite_state
        day_bad d = rw (z, s, ← std_finite q.s, ← std_finite q.d, f, g, d)

        pub step_good : (eq rating zero32 || is_first_def row q.s) || day_good_def day ≡ true → 0 ≡ step_refusal_def w slots q day rating row
        unfolding step_refusal_def finite_state
        step_good d = rw (z, s, ← std_finite q.s, ← std_finite q.d, f, g, d)

pub never : (e : Refusal) → eqb (number e) 0 ≡ false
never e = ne_eqb _ 0 (never_0 e)

pub ruleset step_tests = (weights_bad, slots_bad, state_bad, rating_bad, day_bad, step_good)

module _ (w : List Float) (q : State) (day rating : Float) (row : ℕ) where
  pub step_refused :
      (n : ℕ) → n ≡ step_refusal_def w true q day rating row → (n ≡ 0 → ⊥) →
      record { refusal = n; state = no_state_def; step = no_step_def } ≡ training_step_def w q day rating row
  unfolding training_step_def
  step_refused n e h = rw (← e, ne_eqb _ 0 h)

  pub step_accepted :
      (n : ℕ) → n ≡ step_refusal_def w true q day rating row → n ≡ 0 →
      record { refusal = 0; state = (stepped w q day rating row).state; step = (stepped w q day rating row).step } ≡ training_step_def w q day rating row
  unfolding training_step_def
  step_accepted n e h = rw (← e, eq-eqb _ 0 h)

  pub step_no : (e : Refusal) → number e ≡ step_refusal_def w true q day rating row → step_answered (Err e) ≡ training_step_def w q day rating row
  step_no e h = step_refused (number e) h (never_0 e)

  pub step_yes :
      (t : Stepped) → 0 ≡ step_refusal_def w true q day rating row → t ≡ stepped w q day rating row → step_answered (Ok t) ≡ training_step_def w q day rating row
  step_yes t z h = rw h (step_accepted 0 z refl)

  module _ (g-s g-d g-r : Float) (gw : List Float) (n : ℕ) (e : n ≡ reverse_refusal w q day rating row (length gw)) where
    pub reverse_refused : (n ≡ 0 → ⊥) → no_reverse n ≡ training_reverse w q day rating row g-s g-d g-r (length gw)
    unfolding training_reverse
    reverse_refused h = rw (← e, ne_eqb _ 0 h)

    pub slots_refused : (n ≡ 0 → ⊥) → gw ≡ reverse_slots_def w q day rating row g-s g-d g-r gw
    unfolding reverse_slots_def
    slots_refused h = rw (← e, ne_eqb _ 0 h)

    pub reverse_accepted :
        n ≡ 0 →
        record { refusal = 0; grad = step_grad (params_def w) (stepped w q day rating row).step g-s g-d g-r } ≡
        training_reverse w q day rating row g-s g-d g-r (length gw)
    unfolding training_reverse
    reverse_accepted h = rw (← e, eq-eqb _ 0 h)

    pub slots_accepted :
        n ≡ 0 → step_moved (params_def w) (stepped w q day rating row).step g-s g-d g-r gw ≡ reverse_slots_def w q day rating row g-s g-d g-r gw
    unfolding reverse_slots_def
    slots_accepted h = rw (← e, eq-eqb _ 0 h)

  module _ (g-s g-d g-r : Float) (gw : List Float) where
    pub reverse_no :
        (e : Refusal) → number e ≡ reverse_refusal w q day rating row (length gw) → reverse_answered (Err e) ≡ training_reverse w q day rating row g-s g-d g-r (length gw)
    unfolding no_reverse
    reverse_no e h = reverse_refused g-s g-d g-r gw (number e) h (never_0 e)

    pub slots_no : eqb (reverse_refusal w q day rating row (length gw)) 0 ≡ false → gw ≡ reverse_slots_def w q day rating row g-s g-d g-r gw
    unfolding reverse_slots_def
    slots_no h = rw h

    pub reverse_yes :
        (g : StateGrad) → 0 ≡ reverse_refusal w q day rating row (length gw) → g ≡ step_grad (params_def w) (stepped w q day rating row).step g-s g-d g-r →
        reverse_answered (Ok g) ≡ training_reverse w q day rating row g-s g-d g-r (length gw)
    reverse_yes g z h = rw h (reverse_accepted g-s g-d g-r gw 0 z refl)

    pub slots_yes :
        0 ≡ reverse_refusal w q day rating row (length gw) → step_moved (params_def w) (stepped w q day rating row).step g-s g-d g-r gw ≡ reverse_slots_def w q day rating row g-s g-d g-r gw
    slots_yes z = slots_accepted g-s g-d g-r gw 0 z refl

pub ruleset step_entry = (step_no, step_yes)

pub ruleset reverse_entry = (reverse_no, never, slots_no, reverse_yes, slots_yes)
