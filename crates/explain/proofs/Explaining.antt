-- A step that is explained is the training step of the same arguments. Assumes nothing.
use Rattle.std.proofs.Common.{◌≡◌, ℕ, Bool, true, false, cond, eqb, List, refl, sym, ap, ◌∙◌, ne_eqb, eqb-true, Ok, Err}
use lib.Ieee.{Float}
use Rattle.domain.specs.Refusals.{number}
use Rattle.domain.specs.declared.refusal.Refusal.{Refusal}
use Rattle.domain.proofs.Refusals.{never_0}
use Rattle.forward.specs.declared.state.State.{State}
use Rattle.forward.specs.declared.state.Stepped.{Stepped}
use Rattle.analytic_v6.specs.Results.{TrainingStep, step_answered}
use Rattle.analytic_v6.specs.Step.{step_refusal_def, stepped, training_step_def}
use Rattle.explain.specs.Results.{explain_answered}
use Rattle.explain.specs.Step.{explained, unexplained, explain_def}

-- 0, or what it is not
number_of : (n : ℕ) (b : Bool) (t u : TrainingStep) → b ≡ eqb n 0 → t.refusal ≡ 0 → u.refusal ≡ n → (cond b t u).refusal ≡ n
number_of n true t u e z k = z ∙ sym (eqb-true n 0 (sym e))
number_of n false t u e z k = k

module _ (w : List Float) (q : State) (day rating : Float) (row : ℕ) where
  refusal : (training_step_def w q day rating row).refusal ≡ step_refusal_def w true q day rating row
  unfolding training_step_def
  refusal = number_of _ (eqb (step_refusal_def w true q day rating row) 0) _ _ refl refl refl

  pub refused : (e : Refusal) → step_answered (Err e) ≡ training_step_def w q day rating row → explain_answered (Err e) ≡ explain_def w q day rating row
  unfolding explain_def unexplained
  refused e h =
      let same : number e ≡ step_refusal_def w true q day rating row = ap (λ (x : TrainingStep). x.refusal) h ∙ refusal in rw (← same, ne_eqb _ 0 (never_0 e))

  module _ (t : Stepped) (h : step_answered (Ok t) ≡ training_step_def w q day rating row) where
    accepted : step_refusal_def w true q day rating row ≡ 0
    accepted = sym refusal ∙ sym (ap (λ (x : TrainingStep). x.refusal) h)

    step_is : t.step ≡ (stepped w q day rating row).step
    unfolding training_step_def
    step_is = ap (λ (x : TrainingStep). x.step) h ∙ rw accepted

    pub told : explained t.step ≡ explain_def w q day rating row
    unfolding explain_def
    told = rw (accepted, step_is)

pub ruleset explaining = (refused, told)
