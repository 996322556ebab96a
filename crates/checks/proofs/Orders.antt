-- What a call that is accepted has passed, each test in its turn. Assumes nothing.
use Prim.Native.Nat.{ℕ}
use mathlib.Core.Bool.{Bool, true, false, cond}
use mathlib.Core.List.{List}
use mathlib.Core.Path.{◌≡◌, refl, sym, ◌∙◌, subst}
use borrow.Author.Tests.{eq-eqb, eqb-true}
use lib.Dec.{T, eqb}
use lib.Ieee.{Float}
use Rattle.checks.specs.Reads.{check, first}
use Rattle.domain.specs.Weights.{weights_refusal_def}
use Rattle.checks.specs.Refusals.{loss_refusal_def, grad_refusal_def}

first_none : (a b : ℕ) → a ≡ 0 → first a b ≡ b
unfolding first
first_none a b e = rw (eq-eqb a 0 e)

passed : (good : Bool) (n b : ℕ) → good ≡ true → first (check true good n) b ≡ b
unfolding check
passed good n b e = rw e (first_none 0 b refl)

three : ◌≡◌ {A = ℕ} 3 0 → ⊥
three e = subst (λ (n : ℕ). T (eqb n 3)) e tt

four : ◌≡◌ {A = ℕ} 4 0 → ⊥
four e = subst (λ (n : ℕ). T (eqb n 4)) e tt

five : ◌≡◌ {A = ℕ} 5 0 → ⊥
five e = subst (λ (n : ℕ). T (eqb n 5)) e tt

module _ (w : List Float) (n : ℕ) (weights : n ≡ weights_refusal_def w) (z : n ≡ 0) where
  pub loss_fault : (sized : Bool) (fault : ℕ) → sized ≡ true → fault ≡ loss_refusal_def w sized fault
  unfolding loss_refusal_def
  loss_fault sized fault e = rw (← weights) (sym (first_none n _ z ∙ passed sized 3 fault e))

  module _ (slots : Bool) (s : slots ≡ true) (sized : Bool) (t : sized ≡ true) where
    pub grad_fault : (room : Bool) (fault : ℕ) → room ≡ true → fault ≡ grad_refusal_def w slots sized room fault
    unfolding grad_refusal_def
    grad_fault room fault e = rw (← weights) (sym (first_none n _ z ∙ passed slots 5 _ s ∙ passed sized 3 _ t ∙ passed room 4 fault e))

-- what an accepted call has passed
none_first : (a b : ℕ) (t : Bool) → t ≡ eqb a 0 → cond t b a ≡ 0 → (a ≡ 0) × (b ≡ 0)
none_first a b true e h = (eqb-true a 0 (sym e), h)
none_first a b false e h = absurd (subst T (sym (e ∙ eq-eqb a 0 h)) tt)

first_zero : (a b : ℕ) → first a b ≡ 0 → (a ≡ 0) × (b ≡ 0)
unfolding first
first_zero a b h = none_first a b (eqb a 0) refl h

check_zero : (good : Bool) (n : ℕ) → (n ≡ 0 → ⊥) → check true good n ≡ 0 → good ≡ true
unfolding check
check_zero true n h e = refl
check_zero false n h e = absurd (h e)

pub loss_accepted : (w : List Float) (sized : Bool) (fault : ℕ) → loss_refusal_def w sized fault ≡ 0 → (weights_refusal_def w ≡ 0) × (sized ≡ true) × (fault ≡ 0)
unfolding loss_refusal_def
loss_accepted w sized fault e =
    let a = first_zero (weights_refusal_def w) _ e in
    let b = first_zero (check true sized 3) fault a.1 in
    (a.0, check_zero sized 3 three b.0, b.1)

pub grad_accepted :
    (w : List Float) (slots sized room : Bool) (fault : ℕ) → grad_refusal_def w slots sized room fault ≡ 0 →
    (weights_refusal_def w ≡ 0) × (slots ≡ true) × (sized ≡ true) × (room ≡ true) × (fault ≡ 0)
unfolding grad_refusal_def
grad_accepted w slots sized room fault e =
    let a = first_zero (weights_refusal_def w) _ e in
    let b = first_zero (check true slots 5) _ a.1 in
    let c = first_zero (check true sized 3) _ b.1 in
    let d = first_zero (check true room 4) fault c.1 in
    (a.0, check_zero slots 5 five b.0, check_zero sized 3 three c.0, check_zero room 4 four d.0, d.1)

loss_passed : (w : List Float) (sized : Bool) (fault : ℕ) → weights_refusal_def w ≡ 0 → sized ≡ true → fault ≡ 0 → loss_refusal_def w sized fault ≡ 0
loss_passed w sized fault a b c = sym (loss_fault w (weights_refusal_def w) refl a sized fault b) ∙ c

-- a call that is accepted with its gradient is accepted without it
pub alone_accepted : (w : List Float) (slots sized room : Bool) (fault : ℕ) → grad_refusal_def w slots sized room fault ≡ 0 → loss_refusal_def w sized fault ≡ 0
alone_accepted w slots sized room fault e = let a = grad_accepted w slots sized room fault e in loss_passed w sized fault a.0 a.2 a.4
