-- How an entry that has its refusal's number goes on: refused, or accepted with 21 weights. Assumes nothing.
use Rattle.std.proofs.Common.{◌≡◌, ℕ, zero, suc, Bool, true, false, cond, eqb, List, sym, refl, ◌∙◌, suc-ne-zero, arith, eq-eqb, ne_eqb, eqb-true}
use lib.Ieee.{Float}
use Rattle.domain.proofs.Refusals.{never_0}
use Rattle.domain.specs.Refusals.{number}
use Rattle.domain.specs.Weights.{weights_refusal_def}
use Rattle.domain.specs.declared.refusal.Refusal.{Refusal}
use Rattle.model_v6.specs.Answers.{scalar_refusal_def, scalar_def, refused, accepted}

-- no refusal: neither by the number m that came before, nor by a test that gives suc z
pub none_before : (z m : ℕ) (a good : Bool) → a ≡ eqb m 0 → cond a (cond good 0 (suc z)) m ≡ 0 → m ≡ 0
none_before z m true good e h = eqb-true _ _ (sym e)
none_before z m false good e h = h

pub none_bad : (z m : ℕ) (a good : Bool) → a ≡ eqb m 0 → cond a (cond good 0 (suc z)) m ≡ 0 → good ≡ true
none_bad z m a true e h = refl
none_bad z m true false e h = absurd (omega (arith, h))
none_bad z m false false e h = e ∙ eq-eqb _ 0 h

-- no refusal, with a number m of the weights: by cases, so that it rests on no order of the numbers
good_of : (w : List Float) (m : ℕ) (good : Bool) → m ≡ weights_refusal_def w → scalar_refusal_def w good ≡ 0 → good ≡ true
unfolding scalar_refusal_def
good_of w m true e h = refl
good_of w zero false e h = absurd (omega (arith, rw (← e) at h))
good_of w (suc m) false e h = absurd (omega (arith, rw (← e, ne_eqb (suc m) 0 (suc-ne-zero m)) at h))

weights_of : (w : List Float) (m : ℕ) (good : Bool) → m ≡ weights_refusal_def w → scalar_refusal_def w good ≡ 0 → m ≡ 0
unfolding scalar_refusal_def
weights_of w zero good e h = refl
weights_of w (suc m) true e h = absurd (omega (arith, rw (← e, ne_eqb (suc m) 0 (suc-ne-zero m)) at h))
weights_of w (suc m) false e h = absurd (omega (arith, rw (← e, ne_eqb (suc m) 0 (suc-ne-zero m)) at h))

pub answers_weights : (w : List Float) (good : Bool) → scalar_refusal_def w good ≡ 0 → weights_refusal_def w ≡ 0
answers_weights w good h = weights_of w (weights_refusal_def w) good refl h

-- the arguments are good
pub answers_good : (w : List Float) (good : Bool) (n : ℕ) → n ≡ scalar_refusal_def w good → n ≡ 0 → good ≡ true
answers_good w good n e h = good_of w (weights_refusal_def w) good refl (sym e ∙ h)

-- ---- how an entry goes on by its `?`
-- the weights' refusal
pub weights_refused :
    (w : List Float) (good : Bool) (x : Float) (e : Refusal) → number e ≡ weights_refusal_def w → refused (number e) ≡ scalar_def w good x
unfolding scalar_def scalar_refusal_def
weights_refused w good x e h = rw (← h, ne_eqb _ 0 (never_0 e), ne_eqb _ 0 (never_0 e))

pub argument_refused :
    (w : List Float) (good : Bool) (x : Float) → weights_refusal_def w ≡ 0 → good ≡ false → refused 13 ≡ scalar_def w good x
unfolding scalar_def scalar_refusal_def
argument_refused w good x h g = rw (h, g)

pub taken : (w : List Float) (good : Bool) (x : Float) → weights_refusal_def w ≡ 0 → good ≡ true → accepted x ≡ scalar_def w good x
unfolding scalar_def scalar_refusal_def
taken w good x h g = rw (h, g)

pub ruleset entry = (weights_refused, argument_refused, taken)
