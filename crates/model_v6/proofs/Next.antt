-- How next_state_scalar and first_state_scalar, which have their refusal's number, go on: refused, or accepted. Assumes nothing.
use Rattle.std.proofs.Common.{◌≡◌, ℕ, Bool, true, false, cond, ltb, ltb-true, ltb-false, max, min, List, sym, refl, arith, ne_eqb}
use lib.Ieee.{Float}
use Rattle.domain.proofs.Refusals.{never_0}
use Rattle.domain.specs.Refusals.{number}
use Rattle.domain.specs.Weights.{weights_refusal_def}
use Rattle.domain.specs.declared.refusal.Refusal.{Refusal}
use Rattle.model_v6.specs.Answers.{scalar_refusal_def, accepted_state, state_def}
use Rattle.model_v6.specs.NextState.{clamp_rating_def}
use Rattle.model_v6.specs.declared.state.MemoryState.{MemoryState}

-- ---- how a step goes on by its `?`
pub weights_back :
    (w : List Float) (good : Bool) (back m : MemoryState) (e : Refusal) → number e ≡ weights_refusal_def w
    → record { refusal = number e; state = back } ≡ state_def w good back m
unfolding state_def scalar_refusal_def
weights_back w good back m e h = rw (← h, ne_eqb _ 0 (never_0 e), ne_eqb _ 0 (never_0 e))

pub argument_back :
    (w : List Float) (good : Bool) (back m : MemoryState) → weights_refusal_def w ≡ 0 → good ≡ false
    → record { refusal = 13; state = back } ≡ state_def w good back m
unfolding state_def scalar_refusal_def
argument_back w good back m h g = rw (h, g)

pub step_taken :
    (w : List Float) (good : Bool) (back m : MemoryState) → weights_refusal_def w ≡ 0 → good ≡ true → accepted_state m ≡ state_def w good back m
unfolding state_def scalar_refusal_def
step_taken w good back m h g = rw (h, g)

pub ruleset step = (weights_back, argument_back, step_taken)

-- rating.clamp(1, 4)
pub clamped : (n : ℕ) → max 1 (min n 4) ≡ clamp_rating_def n
unfolding clamp_rating_def
clamped n = go (ltb n 1) (ltb 4 n) refl refl
  where
    go : (a b : Bool) → a ≡ ltb n 1 → b ≡ ltb 4 n → max 1 (min n 4) ≡ cond a 1 (cond b 4 n)
    go true b e f = let h = ltb-true n 1 (sym e) in omega (arith, h)
    go false true e f = let h = ltb-true 4 n (sym f) in omega (arith, h)
    go false false e f = let h = ltb-false n 1 (sym e) in let k = ltb-false 4 n (sym f) in omega (arith, h, k)
