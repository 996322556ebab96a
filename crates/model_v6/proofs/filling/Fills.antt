-- The answer of the filling, one lemma for each way out of its tests. Assumes nothing.
use Rattle.std.proofs.Common.{◌≡◌, ℕ, true, false, List, length, sym, ◌∙◌, eq-eqb}
use lib.Ieee.{Float}
use Rattle.domain.proofs.Refusals.{never_0}
use Rattle.domain.proofs.weights.Accepted.{accepted_box, refused_box}
use Rattle.domain.specs.Refusals.{number}
use Rattle.domain.specs.Weights.{all_finite_def, weights_refusal_def}
use Rattle.domain.specs.declared.refusal.Refusal.{Refusal}
use Rattle.model_v6.specs.Filling.{length_good, fill_def, fill_refusal, unfilled, fill_answer}

pub no_length : (p : List Float) → length_good (length p) ≡ false → unfilled 12 ≡ fill_answer p
unfolding fill_answer fill_refusal
no_length p h = rw h

pub no_finite : (p : List Float) → length_good (length p) ≡ true → all_finite_def p ≡ false → unfilled 2 ≡ fill_answer p
unfolding fill_answer fill_refusal
no_finite p h e = rw (h, e)

-- 21 weights that are refused are so by 2
by_box : (w : List Float) (n : ℕ) → length w ≡ 21 → n ≡ weights_refusal_def w → (n ≡ 0 → ⊥) → n ≡ 2
unfolding weights_refusal_def
by_box w n l h k = h ∙ rw (eq-eqb _ 21 l, refused_box w l (λ z. k (h ∙ z)))

pub outside :
    (p w : List Float) (e : Refusal) → length_good (length p) ≡ true → all_finite_def p ≡ true → w ≡ fill_def p → length w ≡ 21
    → number e ≡ weights_refusal_def w → unfilled (number e) ≡ fill_answer p
unfolding fill_answer fill_refusal
outside p w e h f d l r =
    let two = by_box w (number e) l r (never_0 e) in
    let box = refused_box w l (λ z. never_0 e (r ∙ z)) in
    rw (two, h, f, ← d, box)

pub inside :
    (p w : List Float) → length_good (length p) ≡ true → all_finite_def p ≡ true → w ≡ fill_def p → 0 ≡ weights_refusal_def w
    → record { refusal = 0; weights = w } ≡ fill_answer p
unfolding fill_answer fill_refusal
inside p w h f d r = rw (h, f, ← d, accepted_box w (sym r))

pub ruleset filling = (no_length, no_finite, outside, inside)
