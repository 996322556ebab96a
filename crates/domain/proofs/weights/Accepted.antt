-- What an accepted weight set is known for. Assumes nothing.
use Rattle.std.proofs.Common.{◌≡◌, ℕ, Bool, true, false, cond, T, eqb, List, length, sym, refl, ap, subst, eq-eqb, eqb-true, ◌∙◌}
use lib.Ieee.{Float}
use Rattle.domain.specs.Weights.{boxed, copy_def, weights_refusal_def}
use Rattle.domain.proofs.weights.Copy.{copy_whole}

abbrev code : (a b : Bool) → ℕ
code a b = cond a (cond b 0 2) 1

length_test : (a b : Bool) → code a b ≡ 0 → a ≡ true
length_test true b h = refl
length_test false b h = absurd (subst T (sym (ap (eqb 0) h)) tt)

box_test : (a b : Bool) → code a b ≡ 0 → b ≡ true
box_test true true h = refl
box_test true false h = absurd (subst T (sym (ap (eqb 0) h)) tt)
box_test false b h = absurd (subst T (sym (ap (eqb 0) h)) tt)

box_failed : (b : Bool) → (code true b ≡ 0 → ⊥) → b ≡ false
box_failed true h = absurd (h refl)
box_failed false h = refl

pub accepted_length : (w : List Float) → weights_refusal_def w ≡ 0 → length w ≡ 21
unfolding weights_refusal_def
accepted_length w h = eqb-true _ 21 (length_test _ (boxed w) h)

pub accepted_box : (w : List Float) → weights_refusal_def w ≡ 0 → boxed w ≡ true
unfolding weights_refusal_def
accepted_box w h = box_test (eqb (length w) 21) _ h

pub refused_box : (w : List Float) → length w ≡ 21 → (weights_refusal_def w ≡ 0 → ⊥) → boxed w ≡ false
unfolding weights_refusal_def
refused_box w l h = box_failed _ (rw (eq-eqb _ 21 l) at h)

-- so the copy is the set itself
pub accepted_copy : (w v : List Float) → v ≡ copy_def w → weights_refusal_def w ≡ 0 → v ≡ w
accepted_copy w v c h = c ∙ copy_whole w (accepted_length w h)
