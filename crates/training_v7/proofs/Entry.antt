-- The entry's answer and its slots: refused, or accepted. Assumes nothing.
use Rattle.std.proofs.Common.{◌≡◌, ℕ, Bool, true, false, cond, ◌&&◌, eqb, sym, refl, ◌∙◌, subst, T, ap, List, length, eqb-true, ne_eqb, Result, Ok, Err}
use Rattle.std.specs.Result.{is_ok}
use lib.Ieee.{Float}
use Rattle.domain.specs.Doubles.{◌*ᵈ◌, zero64}
use Rattle.domain.specs.Refusals.{number, number_of}
use Rattle.domain.specs.Weights.{copy_def}
use Rattle.domain.specs.declared.refusal.Refusal.{Refusal}
use Rattle.domain.proofs.Refusals.{never_0}
use Rattle.domain.proofs.weights.Copy.{copy_whole}
use Rattle.checks.specs.Columns.{through}
use Rattle.training_v7.specs.Penalty as penalty
use Rattle.training_v7.specs.Penalty.{are_sets_def, scale_def, sum_def, counts_def, store_slot_def, answered, penalty_refusal_def, penalty_def, slots_def, penalty_answer, penalty_slots_def, PenaltyLeaves}

pub accepted_is : {A : Type 0} (r : Result A Refusal) → is_ok r ≡ eqb (number_of r) 0
accepted_is (Ok x) = refl
accepted_is (Err e) = sym (ne_eqb _ 0 (never_0 e))

-- the sets of an accepted call
first_true : (a b : Bool) → a && b ≡ true → a ≡ true
first_true true b h = refl
first_true false b h = h

second_true : (a b : Bool) → a && b ≡ true → b ≡ true
second_true true b h = h
second_true false b h = absurd (subst T (sym h) tt)

sets_flag : (sets boxes slots good : Bool) → penalty.number sets boxes slots good ≡ 0 → sets ≡ true
unfolding penalty.number
sets_flag true boxes slots good h = refl
sets_flag false boxes slots good h = absurd (subst T (sym (ap (eqb 0) h)) tt)

slots_flag : (sets boxes slots good : Bool) → penalty.number sets boxes slots good ≡ 0 → slots ≡ true
unfolding penalty.number
slots_flag false boxes slots good h = absurd (subst T (sym (ap (eqb 0) h)) tt)
slots_flag true false slots good h = absurd (subst T (sym (ap (eqb 0) h)) tt)
slots_flag true true true good h = refl
slots_flag true true false good h = absurd (subst T (sym (ap (eqb 0) h)) tt)

module _ (w v : List Float) (batch-size total_size : ℕ) (l2-weight : Float) (s slots : List Float) where
  pub refused :
      (r : Result Float Refusal) (e : Refusal) → r ≡ Err e → number e ≡ penalty_refusal_def w v batch-size total_size s (length slots)
      → (answered r ≡ penalty_answer w v batch-size total_size l2-weight s (length slots)) × PenaltyLeaves w v batch-size total_size l2-weight s slots slots
  unfolding penalty_answer penalty_slots_def
  refused r e k h = (rw (k, ← h, ne_eqb _ 0 (never_0 e)), rw (← h, ne_eqb _ 0 (never_0 e)))

  module _ (z : 0 ≡ penalty_refusal_def w v batch-size total_size s (length slots)) where
    pub slots_21 : length slots ≡ 21
    unfolding penalty_refusal_def
    slots_21 = eqb-true _ 21 (slots_flag _ _ _ _ (sym z))

    sets : are_sets_def w v s ≡ true
    unfolding penalty_refusal_def
    sets = sets_flag _ _ _ _ (sym z)

    w_21 : length w ≡ 21
    w_21 = eqb-true _ 21 (first_true _ _ sets)

    v_21 : length v ≡ 21
    v_21 = eqb-true _ 21 (first_true _ _ (second_true _ _ sets))

    s_21 : length s ≡ 21
    s_21 = eqb-true _ 21 (second_true _ _ (second_true _ _ sets))

    -- worked from copies of the three sets
    module _
        (x y t : List Float) (cw : x ≡ copy_def w) (cv : y ≡ copy_def v) (cs : t ≡ copy_def s)
        (scale sum : Float) (counts : Bool) (hs : scale ≡ scale_def l2-weight batch-size total_size) (hm : sum ≡ sum_def x y t)
        (hc : counts ≡ counts_def total_size (sum *ᵈ scale)) where
      pub answer_accepted :
          (p : Float) → p ≡ cond counts (sum *ᵈ scale) zero64
          → record { refusal = 0; penalty = p } ≡ penalty_answer w v batch-size total_size l2-weight s (length slots)
      unfolding penalty_answer penalty_def
      answer_accepted p e =
          rw (← z, e, hc, hm, hs, cw ∙ copy_whole w w_21, cv ∙ copy_whole v v_21, cs ∙ copy_whole s s_21)

      pub slots_moved :
          (after : List Float) → after ≡ through (store_slot_def x y t scale counts) 21 slots
          → after ≡ penalty_slots_def w v batch-size total_size l2-weight s slots
      unfolding penalty_slots_def slots_def
      slots_moved after e =
          rw (← z, e, hc, hm, hs, cw ∙ copy_whole w w_21, cv ∙ copy_whole v v_21, cs ∙ copy_whole s s_21)
