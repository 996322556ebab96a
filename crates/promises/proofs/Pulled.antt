-- Why the pull toward the old weights is finite, and its slots are its own. Assumes nothing.
use Prim.Native.Nat.{ℕ, ◌<◌}
use mathlib.Core.Bool.{Bool, true, false, cond}
use mathlib.Core.List.{List}
use mathlib.Core.Path.{◌≡◌, refl, ap, sym, ◌∙◌, subst}
use borrow.Author.Tests.{eq-eqb, eqb-true}
use lib.Dec.{T, eqb}
use lib.Ieee.{Float, of_bits}
use lib.Ieee.Scale.{finite}
use lib.ListN.{length}
use Rattle.domain.specs.Doubles.{zero64}
use Rattle.domain.specs.Limits.{zero32}
use Rattle.domain.specs.Weights.{◌!◌}
use Rattle.training_v7.specs.Penalty.{number, penalty_refusal_def, penalty_def, slot_def, slots_def, scale_def, counts_def, counted, penalty_answer, penalty_slots_def}
use Rattle.training_v7.proofs.Laws.{slot_finite, slot_written, slots_forget, no_total, none_slot, penalty_finite}
use Rattle.promises.specs.Pulled.{Pulled}

-- an accepted call was lent 21 slots
slots_flag : (sets boxes slots good : Bool) → number sets boxes slots good ≡ 0 → slots ≡ true
unfolding number
slots_flag false boxes slots good h = absurd (subst T (sym (ap (eqb 0) h)) tt)
slots_flag true false slots good h = absurd (subst T (sym (ap (eqb 0) h)) tt)
slots_flag true true true good h = refl
slots_flag true true false good h = absurd (subst T (sym (ap (eqb 0) h)) tt)

zero_finite : T (finite zero64)
unfolding of_bits
zero_finite = tt

module _ (w v : List Float) (batch-size total_size : ℕ) (l2-weight : Float) (s : List Float) where
  accepted : (slots : ℕ) → (penalty_answer w v batch-size total_size l2-weight s slots).refusal ≡ 0 → penalty_refusal_def w v batch-size total_size s slots ≡ 0
  unfolding penalty_answer
  accepted slots h = h

  lent : (slots : ℕ) → penalty_refusal_def w v batch-size total_size s slots ≡ 0 → slots ≡ 21
  unfolding penalty_refusal_def
  lent slots h = eqb-true slots 21 (slots_flag _ _ _ _ h)

  left : (slots : List Float) → penalty_refusal_def w v batch-size total_size s (length slots) ≡ 0 → penalty_slots_def w v batch-size total_size l2-weight s slots ≡ slots_def w v batch-size total_size l2-weight s slots
  unfolding penalty_slots_def
  left slots h = rw (eq-eqb _ 0 h)

  answered : (refusal : ℕ) → T (finite (cond (eqb refusal 0) (penalty_def w v batch-size total_size l2-weight s) zero64))
  answered refusal = chosen (eqb refusal 0) where
    chosen : (b : Bool) → T (finite (cond b (penalty_def w v batch-size total_size l2-weight s) zero64))
    chosen true = penalty_finite w v batch-size total_size l2-weight s
    chosen false = zero_finite

  finite_answer : (slots : ℕ) → T (finite (penalty_answer w v batch-size total_size l2-weight s slots).penalty)
  unfolding penalty_answer
  finite_answer slots = answered (penalty_refusal_def w v batch-size total_size s slots)

  -- slot i as the definition has it
  slot_left :
      (slots : List Float) → penalty_refusal_def w v batch-size total_size s (length slots) ≡ 0 → (i : ℕ) → i < 21
      → penalty_slots_def w v batch-size total_size l2-weight s slots ! i
      ≡ slot_def w v s (scale_def l2-weight batch-size total_size) (counted w v batch-size total_size l2-weight s) i
  slot_left slots h i k = ap (λ (xs : List Float). xs ! i) (left slots h) ∙ slot_written w v batch-size total_size l2-weight s slots (lent _ h) i k

  finite_left :
      (slots : List Float) → penalty_refusal_def w v batch-size total_size s (length slots) ≡ 0 → (i : ℕ) → i < 21
      → T (finite (penalty_slots_def w v batch-size total_size l2-weight s slots ! i))
  finite_left slots h i k = subst (λ (x : Float). T (finite x)) (sym (slot_left slots h i k)) (slot_finite w v s _ _ i)

  own_left :
      (slots others : List Float) → penalty_refusal_def w v batch-size total_size s (length slots) ≡ 0 → length slots ≡ length others
      → penalty_slots_def w v batch-size total_size l2-weight s slots ≡ penalty_slots_def w v batch-size total_size l2-weight s others
  own_left slots others h e =
      let k = subst (λ (n : ℕ). penalty_refusal_def w v batch-size total_size s n ≡ 0) e h in
      left slots h ∙ slots_forget w v batch-size total_size l2-weight s slots others (lent _ h) (lent _ k) ∙ sym (left others k)

none_answer :
    (w v : List Float) (batch-size : ℕ) (l2-weight : Float) (s : List Float) (slots : ℕ) → penalty_refusal_def w v batch-size 0 s slots ≡ 0
    → (penalty_answer w v batch-size 0 l2-weight s slots).penalty ≡ zero64
unfolding penalty_answer
none_answer w v batch-size l2-weight s slots h = rw h (no_total w v batch-size l2-weight s)

none_left :
    (w v : List Float) (batch-size : ℕ) (l2-weight : Float) (s slots : List Float) → penalty_refusal_def w v batch-size 0 s (length slots) ≡ 0
    → (i : ℕ) → i < 21 → penalty_slots_def w v batch-size 0 l2-weight s slots ! i ≡ zero32
unfolding counts_def
none_left w v batch-size l2-weight s slots h i k =
    slot_left w v batch-size 0 l2-weight s slots h i k ∙ none_slot w v s (scale_def l2-weight batch-size 0) i

pub pulled : Pulled
pulled = record {
  finite_penalty = finite_answer;
  finite_slots = λ w v b t f s slots h. finite_left w v b t f s slots (accepted w v b t f s (length slots) h);
  own_slots = λ w v b t f s slots others h. own_left w v b t f s slots others (accepted w v b t f s (length slots) h);
  no_total = λ w v b f s slots h.
      let a = accepted w v b 0 f s (length slots) h in
      (none_answer w v b f s (length slots) a, none_left w v b f s slots a);
}
