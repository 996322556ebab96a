-- The reason of a step is true and no other is, and its outputs were held where it says. Assumes nothing.
use Prim.Native.Nat.{ℕ}
use mathlib.Core.Bool.{Bool, true, false, not, ◌&&◌, ◌||◌, cond}
use mathlib.Core.List.{List}
use mathlib.Core.Path.{◌≡◌, refl, sym, ap, ◌∙◌, subst}
use borrow.Author.Tests.{eq-eqb, eqb-false, not-true}
use lib.Dec.{T, eqb}
use lib.Ieee.{Float, binary32, fits, lt, eq, of_bits}
use Rattle.std.proofs.lemmas.Bool.{and_parts}
use Rattle.domain.specs.Floats.{◌*ᶠ◌}
use Rattle.domain.specs.Limits.{decimal, zero32, one, two, three, four, s_min_def, s_max_def, d_min, d_max, day_good_def}
use Rattle.domain.specs.Weights.{weights_refusal_def}
use Rattle.checks.specs.Reads.{rating_good_def}
use Rattle.checks.specs.Tables.{least}
use Rattle.forward.specs.Params.{params_def}
use Rattle.forward.specs.Stability.{is_floored_def}
use Rattle.forward.specs.Step.{no_state_def, clamp_state_def, is_first_def}
use Rattle.forward.specs.declared.parameters.RuntimeParams.{RuntimeParams}
use Rattle.forward.specs.declared.state.Branch.{Branch}
use Rattle.forward.specs.declared.state.Branch.TheVariants.{Padding, First, SameDay, Lapse, Success}
use Rattle.forward.specs.declared.state.State.{State}
use Rattle.columns.specs.Records.{six, plain_cells, chosen_cells, branch_cells_def}
use Rattle.columns.specs.StepRecords.{no_step_def}
use Rattle.analytic_v6.proofs.Entry.{step_accepted}
use Rattle.analytic_v6.specs.Step.{is_unread_def, finite_state, step_refusal_def, stepped, training_step_def}
use Rattle.analytic_v6.specs.Results.{TrainingStep}
use Rattle.explain.specs.Reasons.{reason_number_def, success_reason_def, reason_of_def}
use Rattle.explain.specs.Step.{explained, unexplained, explain_def}
use Rattle.explain.specs.declared.reasons.Reason.{Reason}
use Rattle.explain.specs.declared.reasons.Reason.TheVariants.{SameDayOne, LapseRaw, LapseFloor, Success as Plain, SuccessHard, SuccessEasy}
use Rattle.explain.specs.Results.{Explained}
use Rattle.laws.proofs.Ranges.Ratings.{by_rating}
use Rattle.promises.specs.Reasoned.{multiplier, raw, floor, holds, HeldRight, ReasonedStep, Reasoned}
use Rattle.promises.proofs.reasoning.Ends.{held_right, stability_ends, difficulty_ends}
use Rattle.promises.proofs.reasoning.Steps.{reason_is, holds_is, pre_clamp, before_is, clamp_is, one_is, raw_is, floor_is}
use Rattle.promises.proofs.reasoning.Tests.{picked, one_of, picked_holds, no_other, review_of}

-- ---- an accepted step's rating is good, and if it is not 0 it is one of four
some : (n k : ℕ) → T (not (eqb n 0)) → n ≡ 0 → ⊥
some n k t e = subst (λ (m : ℕ). T (not (eqb m 0))) e t

rating_of : (n : ℕ) (a f g d : Bool) → a ≡ eqb n 0 → cond a (cond f (cond g (cond d 0 7) 6) 13) n ≡ 0 → g ≡ true
rating_of n true true true d e h = refl
rating_of n true true false d e h = absurd (some 6 0 tt h)
rating_of n true false g d e h = absurd (some 13 0 tt h)
rating_of n false f g d e h = absurd (eqb-false n 0 (sym e) h)

accepted_rating : (w : List Float) (q : State) (day rating : Float) (row : ℕ) → step_refusal_def w true q day rating row ≡ 0 → rating_good_def rating ≡ true
unfolding step_refusal_def
accepted_rating w q day rating row h =
    rating_of (weights_refusal_def w) (eqb (weights_refusal_def w) 0) (finite_state q) (rating_good_def rating) (is_unread_def rating row q.s || day_good_def day) refl h

four_ratings :
    (rating : Float) → T (fits binary32 rating) → rating_good_def rating ≡ true → eq rating zero32 ≡ false →
    one_of (eq rating one) (eq rating two) (eq rating three) (eq rating four) ≡ true
unfolding eq of_bits
four_ratings rating k g z = by_rating rating k (λ (x : Float). one_of (eq x one) (eq x two) (eq x three) (eq x four) ≡ true) g z refl refl refl refl

module _ (w : List Float) (q : State) (day rating : Float) (row : ℕ) (k : T (fits binary32 rating)) (n : step_refusal_def w true q day rating row ≡ 0) where
  abbrev p : RuntimeParams
  p = params_def w

  abbrev answer : Explained
  answer = explain_def w q day rating row

  abbrev after : State
  after = (training_step_def w q day rating row).state

  answer_is : answer ≡ explained (stepped w q day rating row).step
  unfolding explain_def
  answer_is = rw (eq-eqb _ 0 n)

  after_is : after ≡ (stepped w q day rating row).state
  after_is = ap (λ (t : TrainingStep). t.state) (sym (step_accepted w q day rating row _ refl n))

  clamped : after ≡ clamp_state_def (pre_clamp p q day rating row)
  clamped = after_is ∙ clamp_is p q day rating row

  one_rating : eq rating zero32 ≡ false → one_of (eq rating one) (eq rating two) (eq rating three) (eq rating four) ≡ true
  one_rating = four_ratings rating k (accepted_rating w q day rating row n)

  -- ---- the reason, by the tests of the step
  abbrev begins : Bool
  begins = is_first_def row q.s

  abbrev one-taken? : Bool
  one-taken? = is_floored_def rating (multiplier p q day rating row)

  abbrev floored? : Bool
  floored? = lt (floor p q day rating row) (raw p q day rating row)

  abbrev the : Reason
  the = picked (eq rating zero32) begins (eq day zero32) one-taken? (eq rating one) floored? (eq rating two) (eq rating four)

  the_is : answer.reason ≡ the
  unfolding explained
  the_is = ap (λ (a : Explained). a.reason) answer_is ∙ reason_is p q day rating row

  reason_holds : holds p q day rating row answer.reason ≡ true
  reason_holds =
      subst (λ (r : Reason). holds p q day rating row r ≡ true) (sym the_is)
      (holds_is p q day rating row the ∙
      picked_holds (eq rating zero32) begins (eq day zero32) one-taken? (eq rating one) floored? (eq rating two) (eq rating three) (eq rating four) one_rating)

  only : (reason : Reason) → holds p q day rating row reason ≡ true → reason ≡ answer.reason
  only reason h =
      no_other (eq rating zero32) begins (eq day zero32) one-taken? (eq rating one) floored? (eq rating two) (eq rating three) (eq rating four) one_rating reason
      (sym (holds_is p q day rating row reason) ∙ h) ∙ sym the_is

  -- ---- the two ends
  stability_held : HeldRight (pre_clamp p q day rating row).s s_min_def s_max_def after.s answer.stability
  unfolding explained clamp_state_def
  stability_held =
      rw (clamped, answer_is, before_is p q day rating row) (held_right (pre_clamp p q day rating row).s s_min_def s_max_def (stability_ends (pre_clamp p q day rating row).s))

  difficulty_held : HeldRight (pre_clamp p q day rating row).d d_min d_max after.d answer.difficulty
  unfolding explained clamp_state_def
  difficulty_held =
      rw (clamped, answer_is, before_is p q day rating row) (held_right (pre_clamp p q day rating row).d d_min d_max (difficulty_ends (pre_clamp p q day rating row).d))

  -- ---- the value that was taken
  true_of : (reason : Reason) → answer.reason ≡ reason → holds p q day rating row reason ≡ true
  true_of reason e = subst (λ (r : Reason). holds p q day rating row r ≡ true) e reason_holds

  one_taken : answer.reason ≡ SameDayOne → (pre_clamp p q day rating row).s ≡ (clamp_state_def q).s *ᶠ one
  one_taken e =
      let b = review_of (eq rating zero32) (is_first_def row q.s) (eq day zero32) (is_floored_def rating (multiplier p q day rating row)) (sym (holds_is p q day rating row SameDayOne) ∙ true_of SameDayOne e) in
      one_is p q day rating row b.0 b.1 b.2 b.3

  lapsed : (l : Bool) → ((not (eq rating zero32) && not (is_first_def row q.s)) && not (eq day zero32)) && (eq rating one && l) ≡ true →
      (eq rating zero32 ≡ false) × (is_first_def row q.s ≡ false) × (eq day zero32 ≡ false) × (eq rating one ≡ true) × (l ≡ true)
  lapsed l h =
      let b = review_of (eq rating zero32) (is_first_def row q.s) (not (eq day zero32)) (eq rating one && l) h in
      let c = and_parts (eq rating one) l b.3 in
      (b.0, b.1, not-true _ b.2, c.0, c.1)

  raw_taken : answer.reason ≡ LapseRaw → (pre_clamp p q day rating row).s ≡ raw p q day rating row
  raw_taken e =
      let b = lapsed (not (lt (floor p q day rating row) (raw p q day rating row))) (sym (holds_is p q day rating row LapseRaw) ∙ true_of LapseRaw e) in
      raw_is p q day rating row b.0 b.1 b.2 b.3 (not-true _ b.4)

  floor_taken : answer.reason ≡ LapseFloor → (pre_clamp p q day rating row).s ≡ floor p q day rating row
  floor_taken e =
      let b = lapsed (lt (floor p q day rating row) (raw p q day rating row)) (sym (holds_is p q day rating row LapseFloor) ∙ true_of LapseFloor e) in
      floor_is p q day rating row b.0 b.1 b.2 b.3 b.4

  number : answer.refusal ≡ 0
  unfolding explained
  number = ap (λ (a : Explained). a.refusal) answer_is

  step_reasoned : ReasonedStep w q day rating row
  step_reasoned =
      record {
        accepted = number;
        reason_holds = reason_holds;
        no_other = only;
        clamped = clamped;
        stability_held = stability_held;
        difficulty_held = difficulty_held;
        one_taken = one_taken;
        raw_taken = raw_taken;
        floor_taken = floor_taken;
      }

-- ---- refused or not
same_number : (w : List Float) (q : State) (day rating : Float) (row : ℕ) → (explain_def w q day rating row).refusal ≡ (training_step_def w q day rating row).refusal
unfolding explain_def explained unexplained training_step_def
same_number w q day rating row = go (eqb (step_refusal_def w true q day rating row) 0)
  where
    go : (t : Bool) →
        (cond t (explained (stepped w q day rating row).step) (unexplained (step_refusal_def w true q day rating row))).refusal ≡
        (cond {A = TrainingStep} t (record { refusal = 0; state = (stepped w q day rating row).state; step = (stepped w q day rating row).step })
        (record { refusal = step_refusal_def w true q day rating row; state = no_state_def; step = no_step_def })).refusal
    go true = refl
    go false = refl

-- ---- the numbers of the branches
numbers : (branch : Branch) (rating : Float) → (branch_cells_def branch).number ≡ decimal (least (reason_number_def (reason_of_def branch rating)) 6) 1
unfolding branch_cells_def plain_cells chosen_cells reason_number_def reason_of_def success_reason_def decimal of_bits
numbers Padding rating = refl
numbers (First number) rating = refl
numbers (SameDay a b true) rating = refl
numbers (SameDay a b false) rating = refl
numbers (Lapse a b true) rating = refl
numbers (Lapse a b false) rating = refl
numbers Success rating = go (eq rating two) (eq rating four)
  where
    go : (t f : Bool) → six ≡ decimal (least (reason_number_def (cond t SuccessHard (cond f SuccessEasy Plain))) 6) 1
    go true f = refl
    go false true = refl
    go false false = refl

pub reasoned : Reasoned
reasoned = record { steps = step_reasoned; refusals = same_number; numbers = numbers }
