-- What a row's verdict says of its fields, and how check_row goes on by its refusal's number. An impostor of code and definition alike breaks one of
-- these. Assumes nothing.
use Rattle.std.proofs.Common.{◌≡◌, ℕ, Bool, true, false, cond, ◌&&◌, T, eqb, List, sym, refl, ◌∙◌, arith, eq-eqb, ne_eqb, eqb-true}
use lib.Ieee.{Float, binary32, to_bits}
use lib.Ieee.Fits.{and_r}
use lib.Ieee.Scale.{finite}
use borrow.Author.Tests.{eqb-false}
use Rattle.soft.proofs.units.Value.{holds}
use Rattle.domain.specs.Limits.{day_good_def}
use Rattle.model_v6.specs.Answers.{finite_memory, scalar_refusal_def, refused, accepted, scalar_def, state_def, next_state_scalar_def, interval_scalar}
use Rattle.model_v6.specs.Curve.{interval_def}
use Rattle.model_v6.specs.NextState.{next_state_def}
use Rattle.model_v6.specs.Rows.{ours_def, verdict_def, row_refusal_def, row_check, refusal_of_def, field_number_def, verdict_of_def}
use Rattle.model_v6.specs.declared.rows.Claimed.{Claimed}
use Rattle.model_v6.specs.Rows.{Refused, Accepted}
use Rattle.model_v6.specs.declared.state.MemoryState.{MemoryState}
use Rattle.model_v6.proofs.rows.Picked.{picked, same_stability, same_difficulty, same_interval}
use Rattle.model_v6.proofs.answers.Answering.{answers_weights, answers_good}

-- ---- by the three comparisons
all_agree : (a b c : Bool) → verdict_of_def (picked a b c) ≡ 0 → (a ≡ true) × (b ≡ true) × (c ≡ true)
unfolding verdict_of_def field_number_def
all_agree true true true h = (refl, refl, refl)
all_agree true true false h = absurd (omega (arith, h))
all_agree true false c h = absurd (omega (arith, h))
all_agree false b c h = absurd (omega (arith, h))

first_differs : (a b c : Bool) → verdict_of_def (picked a b c) ≡ 1 → a ≡ false
unfolding verdict_of_def field_number_def
first_differs true true true h = absurd (omega (arith, h))
first_differs true true false h = absurd (omega (arith, h))
first_differs true false c h = absurd (omega (arith, h))
first_differs false b c h = refl

second_differs : (a b c : Bool) → verdict_of_def (picked a b c) ≡ 2 → (a ≡ true) × (b ≡ false)
unfolding verdict_of_def field_number_def
second_differs true true true h = absurd (omega (arith, h))
second_differs true true false h = absurd (omega (arith, h))
second_differs true false c h = (refl, refl)
second_differs false b c h = absurd (omega (arith, h))

third_differs : (a b c : Bool) → verdict_of_def (picked a b c) ≡ 3 → (a ≡ true) × (b ≡ true) × (c ≡ false)
unfolding verdict_of_def field_number_def
third_differs true true true h = absurd (omega (arith, h))
third_differs true true false h = (refl, refl, refl)
third_differs true false c h = absurd (omega (arith, h))
third_differs false b c h = absurd (omega (arith, h))

-- ---- by the fields: the number of a verdict is the first wrong field's, and all before it agree
module _ (claimed ours : Claimed) where
  pub verdict_0 :
      verdict_of_def (verdict_def claimed ours) ≡ 0
      → (claimed.stability ≡ ours.stability) × (claimed.difficulty ≡ ours.difficulty) × (claimed.interval ≡ ours.interval)
  unfolding verdict_def
  verdict_0 h = let e = all_agree (same_stability claimed ours) (same_difficulty claimed ours) (same_interval claimed ours) h in (eqb-true _ _ e.0, eqb-true _ _ e.1, eqb-true _ _ e.2)

  pub verdict_1 : verdict_of_def (verdict_def claimed ours) ≡ 1 → claimed.stability ≡ ours.stability → ⊥
  unfolding verdict_def
  verdict_1 h = eqb-false _ _ (first_differs (same_stability claimed ours) (same_difficulty claimed ours) (same_interval claimed ours) h)

  pub verdict_2 :
      verdict_of_def (verdict_def claimed ours) ≡ 2 → (claimed.stability ≡ ours.stability) × (claimed.difficulty ≡ ours.difficulty → ⊥)
  unfolding verdict_def
  verdict_2 h = let e = second_differs (same_stability claimed ours) (same_difficulty claimed ours) (same_interval claimed ours) h in (eqb-true _ _ e.0, eqb-false _ _ e.1)

  pub verdict_3 :
      verdict_of_def (verdict_def claimed ours) ≡ 3
      → (claimed.stability ≡ ours.stability) × (claimed.difficulty ≡ ours.difficulty) × (claimed.interval ≡ ours.interval → ⊥)
  unfolding verdict_def
  verdict_3 h = let e = third_differs (same_stability claimed ours) (same_difficulty claimed ours) (same_interval claimed ours) h in (eqb-true _ _ e.0, eqb-true _ _ e.1, eqb-false _ _ e.2)

  pub verdict_same :
      claimed.stability ≡ ours.stability → claimed.difficulty ≡ ours.difficulty → claimed.interval ≡ ours.interval
      → verdict_def claimed ours ≡ Accepted
  unfolding verdict_def
  verdict_same s d i = rw (eq-eqb _ _ s, eq-eqb _ _ d, eq-eqb _ _ i)

-- ---- by the refusal's number
module _ (w : List Float) (state : MemoryState) (day retention : Float) (n : ℕ) (e : n ≡ row_refusal_def w state day retention) where
  pub row_refused : (n ≡ 0 → ⊥) → (rating : ℕ) (claimed : Claimed) → Refused n ≡ row_check w state day rating retention claimed
  unfolding row_check
  row_refused h rating claimed = rw (← e, ne_eqb _ 0 h)

  pub row_judged :
      n ≡ 0 → (rating : ℕ) (claimed : Claimed)
      → verdict_def claimed (ours_def w state day rating retention) ≡ row_check w state day rating retention claimed
  unfolding row_check
  row_judged h rating claimed = rw (← e, eq-eqb _ 0 h)

-- ---- a refusal's number is the row's, 0 where there is a verdict
judged_number : (a b c : Bool) → refusal_of_def (picked a b c) ≡ 0
unfolding refusal_of_def
judged_number true true true = refl
judged_number true true false = refl
judged_number true false c = refl
judged_number false b c = refl

module _ (w : List Float) (state : MemoryState) (day : Float) (rating : ℕ) (retention : Float) (claimed : Claimed) where
  abbrev ours : Claimed
  ours = ours_def w state day rating retention

  pub row_number_is : refusal_of_def (row_check w state day rating retention claimed) ≡ row_refusal_def w state day retention
  unfolding row_check verdict_def refusal_of_def
  row_number_is = go (row_refusal_def w state day retention) (eqb (row_refusal_def w state day retention) 0) refl
    where
      go : (n : ℕ) (y : Bool) → y ≡ eqb n 0 → refusal_of_def (cond y (verdict_def claimed ours) (Refused n)) ≡ n
      go n true e =
          judged_number (same_stability claimed ours) (same_difficulty claimed ours) (same_interval claimed ours) ∙ sym (eqb-true n 0 (sym e))
      go n false e = refl

-- ---- what the two entries give: they refuse nothing that the row is not refused for, and their bits are the formulas'
pub scalar_number : (w : List Float) (good : Bool) (x : Float) → (scalar_def w good x).refusal ≡ scalar_refusal_def w good
unfolding scalar_def
scalar_number w good x = go (scalar_refusal_def w good) (eqb (scalar_refusal_def w good) 0) refl
  where
    go : (n : ℕ) (y : Bool) → y ≡ eqb n 0 → (cond y (accepted x) (refused n)).refusal ≡ n
    go n true e = sym (eqb-true n 0 (sym e))
    go n false e = refl

both_true : (a b : Bool) → T a → T b → (a && b) ≡ true
both_true true true s t = refl
both_true true false s t = absurd t
both_true false b s t = absurd s

pub unrefused : (w : List Float) (a b : Bool) → scalar_refusal_def w a ≡ 0 → b ≡ true → scalar_refusal_def w b ≡ 0
unfolding scalar_refusal_def
unrefused w a b h k = rw (answers_weights w a h, k)

module _ (w : List Float) (state : MemoryState) (day : Float) (rating : ℕ) (retention : Float) where
  abbrev after : MemoryState
  after = (next_state_scalar_def w state day rating).state

  module _ (a : (next_state_scalar_def w state day rating).refusal ≡ 0) (b : (interval_scalar w after.stability retention).refusal ≡ 0) where
    after_is : after ≡ next_state_def w state day rating
    unfolding next_state_scalar_def state_def
    after_is = rw a

    step_number : scalar_refusal_def w (finite_memory state && day_good_def day) ≡ 0
    unfolding next_state_scalar_def state_def
    step_number = a

    interval_number : scalar_refusal_def w (finite after.stability && finite retention) ≡ 0
    unfolding interval_scalar
    interval_number = sym (scalar_number w _ _) ∙ b

    interval_is : (interval_scalar w after.stability retention).value ≡ interval_def w after.stability retention
    unfolding interval_scalar scalar_def
    interval_is = rw interval_number

    row_number : row_refusal_def w state day retention ≡ 0
    unfolding row_refusal_def
    row_number =
        unrefused w _ _ step_number
        (both_true (finite_memory state && day_good_def day) (finite retention) (holds (answers_good w _ 0 (sym step_number) refl))
        (and_r (finite after.stability) (finite retention) (holds (answers_good w _ 0 (sym interval_number) refl))))

    -- so they are accepted
    pub entries_accepted :
        row_check w state day rating retention
        (record {
          stability = to_bits binary32 after.stability;
          difficulty = to_bits binary32 after.difficulty;
          interval = to_bits binary32 (interval_scalar w after.stability retention).value;
        })
        ≡ Accepted
    unfolding row_check ours_def
    entries_accepted = rw (row_number, interval_is, after_is) (verdict_same _ _ refl refl refl)
