-- How a review on a day goes on: 1, 2, 13 and 15 in turn, then the state after it. Assumes nothing.
use Rattle.std.proofs.Common.{◌≡◌, ℕ, ◌-◌, ◌<◌, ◌≤◌, Bool, true, false, ◌&&◌, cond, eqb, leb, List, sym, refl, ◌∙◌, ne_eqb, eq-eqb, le-leb, leb-true}
use lib.Ieee.{Float}
use borrow.Author.Tests.{lt-leb}
use Rattle.domain.proofs.Refusals.{never_0}
use Rattle.domain.specs.Refusals.{number}
use Rattle.domain.specs.Weights.{weights_refusal_def}
use Rattle.domain.specs.declared.refusal.Refusal.{Refusal}
use Rattle.model_v6.specs.Answers.{scalar_refusal_def, finite_memory}
use Rattle.model_v6.specs.NextState.{next_state_def}
use Rattle.model_v6.specs.Seen.{day_number_good, on_day_def, on_day_refusal_def, on_day_scalar}
use Rattle.model_v6.specs.Stability.{as_f32}
use Rattle.model_v6.specs.declared.seen.Seen.{Seen}
use Rattle.model_v6.proofs.answers.Answering.{none_bad, none_before}

abbrev pub good : (seen : Seen) (day : ℕ) → Bool
good seen day = finite_memory seen.state && (day_number_good seen.day && day_number_good day)

module _ (w : List Float) (seen : Seen) (day : ℕ) where
  pub day_weights : (e : Refusal) → number e ≡ weights_refusal_def w → number e ≡ on_day_refusal_def w seen day
  unfolding on_day_refusal_def scalar_refusal_def
  day_weights e h = rw (← h, ne_eqb _ 0 (never_0 e), ne_eqb _ 0 (never_0 e))

  pub day_argument : weights_refusal_def w ≡ 0 → good seen day ≡ false → 13 ≡ on_day_refusal_def w seen day
  unfolding on_day_refusal_def scalar_refusal_def
  day_argument h g = rw (h, g)

  pub day_earlier : weights_refusal_def w ≡ 0 → good seen day ≡ true → day < seen.day → 15 ≡ on_day_refusal_def w seen day
  unfolding on_day_refusal_def scalar_refusal_def
  day_earlier h g k = rw (h, g, lt-leb _ _ k)

  pub day_passes : weights_refusal_def w ≡ 0 → good seen day ≡ true → seen.day ≤ day → 0 ≡ on_day_refusal_def w seen day
  unfolding on_day_refusal_def scalar_refusal_def
  day_passes h g k = rw (h, g, le-leb _ _ k)

  pub on_day_refused : (rating : ℕ) (e : Refusal) → number e ≡ on_day_refusal_def w seen day → record { refusal = number e; seen = seen } ≡ on_day_scalar w seen day rating
  unfolding on_day_scalar
  on_day_refused rating e h = rw (← h, ne_eqb _ 0 (never_0 e))

  pub on_day_accepted :
      (rating : ℕ) → 0 ≡ on_day_refusal_def w seen day
      → record { refusal = 0; seen = record { state = next_state_def w seen.state (as_f32 (day - seen.day)) rating; day = day } } ≡ on_day_scalar w seen day rating
  unfolding on_day_scalar on_day_def
  on_day_accepted rating h = rw (← h)

  -- over a number of its own, so that where the definition is another one the two terms that differ are small
  on_day_parts : (m : ℕ) → m ≡ scalar_refusal_def w (good seen day) → on_day_refusal_def w seen day ≡ cond (eqb m 0) (cond (leb seen.day day) 0 15) m
  unfolding on_day_refusal_def
  on_day_parts m f = rw (← f)

  -- so the days have a difference
  pub in_order : 0 ≡ on_day_refusal_def w seen day → seen.day ≤ day
  in_order h = leb-true _ _ (none_bad 14 (scalar_refusal_def w (good seen day)) _ (leb seen.day day) refl (sym (on_day_parts _ refl) ∙ sym h))

-- ---- the same of the number of 1, 2 and 13, and what is known where there is none
module _ (w : List Float) (seen : Seen) (day n : ℕ) (e : n ≡ scalar_refusal_def w (good seen day)) where
  pub earlier_day : n ≡ 0 → day < seen.day → 15 ≡ on_day_refusal_def w seen day
  unfolding on_day_refusal_def
  earlier_day h k = rw (← e, eq-eqb _ 0 h, lt-leb _ _ k)

  pub no_earlier_day : n ≡ 0 → seen.day ≤ day → 0 ≡ on_day_refusal_def w seen day
  unfolding on_day_refusal_def
  no_earlier_day h k = rw (← e, eq-eqb _ 0 h, le-leb _ _ k)

pub on_day_good : (w : List Float) (seen : Seen) (day n : ℕ) → n ≡ on_day_refusal_def w seen day → n ≡ 0 → 0 ≡ scalar_refusal_def w (good seen day)
on_day_good w seen day n e h = sym (none_before 14 (scalar_refusal_def w (good seen day)) _ (leb seen.day day) refl (sym (on_day_parts w seen day _ refl) ∙ sym e ∙ h))

pub ruleset checks = (day_weights, day_argument, day_earlier, day_passes)

pub ruleset on_day = (on_day_refused, on_day_accepted, in_order)
