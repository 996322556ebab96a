-- The day that a state carries. That a difference of days is a good day stands in laws/proofs/Values/Days.antt. Assumes nothing.
use Prim.Native.Nat.{ℕ, ◌-◌, ◌<◌, ◌≤◌}
use native.Mathlib.Nat.{le_trans, le_of_lt, lt_of_le_of_lt, sub-le, sub_self}
use mathlib.Core.Path.{◌≡◌, refl, sym}
use mathlib.Core.Bool.{Bool, true, ◌&&◌}
use mathlib.Core.List.{List}
use borrow.Author.Tests.{ne_eqb, le-leb, leb-true}
use lib.Dec.{T, lit<}
use lib.Ieee.{Float, eq, lt, is_nan, of_int, of_bits, round}
use lib.Ieee.Bits.{is_true}
use lib.Ieee.Fits.{and_i, and_l, and_r}
use Rattle.soft.specs.HalfAway.{round_def}
use Rattle.soft.proofs.units.Value.{holds}
use Rattle.domain.specs.Floats.{clamp_def, max_def}
use Rattle.domain.specs.Limits.{zero32, s_min_def, s_max_def, day_good_def}
use Rattle.domain.specs.Weights.{weights_refusal_def}
use Rattle.model_v6.specs.Answers.{scalar_refusal_def, state_def, finite_memory, next_state_scalar_def}
use Rattle.model_v6.specs.Curve.{days_def}
use Rattle.model_v6.specs.NextState.{clamp_rating_def, stability_after_def, next_state_def}
use Rattle.model_v6.specs.Seen.{day_number_max, day_number_good, on_day_def, on_day_refusal_def, on_day_scalar}
use Rattle.model_v6.specs.Stability.{as_f32, stability_short_term_def}
use Rattle.model_v6.specs.declared.seen.Seen.{Seen}
use Rattle.model_v6.specs.declared.state.MemoryState.{MemoryState}
use Rattle.model_v6.proofs.answers.Answering.{none_before, answers_good}
use Rattle.model_v6.proofs.seen.Answering.{good, earlier_day, no_earlier_day, on_day_good}
use Rattle.laws.proofs.Values.Days.{whole_value, whole_good, whole_kept}
use Rattle.promises.specs.Carried.{Carried}

-- ---- 1, 2 and 13: none is given
unrefused : (w : List Float) (b : Bool) → weights_refusal_def w ≡ 0 → T b → 0 ≡ scalar_refusal_def w b
unfolding scalar_refusal_def
unrefused w b e h = rw (e, is_true b h)

weights_good : (w : List Float) (b : Bool) → 0 ≡ scalar_refusal_def w b → weights_refusal_def w ≡ 0
unfolding scalar_refusal_def
weights_good w b e = none_before 12 (weights_refusal_def w) _ b refl (sym e)

-- ---- an accepted review
module _ (w : List Float) (seen : Seen) (day rating : ℕ) (e : (on_day_scalar w seen day rating).refusal ≡ 0) where
  number : 0 ≡ on_day_refusal_def w seen day
  unfolding on_day_scalar
  number = sym e

  free : 0 ≡ scalar_refusal_def w (good seen day)
  free = on_day_good w seen day 0 number refl

  tests : T (good seen day)
  tests = holds (answers_good w (good seen day) 0 free refl)

  abbrev days : Bool
  days = day_number_good seen.day && day_number_good day

  in_range : day - seen.day ≤ day_number_max
  in_range =
      le_trans (sub-le day seen.day)
      (leb-true day day_number_max (is_true _ (and_r (day_number_good seen.day) (day_number_good day) (and_r (finite_memory seen.state) days tests))))

  as_after : 0 ≡ (next_state_scalar_def w seen.state (as_f32 (day - seen.day)) rating).refusal
  unfolding next_state_scalar_def state_def
  as_after =
      unrefused w _ (weights_good w (good seen day) free)
      (and_i (finite_memory seen.state) (day_good_def (as_f32 (day - seen.day))) (and_l (finite_memory seen.state) days tests) (whole_good _ in_range))

  as_seen :
      (on_day_scalar w seen day rating).seen
      ≡ record { state = (next_state_scalar_def w seen.state (as_f32 (day - seen.day)) rating).state; day = day }
  unfolding on_day_scalar on_day_def next_state_scalar_def state_def
  as_seen = rw (← number, ← as_after)

-- ---- an earlier day, and any other
module _ (w : List Float) (seen : Seen) (day rating : ℕ) (b : weights_refusal_def w ≡ 0) (f : T (finite_memory seen.state)) where
  both_good : seen.day ≤ day_number_max → day ≤ day_number_max → 0 ≡ scalar_refusal_def w (good seen day)
  both_good h k =
      let a = day_number_good seen.day in
      let c = day_number_good day in
      unrefused w (good seen day) b
      (and_i (finite_memory seen.state) (a && c) f (and_i a c (holds (le-leb seen.day day_number_max h)) (holds (le-leb day day_number_max k))))

  fifteen : seen.day ≤ day_number_max → day < seen.day → (on_day_scalar w seen day rating).refusal ≡ 15
  unfolding on_day_scalar
  fifteen h k = sym (earlier_day w seen day 0 (both_good h (le_trans (le_of_lt k) h)) refl k)

  taken : day ≤ day_number_max → seen.day ≤ day → (on_day_scalar w seen day rating).refusal ≡ 0
  unfolding on_day_scalar
  taken h k = sym (no_earlier_day w seen day 0 (both_good (le_trans k h) h) refl k)

-- ---- the same day: no days are 0 days, which is next_state_scalar's test
none_elapsed : (day : ℕ) → eq (days_def (as_f32 (day - day))) zero32 ≡ true
unfolding days_def round_def max_def round of_int of_bits is_nan lt eq
none_elapsed day = rw (sub_self day)

short_term :
    (w : List Float) (seen : Seen) (rating : ℕ) → (on_day_scalar w seen seen.day rating).refusal ≡ 0
    → (on_day_scalar w seen seen.day rating).seen.state.stability
    ≡ stability_short_term_def w (clamp_def seen.state.stability s_min_def s_max_def) (clamp_rating_def rating)
unfolding on_day_scalar on_day_def next_state_def stability_after_def
short_term w seen rating e = rw (e, none_elapsed seen.day)

-- ---- what is handed back
handed : (w : List Float) (seen : Seen) (day rating : ℕ) → ((on_day_scalar w seen day rating).refusal ≡ 0 → ⊥) → (on_day_scalar w seen day rating).seen ≡ seen
unfolding on_day_scalar
handed w seen day rating h = rw (ne_eqb _ 0 h)

state_handed :
    (w : List Float) (state : MemoryState) (delta-t : Float) (rating : ℕ) → ((next_state_scalar_def w state delta-t rating).refusal ≡ 0 → ⊥)
    → (next_state_scalar_def w state delta-t rating).state ≡ state
unfolding next_state_scalar_def state_def
state_handed w state delta-t rating h = rw (ne_eqb _ 0 h)

pub carried : Carried
carried = record {
  elapsed = λ n h. (whole_value n (lt_of_le_of_lt h (lit< tt)), whole_kept n (lt_of_le_of_lt h (lit< tt)));
  as_before = λ w q day rating e. (sym (as_after w q day rating e), as_seen w q day rating e);
  earlier = fifteen;
  not_earlier = taken;
  same_day = short_term;
  handed_back = handed;
  state_handed_back = state_handed;
}
