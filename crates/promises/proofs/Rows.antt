-- Rows that an app exports. The laws of a verdict stand beside its definition (model_v6/proofs/rows/Verdicts.antt). Assumes nothing.
use Prim.Native.Nat.{ℕ, suc, ◌-◌}
use native.Mathlib.Omega.{arith}
use mathlib.Core.Bool.{Bool, true, false, ◌&&◌}
use mathlib.Core.List.{List}
use mathlib.Core.Path.{◌≡◌, refl, sym, ap, ◌∙◌, subst}
use borrow.Author.Tests.{eqb-true, eqb-false}
use lib.Dec.{T, eqb}
use lib.Ieee.{Float, is_nan}
use lib.Ieee.Bits.{is_true}
use lib.Ieee.Fits.{and_i, and_l, and_r}
use lib.Ieee.Scale.{finite}
use Rattle.soft.proofs.units.Value.{holds}
use Rattle.domain.specs.Floats.{within}
use Rattle.domain.specs.Limits.{zero32, s_min_def, s_max_def, d_min, d_max, day_good_def, stability_good, difficulty_good_def}
use Rattle.domain.specs.Weights.{weights_refusal_def}
use Rattle.laws.proofs.Ranges.Interval.{stability_finite, within_number, interval_good}
use Rattle.laws.proofs.Ranges.Scalars.{next_good}
use Rattle.model_v6.specs.Answers.{scalar_refusal_def, state_def, finite_memory, next_state_scalar_def, interval_scalar}
use Rattle.model_v6.specs.Curve.{interval_def}
use Rattle.model_v6.specs.Rows.{RowCheck, Refused, Accepted, ours_def, verdict_def, row_refusal_def, row_check, refusal_of_def, verdict_of_def}
use Rattle.model_v6.specs.Seen.{on_day_scalar}
use Rattle.model_v6.specs.Stability.{as_f32}
use Rattle.model_v6.specs.declared.rows.Claimed.{Claimed}
use Rattle.model_v6.specs.declared.seen.Seen.{Seen}
use Rattle.model_v6.specs.declared.state.MemoryState.{MemoryState}
use Rattle.model_v6.proofs.answers.Answering.{none_before, answers_good}
use Rattle.model_v6.proofs.rows.Verdicts.{verdict_0, verdict_1, verdict_2, verdict_3, verdict_same, row_refused, row_judged, row_number_is, scalar_number, unrefused, entries_accepted}
use Rattle.promises.specs.Rows.{Row, check, refusal, after, interval, Has, bits_of, Singles, Rows}
use Rattle.promises.proofs.Carried.{carried}

impossible : (k : ℕ) → suc k ≡ 0 → ⊥
impossible k h = omega (arith, h)

module _ (r : Row) (claimed : Claimed) where
  abbrev ours : Claimed
  ours = ours_def r.w r.before r.day r.rating r.retention

  number_is : row_refusal_def r.w r.before r.day r.retention ≡ refusal r
  unfolding row_refusal_def
  number_is = refl

  -- a verdict's number is of our bits
  verdict_is : refusal r ≡ 0 → check r claimed ≡ verdict_def claimed ours
  verdict_is h = sym (row_judged r.w r.before r.day r.retention (refusal r) (sym number_is) h r.rating claimed)

  none_refused : refusal_of_def (check r claimed) ≡ 0 → refusal r ≡ 0
  none_refused h = sym number_is ∙ sym (row_number_is r.w r.before r.day r.rating r.retention claimed) ∙ h

  refused_is : (refusal r ≡ 0 → ⊥) → check r claimed ≡ Refused (refusal r)
  refused_is h = sym (row_refused r.w r.before r.day r.retention (refusal r) (sym number_is) h r.rating claimed)

  no_verdict : (n : ℕ) → verdict_of_def (Refused n) ≡ 0
  unfolding verdict_of_def
  no_verdict n = refl

  -- a field is named only where the row is not refused
  named : (k : ℕ) → verdict_of_def (check r claimed) ≡ suc k → refusal r ≡ 0
  named k h = go (eqb (refusal r) 0) refl
    where
      go : (b : Bool) → b ≡ eqb (refusal r) 0 → refusal r ≡ 0
      go true e = eqb-true (refusal r) 0 (sym e)
      go false e = absurd (impossible k (sym h ∙ ap (λ (a : RowCheck). verdict_of_def a) (refused_is (eqb-false (refusal r) 0 (sym e))) ∙ no_verdict (refusal r)))

  judging : (k : ℕ) → refusal r ≡ 0 → verdict_of_def (check r claimed) ≡ k → verdict_of_def (verdict_def claimed ours) ≡ k
  judging k h e = ap (λ (a : RowCheck). verdict_of_def a) (sym (verdict_is h)) ∙ e

  all_ours :
      refusal_of_def (check r claimed) ≡ 0 → verdict_of_def (check r claimed) ≡ 0
      → Has claimed.stability (after r).stability × Has claimed.difficulty (after r).difficulty × Has claimed.interval (interval r)
  unfolding ours_def
  all_ours h e = verdict_0 claimed ours (judging 0 (none_refused h) e)

  ours_accepted :
      refusal r ≡ 0 → Has claimed.stability (after r).stability → Has claimed.difficulty (after r).difficulty → Has claimed.interval (interval r)
      → check r claimed ≡ Accepted
  unfolding ours_def
  ours_accepted h s d i = verdict_is h ∙ verdict_same claimed ours s d i

  stability_named : verdict_of_def (check r claimed) ≡ 1 → Has claimed.stability (after r).stability → ⊥
  unfolding ours_def
  stability_named h = verdict_1 claimed ours (judging 1 (named 0 h) h)

  difficulty_named :
      verdict_of_def (check r claimed) ≡ 2 → Has claimed.stability (after r).stability × (Has claimed.difficulty (after r).difficulty → ⊥)
  unfolding ours_def
  difficulty_named h = verdict_2 claimed ours (judging 2 (named 1 h) h)

  interval_named :
      verdict_of_def (check r claimed) ≡ 3
      → Has claimed.stability (after r).stability × Has claimed.difficulty (after r).difficulty × (Has claimed.interval (interval r) → ⊥)
  unfolding ours_def
  interval_named h = verdict_3 claimed ours (judging 3 (named 2 h) h)

-- ---- a review on a day is one after the days between
on_day :
    (w : List Float) (seen : Seen) (day rating : ℕ) (retention : Float)
    → (let q = on_day_scalar w seen day rating in
    let i = interval_scalar w q.seen.state.stability retention in
    q.refusal ≡ 0 → i.refusal ≡ 0
    → row_check w seen.state (as_f32 (day - seen.day)) rating retention (bits_of q.seen.state i.value) ≡ Accepted)
on_day w seen day rating retention a b =
    let e = carried.as_before w seen day rating a in
    rw e.1
    (entries_accepted w seen.state (as_f32 (day - seen.day)) rating retention e.0
    (subst (λ (s : Seen). (interval_scalar w s.state.stability retention).refusal ≡ 0) e.1 b))

-- ---- what a row is held to
module _ (r : Row) (k : Singles r) (h : refusal r ≡ 0) where
  abbrev step : Bool
  step = finite_memory r.before && day_good_def r.day

  tests : T (step && finite r.retention)
  tests = holds (answers_good r.w (step && finite r.retention) 0 (sym h) refl)

  step_tests : T step
  step_tests = and_l step (finite r.retention) tests

  box : weights_refusal_def r.w ≡ 0
  unfolding scalar_refusal_def
  box = none_before 12 (weights_refusal_def r.w) _ (step && finite r.retention) refl h

  abbrev state_after : T (stability_good (after r).stability) × T (difficulty_good_def (after r).difficulty)
  state_after =
      let m = and_l (finite_memory r.before) (day_good_def r.day) step_tests in
      let fs = finite r.before.stability in
      let fd = finite r.before.difficulty in
      next_good r.w k.weights box r.before r.day r.rating k.stability k.difficulty (and_l fs fd m) (and_r fs fd m)
      (and_r (finite_memory r.before) (day_good_def r.day) step_tests)

  in_ranges : T (stability_good (after r).stability) × T (difficulty_good_def (after r).difficulty) × T (within (interval r) zero32 s_max_def)
  in_ranges =
      let s = state_after in
      (s.0, s.1, interval_good r.w box (after r).stability s.0 r.retention (and_r step (finite r.retention) tests))

  are_numbers : (is_nan (after r).stability ≡ false) × (is_nan (after r).difficulty ≡ false) × (is_nan (interval r) ≡ false)
  are_numbers =
      let i = in_ranges in
      (within_number (after r).stability s_min_def s_max_def i.0, within_number (after r).difficulty d_min d_max i.1, within_number (interval r) zero32 s_max_def i.2)

  state_number : (next_state_scalar_def r.w r.before r.day r.rating).refusal ≡ 0
  unfolding next_state_scalar_def state_def
  state_number = unrefused r.w (step && finite r.retention) step h (is_true step step_tests)

  state_is : (next_state_scalar_def r.w r.before r.day r.rating).state ≡ after r
  unfolding next_state_scalar_def state_def
  state_is = rw state_number

  interval_number : (s : Float) → T (finite s) → (interval_scalar r.w s r.retention).refusal ≡ 0
  unfolding interval_scalar
  interval_number s f =
      let b = finite s && finite r.retention in
      scalar_number r.w b (interval_def r.w s r.retention)
      ∙ unrefused r.w (step && finite r.retention) b h (is_true b (and_i (finite s) (finite r.retention) f (and_r step (finite r.retention) tests)))

pub rows : Rows
rows = record {
  refused = refused_is;
  judged = λ r c h. row_number_is r.w r.before r.day r.rating r.retention c ∙ number_is r c ∙ h;
  accepted = all_ours;
  exactly = ours_accepted;
  wrong_stability = stability_named;
  wrong_difficulty = difficulty_named;
  wrong_interval = interval_named;
  always = λ r a b. entries_accepted r.w r.before r.day r.rating r.retention a b;
  always_on = on_day;
  ranges = in_ranges;
  numbers = are_numbers;
  as_before = λ r k h. (
    state_number r k h,
    subst (λ (q : MemoryState). (interval_scalar r.w q.stability r.retention).refusal ≡ 0) (sym (state_is r k h))
        (interval_number r k h (after r).stability (stability_finite (after r).stability (in_ranges r k h).0)),
  );
}
