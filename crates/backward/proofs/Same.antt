-- A step's reverse depends on no weight but those that its branch reads, and weight 20. Assumes nothing.
use Rattle.std.proofs.Common.{◌≡◌, ℕ, Bool, cond, List, [], ◌∷◌, refl}
use lib.Ieee.{Float, eq}
use Rattle.domain.specs.Limits.{one, two, four}
use Rattle.domain.specs.Weights.{◌!◌}
use Rattle.forward.specs.Params.{params_def}
use Rattle.forward.specs.declared.state.Branch.{Branch}
use Rattle.forward.specs.declared.state.Branch.TheVariants.{Padding, First, SameDay, Lapse, Success}
use Rattle.forward.specs.WeightsRead.{among, common, success_weights, Agree}
use Rattle.forward.specs.declared.state.StepRecord.{StepRecord}
use Rattle.forward.proofs.Agreement.{before, after, one_of, long_of}
use Rattle.backward.specs.Difficulty.{difficulty_back, difficulty_moved, init_moved}
use Rattle.backward.specs.Failure.{failure_back, failure_moved}
use Rattle.backward.specs.Success.{success_of, success_back_def, success_moved_def}
use Rattle.backward.specs.Moves.{reverse_reads}
use Rattle.backward.specs.Step.{through_short, through_lapse, through_success, through_difficulty, then_short, then_lapse, then_success, then_difficulty}
use Rattle.backward.specs.Step.{short_flow_def, short_all, lapse_flow_def, lapse_all, success_flow_def, success_all, first_moved, flow_def, flow_moved}
use Rattle.backward.specs.Step.{curve_of, step_grad, step_moved, pre_grad}

module _ (w v : List Float) (c : StepRecord) where
  same_difficulty : (g : Float) → Agree common w v → through_difficulty (params_def w) c g ≡ through_difficulty (params_def v) c g
  unfolding difficulty_back params_def among
  same_difficulty g h = rw (h 6 refl, h 7 refl)

  then_same : (g : Float) (gw : List Float) → Agree common w v → then_difficulty (params_def w) c g gw ≡ then_difficulty (params_def v) c g gw
  unfolding difficulty_moved params_def among
  then_same g gw h = rw (h 4 refl, h 5 refl, h 6 refl, h 7 refl)

  same_parts :
      (g : Float) → Agree (success_weights c.rating) w v →
      success_of (params_def w) c.last c.rating c.retrievability g ≡ success_of (params_def v) c.last c.rating c.retrievability g
  unfolding params_def among
  same_parts g h =
      let l = long_of w v c.rating h in
      let two-of = before w v (cond (eq c.rating two) (15 ∷ []) []) _ h in
      let four-of = before w v (cond (eq c.rating four) (16 ∷ []) []) _ (after w v (cond (eq c.rating two) (15 ∷ []) []) _ h) in
      rw (l 8 refl, l 9 refl, l 10 refl, one_of w v _ 15 two-of one, one_of w v _ 16 four-of one)

  same_short :
      (raw value : Float) (active : Bool) (g : Float) → Agree (17 ∷ 18 ∷ 19 ∷ common) w v →
      through_short (params_def w) c raw value active g ≡ through_short (params_def v) c raw value active g
  unfolding params_def among
  same_short raw value active g h = rw (h 19 refl)

  short_same :
      (raw : Float) (active : Bool) (g : Float) (gw : List Float) → Agree (17 ∷ 18 ∷ 19 ∷ common) w v →
      then_short (params_def w) c raw active g gw ≡ then_short (params_def v) c raw active g gw
  unfolding params_def among
  short_same raw active g gw h = rw (h 17 refl, h 18 refl)

  same_lapse :
      (raw floor : Float) (floored : Bool) (g : Float) → Agree (11 ∷ 12 ∷ 13 ∷ 14 ∷ 17 ∷ 18 ∷ common) w v →
      through_lapse (params_def w) c raw floor floored g ≡ through_lapse (params_def v) c raw floor floored g
  unfolding failure_back params_def among
  same_lapse raw floor floored g h = rw (h 11 refl, h 12 refl, h 13 refl, h 14 refl)

  lapse_same :
      (raw floor : Float) (floored : Bool) (g : Float) (gw : List Float) → Agree (11 ∷ 12 ∷ 13 ∷ 14 ∷ 17 ∷ 18 ∷ common) w v →
      then_lapse (params_def w) c raw floor floored g gw ≡ then_lapse (params_def v) c raw floor floored g gw
  unfolding failure_moved params_def among
  lapse_same raw floor floored g gw h = rw (h 11 refl, h 12 refl, h 13 refl, h 14 refl, h 17 refl, h 18 refl)

  success_same : (g : Float) → Agree (success_weights c.rating) w v → through_success (params_def w) c g ≡ through_success (params_def v) c g
  unfolding success_back_def
  success_same g h = rw (same_parts g h)

  long_same :
      (g : Float) (gw : List Float) → Agree (success_weights c.rating) w v → then_success (params_def w) c g gw ≡ then_success (params_def v) c g gw
  unfolding success_moved_def
  long_same g gw h = rw (same_parts g h)

  flow_same :
      (b : Branch) (g-s g-d g-r : Float) → Agree (reverse_reads b c.rating) w v →
      flow_def (params_def w) c b g-s g-d g-r ≡ flow_def (params_def v) c b g-s g-d g-r
  unfolding flow_def reverse_reads short_flow_def lapse_flow_def success_flow_def
  flow_same Padding g-s g-d g-r h = refl
  flow_same (First n) g-s g-d g-r h = refl
  flow_same (SameDay raw value active) g-s g-d g-r h =
      rw (same_short raw value active g-s h, same_difficulty g-d (after w v (17 ∷ 18 ∷ 19 ∷ []) common h))
  flow_same (Lapse raw floor floored) g-s g-d g-r h =
      rw (same_lapse raw floor floored g-s h, same_difficulty g-d (after w v (11 ∷ 12 ∷ 13 ∷ 14 ∷ 17 ∷ 18 ∷ []) common h))
  flow_same Success g-s g-d g-r h =
      rw (success_same g-s h, same_difficulty g-d (after w v (8 ∷ 9 ∷ 10 ∷ []) common (long_of w v c.rating h)))

  first_same :
      (n : ℕ) (g-s g-d : Float) (gw : List Float) → Agree (4 ∷ 5 ∷ 20 ∷ []) w v →
      init_moved ((params_def w).w ! 4) ((params_def w).w ! 5) n g-s g-d gw ≡ init_moved ((params_def v).w ! 4) ((params_def v).w ! 5) n g-s g-d gw
  unfolding params_def among
  first_same n g-s g-d gw h = rw (h 4 refl, h 5 refl)

  moved_same :
      (b : Branch) (g-s g-d : Float) (gw : List Float) → Agree (reverse_reads b c.rating) w v →
      flow_moved (params_def w) c b g-s g-d gw ≡ flow_moved (params_def v) c b g-s g-d gw
  unfolding flow_moved reverse_reads first_moved short_all lapse_all success_all
  moved_same Padding g-s g-d gw h = refl
  moved_same (First n) g-s g-d gw h = first_same n g-s g-d gw h
  moved_same (SameDay raw value active) g-s g-d gw h =
      rw (short_same raw active g-s gw h) (then_same g-d _ (after w v (17 ∷ 18 ∷ 19 ∷ []) common h))
  moved_same (Lapse raw floor floored) g-s g-d gw h =
      rw (lapse_same raw floor floored g-s gw h) (then_same g-d _ (after w v (11 ∷ 12 ∷ 13 ∷ 14 ∷ 17 ∷ 18 ∷ []) common h))
  moved_same Success g-s g-d gw h =
      rw (long_same g-s gw h) (then_same g-d _ (after w v (8 ∷ 9 ∷ 10 ∷ []) common (long_of w v c.rating h)))

  twenty_of : (b : Branch) → Agree (reverse_reads b c.rating) w v → w ! 20 ≡ v ! 20
  unfolding reverse_reads among
  twenty_of Padding h = h 20 refl
  twenty_of (First n) h = h 20 refl
  twenty_of (SameDay raw value active) h = h 20 refl
  twenty_of (Lapse raw floor floored) h = h 20 refl
  twenty_of Success h = long_of w v c.rating h 20 refl

  same_curve : w ! 20 ≡ v ! 20 → curve_of (params_def w) c ≡ curve_of (params_def v) c
  unfolding params_def
  same_curve e = rw e

  same_slope : w ! 20 ≡ v ! 20 → (params_def w).curve_dfactor_ddecay ≡ (params_def v).curve_dfactor_ddecay
  unfolding params_def
  same_slope e = rw e

  -- the law, for the gradients and for the slots
  pub same_grad :
      (g-out-s g-out-d g-r : Float) → Agree (reverse_reads c.branch c.rating) w v →
      step_grad (params_def w) c g-out-s g-out-d g-r ≡ step_grad (params_def v) c g-out-s g-out-d g-r
  unfolding step_grad
  same_grad g-out-s g-out-d g-r h = rw (flow_same c.branch (pre_grad c g-out-s) g-out-d g-r h, same_curve (twenty_of c.branch h))

  pub same_moved :
      (g-out-s g-out-d g-r : Float) (gw : List Float) → Agree (reverse_reads c.branch c.rating) w v →
      step_moved (params_def w) c g-out-s g-out-d g-r gw ≡ step_moved (params_def v) c g-out-s g-out-d g-r gw
  unfolding step_moved
  same_moved g-out-s g-out-d g-r gw h =
      rw (
        flow_same c.branch (pre_grad c g-out-s) g-out-d g-r h,
        moved_same c.branch (pre_grad c g-out-s) g-out-d gw h,
        same_curve (twenty_of c.branch h),
        same_slope (twenty_of c.branch h),
      )
