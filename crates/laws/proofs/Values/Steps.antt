-- Whole steps at row 1, from a state inside the ranges, with weights inside the box: document 01's values 7 to 10. Assumes nothing.
use mathlib.Core.Path.{◌≡◌, refl, ap, ◌∙◌}
use mathlib.Core.Bool.{true, false}
use mathlib.Core.List.{List}
use Prim.Native.Nat.{ℕ}
use lib.Dec.{T, lit<}
use lib.IntN.{pos}
use lib.Ieee.{Float, fin, binary32, of_bits, fits, neg, eq}
use Rattle.kernels.specs.Calls.{exp32}
use Rattle.domain.specs.Floats.{◌*ᶠ◌, ◌/ᶠ◌, clamp_def}
use Rattle.domain.specs.Limits.{zero32, one, three, s_min_def, s_max_def, d_min, d_max, stability_good, difficulty_good_def}
use Rattle.domain.specs.Weights.{◌!◌, weights_refusal_def}
use Rattle.forward.specs.Curve.{curve_forward_def}
use Rattle.forward.specs.Params.{curve_factor_def, params_def}
use Rattle.forward.specs.declared.parameters.RuntimeParams.{RuntimeParams}
use Rattle.forward.specs.declared.state.Branch.TheVariants.{SameDay, Lapse}
use Rattle.forward.specs.declared.state.Move.{Move}
use Rattle.forward.specs.declared.state.State.{State}
use Rattle.forward.specs.Step.{clamp_state_def, is_first_def, difficulty_def, move_def, review_def, step_def}
use Rattle.laws.proofs.Values.Powers.{plus_exp, exp_size}
use Rattle.laws.proofs.Values.Zeros.{is_zero}
use Rattle.laws.proofs.Values.Box.{weight_size, above_11, above_20, least_20}
use Rattle.laws.proofs.Values.States.{Held, held, stays_s, stays_d, stays_state, rises}
use Rattle.laws.proofs.Values.Curve.{after_day, early}
use Rattle.laws.proofs.Values.Moves.{same_day, success}
use Rattle.laws.proofs.Values.Lapse.{lapse}
use Rattle.laws.proofs.Values.Difficulty.{easy_size, unchanged}

-- ---- any step at row 1 that is no padding is a review
later : (p : RuntimeParams) (q : State) (day rating : Float) → eq rating zero32 ≡ false → step_def p q day rating 1 ≡ review_def p q day rating
unfolding step_def is_first_def
later p q day rating e = rw e

three_not_none : eq three zero32 ≡ false
unfolding eq of_bits
three_not_none = refl

one_not_none : eq one zero32 ≡ false
unfolding eq of_bits
one_not_none = refl

three_not_one : eq three one ≡ false
unfolding eq of_bits
three_not_one = refl

one_is_one : eq one one ≡ true
unfolding eq of_bits
one_is_one = refl

early_not_none : eq (neg one) zero32 ≡ false
unfolding eq neg of_bits
early_not_none = refl

-- weights inside the box, and a state inside the ranges, all of them singles
pub record Ready (w : List Float) (q : State) : Type 0 where
  pub singles : (k : ℕ) → T (fits binary32 (w ! k))
  pub box : weights_refusal_def w ≡ 0
  pub ks : T (fits binary32 q.s)
  pub kd : T (fits binary32 q.d)
  pub hs : T (stability_good q.s)
  pub hd : T (difficulty_good_def q.d)

module _ (w : List Float) (q : State) (ready : Ready w q) where
  open ready use {singles, box, ks, kd, hs, hd}

  abbrev p : RuntimeParams
  p = params_def w

  abbrev mine : Held q
  mine = held q ks kd hs hd

  abbrev recall : (day s : Float) → Float
  recall day s = (curve_forward_def (neg (w ! 20)) (curve_factor_def (neg (w ! 20))) day s).retrievability

  abbrev move : (last : State) (day rating : Float) → Move
  move last day rating = move_def p last day rating (recall day last.s)

  stability_is : (day rating : Float) → eq rating zero32 ≡ false → (step_def p q day rating 1).state.s ≡ clamp_def (move q day rating).s s_min_def s_max_def
  unfolding review_def clamp_state_def params_def
  stability_is day rating e = rw (later p q day rating e) (ap (λ (last : State). clamp_def (move last day rating).s s_min_def s_max_def) (stays_state q hs hd))

  branch_is : (day rating : Float) → eq rating zero32 ≡ false → (step_def p q day rating 1).step.branch ≡ (move q day rating).branch
  unfolding review_def clamp_state_def params_def
  branch_is day rating e = rw (later p q day rating e) (ap (λ (last : State). (move last day rating).branch) (stays_state q hs hd))

  -- ---- 7: on the same day
  module _ (day : Float) (z17 : eq (w ! 17) zero32 ≡ true) (z19 : eq (w ! 19) zero32 ≡ true) (today : eq day zero32 ≡ true) where
    same_move : move q day three ≡ record { s = q.s; branch = SameDay one one true }
    unfolding move_def params_def
    same_move = rw today (same_day (w ! 17) (w ! 18) (w ! 19) q.s (is_zero (w ! 17) (singles 17) z17) (weight_size w box 18 (lit< tt)) (is_zero (w ! 19) (singles 19) z19) mine.above_s ks)

    pub same_stability : (step_def p q day three 1).state.s ≡ q.s
    same_stability = stability_is day three three_not_none ∙ ap (λ (m : Move). clamp_def m.s s_min_def s_max_def) same_move ∙ stays_s q.s hs

    pub same_branch : (step_def p q day three 1).step.branch ≡ SameDay one one true
    same_branch = branch_is day three three_not_none ∙ ap (λ (m : Move). m.branch) same_move

  -- ---- 8: a lapse
  module _ (z13 : eq (w ! 13) zero32 ≡ true) where
    abbrev floor : Float
    floor = q.s /ᶠ exp32 (w ! 17 *ᶠ w ! 18)

    lapse_move : move q one one ≡ record { s = fin false 0 (pos 0); branch = Lapse (fin false 0 (pos 0)) floor false }
    unfolding move_def params_def
    lapse_move =
        rw (one_not_none, one_is_one)
        (lapse (w ! 11) (w ! 12) (w ! 13) (w ! 14) (exp32 (w ! 17 *ᶠ w ! 18)) q (recall one q.s) (weight_size w box 11 (lit< tt)) (above_11 w box) (weight_size w box 12 (lit< tt)) (is_zero (w ! 13) (singles 13) z13) (weight_size w box 14 (lit< tt)) (plus_exp (w ! 17 *ᶠ w ! 18)) mine
        (after_day (w ! 20) (above_20 w box) (weight_size w box 20 (lit< tt)) (least_20 w box) q.s mine.above_s mine.least_s (singles 20)))

    pub lapse_stability : (step_def p q one one 1).state.s ≡ s_min_def
    lapse_stability = stability_is one one one_not_none ∙ ap (λ (m : Move). clamp_def m.s s_min_def s_max_def) lapse_move ∙ rises

    pub lapse_branch : (step_def p q one one 1).step.branch ≡ Lapse (fin false 0 (pos 0)) floor false
    lapse_branch = branch_is one one one_not_none ∙ ap (λ (m : Move). m.branch) lapse_move

  -- ---- 9: a success before day 0
  early_move : (move q (neg one) three).s ≡ q.s
  unfolding move_def params_def
  early_move =
      rw (early_not_none, three_not_one, early (w ! 20) (above_20 w box) (weight_size w box 20 (lit< tt)) (least_20 w box) q.s mine.above_s mine.least_s, success (exp32 (w ! 8)) (w ! 9) (w ! 10) (w ! 15) (w ! 16) q (exp_size 3 12 (w ! 8) (lit< tt) (lit< tt) (weight_size w box 8 (lit< tt))) (weight_size w box 9 (lit< tt)) (weight_size w box 10 (lit< tt)) mine)

  pub early_stability : (step_def p q (neg one) three 1).state.s ≡ q.s
  early_stability = stability_is (neg one) three three_not_none ∙ ap (λ (s : Float). clamp_def s s_min_def s_max_def) early_move ∙ stays_s q.s hs

  -- ---- 10: the difficulty
  pub same_difficulty : (day : Float) → eq (w ! 7) zero32 ≡ true → (step_def p q day three 1).state.d ≡ q.d
  unfolding review_def clamp_state_def params_def
  same_difficulty day z7 =
      rw (later p q day three three_not_none)
      (ap (λ (last : State). clamp_def (difficulty_def (w ! 6) (w ! 7) p.easy_d last.d three) d_min d_max) (stays_state q hs hd)
      ∙ ap (λ (d : Float). clamp_def d d_min d_max) (unchanged (w ! 6) (w ! 7) p.easy_d q.d (weight_size w box 6 (lit< tt)) (is_zero (w ! 7) (singles 7) z7) (easy_size (w ! 4) (w ! 5) (weight_size w box 4 (lit< tt)) (weight_size w box 5 (lit< tt))) mine.above_d kd mine.size_d)
      ∙ stays_d q.d hd)
