-- A law of every step's record, beside the weights that the step reads, from the law of each branch. Assumes nothing.
use Prim.Native.Nat.{ℕ, ◌-◌}
use mathlib.Core.Bool.{Bool, true, false, cond}
use mathlib.Core.List.{List, [], ◌∷◌}
use lib.Ieee.{Float, eq, lt}
use Rattle.domain.specs.Limits.{zero32, one}
use Rattle.domain.specs.Weights.{◌!◌}
use Rattle.forward.specs.declared.parameters.RuntimeParams.{RuntimeParams}
use Rattle.forward.specs.Stability.{short_def, lapse_move_def, lapse_def, success_def}
use Rattle.forward.specs.declared.state.Branch.{Branch}
use Rattle.forward.specs.declared.state.Branch.TheVariants.{Padding, First, SameDay, Lapse, Success}
use Rattle.forward.specs.declared.state.Move.{Move}
use Rattle.forward.specs.declared.state.State.{State}
use Rattle.forward.specs.WeightsRead.{first_weights, common, success_weights, review_reads, step_reads}
use Rattle.forward.specs.Step.{clamp_state_def, rating_number_def, is_first_def, move_def, padding_def, first_def, review_def, step_def}
use Rattle.forward.specs.declared.state.Stepped.{Stepped}

-- P of a record's branch, rating and retrievability, and of the weights that its step read
module _ (P : Branch → Float → Float → List ℕ → Type 0) where
  abbrev Of : Stepped → List ℕ → Type 0
  Of s ks = P s.step.branch s.step.rating s.step.retrievability ks

  choose : (b : Bool) (x y : Stepped) (ks js : List ℕ) → Of x ks → Of y js → Of (cond b x y) (cond b ks js)
  choose true x y ks js h k = h
  choose false x y ks js h k = k

  pub record Branches (rating : Float) : Type 0 where
    pub padding : P Padding rating zero32 []
    pub first : P (First (rating_number_def rating)) rating zero32 (first_weights (rating_number_def rating))
    pub same_day : (raw value : Float) (active : Bool) (r : Float) → P (SameDay raw value active) rating r (17 ∷ 18 ∷ 19 ∷ common)
    pub lapse : (raw floor : Float) (floored : Bool) (r : Float) → P (Lapse raw floor floored) rating r (11 ∷ 12 ∷ 13 ∷ 14 ∷ 17 ∷ 18 ∷ common)
    pub success : (r : Float) → P Success rating r (success_weights rating)

  module _ (rating : Float) (law : Branches rating) where
    pick : (b : Bool) (x y : Move) (r : Float) (ks js : List ℕ) → P x.branch rating r ks → P y.branch rating r js → P (cond b x y).branch rating r (cond b ks js)
    pick true x y r ks js h k = h
    pick false x y r ks js h k = k

    short : (w17 w18 w19 s r : Float) → P (short_def w17 w18 w19 s rating).branch rating r (17 ∷ 18 ∷ 19 ∷ common)
    unfolding short_def
    short w17 w18 w19 s r = law.same_day _ _ _ r

    abbrev Lapsed : Float → Move → Type 0
    Lapsed r m = P m.branch rating r (11 ∷ 12 ∷ 13 ∷ 14 ∷ 17 ∷ 18 ∷ common)

    floored : (raw floor r : Float) → Lapsed r (lapse_move_def raw floor)
    unfolding lapse_move_def
    floored raw floor r = law.lapse raw floor (lt floor raw) r

    lapsed : (w11 w12 w13 w14 divisor : Float) (last : State) (r : Float) → Lapsed r (lapse_def w11 w12 w13 w14 divisor last r)
    unfolding lapse_def
    lapsed w11 w12 w13 w14 divisor last r = floored _ _ r

    succeeded : (exp_w8 w9 w10 w15 w16 : Float) (last : State) (r : Float) → P (success_def exp_w8 w9 w10 w15 w16 last rating r).branch rating r (success_weights rating)
    unfolding success_def
    succeeded exp_w8 w9 w10 w15 w16 last r = law.success r

    moved : (p : RuntimeParams) (last : State) (day r : Float) → P (move_def p last day rating r).branch rating r (review_reads day rating)
    unfolding move_def review_reads
    moved p last day r =
        let w = p.w in
        pick (eq day zero32) (short_def (w ! 17) (w ! 18) (w ! 19) last.s rating) _ r _ _ (short _ _ _ _ r)
        (pick (eq rating one) (lapse_def (w ! 11) (w ! 12) (w ! 13) (w ! 14) p.failure_floor_divisor last r) _ r _ _ (lapsed _ _ _ _ _ last r)
        (succeeded p.exp_w8 (w ! 9) (w ! 10) (w ! 15) (w ! 16) last r))

    padded : (q : State) → Of (padding_def q rating) []
    unfolding padding_def
    padded q = law.padding

    began : (s w4 w5 : Float) (q : State) → Of (first_def s w4 w5 q rating) (first_weights (rating_number_def rating))
    unfolding first_def
    began s w4 w5 q = law.first

    reviewed : (p : RuntimeParams) (q : State) (day : Float) → Of (review_def p q day rating) (review_reads day rating)
    unfolding review_def
    reviewed p q day = moved p (clamp_state_def q) day _

    pub every_step : (p : RuntimeParams) (q : State) (day : Float) (row : ℕ) → Of (step_def p q day rating row) (step_reads q day rating row)
    unfolding step_def step_reads
    every_step p q day row =
        choose (eq rating zero32) (padding_def q rating) _ [] _ (padded q)
        (choose (is_first_def row q.s) (first_def (p.w ! (rating_number_def rating - 1)) (p.w ! 4) (p.w ! 5) q rating) (review_def p q day rating) _ _
        (began _ _ _ q) (reviewed p q day))
