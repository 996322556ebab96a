-- The record of any step is the one that is read back. Assumes nothing.
use Rattle.std.proofs.Common.{◌≡◌, ℕ, ◌-◌, Bool, true, false, cond, refl}
use lib.Ieee.{Float, eq, lt, of_bits}
use Rattle.domain.specs.Limits.{zero32, one}
use Rattle.domain.specs.Weights.{◌!◌}
use Rattle.forward.specs.Stability.{short_def, lapse_move_def, lapse_def, success_def}
use Rattle.forward.specs.declared.parameters.RuntimeParams.{RuntimeParams}
use Rattle.forward.specs.declared.state.Branch.{Branch}
use Rattle.forward.specs.declared.state.Branch.TheVariants.{Padding, First, SameDay, Lapse, Success}
use Rattle.forward.specs.declared.state.Move.{Move}
use Rattle.forward.specs.declared.state.State.{State}
use Rattle.forward.specs.Step.{rating_number_def, is_first_def, move_def, padding_def, first_def, review_def, step_def}
use Rattle.forward.specs.declared.state.Stepped.{Stepped}
use Rattle.columns.specs.Records.{plain_cells, chosen_cells, branch_cells_def, branch_of_def, read_back_def}

-- a branch is read back from its numbers
abbrev Back : Branch → Float → Type 0
Back b rating = branch_of_def (branch_cells_def b).number rating (branch_cells_def b).a (branch_cells_def b).b ≡ b

padding : (rating : Float) → Back Padding rating
unfolding branch_of_def branch_cells_def plain_cells eq of_bits
padding rating = refl

first : (rating : Float) → Back (First (rating_number_def rating)) rating
unfolding branch_of_def branch_cells_def plain_cells eq of_bits
first rating = refl

same_day : (raw value : Float) (active : Bool) (rating : Float) → Back (SameDay raw value active) rating
unfolding branch_of_def branch_cells_def chosen_cells eq of_bits
same_day raw value true rating = refl
same_day raw value false rating = refl

lapse : (raw floor : Float) (floored : Bool) (rating : Float) → Back (Lapse raw floor floored) rating
unfolding branch_of_def branch_cells_def chosen_cells eq of_bits
lapse raw floor true rating = refl
lapse raw floor false rating = refl

success : (rating : Float) → Back Success rating
unfolding branch_of_def branch_cells_def plain_cells eq of_bits
success rating = refl

pick : (b : Bool) (x y : Move) (rating : Float) → Back x.branch rating → Back y.branch rating → Back (cond b x y).branch rating
pick true x y rating h k = h
pick false x y rating h k = k

short_back : (w17 w18 w19 s rating : Float) → Back (short_def w17 w18 w19 s rating).branch rating
unfolding short_def
short_back w17 w18 w19 s rating = same_day _ _ _ rating

move_back : (raw floor rating : Float) → Back (lapse_move_def raw floor).branch rating
unfolding lapse_move_def
move_back raw floor rating = lapse raw floor (lt floor raw) rating

lapse_back : (w11 w12 w13 w14 divisor : Float) (last : State) (r rating : Float) → Back (lapse_def w11 w12 w13 w14 divisor last r).branch rating
unfolding lapse_def
lapse_back w11 w12 w13 w14 divisor last r rating = move_back _ _ rating

success_back : (exp_w8 w9 w10 w15 w16 : Float) (last : State) (rating r : Float) → Back (success_def exp_w8 w9 w10 w15 w16 last rating r).branch rating
unfolding success_def
success_back exp_w8 w9 w10 w15 w16 last rating r = success rating

review_back : (p : RuntimeParams) (last : State) (day rating r : Float) → Back (move_def p last day rating r).branch rating
unfolding move_def
review_back p last day rating r =
    let w = p.w in
    pick (eq day zero32) (short_def (w ! 17) (w ! 18) (w ! 19) last.s rating) _ rating (short_back _ _ _ _ rating)
    (pick (eq rating one) (lapse_def (w ! 11) (w ! 12) (w ! 13) (w ! 14) p.failure_floor_divisor last r) _ rating (lapse_back _ _ _ _ _ last r rating)
    (success_back p.exp_w8 (w ! 9) (w ! 10) (w ! 15) (w ! 16) last rating r))

padding_read : (q : State) (rating : Float) → read_back_def (padding_def q rating).step ≡ (padding_def q rating).step
unfolding read_back_def padding_def
padding_read q rating = rw (padding rating)

first_read : (s w4 w5 : Float) (q : State) (rating : Float) → read_back_def (first_def s w4 w5 q rating).step ≡ (first_def s w4 w5 q rating).step
unfolding read_back_def first_def
first_read s w4 w5 q rating = rw (first rating)

review_read : (p : RuntimeParams) (q : State) (day rating : Float) → read_back_def (review_def p q day rating).step ≡ (review_def p q day rating).step
unfolding read_back_def review_def
review_read p q day rating = rw (review_back p _ day rating _)

either : (b : Bool) (x y : Stepped) → read_back_def x.step ≡ x.step → read_back_def y.step ≡ y.step → read_back_def (cond b x y).step ≡ (cond b x y).step
either true x y h k = h
either false x y h k = k

pub step_read : (p : RuntimeParams) (q : State) (day rating : Float) (row : ℕ) → read_back_def (step_def p q day rating row).step ≡ (step_def p q day rating row).step
unfolding step_def
step_read p q day rating row =
    either (eq rating zero32) (padding_def q rating) _ (padding_read q rating)
    (either (is_first_def row q.s) (first_def (p.w ! (rating_number_def rating - 1)) (p.w ! 4) (p.w ! 5) q rating) _ (first_read _ _ _ q rating)
    (review_read p q day rating))
