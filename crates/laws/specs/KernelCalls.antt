-- The kernel calls of the forward pass, listed piece by piece beside the formulas that make them (forward/specs, columns/specs), for change request K14: 'no forward
-- calculation meets refusal 10'. Each list is tied to its formula: the formula is `…From` of its calls' answers, and no kernel stands in that (`Ties`, proofs/Ranges/Ties.antt),
-- so that no call is missing. Assumes nothing.
use Rattle.std.specs.Prelude.{◌≡◌, not, cond, List, [], ◌∷◌, ◌++◌, ℕ, zero, suc, eqb, Float}
use Rattle.std.specs.Float.{nan, Format, binary32, binary64}
use Rattle.std.specs.Float.Ieee.{neg, eq}
use Rattle.domain.specs.Doubles.{◌*ᵈ◌, ◌/ᵈ◌, three64}
use Rattle.domain.specs.Floats.{◌+ᶠ◌, ◌-ᶠ◌, ◌*ᶠ◌, ◌/ᶠ◌, max_def}
use Rattle.domain.specs.Limits.{decimal, zero32, one, two, three, four, eleven, rating_offset_def}
use Rattle.domain.specs.Weights.{◌!◌}
use Rattle.kernels.specs.Kernels.{exp_def, ln_def, pow_def, kernel_refusal}
use Rattle.forward.specs.Curve.{base_def, curve_forward_def}
use Rattle.forward.specs.Params.{nine_tenths, init_difficulty_of, params_def}
use Rattle.forward.specs.Stability.{is_floored_def, short_value_def, short_def, lapse_move_def, lapse_def, success_def}
use Rattle.forward.specs.Step.{clamp_state_def, rating_number_def, is_first_def, move_def}
use Rattle.forward.specs.declared.curve.CurveCache.{CurveCache}
use Rattle.forward.specs.declared.parameters.RuntimeParams.{RuntimeParams}
use Rattle.forward.specs.declared.state.Branch.TheVariants.{SameDay, Success}
use Rattle.forward.specs.declared.state.Move.{Move}
use Rattle.forward.specs.declared.state.State.{State}
use Rattle.columns.specs.Scores.{probability, bce_loss_def}

pub data KernelCall : Type 0 where
  exp_of : Format → Float → KernelCall
  ln_of : Format → Float → KernelCall
  pow_of : Format → Float → Float → KernelCall

abbrev pub answer_of : KernelCall → Float
answer_of (exp_of f x) = exp_def f x
answer_of (ln_of f x) = ln_def f x
answer_of (pow_of f x y) = pow_def f x y

-- the answer of call k
abbrev pub answers : List KernelCall → ℕ → Float
answers [] k = nan
answers (c ∷ cs) zero = answer_of c
answers (c ∷ cs) (suc k) = answers cs k

-- none meets refusal 10
abbrev pub NoneRefused : List KernelCall → Type 0
NoneRefused [] = Unit {0}
NoneRefused (c ∷ cs) = (kernel_refusal (answer_of c) ≡ 0) × NoneRefused cs

-- ---- what is worked out of the weights once: curve_factor, curve_dfactor_ddecay, exp_w8, failure_floor_divisor, easy_d, exp_3w5_f64
unfoldable pub param_calls : (w : List Float) → List KernelCall
param_calls w =
    let decay = neg (w ! 20) in
    let ln_single = ln_of binary32 (decimal 9 10) in
    let ln_double = ln_of binary64 nine_tenths in
    ln_single ∷ exp_of binary32 (answer_of ln_single /ᶠ decay) ∷ ln_double ∷ exp_of binary64 (answer_of ln_double /ᵈ decay) ∷
    exp_of binary32 (w ! 8) ∷ exp_of binary64 (w ! 8) ∷ exp_of binary32 (w ! 17 *ᶠ w ! 18) ∷
    exp_of binary32 (w ! 5 *ᶠ rating_offset_def 4) ∷ exp_of binary64 (three64 *ᵈ w ! 5) ∷ []

unfoldable pub params_from : (w : List Float) (answer : ℕ → Float) → RuntimeParams
params_from w answer =
    let decay = neg (w ! 20) in
    let easy = w ! 4 -ᶠ answer 7 +ᶠ one in
    record {
      w = w;
      curve_decay = decay;
      curve_factor = answer 1 -ᶠ one;
      curve_dfactor_ddecay = answer 3 *ᵈ (neg (answer 2) /ᵈ (decay *ᵈ decay));
      exp_w8 = answer 4;
      exp_w8_f64 = answer 5;
      failure_floor_divisor = answer 6;
      easy_d = easy;
      easy_d_f64 = easy;
      exp_3w5_f64 = answer 8;
    }

-- ---- the curve
unfoldable pub curve_calls : (decay factor t s : Float) → List KernelCall
curve_calls decay factor t s = pow_of binary32 (base_def factor t s) decay ∷ []

unfoldable pub curve_from : (decay factor t s : Float) (answer : ℕ → Float) → CurveCache
curve_from decay factor t s answer =
    record { t = max_def t zero32; s = s; decay = decay; factor = factor; base = base_def factor t s; retrievability = answer 0 }

-- ---- on the same day: what is not below 1 may still be a NaN that the maximum hides, so that the calls are asked and not the state
unfoldable pub short_calls : (w17 w18 w19 s rating : Float) → List KernelCall
short_calls w17 w18 w19 s rating = exp_of binary32 (w17 *ᶠ (rating -ᶠ three +ᶠ w18)) ∷ pow_of binary32 s (neg w19) ∷ []

unfoldable pub short_from : (s rating : Float) (answer : ℕ → Float) → Move
short_from s rating answer =
    let raw = answer 0 *ᶠ answer 1 in
    let value = short_value_def rating raw in
    record { s = s *ᶠ value; branch = SameDay raw value (not (is_floored_def rating raw)) }

-- ---- a lapse: its floor calls none, and a comparison hides a NaN too
unfoldable pub lapse_calls : (w12 w13 w14 s d r : Float) → List KernelCall
lapse_calls w12 w13 w14 s d r = pow_of binary32 d (neg w12) ∷ pow_of binary32 (s +ᶠ one) w13 ∷ exp_of binary32 ((one -ᶠ r) *ᶠ w14) ∷ []

unfoldable pub lapse_from : (w11 divisor s : Float) (answer : ℕ → Float) → Move
lapse_from w11 divisor s answer = lapse_move_def (w11 *ᶠ answer 0 *ᶠ (answer 1 -ᶠ one) *ᶠ answer 2) (s /ᶠ divisor)

-- ---- a success
unfoldable pub success_calls : (w9 w10 s r : Float) → List KernelCall
success_calls w9 w10 s r = pow_of binary32 s (neg w9) ∷ exp_of binary32 ((one -ᶠ r) *ᶠ w10) ∷ []

unfoldable pub success_from : (exp_w8 w15 w16 : Float) (last : State) (rating : Float) (answer : ℕ → Float) → Move
success_from exp_w8 w15 w16 last rating answer =
    let hard-penalty = cond (eq rating two) w15 one in
    let easy-bonus = cond (eq rating four) w16 one in
    let inc = exp_w8 *ᶠ (eleven -ᶠ last.d) *ᶠ answer 0 *ᶠ (answer 1 -ᶠ one) *ᶠ hard-penalty *ᶠ easy-bonus in
    record { s = last.s *ᶠ (inc +ᶠ one); branch = Success }

-- ---- how a later review moves the stability: one of the three
unfoldable pub move_calls : (p : RuntimeParams) (last : State) (day rating r : Float) → List KernelCall
move_calls p last day rating r =
    let w = p.w in
    cond (eq day zero32)
    (short_calls (w ! 17) (w ! 18) (w ! 19) last.s rating)
    (cond (eq rating one)
    (lapse_calls (w ! 12) (w ! 13) (w ! 14) last.s last.d r)
    (success_calls (w ! 9) (w ! 10) last.s r))

unfoldable pub move_from : (p : RuntimeParams) (last : State) (day rating : Float) (answer : ℕ → Float) → Move
move_from p last day rating answer =
    cond (eq day zero32)
    (short_from last.s rating answer)
    (cond (eq rating one)
    (lapse_from (p.w ! 11) p.failure_floor_divisor last.s answer)
    (success_from p.exp_w8 (p.w ! 15) (p.w ! 16) last rating answer))

-- ---- a first review: its difficulty
unfoldable pub first_calls : (w5 : Float) (rating : ℕ) → List KernelCall
first_calls w5 rating = exp_of binary32 (w5 *ᶠ rating_offset_def rating) ∷ []

unfoldable pub first_from : (w4 : Float) (answer : ℕ → Float) → Float
first_from w4 answer = w4 -ᶠ answer 0 +ᶠ one

-- ---- a score, of the clamped probability r
unfoldable pub score_calls : (r : Float) → List KernelCall
score_calls r = ln_of binary32 r ∷ ln_of binary32 (one -ᶠ r) ∷ []

unfoldable pub score_from : (label weight : Float) (answer : ℕ → Float) → Float
score_from label weight answer = neg (label *ᶠ answer 0 +ᶠ (one -ᶠ label) *ᶠ answer 1) *ᶠ weight

-- each formula, by the answers of its calls: one law a piece
pub record Ties : Type 0 where
  pub params : (w : List Float) → params_def w ≡ params_from w (answers (param_calls w))
  pub curve : (decay factor t s : Float) → curve_forward_def decay factor t s ≡ curve_from decay factor t s (answers (curve_calls decay factor t s))
  pub short : (w17 w18 w19 s rating : Float) → short_def w17 w18 w19 s rating ≡ short_from s rating (answers (short_calls w17 w18 w19 s rating))
  pub lapse :
      (w11 w12 w13 w14 divisor : Float) (last : State) (r : Float) →
      lapse_def w11 w12 w13 w14 divisor last r ≡ lapse_from w11 divisor last.s (answers (lapse_calls w12 w13 w14 last.s last.d r))
  pub success :
      (exp_w8 w9 w10 w15 w16 : Float) (last : State) (rating r : Float) →
      success_def exp_w8 w9 w10 w15 w16 last rating r ≡ success_from exp_w8 w15 w16 last rating (answers (success_calls w9 w10 last.s r))
  pub move : (p : RuntimeParams) (last : State) (day rating r : Float) → move_def p last day rating r ≡ move_from p last day rating (answers (move_calls p last day rating r))
  pub first : (w4 w5 : Float) (rating : ℕ) → init_difficulty_of w4 w5 rating ≡ first_from w4 (answers (first_calls w5 rating))
  pub score : (r label weight : Float) → bce_loss_def r label weight ≡ score_from label weight (answers (score_calls r))

-- ---- a step: the curve and then its move, a first difficulty, or nothing in padding, as in `step_def`
unfoldable pub review_calls : (p : RuntimeParams) (q : State) (day rating : Float) → List KernelCall
review_calls p q day rating =
    let last = clamp_state_def q in
    let r = (curve_forward_def p.curve_decay p.curve_factor day last.s).retrievability in
    curve_calls p.curve_decay p.curve_factor day last.s ++ move_calls p last day rating r

unfoldable pub step_calls : (p : RuntimeParams) (q : State) (day rating : Float) (row : ℕ) → List KernelCall
step_calls p q day rating row =
    cond (eq rating zero32) []
    (cond (is_first_def row q.s) (first_calls (p.w ! 5) (rating_number_def rating)) (review_calls p q day rating))

-- ---- scored reviews: none where the weight is 0, nor in a column's first row
unfoldable pub scored_calls : (r-raw weight : Float) → List KernelCall
scored_calls r-raw weight = cond (eq weight zero32) [] (score_calls (probability r-raw))

unfoldable pub row_calls : (row : ℕ) (r-raw weight : Float) → List KernelCall
row_calls row r-raw weight = cond (eqb row 0) [] (scored_calls r-raw weight)

-- a prefix's target; with its label read, a card's last row too: its curve, and its score
unfoldable pub target_calls : (p : RuntimeParams) (s day weight : Float) → List KernelCall
target_calls p s day weight =
    let decay = p.curve_decay in
    let factor = p.curve_factor in
    cond (eq weight zero32) [] (curve_calls decay factor day s ++ score_calls (probability (curve_forward_def decay factor day s).retrievability))
