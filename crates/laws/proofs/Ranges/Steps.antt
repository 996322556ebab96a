-- A whole step of the training: from any state in numbers, with weights inside the box and good cells, it leaves a state inside the ranges and a record of finite numbers, and no kernel
-- call of it is refused. Assumes nothing.
use mathlib.Core.Path.{◌≡◌, refl, sym}
use mathlib.Core.Bool.{Bool, true, false, cond}
use mathlib.Core.List.{List, []}
use Prim.Native.Nat.{ℕ, ◌-◌, ◌<◌}
use lib.Dec.{T, lit<, lit≤}
use lib.Ieee.{Float, binary32, of_bits, fits, eq}
use lib.Ieee.Fits.{add-fits}
use lib.Ieee.Scale.{finite}
use lib.ListN.{get_or}
use Rattle.kernels.specs.Calls.{exp32, pow32}
use Rattle.domain.specs.Floats.{◌*ᶠ◌}
use Rattle.domain.specs.Limits.{zero32, one, two, three, four, day_good_def}
use Rattle.domain.specs.Weights.{◌!◌, weights_refusal_def}
use Rattle.checks.specs.Reads.{rating_good_def}
use Rattle.forward.specs.Curve.{base_def, curve_forward_def}
use Rattle.forward.specs.Params.{init_difficulty_of, params_def}
use Rattle.forward.specs.Stability.{short_def, lapse_def, success_def}
use Rattle.forward.specs.Step.{clamp_state_def, rating_number_def, is_first_def, difficulty_def, move_def, padding_def, first_def, review_def, step_def}
use Rattle.forward.specs.declared.parameters.RuntimeParams.{RuntimeParams}
use Rattle.forward.specs.declared.state.Move.{Move}
use Rattle.forward.specs.declared.state.State.{State}
use Rattle.forward.specs.declared.state.Stepped.{Stepped}
use Rattle.laws.specs.KernelCalls.{KernelCall, NoneRefused, curve_calls, short_calls, lapse_calls, success_calls, first_calls, move_calls, review_calls, step_calls}
use Rattle.laws.specs.Numbers.{FiniteState, FiniteRecord}
use Rattle.laws.proofs.Values.Sizes.{Size, size_finite, size_number}
use Rattle.laws.proofs.Values.Box.{sizes, weight_size, above_20, least_20}
use Rattle.laws.proofs.Values.States.{Held}
use Rattle.laws.proofs.Values.Difficulty.{init_exp_size, init_size}
use Rattle.laws.proofs.Ranges.States.{Plain, Inside, inside_held, inside_plain, clamped, plain_clamped}
use Rattle.laws.proofs.Ranges.Ratings.{by_rating, offset_size, zero_finite}
use Rattle.laws.proofs.Ranges.Curve.{day_size, recall_size}
use Rattle.laws.proofs.Ranges.Branches.{Moved, short_moved, short_called, lapse_moved, lapse_called, success_moved, success_called}
use Rattle.laws.proofs.Ranges.Difficulty.{number_offset, first_weight, mean_size}
use Rattle.laws.proofs.Ranges.Params.{exp_w8_size, divisor_size, divisor_least, easy_d_size}
use Rattle.laws.proofs.Ranges.Accepted.{accepted, none_append}

-- a step and its calls
pub record Worked (t : Stepped) (calls : List KernelCall) : Type 0 where
  pub inside : Inside t.state
  pub numbers : FiniteRecord t.step
  pub recall : Size 0 t.step.retrievability
  pub called : NoneRefused calls

choose : (b : Bool) (x y : Stepped) (cs ds : List KernelCall) → (b ≡ true → Worked x cs) → (b ≡ false → Worked y ds) → Worked (cond b x y) (cond b cs ds)
choose true x y cs ds h g = h refl
choose false x y cs ds h g = g refl

-- a move and its calls
abbrev Going : Move → List KernelCall → Type 0
Going m cs = Moved m × NoneRefused cs

pick : (b : Bool) (x y : Move) (cs ds : List KernelCall) → Going x cs → Going y ds → Going (cond b x y) (cond b cs ds)
pick true x y cs ds h g = h
pick false x y cs ds h g = g

none_size : Size 0 zero32
unfolding of_bits
none_size = lit≤ tt

plain_finite : (q : State) → Plain q → FiniteState q
plain_finite q i = record { s = i.finite_s; d = i.finite_d }

finite_four : T (finite one) × T (finite two) × T (finite three) × T (finite four)
unfolding of_bits
finite_four = (tt, tt, tt, tt)

rating_finite : (rating : Float) → T (fits binary32 rating) → rating_good_def rating ≡ true → T (finite rating)
rating_finite rating k g = go (eq rating zero32) refl
  where
    some : (e : eq rating zero32 ≡ false) → T (finite rating)
    some e = by_rating rating k (λ (x : Float). T (finite x)) g e finite_four.0 finite_four.1 finite_four.2 finite_four.3

    go : (b : Bool) → b ≡ eq rating zero32 → T (finite rating)
    go true e = zero_finite rating (sym e)
    go false e = some (sym e)

module _ (w : List Float) (singles : (k : ℕ) → T (fits binary32 (w ! k))) (box : weights_refusal_def w ≡ 0) where
  abbrev p : RuntimeParams
  p = params_def w

  -- ---- a review, from a state inside the ranges
  module _ (last : State) (i : Inside last) (day rating : Float) (k : T (fits binary32 rating)) (good : rating_good_def rating ≡ true) (some : eq rating zero32 ≡ false) (read : T (day_good_def day)) where
    abbrev mine : Held last
    mine = inside_held last i

    abbrev r : Float
    r = (curve_forward_def p.curve_decay p.curve_factor day last.s).retrievability

    recall : Size 0 r
    unfolding params_def
    recall = recall_size day read (w ! 20) (above_20 w box) (weight_size w box 20 (lit< tt)) (least_20 w box) last.s mine.above_s mine.least_s (singles 20)

    curve_called : NoneRefused (curve_calls p.curve_decay p.curve_factor day last.s)
    unfolding curve_calls curve_forward_def
    curve_called = (accepted 0 (pow32 (base_def p.curve_factor day last.s) p.curve_decay) recall, tt)

    moving : Going (move_def p last day rating r) (move_calls p last day rating r)
    unfolding move_def move_calls params_def
    moving =
        let of : (j : ℕ) → j < 21 → Size (get_or sizes j 0) (w ! j) = weight_size w box in
        let divisor = exp32 (w ! 17 *ᶠ w ! 18) in
        let exp_w8 = exp32 (w ! 8) in
        let o = offset_size rating k good some in
        pick (eq day zero32) (short_def (w ! 17) (w ! 18) (w ! 19) last.s rating) _ (short_calls (w ! 17) (w ! 18) (w ! 19) last.s rating) _ (
          short_moved (w ! 17) (w ! 18) (w ! 19) last.s rating (of 17 (lit< tt)) (of 18 (lit< tt)) (of 19 (lit< tt)) mine.above_s mine.size_s mine.least_s o,
          short_called (w ! 17) (w ! 18) (w ! 19) last.s rating (of 17 (lit< tt)) (of 18 (lit< tt)) (of 19 (lit< tt)) mine.above_s mine.size_s mine.least_s o,
        )
        (pick (eq rating one) (lapse_def (w ! 11) (w ! 12) (w ! 13) (w ! 14) divisor last r) (success_def exp_w8 (w ! 9) (w ! 10) (w ! 15) (w ! 16) last rating r)
        (lapse_calls (w ! 12) (w ! 13) (w ! 14) last.s last.d r) (success_calls (w ! 9) (w ! 10) last.s r) (
          lapse_moved (w ! 11) (w ! 12) (w ! 13) (w ! 14) divisor last r (of 11 (lit< tt)) (of 12 (lit< tt)) (of 13 (lit< tt)) (of 14 (lit< tt)) (size_finite 24 divisor (divisor_size w box)) (divisor_least w box) mine recall,
          lapse_called (w ! 11) (w ! 12) (w ! 13) (w ! 14) divisor last r (of 11 (lit< tt)) (of 12 (lit< tt)) (of 13 (lit< tt)) (of 14 (lit< tt)) (size_finite 24 divisor (divisor_size w box)) (divisor_least w box) mine recall,
        ) (
          success_moved exp_w8 (w ! 9) (w ! 10) (w ! 15) (w ! 16) last rating r (exp_w8_size w box) (of 9 (lit< tt)) (of 10 (lit< tt)) (of 15 (lit< tt)) (of 16 (lit< tt)) mine recall,
          success_called exp_w8 (w ! 9) (w ! 10) last.s last.d r (exp_w8_size w box) (of 9 (lit< tt)) (of 10 (lit< tt)) mine.above_s mine.size_s mine.least_s mine.size_d recall,
        ))

    abbrev mean : Float
    mean = difficulty_def (p.w ! 6) (p.w ! 7) p.easy_d last.d rating

    mean_sized : Size 28 mean
    unfolding params_def
    mean_sized =
        mean_size (w ! 6) (w ! 7) p.easy_d last.d rating (weight_size w box 6 (lit< tt)) (weight_size w box 7 (lit< tt)) (easy_d_size w box) mine.size_d
        (offset_size rating k good some)

    mean_fits : T (fits binary32 mean)
    unfolding difficulty_def
    mean_fits = add-fits binary32 _ _

  module _ (q : State) (i : Plain q) (day rating : Float) (row : ℕ) (k : T (fits binary32 rating)) (good : rating_good_def rating ≡ true)
      (read : eq rating zero32 ≡ false → is_first_def row q.s ≡ false → T (day_good_def day)) where
    abbrev last : State
    last = clamp_state_def q

    kept : Inside last
    kept = plain_clamped q i

    last_finite : FiniteState last
    last_finite = plain_finite last (inside_plain last kept)

    own : T (finite rating)
    own = rating_finite rating k good

    padding : Worked (padding_def q rating) []
    unfolding padding_def of_bits
    padding = record {
      inside = kept;
      numbers = record {
        state = plain_finite q i;
        last = last_finite;
        day = tt;
        rating = own;
        retrievability = tt;
        pre_s = last_finite.s;
        pre_d = last_finite.d;
        branch = tt;
      };
      recall = none_size;
      called = tt;
    }

    first : Worked (first_def (w ! (rating_number_def rating - 1)) (w ! 4) (w ! 5) q rating) (first_calls (w ! 5) (rating_number_def rating))
    unfolding first_def first_calls init_difficulty_of of_bits
    first =
        let n = rating_number_def rating in
        let s = w ! (n - 1) in
        let d = init_difficulty_of (w ! 4) (w ! 5) n in
        let s-size = first_weight w box rating in
        let d-size = init_size (w ! 4) (w ! 5) n (number_offset rating) (weight_size w box 4 (lit< tt)) (weight_size w box 5 (lit< tt)) in
        record {
          inside = clamped (record { s = s; d = d }) (singles (n - 1)) (add-fits binary32 _ _) (size_number 16 s s-size) (size_number 26 d d-size);
          numbers = record {
            state = plain_finite q i;
            last = last_finite;
            day = tt;
            rating = own;
            retrievability = tt;
            pre_s = size_finite 16 s s-size;
            pre_d = size_finite 26 d d-size;
            branch = tt;
          };
          recall = none_size;
          called = (accepted 24 _ (init_exp_size (w ! 5) n (number_offset rating) (weight_size w box 5 (lit< tt))), tt);
        }

    review : eq rating zero32 ≡ false → T (day_good_def day) → Worked (review_def p q day rating) (review_calls p q day rating)
    unfolding review_def review_calls
    review some day_good =
        let m = moving last kept day rating k good some day_good in
        let h = recall last kept day rating k good some day_good in
        let d-size = mean_sized last kept day rating k good some day_good in
        let d = mean last kept day rating k good some day_good in
        let move = move_def p last day rating (r last kept day rating k good some day_good) in
        record {
          inside =
              clamped (record { s = move.s; d = d }) m.0.single (mean_fits last kept day rating k good some day_good) (size_number 85 move.s m.0.size) (size_number 28 d d-size);
          numbers = record {
            state = plain_finite q i;
            last = last_finite;
            day = size_finite 17 day (day_size day day_good);
            rating = own;
            retrievability = size_finite 0 (r last kept day rating k good some day_good) h;
            pre_s = size_finite 85 move.s m.0.size;
            pre_d = size_finite 28 d d-size;
            branch = m.0.branch;
          };
          recall = h;
          called = none_append (curve_calls p.curve_decay p.curve_factor day last.s) _ (curve_called last kept day rating k good some day_good) m.1;
        }

    pub step_worked : Worked (step_def p q day rating row) (step_calls p q day rating row)
    unfolding step_def step_calls params_def
    step_worked =
        choose (eq rating zero32) (padding_def q rating) _ [] _ (λ e. padding)
        (λ e. choose (is_first_def row q.s) (first_def (w ! (rating_number_def rating - 1)) (w ! 4) (w ! 5) q rating) (review_def p q day rating) (first_calls (w ! 5) (rating_number_def rating)) (review_calls p q day rating)
        (λ f. first) (λ f. review e (read e f)))
