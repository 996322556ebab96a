-- The default weights: singles inside the box, and the first step of a rating of 1 gives weights 0 and 4. Assumes nothing.
use mathlib.Core.Path.{◌≡◌, refl, ap, ◌∙◌}
use mathlib.Core.Bool.{Bool, true, false, ◌&&◌}
use mathlib.Core.List.{List, [], ◌∷◌}
use Prim.Native.Nat.{ℕ, zero, suc}
use lib.Dec.{T}
use lib.IntN.{pos, negsuc}
use lib.ListN.{get_or}
use lib.Ieee.{Float, nan, fin, binary32, fits, neg, eq, lt, le, sub, add, mul, of_bits, of_int}
use lib.Ieee.Bits.{is_true}
use lib.Ieee.Fits.{and_l, and_r}
use Rattle.kernels.specs.Calls.{exp32}
use Rattle.domain.specs.Floats.{◌+ᶠ◌, ◌-ᶠ◌, ◌*ᶠ◌, clamp_def}
use Rattle.domain.specs.Limits.{decimal, zero32, one, s_min_def, s_max_def, rating_offset_def}
use Rattle.domain.specs.Weights.{◌!◌, low_def, high_def, all, weights_refusal_def, FSRS6_DEFAULT_PARAMETERS}
use Rattle.forward.specs.Params.{init_difficulty_of, params_def}
use Rattle.forward.specs.Step.{clamp_state_def, rating_number_def, is_first_def, first_def, step_def}
use Rattle.laws.proofs.Values.Sizes.{unit}
use Rattle.laws.proofs.Distances.Ends.{exp_zero}

abbrev w : List Float
w = FSRS6_DEFAULT_PARAMETERS

-- ---- inside the box
all_single : List Float → Bool
all_single [] = true
all_single (x ∷ xs) = fits binary32 x && all_single xs

each : (xs : List Float) → T (all_single xs) → (k : ℕ) → T (fits binary32 (get_or xs k nan))
unfolding all_single fits
each [] h k = tt
each (x ∷ xs) h zero = and_l (fits binary32 x) (all_single xs) h
each (x ∷ xs) h (suc k) = each xs (and_r (fits binary32 x) (all_single xs) h) k

passes : T (all_single w)
unfolding all_single fits FSRS6_DEFAULT_PARAMETERS decimal
passes = tt

pub single : (k : ℕ) → fits binary32 (w ! k) ≡ true
single k = is_true (fits binary32 (w ! k)) (each w passes k)

pub boxed : weights_refusal_def w ≡ 0
unfolding weights_refusal_def all low_def high_def FSRS6_DEFAULT_PARAMETERS decimal s_min_def s_max_def neg le
boxed = refl

-- ---- the first step: w4 - exp(w5 * 0) + 1 is w4
no_offset : w ! 5 *ᶠ rating_offset_def 1 ≡ fin false 0 (pos 0)
unfolding FSRS6_DEFAULT_PARAMETERS decimal of_int mul
no_offset = refl

fourth : w ! 4 ≡ fin false 13449665 (negsuc 20)
unfolding FSRS6_DEFAULT_PARAMETERS decimal
fourth = refl

there_and_back : fin false 13449665 (negsuc 20) -ᶠ unit +ᶠ one ≡ fin false 13449665 (negsuc 20)
unfolding sub add of_bits
there_and_back = refl

first_difficulty : init_difficulty_of (w ! 4) (w ! 5) 1 ≡ w ! 4
unfolding init_difficulty_of
first_difficulty = ap (λ (x : Float). w ! 4 -ᶠ exp32 x +ᶠ one) no_offset ∙ ap (λ (x : Float). w ! 4 -ᶠ x +ᶠ one) (exp_zero binary32 false) ∙ rw fourth there_and_back

within : clamp_state_def (record { s = w ! 0; d = w ! 4 }) ≡ record { s = w ! 0; d = w ! 4 }
unfolding clamp_state_def clamp_def FSRS6_DEFAULT_PARAMETERS s_min_def s_max_def decimal lt of_bits
within = refl

pub first_state : (day : Float) → (step_def (params_def w) (record { s = zero32; d = zero32 }) day one 0).state ≡ record { s = w ! 0; d = w ! 4 }
unfolding step_def is_first_def first_def rating_number_def params_def eq of_bits
first_state day = ap (λ (d : Float). clamp_state_def (record { s = w ! 0; d = d })) (first_difficulty) ∙ within
