-- check_and_fill_parameters_fsrs6 of model_v6.rs, with document 01's refusals 12 and 2. Assumes nothing.
use Rattle.std.specs.Prelude.{ℕ, Bool, cond, ◌&&◌, ◌||◌, List, [], ◌∷◌, ◌++◌, length, replicate, ◌==◌, slice_set, Float}
use Rattle.domain.specs.Floats.{◌+ᶠ◌, ◌/ᶠ◌}
use Rattle.domain.specs.Limits.{zero32, half, one, two, three}
use Rattle.domain.specs.Weights.{◌!◌, FSRS6_DEFAULT_PARAMETERS, boxed, all_finite_def}
use Rattle.kernels.specs.Calls.{ln32}
use Rattle.model_v6.specs.Curve.{mul-add}
use Rattle.model_v6.specs.Results.{Filled}

abbrev pub fsrs5_default_decay : Float
fsrs5_default_decay = half

-- Each store of the Rust reads weights that no store before it changed: weight 4 comes from the old weight 5.
unfoldable pub fill17 : List Float → List Float
fill17 p =
    let w4 = mul-add (p ! 5) two (p ! 4) in
    let w5 = ln32 (mul-add (p ! 5) three one) /ᶠ three in
    let w6 = p ! 6 +ᶠ half in
    slice_set (slice_set (slice_set p 4 w4) 5 w5) 6 w6 ++ (zero32 ∷ zero32 ∷ zero32 ∷ fsrs5_default_decay ∷ [])

unfoldable pub fill19 : List Float → List Float
fill19 p = p ++ (zero32 ∷ fsrs5_default_decay ∷ [])

-- by the length of p
unfoldable pub fill_def : List Float → List Float
fill_def p =
    cond (length p == 0)
    FSRS6_DEFAULT_PARAMETERS
    (cond (length p == 17) (fill17 p) (cond (length p == 19) (fill19 p) p))

abbrev pub length_good : ℕ → Bool
length_good n = n == 0 || n == 17 || n == 19 || n == 21

unfoldable pub fill_refusal : List Float → ℕ
fill_refusal p = cond (length_good (length p)) (cond (all_finite_def p && boxed (fill_def p)) 0 2) 12

abbrev pub unfilled : ℕ → Filled
unfilled n = record { refusal = n; weights = replicate 21 zero32 }

unfoldable pub fill_answer : List Float → Filled
fill_answer p = cond (fill_refusal p == 0) (record { refusal = 0; weights = fill_def p }) (unfilled (fill_refusal p))
