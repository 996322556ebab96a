-- Which weights a step reads: document 01's table, 'weights read'. Assumes nothing.
use Rattle.std.specs.Prelude.{◌≡◌, ℕ, ◌-◌, Bool, true, false, cond, ◌||◌, List, [], ◌∷◌, ◌++◌, ◌==◌, Float}
use Rattle.std.specs.Float.Ieee.{eq}
use Rattle.domain.specs.Limits.{zero32, one, two, four}
use Rattle.domain.specs.Weights.{◌!◌}
use Rattle.forward.specs.Step.{rating_number_def, is_first_def}
use Rattle.forward.specs.declared.state.State.{State}

-- k is one of ks
unfoldable pub among : (k : ℕ) (ks : List ℕ) → Bool
among k [] = false
among k (i ∷ ks) = k == i || among k ks

-- 'first (row 0, rating 1-4)': rating - 1, 4, 5
abbrev pub first_weights : (rating : ℕ) → List ℕ
first_weights rating = (rating - 1) ∷ 4 ∷ 5 ∷ []

-- 'every other': 4-7, 20
abbrev pub common : List ℕ
common = 4 ∷ 5 ∷ 6 ∷ 7 ∷ 20 ∷ []

-- '8-10; 15 if 2; 16 if 4'
abbrev pub success_weights : (rating : Float) → List ℕ
success_weights rating =
    cond (eq rating two) (15 ∷ []) [] ++ (cond (eq rating four) (16 ∷ []) [] ++ (8 ∷ 9 ∷ 10 ∷ common))

-- 'and if day = 0': 17-19; 'else rating 1': 11-14, 17, 18; else the above
unfoldable pub review_reads : (day rating : Float) → List ℕ
review_reads day rating =
    cond (eq day zero32) (17 ∷ 18 ∷ 19 ∷ common)
    (cond (eq rating one) (11 ∷ 12 ∷ 13 ∷ 14 ∷ 17 ∷ 18 ∷ common)
    (success_weights rating))

unfoldable pub step_reads : (q : State) (day rating : Float) (row : ℕ) → List ℕ
step_reads q day rating row =
    cond (eq rating zero32) []
    (cond (is_first_def row q.s) (first_weights (rating_number_def rating))
    (review_reads day rating))

-- two weight sets agree on each of ks
abbrev pub Agree : (ks : List ℕ) (w v : List Float) → Type 0
Agree ks w v = (k : ℕ) → among k ks ≡ true → w ! k ≡ v ! k
