-- Document 01's box of the 21 weights, inference_v6.rs's default weights, and the refusals 1 and 2. Assumes nothing.
use Rattle.std.specs.Prelude.{ℕ, zero, suc, ◌-◌, Bool, true, cond, ◌&&◌, List, [], ◌∷◌, ◌++◌, length, take, replicate, ◌==◌, slice_index_or, Float}
use Rattle.std.specs.Float.Ieee.Scale.{finite}
use Rattle.std.specs.Float.{nan}
use Rattle.std.specs.Float.Ieee.{neg}
use Rattle.domain.specs.Floats.{within}
use Rattle.domain.specs.Limits.{decimal, zero32, s_min_def, s_max_def}

-- w[k]; past the end a NaN, which no accepted call reads
infixl 9 ◌!◌
abbrev pub ◌!◌ : List Float → ℕ → Float
w ! k = slice_index_or w k nan

-- weights 0-3, then 4, 5, .. 20: the table's 'from'
unfoldable pub low_def : List Float
low_def =
    s_min_def ∷ s_min_def ∷ s_min_def ∷ s_min_def ∷ decimal 0 1 ∷ decimal 0 1 ∷ decimal 0 1 ∷ decimal 0 1 ∷ neg (decimal 5 1) ∷ decimal 0 1 ∷ decimal 0 1 ∷
    decimal 1 1000 ∷ decimal 0 1 ∷ decimal 0 1 ∷ decimal 0 1 ∷ decimal 0 1 ∷ decimal 1 1 ∷ decimal 0 1 ∷ decimal 0 1 ∷ decimal 0 1 ∷ decimal 1 10 ∷ []

-- and its 'to'
unfoldable pub high_def : List Float
high_def =
    s_max_def ∷ s_max_def ∷ s_max_def ∷ s_max_def ∷ decimal 20 1 ∷ decimal 4 1 ∷ decimal 6 1 ∷ decimal 1 1 ∷ decimal 5 1 ∷ decimal 1 1 ∷ decimal 5 1 ∷
    decimal 10 1 ∷ decimal 1 1 ∷ decimal 1 1 ∷ decimal 5 1 ∷ decimal 1 1 ∷ decimal 10 1 ∷ decimal 3 1 ∷ decimal 3 1 ∷ decimal 1 1 ∷ decimal 1 1 ∷ []

-- inference_v6.rs's FSRS6_DEFAULT_PARAMETERS, in ten-thousandths; the last is FSRS6_DEFAULT_DECAY
unfoldable pub FSRS6_DEFAULT_PARAMETERS : List Float
FSRS6_DEFAULT_PARAMETERS =
    decimal 2120 10000 ∷ decimal 12931 10000 ∷ decimal 23065 10000 ∷ decimal 82956 10000 ∷ decimal 64133 10000 ∷ decimal 8334 10000 ∷
    decimal 30194 10000 ∷ decimal 10 10000 ∷ decimal 18722 10000 ∷ decimal 1666 10000 ∷ decimal 7960 10000 ∷ decimal 14835 10000 ∷
    decimal 614 10000 ∷ decimal 2629 10000 ∷ decimal 16483 10000 ∷ decimal 6014 10000 ∷ decimal 18729 10000 ∷ decimal 5425 10000 ∷
    decimal 912 10000 ∷ decimal 658 10000 ∷ decimal 1542 10000 ∷ []

abbrev pub in_box : ℕ → Float → Bool
in_box k x = within x (low_def ! k) (high_def ! k)

-- test k (w ! k) for every k below n
unfoldable pub all : (ℕ → Float → Bool) → (n : ℕ) → List Float → Bool
all test zero w = true
all test (suc k) w = all test k w && test k (w ! k)

abbrev pub boxed : List Float → Bool
boxed w = all in_box 21 w

abbrev pub all_finite_def : List Float → Bool
all_finite_def w = all (λ k x. finite x) (length w) w

-- 1: not 21 weights; 2: one outside the box; 0: neither
unfoldable pub weights_refusal_def : List Float → ℕ
weights_refusal_def w = cond (length w == 21) (cond (boxed w) 0 2) 1

-- the first 21 entries, and +0.0 where there are fewer
unfoldable pub copy_def : List Float → List Float
copy_def w = take 21 w ++ replicate (21 - length w) zero32
