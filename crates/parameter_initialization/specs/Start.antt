-- Change request K6: what the starting stability refuses, and its answer. Assumes nothing.
use Rattle.std.specs.Prelude.{ℕ, zero, suc, Bool, false, cond, ◌&&◌, List, length, ◌==◌, nat_le, Float, Result, Ok, Err}
use Rattle.std.specs.Float.{binary32, binary64}
use Rattle.std.specs.Float.Ieee.{le, lt, round}
use Rattle.soft.specs.Narrow.{narrow_def}
use Rattle.domain.specs.Doubles.{zero64, one64}
use Rattle.domain.specs.Floats.{within}
use Rattle.domain.specs.Limits.{zero32, s_min_def, day_max_def}
use Rattle.domain.specs.Refusals.{number}
use Rattle.domain.specs.declared.refusal.Refusal.{Refusal}
use Rattle.checks.specs.Reads.{first}
use Rattle.parameter_initialization.specs.Derivatives.{◌at◌, derivatives_def}
use Rattle.parameter_initialization.specs.Search.{init_s_max_def, sought_def}

-- 'unequal or long columns': 'at most 4,096 rows'
abbrev pub sized : (days shares counts : ℕ) → Bool
sized days shares counts = (days == shares && days == counts) && nat_le days 4096

-- 'a default outside 0.0001 to 100': both ends belong, and no NaN does
abbrev pub default_good : Float → Bool
default_good x = within x s_min_def init_s_max_def

-- 'Days are above 0 and at most 100000'
abbrev pub day_good_def : Float → Bool
day_good_def t = lt zero64 t && le t day_max_def

-- 'shares 0 to 1'
abbrev pub share_good : Float → Bool
share_good y = within y zero64 one64

-- 2 ^ 32
unfoldable pub count_max_def : Float
count_max_def = round binary64 false 4294967296 1

-- 'counts above 0 and at most 2^32'
abbrev pub count_good : Float → Bool
count_good n = lt zero64 n && le n count_max_def

-- '7 for the day and 8 for the share or count'
unfoldable pub row_number_def : (t y n : Float) → ℕ
row_number_def t y n = cond (day_good_def t) (cond (share_good y && count_good n) 0 8) 7

-- the first number that is not 0 among bad 0, bad 1, .. of n
unfoldable pub first_number : (bad : ℕ → ℕ) (n : ℕ) → ℕ
first_number bad zero = 0
first_number bad (suc k) = first (first_number bad k) (bad k)

-- what the entry answers, as a number and a value: 0 and the stability, or the refusal's number and +0.0
pub record Start : Type 0 where
  pub refusal : ℕ
  pub value : Float

abbrev pub answered : Result Float Refusal → Start
answered (Ok x) = record { refusal = 0; value = x }
answered (Err e) = record { refusal = number e; value = zero32 }

module _ (days shares counts : List Float) where
  -- 'by row'
  abbrev pub number_at : ℕ → ℕ
  number_at k = row_number_def (days at k) (shares at k) (counts at k)

  unfoldable pub rows_number_def : ℕ
  rows_number_def = first_number number_at (length days)

  -- '3 for unequal or long columns, then 13 for a default outside 0.0001 to 100, then by row'
  unfoldable pub start_refusal_def : (default : Float) → ℕ
  start_refusal_def default = cond (sized (length days) (length shares) (length counts)) (cond (default_good default) rows_number_def 13) 3

  -- initial_stability: worked in double, and narrowed once, at the end
  unfoldable pub start_def : (default : Float) → Float
  start_def default = narrow_def binary32 (sought_def (derivatives_def days shares counts) default)

  unfoldable pub start_answer : (default : Float) → Start
  start_answer default =
      let n = start_refusal_def default in record { refusal = n; value = cond (n == 0) (start_def default) zero32 }
