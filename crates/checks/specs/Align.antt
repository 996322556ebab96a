-- Change request K5: where the histories of a call stand in their tables, and what follows for a column: its first review, and the
-- reviews that count. Its rows are numbered from the first review, `row - first`, which is 0 before it too. Assumes nothing.
use Rattle.std.specs.Prelude.{ℕ, zero, suc, Bool, true, false, not, ◌||◌, cond, ltb, Float}
use Rattle.domain.specs.Limits.{zero32}
use Rattle.checks.specs.Reads.{non_zero}
use Rattle.checks.specs.declared.align.Align.{Align}
use Rattle.checks.specs.declared.align.Align.TheVariants.{Start, End}

-- 'The crate's mode remains the default': Start
unfoldable pub is_end_def : Align → Bool
is_end_def Start = false
is_end_def End = true

-- a flag as the mode
unfoldable pub align_of : (end : Bool) → Align
align_of end = cond end End Start

-- 'the first row with a nonzero rating is the first review': of n rows, n if there is none
unfoldable pub first_non_zero : (rating : ℕ → Float) (n : ℕ) → ℕ
first_non_zero rating zero = 0
first_non_zero rating (suc n) = let f = first_non_zero rating n in cond (ltb f n || non_zero (rating n)) f (suc n)

-- row 0 by document 01
unfoldable pub first_of : (align : Align) (rating : ℕ → Float) (n : ℕ) → ℕ
first_of align rating n = cond (is_end_def align) (first_non_zero rating n) 0

-- 'padding rows are neither scored nor read beyond their rating'
unfoldable pub counts : (align : Align) (rating : Float) → Bool
counts align rating = not (is_end_def align) || non_zero rating

-- what does not count has the weight 0, by which document 01 ends an item, whatever its cell holds
unfoldable pub weighed : (align : Align) (rating weight : Float) → Float
weighed align rating weight = cond (counts align rating) weight zero32

-- 'An all-padding prefix scores nothing, its target unread': first is n there
unfoldable pub target_read_def : (align : Align) (first n : ℕ) → Bool
target_read_def align first n = not (is_end_def align) || ltb first n

unfoldable pub target_weight_def : (align : Align) (first n : ℕ) (weight : Float) → Float
target_weight_def align first n weight = cond (target_read_def align first n) weight zero32
