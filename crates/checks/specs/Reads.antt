-- Document 01, 'Which cells and weights are read' and 'Domain': the cells of one row that count as read, and which of their values
-- are good. The checks and demand 3 share this page. A row is its number from the column's first review, and a review weight what it
-- counts for (Align.antt); by document 01 that is the row's own number and the weight's cell. Assumes nothing.
use Rattle.std.specs.Prelude.{ℕ, suc, Bool, true, not, ◌&&◌, ◌||◌, cond, eqb, Float}
use Rattle.std.specs.Float.Ieee.{eq}
use Rattle.domain.specs.Floats.{within}
use Rattle.domain.specs.Limits.{decimal, zero32, one, two, three, four, day_good_def}

-- 'ratings equal to 0,1,2,3,4'
abbrev pub rating_good_def : Float → Bool
rating_good_def rating = (eq rating zero32 || (eq rating one || eq rating two)) || (eq rating three || eq rating four)

-- 'review weights 0..1000000'
unfoldable pub weight_max_def : Float
weight_max_def = decimal 1000000 1

abbrev pub weight_good_def : Float → Bool
weight_good_def weight = within weight zero32 weight_max_def

-- 'labels 0..1'
abbrev pub label_good_def : Float → Bool
label_good_def label = within label zero32 one

-- 'rows 1 onward'
unfoldable pub later : (row : ℕ) → Bool
later row = not (eqb row 0)

-- the last row of n
unfoldable pub is_last : (n row : ℕ) → Bool
is_last n row = eqb (suc row) n

-- 'A zero of either sign is zero.'
unfoldable pub non_zero : Float → Bool
non_zero x = not (eq x zero32)

-- A prefix reads 'every rating in the length; days of rows 1 onward with rating not 0'.
unfoldable pub prefix_day : (row : ℕ) (rating : Float) → Bool
prefix_day row rating = later row && non_zero rating

-- A card of n rows reads 'days of rows 1..n-2 with rating not 0', and 'the last row's day if n > 1 and its weight is not 0';
unfoldable pub card_day_def : (last : Bool) (row : ℕ) (rating weight : Float) → Bool
card_day_def last row rating weight = later row && cond last (non_zero weight) (non_zero rating)

-- 'ratings of rows 0..n-2': 'the last rating is never read'; K5: 'In a card the last row's rating does become read', at the end;
unfoldable pub card_rating : (end last : Bool) → Bool
card_rating end last = end || not last

-- 'weights of rows 1..n-1; a label only if its weight is not 0'.
unfoldable pub card_label : (row : ℕ) (weight : Float) → Bool
card_label row weight = later row && non_zero weight

-- n where a cell is read and bad
unfoldable pub check : (read good : Bool) (n : ℕ) → ℕ
check read good n = cond (read && not good) n 0

-- a, unless it is none
unfoldable pub first : (a b : ℕ) → ℕ
first a b = cond (eqb a 0) b a

-- 'rows ascending (rating, day, weight, label)'
unfoldable pub prefix_row_def : (row : ℕ) (day rating : Float) → ℕ
prefix_row_def row day rating = first (check true (rating_good_def rating) 6) (check (prefix_day row rating) (day_good_def day) 7)

unfoldable pub card_score_def : (row : ℕ) (weight label : Float) → ℕ
card_score_def row weight label = first (check (later row) (weight_good_def weight) 8) (check (card_label row weight) (label_good_def label) 8)

unfoldable pub card_row_def : (end last : Bool) (row : ℕ) (day rating weight label : Float) → ℕ
card_row_def end last row day rating weight label =
    first (check (card_rating end last) (rating_good_def rating) 6) (first (check (card_day_def last row rating weight) (day_good_def day) 7) (card_score_def row weight label))

-- 'then a prefix target (weight, label, day)': 'its label and day only if that weight is not 0'
unfoldable pub target_def : (weight label day : Float) → ℕ
target_def weight label day =
    let counts = non_zero weight in
    first (check true (weight_good_def weight) 8) (first (check counts (label_good_def label) 8) (check counts (day_good_def day) 7))
