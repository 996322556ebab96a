-- A row's number depends on no cell but those that count as read. Assumes nothing.
use Prim.Native.Nat.{ℕ}
use mathlib.Core.Bool.{Bool, true, false, not, ◌&&◌, cond}
use mathlib.Core.Path.{◌≡◌, refl, ap}
use lib.Ieee.{Float}
use Rattle.domain.specs.Limits.{day_good_def}
use Rattle.checks.specs.Reads.{later, non_zero, rating_good_def, weight_good_def, label_good_def, prefix_day, card_day_def, card_rating, card_label, check, prefix_row_def, card_score_def, card_row_def, target_def}

-- what is not read is not tested
check_same : (read : Bool) (good : Float → Bool) (x y : Float) (n : ℕ) → (read ≡ true → x ≡ y) → check read (good x) n ≡ check read (good y) n
unfolding check
check_same true good x y n h = rw (h refl)
check_same false good x y n h = refl

pub prefix_row_same : (row : ℕ) (day day' rating : Float) → (prefix_day row rating ≡ true → day ≡ day') → prefix_row_def row day rating ≡ prefix_row_def row day' rating
unfolding prefix_row_def
prefix_row_same row day day' rating h = rw (check_same (prefix_day row rating) day_good_def day day' 7 h)

pub target_same :
    (weight label label' day day' : Float) → (non_zero weight ≡ true → label ≡ label') → (non_zero weight ≡ true → day ≡ day') →
    target_def weight label day ≡ target_def weight label' day'
unfolding target_def
target_same weight label label' day day' h k = rw (check_same (non_zero weight) label_good_def label label' 8 h, check_same (non_zero weight) day_good_def day day' 7 k)

-- a card's row: each cell is the same where it is read
pub record CardRow (end last : Bool) (row : ℕ) (day day' rating rating' weight weight' label label' : Float) : Type 0 where
  pub ratings : card_rating end last ≡ true → rating ≡ rating'
  pub days : card_day_def last row rating weight ≡ true → day ≡ day'
  pub weights : later row ≡ true → weight ≡ weight'
  pub labels : card_label row weight ≡ true → label ≡ label'

pub and_same : (a b c : Bool) → (a ≡ true → b ≡ c) → a && b ≡ a && c
and_same true b c h = h refl
and_same false b c h = refl

choice_same : (b : Bool) (x y y' : Bool) → (not b ≡ true → y ≡ y') → cond b x y ≡ cond b x y'
choice_same true x y y' h = refl
choice_same false x y y' h = h refl

read_before : (end last : Bool) → not last ≡ true → card_rating end last ≡ true
unfolding card_rating
read_before true last e = refl
read_before false last e = e

module _ (end last : Bool) (row : ℕ) (day day' rating rating' weight weight' label label' : Float) (same : CardRow end last row day day' rating rating' weight weight' label label') where
  by_rating : later row ≡ true → cond last (non_zero weight) (non_zero rating) ≡ cond last (non_zero weight') (non_zero rating')
  by_rating l = rw (same.weights l) (choice_same last _ _ _ (λ e. ap non_zero (same.ratings (read_before end last e))))

  pub card_day_read : card_day_def last row rating weight ≡ card_day_def last row rating' weight'
  unfolding card_day_def
  card_day_read = and_same (later row) _ _ by_rating

  pub card_label_read : card_label row weight ≡ card_label row weight'
  unfolding card_label
  card_label_read = and_same (later row) _ _ (λ l. ap non_zero (same.weights l))

  score_same : card_score_def row weight label ≡ card_score_def row weight' label'
  unfolding card_score_def
  score_same = rw (check_same (later row) weight_good_def weight weight' 8 same.weights, check_same (card_label row weight) label_good_def label label' 8 same.labels, card_label_read)

  pub card_row_same : card_row_def end last row day rating weight label ≡ card_row_def end last row day' rating' weight' label'
  unfolding card_row_def
  card_row_same = rw (check_same (card_rating end last) rating_good_def rating rating' 6 same.ratings, check_same (card_day_def last row rating weight) day_good_def day day' 7 same.days, card_day_read, score_same)
