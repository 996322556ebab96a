-- What an accepted call has of its cells: no column has a fault, so that each cell that is read is good. Assumes nothing.
use mathlib.Core.Path.{◌≡◌, refl, sym, ◌∙◌, subst}
use mathlib.Core.Bool.{Bool, true, false, not, ◌||◌, cond, true≢false}
use Prim.Native.Nat.{ℕ, zero, suc, ◌-◌, ◌<◌}
use native.Mathlib.Nat.{not-suc-le-zero}
use native.Mathlib.Omega.{arith}
use borrow.Author.Tests.{eqb-true, eq-eqb, ltb-true, ltb-false}
use lib.Dec.{T, eqb, ltb}
use lib.Ieee.{Float}
use Rattle.std.proofs.lemmas.Bool.{or_right}
use Rattle.domain.specs.Limits.{day_good_def}
use Rattle.domain.specs.Weights.{◌!◌}
use Rattle.checks.specs.Align.{is_end_def}
use Rattle.checks.specs.Batch.{Prefixes, Cards, length_at, history, target_weight_at, label_at, weight_at_def}
use Rattle.checks.specs.Reads.{rating_good_def, weight_good_def, label_good_def, later, is_last, non_zero, prefix_day, card_day_def, card_rating, card_label, check, first, prefix_row_def, card_score_def, card_row_def, target_def}
use Rattle.checks.specs.Faults.{Fault, no_fault_def, fault_at_def, or_else, first_fault_def, rows_fault, target_fault, prefix_column_def, prefix_fault_def, card_column_def, card_fault_def}

-- ---- no number is found
first_both : (a b : ℕ) → first a b ≡ 0 → (a ≡ 0) × (b ≡ 0)
unfolding first
first_both a b h = go (eqb a 0) refl h
  where
    go : (t : Bool) → t ≡ eqb a 0 → cond t b a ≡ 0 → (a ≡ 0) × (b ≡ 0)
    go true e h = (eqb-true a 0 (sym e), h)
    go false e h = absurd (true≢false (sym (eq-eqb a 0 h) ∙ sym e))

checked : (read good : Bool) (n : ℕ) → check read good (suc n) ≡ 0 → read ≡ true → good ≡ true
unfolding check
checked true true n h e = refl
checked true false n h e = absurd (suc_zero h)
  where
    suc_zero : suc n ≡ 0 → ⊥
    suc_zero q = omega (arith, q)
checked false good n h e = absurd (true≢false (sym e))

-- ---- no fault is found
else_both : (x y : Fault) → (or_else x y).refusal ≡ 0 → (x.refusal ≡ 0) × (y.refusal ≡ 0)
unfolding or_else
else_both x y h = go (eqb x.refusal 0) refl h
  where
    go : (t : Bool) → t ≡ eqb x.refusal 0 → (cond t y x).refusal ≡ 0 → (x.refusal ≡ 0) × (y.refusal ≡ 0)
    go true e h = (eqb-true x.refusal 0 (sym e), h)
    go false e h = absurd (true≢false (sym (eq-eqb x.refusal 0 h) ∙ sym e))

last_or : (P : ℕ → Type 0) (n k : ℕ) → k < suc n → (k < n → P k) → P n → P k
last_or P n k l before here = go (ltb k n) refl
  where
    go : (t : Bool) → t ≡ ltb k n → P k
    go true e = before (ltb-true k n (sym e))
    go false e = subst P (omega (arith, l, ltb-false k n (sym e))) here

each : (f : ℕ → Fault) (n k : ℕ) → k < n → (first_fault_def f n).refusal ≡ 0 → (f k).refusal ≡ 0
unfolding first_fault_def
each f zero k l h = absurd (not-suc-le-zero l)
each f (suc n) k l h =
    let a = else_both (first_fault_def f n) (f n) h in
    last_or (λ (i : ℕ). (f i).refusal ≡ 0) n k l (λ m. each f n k m a.0) a.1

numbered : (n column row : ℕ) → (fault_at_def n column row).refusal ≡ 0 → n ≡ 0
unfolding fault_at_def no_fault_def
numbered n column row h = go (eqb n 0) refl h
  where
    go : (t : Bool) → t ≡ eqb n 0 → (cond t no_fault_def (record { refusal = n; column = column; row = row })).refusal ≡ 0 → n ≡ 0
    go true e h = eqb-true n 0 (sym e)
    go false e h = h

row_clear : (bad : ℕ → ℕ) (column n row : ℕ) → row < n → (rows_fault bad column n).refusal ≡ 0 → bad row ≡ 0
unfolding rows_fault
row_clear bad column n row l h = numbered (bad row) column row (each (λ i. fault_at_def (bad i) column i) n row l h)

-- ---- a row that has a step, by its number from the first review
pub record ReadRow (row : ℕ) (day rating : Float) : Type 0 where
  pub rating_good : rating_good_def rating ≡ true
  pub day_good : prefix_day row rating ≡ true → day_good_def day ≡ true

-- a scored review: of a row of a card, and of a target
pub record ReadScore (row : ℕ) (label weight : Float) : Type 0 where
  pub weight_good : later row ≡ true → weight_good_def weight ≡ true
  pub label_good : card_label row weight ≡ true → label_good_def label ≡ true

pub record ReadTarget (day label weight : Float) : Type 0 where
  pub weight_good : weight_good_def weight ≡ true
  pub label_good : non_zero weight ≡ true → label_good_def label ≡ true
  pub day_good : non_zero weight ≡ true → day_good_def day ≡ true

prefix_read : (row : ℕ) (day rating : Float) → prefix_row_def row day rating ≡ 0 → ReadRow row day rating
unfolding prefix_row_def
prefix_read row day rating h =
    let a = first_both (check true (rating_good_def rating) 6) (check (prefix_day row rating) (day_good_def day) 7) h in
    record { rating_good = checked true (rating_good_def rating) 5 a.0 refl; day_good = checked (prefix_day row rating) (day_good_def day) 6 a.1 }

target_read : (weight label day : Float) → target_def weight label day ≡ 0 → ReadTarget day label weight
unfolding target_def
target_read weight label day h =
    let a = first_both (check true (weight_good_def weight) 8) (first (check (non_zero weight) (label_good_def label) 8) (check (non_zero weight) (day_good_def day) 7)) h in
    let b = first_both (check (non_zero weight) (label_good_def label) 8) (check (non_zero weight) (day_good_def day) 7) a.1 in
    record {
      weight_good = checked true (weight_good_def weight) 7 a.0 refl;
      label_good = checked (non_zero weight) (label_good_def label) 7 b.0;
      day_good = checked (non_zero weight) (day_good_def day) 6 b.1;
    }

-- a row of a card: what is read of its step, unless it is the last, of its score, and of its curve, if it is
module _ (end last : Bool) (row : ℕ) (day rating weight label : Float) (h : card_row_def end last row day rating weight label ≡ 0) where
  parts : (check (card_rating end last) (rating_good_def rating) 6 ≡ 0) × (check (card_day_def last row rating weight) (day_good_def day) 7 ≡ 0) × (card_score_def row weight label ≡ 0)
  unfolding card_row_def
  parts =
      let a = first_both (check (card_rating end last) (rating_good_def rating) 6) (first (check (card_day_def last row rating weight) (day_good_def day) 7) (card_score_def row weight label)) h in
      let b = first_both (check (card_day_def last row rating weight) (day_good_def day) 7) (card_score_def row weight label) a.1 in
      (a.0, b.0, b.1)

  day_read : card_day_def last row rating weight ≡ true → day_good_def day ≡ true
  day_read = checked (card_day_def last row rating weight) (day_good_def day) 6 parts.1

  pub step_read : last ≡ false → ReadRow row day rating
  unfolding card_rating card_day_def prefix_day
  step_read e = record {
    rating_good = checked (end || not last) (rating_good_def rating) 5 parts.0 (rw e (or_right end true refl));
    day_good = λ g. day_read (rw e g);
  }

  pub score_read : ReadScore row label weight
  unfolding card_score_def
  score_read =
      let a = first_both (check (later row) (weight_good_def weight) 8) (check (card_label row weight) (label_good_def label) 8) parts.2 in
      record { weight_good = checked (later row) (weight_good_def weight) 7 a.0; label_good = checked (card_label row weight) (label_good_def label) 7 a.1 }

  pub last_read : last ≡ true → card_label row weight ≡ true → day_good_def day ≡ true
  unfolding card_day_def card_label
  last_read e g = day_read (rw e g)

-- ---- a column
module _ (x : Prefixes) (column : ℕ) (l : column < x.table.columns) (h : (prefix_fault_def x).refusal ≡ 0) where
  abbrev n : ℕ
  n = length_at x.table column

  column_clear : (prefix_column_def x column).refusal ≡ 0
  unfolding prefix_fault_def
  column_clear = each (prefix_column_def x) x.table.columns column l h

  -- 9: it has a row
  both : (0 < n) × ((rows_fault (λ row. prefix_row_def (row - (history x.table column).first) ((history x.table column).day row) ((history x.table column).rating row)) column n).refusal ≡ 0) ×
      ((target_fault x.days x.labels (target_weight_at x column) column n).refusal ≡ 0)
  unfolding prefix_column_def
  both = go (eqb n 0) refl column_clear
    where
      rows : Fault
      rows = rows_fault (λ row. prefix_row_def (row - (history x.table column).first) ((history x.table column).day row) ((history x.table column).rating row)) column n

      target : Fault
      target = target_fault x.days x.labels (target_weight_at x column) column n

      some : (m : ℕ) → false ≡ eqb m 0 → 0 < m
      some zero e = absurd (true≢false (sym e))
      some (suc m) e = omega arith

      go : (t : Bool) → t ≡ eqb n 0 → (cond t (record { refusal = 9; column = column; row = 0 }) (or_else rows target)).refusal ≡ 0 →
          (0 < n) × (rows.refusal ≡ 0) × (target.refusal ≡ 0)
      go true e h = absurd (nine h)
        where
          nine : ◌≡◌ {A = ℕ} 9 0 → ⊥
          nine q = subst (λ (k : ℕ). T (eqb k 9)) q tt
      go false e h = let a = else_both rows target h in (some n e, a.0, a.1)

  pub prefix_some : 0 < length_at x.table column
  prefix_some = both.0

  pub prefix_row : (row : ℕ) → row < length_at x.table column → let t = history x.table column in ReadRow (row - t.first) (t.day row) (t.rating row)
  prefix_row row m = prefix_read _ _ _ (row_clear (λ i. prefix_row_def (i - (history x.table column).first) ((history x.table column).day i) ((history x.table column).rating i)) column n row m both.1)

  pub prefix_target : ReadTarget (x.days ! column) (x.labels ! column) (target_weight_at x column)
  unfolding target_fault
  prefix_target = target_read (target_weight_at x column) (x.labels ! column) (x.days ! column) (numbered (target_def (target_weight_at x column) (x.labels ! column) (x.days ! column)) column n both.2)

module _ (x : Cards) (column : ℕ) (l : column < x.table.columns) (h : (card_fault_def x).refusal ≡ 0) where
  pub card_row :
      (row : ℕ) → row < length_at x.table column → let t = history x.table column in
      card_row_def (is_end_def x.table.align) (is_last (length_at x.table column) row) (row - t.first) (t.day row) (t.rating row) (weight_at_def x column row) (label_at x column row) ≡ 0
  unfolding card_fault_def card_column_def
  card_row row m =
      let t = history x.table column in
      let n = length_at x.table column in
      row_clear (λ i. card_row_def (is_end_def x.table.align) (is_last n i) (i - t.first) (t.day i) (t.rating i) (weight_at_def x column i) (label_at x column i)) column n row m
      (each (card_column_def x) x.table.columns column l h)
