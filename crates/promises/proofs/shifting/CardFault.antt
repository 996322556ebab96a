-- A card behind padding that has no fault has none without it. Assumes nothing.
use Prim.Native.Nat.{ℕ, suc, ◌+◌, ◌-◌, ◌<◌}
use mathlib.Core.Bool.{Bool, true, false}
use mathlib.Core.Logic.{inl, inr}
use mathlib.Core.Path.{◌≡◌, refl, sym, ◌∙◌, subst}
use native.Mathlib.Nat.{add-sub_cancel, sub-zero}
use native.Mathlib.Omega.{arith}
use borrow.Author.Tests.{eq-eqb, ne_eqb, eqb-true, eqb-false}
use lib.Dec.{T, eqb}
use lib.Ieee.{Float}
use Rattle.checks.specs.Align.{is_end_def}
use Rattle.checks.specs.Batch.{History, Cards, length_at, history, label_at, weight_at_def}
use Rattle.checks.specs.Faults.{card_column_def}
use Rattle.checks.specs.Reads.{later, is_last, non_zero, rating_good_def, label_good_def, card_day_def, card_rating, check, first, card_score_def, card_row_def}
use Rattle.promises.specs.Aligned.{ShiftedCard}
use Rattle.promises.proofs.shifting.States.{Behind, shifted_behind}
use Rattle.promises.proofs.shifting.Weights.{Alike, no_label}
use Rattle.promises.proofs.shifting.Card.{weights_alike}
use Rattle.promises.proofs.shifting.Faults.{rows_none}
use Rattle.promises.proofs.shifting.Good.{zero_good}

-- ---- a row
last_same : (m f n row : ℕ) → m + f ≡ n → is_last n (row + f) ≡ is_last m row
unfolding is_last
last_same m f n row e = go (eqb (suc row) m) refl
  where
    go : (t : Bool) → t ≡ eqb (suc row) m → eqb (suc (row + f)) n ≡ t
    go true d = let z = eqb-true (suc row) m (sym d) in eq-eqb (suc (row + f)) n (omega arith)
    go false d = let z = eqb-false (suc row) m (sym d) in ne_eqb (suc (row + f)) n (λ y. z (omega arith))

-- a weight of zero is good, and its label unread
unread : (label : Bool) (n : ℕ) → check false label n ≡ 0
unfolding check
unread label n = refl

passed : (read : Bool) (n : ℕ) → check read true n ≡ 0
unfolding check
passed true n = refl
passed false n = refl

no_score : (row : ℕ) (w label : Float) → non_zero w ≡ false → card_score_def row w label ≡ 0
unfolding card_score_def first
no_score row w label e = rw (zero_good w e, no_label row w e, passed (later row) 8, unread (label_good_def label) 8)

module _ (end last : Bool) (row : ℕ) (day rating a b label : Float) where
  row_alike : Alike a b → card_row_def end last row day rating a label ≡ card_row_def end last row day rating b label
  unfolding card_row_def card_day_def
  row_alike (inl e) = rw e
  row_alike (inr e) = rw (no_score row a label e.0, no_score row b label e.1, e.0, e.1)

-- the crate's mode does not read the last rating
less_read :
    (last good : Bool) (n : ℕ) → first (check (card_rating true last) good 6) n ≡ 0 → first (check (card_rating false last) good 6) n ≡ 0
unfolding card_rating check first
less_read true true n h = h
less_read true false n h = absurd (subst (λ (k : ℕ). T (eqb k 6)) h tt)
less_read false good n h = h

at_start :
    (last : Bool) (row : ℕ) (day rating a b label : Float) → Alike a b → card_row_def true last row day rating a label ≡ 0 →
    card_row_def false last row day rating b label ≡ 0
unfolding card_row_def
at_start last row day rating a b label alike h =
    less_read last (rating_good_def rating) _ (sym (row_alike true last row day rating a b label alike) ∙ h)

-- a row that is good behind padding is good without it
row_good :
    (end' end last' last : Bool) (row' row : ℕ) (day' day rating' rating weight' weight label' label : Float) →
    end' ≡ true → end ≡ false → last' ≡ last → row' ≡ row → day ≡ day' → rating ≡ rating' → Alike weight' weight → label ≡ label' →
    card_row_def end' last' row' day' rating' weight' label' ≡ 0 → card_row_def end last row day rating weight label ≡ 0
row_good end' end last' last row' row day' day rating' rating weight' weight label' label e t l n d r w z h =
    rw (t, ← l, ← n, d, r, z) (at_start last' row' day' rating' weight' weight label' w (rw e at h))

-- ---- a column: the number of a row of n
abbrev pub row_at : (x : Cards) (column n : ℕ) (h : History) (row : ℕ) → ℕ
row_at x column n h row =
    card_row_def (is_end_def x.table.align) (is_last n row) (row - h.first) (h.day row) (h.rating row) (weight_at_def x column row) (label_at x column row)

module _ (x y : Cards) (column : ℕ) (s : ShiftedCard x y column) where
  abbrev hx : History
  hx = history x.table column

  abbrev hy : History
  hy = history y.table column

  abbrev n : ℕ
  n = length_at x.table column

  abbrev m : ℕ
  m = length_at y.table column

  behind : Behind hx hy m
  behind = shifted_behind x.table y.table column s.table

  at-end : is_end_def x.table.align ≡ true
  unfolding is_end_def
  at-end = rw s.table.modes.0

  not_end : is_end_def y.table.align ≡ false
  unfolding is_end_def
  not_end = rw s.table.modes.1

  row_none :
      (row : ℕ) → row < m →
      row_at x column n hx (row + hx.first) ≡ 0 → row_at y column m hy row ≡ 0
  row_none row l =
      row_good _ _ _ _ _ _ _ _ _ _ _ _ _ _ at-end not_end (last_same m hx.first n row s.table.shorter)
      (rw (behind.start, sub-zero row) (add-sub_cancel row hx.first)) (behind.days row l) (behind.ratings row l)
      (weights_alike x y column s row l) (s.labels row l)

  pub card_fault : (card_column_def x column).refusal ≡ 0 → (card_column_def y column).refusal ≡ 0
  unfolding card_column_def
  card_fault h = rows_none _ _ column m hx.first n s.table.shorter row_none h
