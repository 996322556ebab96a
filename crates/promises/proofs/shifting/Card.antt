-- A card behind padding. Assumes nothing.
use Prim.Native.Nat.{ℕ, zero, suc, ◌+◌, ◌-◌, ◌≤◌, ◌<◌}
use mathlib.Core.Bool.{Bool, true, false, cond}
use mathlib.Core.List.{List}
use mathlib.Core.Path.{◌≡◌, refl, sym, ap, ◌∙◌, subst}
use native.Mathlib.Nat.{add-sub_cancel, le_of_lt, le_refl, lt_of_lt_of_le, sub-eq-zero_of_le, sub-zero, suc-add, zero-add}
use native.Mathlib.Omega.{arith}
use borrow.Author.Tests.{ne_eqb, eqb-true, eqb-false}
use lib.Dec.{eqb}
use lib.Ieee.{Float}
use Rattle.domain.specs.Doubles.{zero64}
use Rattle.checks.specs.Batch.{History, Cards, length_at, history, label_at, weight_at_def}
use Rattle.checks.specs.Reads.{later, card_label}
use Rattle.forward.specs.declared.parameters.RuntimeParams.{RuntimeParams}
use Rattle.forward.specs.declared.state.Branch.TheVariants.{Padding}
use Rattle.forward.specs.declared.state.State.{State}
use Rattle.forward.specs.declared.state.StepRecord.{StepRecord}
use Rattle.columns.specs.BackwardPass.{start_grad, back_def}
use Rattle.columns.specs.ForwardPass.{row_score_def, state_at, record_at, score_at_def, loss_at}
use Rattle.columns.specs.LastReview.{last_loss_def, last_grad, last_slots}
use Rattle.columns.specs.Scores.{no_score_def}
use Rattle.columns.specs.declared.scores.Score.{Score}
use Rattle.analytic_v6.specs.Cards.{card_loss_def, card_slots_def}
use Rattle.promises.specs.Aligned.{ShiftedCard}
use Rattle.promises.proofs.shifting.States.{Behind, states_same, records_same, shifted_behind, padding_before}
use Rattle.promises.proofs.shifting.Back.{Unscored, back_none, back_behind}
use Rattle.promises.proofs.shifting.Weights.{Alike, weighed_alike, score_alike, loss_alike, grad_alike, slots_alike}
use Rattle.promises.proofs.Weightless.{no_more, either}

last : (m f : ℕ) → (m ≡ 0 → ⊥) → m + f - 1 ≡ m - 1 + f
last m f h = omega arith

-- ---- a card by its cells
module _ (p : RuntimeParams) (h : History) (label weight : ℕ → Float) where
  abbrev grad_at : (row : ℕ) → Float
  grad_at row = (score_at_def p h label weight row).g_r

  -- what is worked from its last row
  abbrev at_row : {A : Type 0} (f : (row : ℕ) (s day label weight : Float) → A) (row : ℕ) → A
  at_row f row = f (row - h.first) (state_at p h row).s (h.day row) (label row) (weight row)

  abbrev loss_to : (row : ℕ) → Float
  loss_to row = at_row (λ k s day l w. last_loss_def p k s day l w (loss_at p h label weight row)) row

  abbrev slots_to : (row : ℕ) (gw : List Float) → List Float
  slots_to row gw =
      back_def p (record_at p h) grad_at row (start_grad (at_row (last_grad p) row)) (at_row (λ k s day l w. last_slots p k s day l w gw) row)

  -- of n rows
  abbrev loss_of_def : (n : ℕ) → Float
  loss_of_def n = cond (eqb n 0) zero64 (loss_to (n - 1))

  abbrev slots_of : (n : ℕ) (gw : List Float) → List Float
  slots_of n gw = cond (eqb n 0) gw (slots_to (n - 1) gw)

  -- ---- up to its first review nothing is scored
  score_before : (row : ℕ) → row ≤ h.first → score_at_def p h label weight row ≡ no_score_def
  unfolding score_at_def row_score_def
  score_before row l = rw (sub-eq-zero_of_le l)

  loss_before : (row : ℕ) → row ≤ h.first → loss_at p h label weight row ≡ zero64
  unfolding loss_at no_score_def
  loss_before zero l = refl
  loss_before (suc row) l = rw (loss_before row (le_of_lt l), score_before row (le_of_lt l)) no_more

  last_loss_before : (row : ℕ) → row ≤ h.first → loss_to row ≡ zero64
  unfolding last_loss_def card_label later
  last_loss_before row l = rw (sub-eq-zero_of_le l) (loss_before row l)

  module _ (padding : (row : ℕ) → row < h.first → (record_at p h row).branch ≡ Padding) where
    unscored : (row : ℕ) → row ≤ h.first → Unscored p (record_at p h) grad_at row
    unfolding no_score_def
    unscored row l =
        record {
          records = λ i k. padding i (lt_of_lt_of_le k l);
          grads = λ i k. ap (λ (s : Score). s.g_r) (score_before i (le_of_lt (lt_of_lt_of_le k l)));
        }

    last_slots_before : (row : ℕ) (gw : List Float) → row ≤ h.first → slots_to row gw ≡ gw
    unfolding last_slots card_label later
    last_slots_before row gw l = rw (sub-eq-zero_of_le l) (back_none p (record_at p h) grad_at row (unscored row l) _ gw)

-- ---- and from there what it is without the padding
module _ (p : RuntimeParams) (h g : History) (lh wh lg wg : ℕ → Float) (m : ℕ) (b : Behind h g m)
    (labels : (i : ℕ) → i < m → lg i ≡ lh (i + h.first)) (weights : (i : ℕ) → i < m → Alike (wh (i + h.first)) (wg i)) where
  abbrev f : ℕ
  f = h.first

  number : (i : ℕ) → i + f - f ≡ i - g.first
  number i = rw (b.start, sub-zero i) (add-sub_cancel i f)

  scores_same : (i : ℕ) → i < m → score_at_def p h lh wh (i + f) ≡ score_at_def p g lg wg i
  unfolding score_at_def
  scores_same i l =
      score_alike _ _ _ _ _ (weights i l) ∙
      ap (λ (c : StepRecord). row_score_def (i + f - f) c.retrievability (lh (i + f)) (wg i)) (records_same p h g m b i l) ∙
      (rw (number i, labels i l))

  losses_same : (i : ℕ) → i ≤ m → loss_at p h lh wh (i + f) ≡ loss_at p g lg wg i
  unfolding loss_at
  losses_same zero l = rw (zero-add f) (loss_before p h lh wh f (le_refl f))
  losses_same (suc i) l = rw (suc-add i f, losses_same i (le_of_lt l), scores_same i l)

  row_same :
      {A : Type 0} (t : (row : ℕ) (s day label weight : Float) → A) →
      ((row : ℕ) (s day label v w : Float) → Alike v w → t row s day label v ≡ t row s day label w) →
      (i : ℕ) → i < m → at_row p h lh wh t (i + f) ≡ at_row p g lg wg t i
  row_same t alike i l =
      alike _ _ _ _ _ _ (weights i l) ∙
      ap (λ (q : State). t (i + f - f) q.s (h.day (i + f)) (lh (i + f)) (wg i)) (states_same p h g m b i (le_of_lt l)) ∙
      (rw (number i, labels i l, b.days i l))

  loss_same : (i : ℕ) → i < m → loss_to p h lh wh (i + f) ≡ loss_to p g lg wg i
  loss_same i l =
      row_same (λ k s day t w. last_loss_def p k s day t w (loss_at p h lh wh (i + f))) (λ k s day t v w. loss_alike p k s day t v w _) i l ∙
      ap (λ (loss : Float). at_row p g lg wg (λ k s day t w. last_loss_def p k s day t w loss) i) (losses_same i (le_of_lt l))

  loss_behind : loss_of_def p h lh wh (m + f) ≡ loss_of_def p g lg wg m
  loss_behind = go (eqb m 0) refl
    where
      go : (t : Bool) → t ≡ eqb m 0 → loss_of_def p h lh wh (m + f) ≡ cond t zero64 (loss_to p g lg wg (m - 1))
      go true e =
          let z = eqb-true m 0 (sym e) in
          rw (last_loss_before p h lh wh (m + f - 1) (omega arith)) (either (eqb (m + f) 0) zero64)
      go false e =
          let z = eqb-false m 0 (sym e) in
          rw (ne_eqb (m + f) 0 (λ y. omega arith), last m f z) (loss_same (m - 1) (omega arith))

  module _ (padding : (row : ℕ) → row < h.first → (record_at p h row).branch ≡ Padding) where
    walk_same : (i : ℕ) (gw : List Float) → i < m → slots_to p h lh wh (i + f) gw ≡ slots_to p g lg wg i gw
    walk_same i gw l =
        back_behind p (record_at p h) (record_at p g) (grad_at p h lh wh) (grad_at p g lg wg) f (unscored p h lh wh padding f (le_refl f)) i
        (λ j k. records_same p h g m b j (lt_of_lt_of_le k (le_of_lt l)))
        (λ j k. ap (λ (s : Score). s.g_r) (scores_same j (lt_of_lt_of_le k (le_of_lt l)))) _ _ ∙
        (rw (
          row_same (last_grad p) (grad_alike p) i l,
          row_same (λ k s day t w. last_slots p k s day t w gw) (λ k s day t v w. slots_alike p k s day t v w gw) i l,
        ))

    slots_behind : (gw : List Float) → slots_of p h lh wh (m + f) gw ≡ slots_of p g lg wg m gw
    slots_behind gw = go (eqb m 0) refl
      where
        go : (t : Bool) → t ≡ eqb m 0 → slots_of p h lh wh (m + f) gw ≡ cond t gw (slots_to p g lg wg (m - 1) gw)
        go true e =
            let z = eqb-true m 0 (sym e) in
            rw (last_slots_before p h lh wh padding (m + f - 1) gw (omega arith)) (either (eqb (m + f) 0) gw)
        go false e =
            let z = eqb-false m 0 (sym e) in
            rw (ne_eqb (m + f) 0 (λ y. omega arith), last m f z) (walk_same (m - 1) gw (omega arith))

-- ---- of a table
module _ (x y : Cards) (column : ℕ) (s : ShiftedCard x y column) where
  abbrev hx : History
  hx = history x.table column

  abbrev hy : History
  hy = history y.table column

  abbrev n : ℕ
  n = length_at y.table column

  abbrev lx : ℕ → Float
  lx = label_at x column

  abbrev ly : ℕ → Float
  ly = label_at y column

  abbrev wx : ℕ → Float
  wx = weight_at_def x column

  abbrev wy : ℕ → Float
  wy = weight_at_def y column

  behind : Behind hx hy n
  behind = shifted_behind x.table y.table column s.table

  pub weights_alike : (row : ℕ) → row < n → Alike (weight_at_def x column (row + hx.first)) (weight_at_def y column row)
  weights_alike row l =
      weighed_alike x.table.align y.table.align _ _ _ _ s.table.modes.0 s.table.modes.1 (s.table.ratings row l)
      (s.reviews row l) (s.padding row l)

  module _ (p : RuntimeParams) where
    pub card_loss : card_loss_def p x column ≡ card_loss_def p y column
    unfolding card_loss_def
    card_loss =
        subst (λ (k : ℕ). loss_of_def p hx lx wx k ≡ loss_of_def p hy ly wy n) s.table.shorter
        (loss_behind p hx hy lx wx ly wy n behind s.labels weights_alike)

    pub card_slots : (gw : List Float) → card_slots_def p x column gw ≡ card_slots_def p y column gw
    unfolding card_slots_def
    card_slots gw =
        subst (λ (k : ℕ). slots_of p hx lx wx k gw ≡ slots_of p hy ly wy n gw) s.table.shorter
        (slots_behind p hx hy lx wx ly wy n behind s.labels weights_alike (padding_before p x.table column) gw)
