-- A card: its fault, its loss and its slots, from the cells and weights that count as read. Assumes nothing.
use Prim.Native.Nat.{ℕ, zero, suc, ◌-◌, ◌<◌}
use mathlib.Core.Bool.{Bool, true, false, ◌&&◌, cond}
use mathlib.Core.List.{List}
use mathlib.Core.Path.{◌≡◌, refl, ap, ◌∙◌}
use native.Mathlib.Nat.{le-suc, lt_of_lt_of_le, lt-suc_self}
use native.Mathlib.Omega.{arith}
use borrow.Author.Tests.{eq-eqb, ne_eqb, eqb-false}
use lib.Dec.{eqb}
use lib.Ieee.{Float}
use Rattle.domain.specs.Doubles.{zero64}
use Rattle.domain.specs.Weights.{◌!◌}
use Rattle.checks.specs.Reads.{is_last, prefix_day, card_day_def, card_rating, card_label, card_row_def}
use Rattle.checks.specs.Align.{is_end_def}
use Rattle.checks.specs.Batch.{History, Cards, length_at, history, label_at, weight_at_def}
use Rattle.checks.specs.Faults.{fault_at_def, rows_fault, card_rows_def, card_column_def}
use Rattle.forward.specs.Params.{params_def}
use Rattle.forward.specs.declared.parameters.RuntimeParams.{RuntimeParams}
use Rattle.forward.specs.declared.state.State.{State}
use Rattle.forward.specs.WeightsRead.{step_reads, Agree}
use Rattle.forward.proofs.Agreement.{by_cases}
use Rattle.columns.specs.declared.scores.Score.{Score}
use Rattle.columns.specs.BackwardPass.{start_grad, back_def}
use Rattle.columns.specs.LastReview.{last_loss_def, last_grad, last_slots}
use Rattle.columns.specs.ForwardPass.{state_at, record_at, score_at_def, loss_at}
use Rattle.analytic_v6.specs.Cards.{card_loss_def, card_slots_def}
use Rattle.checks.proofs.reads.Unread.{CardRow, card_row_same}
use Rattle.laws.proofs.Agreement.Faults.{faults_same}
use Rattle.laws.proofs.Agreement.Path.{Row, states_same, record_same}
use Rattle.laws.proofs.Agreement.Ends.{row_score_same, last_loss_same, last_grad_same, last_slots_same, last_keeps}
use Rattle.laws.proofs.Agreement.Reverse.{back_keeps}
use Rattle.laws.proofs.Agreement.Walk.{walk_same, Still, scored_still}

-- rows 0..n-2 are not the last, and row n-1 is
module _ (n row : ℕ) where
  pub before_last : row < n - 1 → is_last n row ≡ false
  unfolding is_last
  before_last l = ne_eqb (suc row) n (λ e. omega (arith, e, l))

  pub inside : row < n - 1 → row < n
  inside l = omega (arith, l)

  -- in either mode
  pub rating_read : row < n - 1 → (end : Bool) → card_rating end (is_last n row) ≡ true
  unfolding card_rating
  rating_read l true = refl
  rating_read l false = rw (before_last l)

  -- by the number of the row
  pub day_read :
      row < n - 1 → (number : ℕ) (rating weight : Float) → prefix_day number rating ≡ true → card_day_def (is_last n row) number rating weight ≡ true
  unfolding card_day_def prefix_day
  day_read l number rating weight h = rw (before_last l) h

pub last_inside : (n : ℕ) → (n ≡ 0 → ⊥) → n - 1 < n
last_inside n h = omega (arith, h)

is_last_row : (n : ℕ) → (n ≡ 0 → ⊥) → is_last n (n - 1) ≡ true
unfolding is_last
is_last_row n h = eq-eqb (suc (n - 1)) n (omega (arith, h))

pub last_day_read :
    (n : ℕ) → (n ≡ 0 → ⊥) → (number : ℕ) (rating weight : Float) → card_label number weight ≡ true → card_day_def (is_last n (n - 1)) number rating weight ≡ true
unfolding card_day_def card_label
last_day_read n h number rating weight e = rw (is_last_row n h) e

module _ (p p' : RuntimeParams) (h h' : History) (label weight label' weight' : ℕ → Float) where
  losses_same : (n : ℕ) → ((row : ℕ) → row < n → score_at_def p h label weight row ≡ score_at_def p' h' label' weight' row) →
      loss_at p h label weight n ≡ loss_at p' h' label' weight' n
  unfolding loss_at
  losses_same zero e = refl
  losses_same (suc n) e = rw (losses_same n (λ i l. e i (lt_of_lt_of_le l (le-suc n))), e n (lt-suc_self n))

-- a card's parts, of the card's length: the state before the last row, the last row's part, and the whole
module _ (p : RuntimeParams) (y : Cards) (column n : ℕ) where
  abbrev hist : History
  hist = history y.table column

  abbrev last_of : ℕ
  last_of = n - 1 - hist.first

  abbrev state_of : State
  state_of = state_at p hist (n - 1)

  abbrev score_of : (row : ℕ) → Score
  score_of row = score_at_def p hist (label_at y column) (weight_at_def y column) row

  abbrev before_of : Float
  before_of = loss_at p hist (label_at y column) (weight_at_def y column) (n - 1)

  abbrev loss_of_def : Float
  loss_of_def = last_loss_def p last_of state_of.s (hist.day (n - 1)) (label_at y column (n - 1)) (weight_at_def y column (n - 1)) before_of

  abbrev grad_of_def : Float
  grad_of_def = last_grad p last_of state_of.s (hist.day (n - 1)) (label_at y column (n - 1)) (weight_at_def y column (n - 1))

  abbrev end_of : (gw : List Float) → List Float
  end_of gw = last_slots p last_of state_of.s (hist.day (n - 1)) (label_at y column (n - 1)) (weight_at_def y column (n - 1)) gw

  abbrev walk_of : (gw : List Float) → List Float
  walk_of gw = back_def p (record_at p hist) (λ row. (score_of row).g_r) (n - 1) (start_grad grad_of_def) (end_of gw)

  abbrev loss_with : Float
  loss_with = cond (eqb n 0) zero64 loss_of_def

  abbrev slots_with : (gw : List Float) → List Float
  slots_with gw = cond (eqb n 0) gw (walk_of gw)

module _ (x y : Cards) (column : ℕ) where
  abbrev n : ℕ
  n = length_at x.table column

  abbrev hx : History
  hx = history x.table column

  abbrev hy : History
  hy = history y.table column

  abbrev last_number : ℕ
  last_number = n - 1 - hx.first

  abbrev pub RowAt : (row : ℕ) → Type 0
  RowAt row =
      CardRow (is_end_def x.table.align) (is_last n row) (row - hx.first) (hx.day row) (hy.day row) (hx.rating row) (hy.rating row)
      (weight_at_def x column row) (weight_at_def y column row) (label_at x column row) (label_at y column row)

  -- the cells of the column that count as read are the same
  pub record CardCells : Type 0 where
    pub modes : x.table.align ≡ y.table.align
    pub lengths : length_at x.table column ≡ length_at y.table column
    pub first : hx.first ≡ hy.first
    pub rows : (row : ℕ) → row < n → RowAt row

  module _ (same : CardCells) where
    abbrev end : Bool
    end = is_end_def x.table.align

    row_same : (row : ℕ) → row < n →
        card_row_def end (is_last n row) (row - hx.first) (hx.day row) (hx.rating row) (weight_at_def x column row) (label_at x column row) ≡
        card_row_def end (is_last n row) (row - hy.first) (hy.day row) (hy.rating row) (weight_at_def y column row) (label_at y column row)
    row_same row l = card_row_same end (is_last n row) (row - hx.first) _ _ _ _ _ _ _ _ (same.rows row l) ∙ (rw same.first)

    rows_same : card_rows_def end hx (label_at x column) (weight_at_def x column) column n ≡ card_rows_def end hy (label_at y column) (weight_at_def y column) column n
    unfolding rows_fault
    rows_same = faults_same _ _ n (λ row l. ap (λ (m : ℕ). fault_at_def m column row) (row_same row l))

    pub card_fault_same : card_column_def x column ≡ card_column_def y column
    unfolding card_column_def
    card_fault_same = rows_same ∙ (rw (same.lengths, same.modes))

    module _ (w v : List Float)
        (weights : (row : ℕ) → row < n - 1 → Agree (step_reads (state_at (params_def w) hx row) (hx.day row) (hx.rating row) (row - hx.first)) w v)
        (twenty : w ! 20 ≡ v ! 20) where
      rows : (row : ℕ) → row < n - 1 → Row w v hx hy row
      rows row l =
          let h = same.rows row (inside n row l) in
          record { rating = h.ratings (rating_read n row l end); day = λ e. h.days (day_read n row l _ _ _ e); weights = weights row l }

      pub card_record_same : (row : ℕ) → row < n - 1 → record_at (params_def w) hx row ≡ record_at (params_def v) hy row
      card_record_same = record_same w v hx hy same.first (n - 1) rows

      state_same : state_of (params_def w) x column n ≡ state_of (params_def v) y column n
      state_same = states_same w v hx hy same.first (n - 1) rows

      score_same : (row : ℕ) → row < n - 1 → score_of (params_def w) x column n row ≡ score_of (params_def v) y column n row
      unfolding score_at_def
      score_same row l =
          let h = same.rows row (inside n row l) in
          row_score_same (row - hx.first) _ _ _ _ _ h.weights h.labels ∙ (rw (card_record_same row l, same.first))

      before_same : before_of (params_def w) x column n ≡ before_of (params_def v) y column n
      before_same = losses_same (params_def w) (params_def v) hx hy _ _ _ _ (n - 1) score_same

      module _ (some : n ≡ 0 → ⊥) where
        last : RowAt (n - 1)
        last = same.rows (n - 1) (last_inside n some)

        last_day : card_label last_number (weight_at_def x column (n - 1)) ≡ true → hx.day (n - 1) ≡ hy.day (n - 1)
        last_day e = last.days (last_day_read n some _ _ _ e)

        loss_of : loss_of_def (params_def w) x column n ≡ loss_of_def (params_def v) y column n
        loss_of =
            last_loss_same w v twenty last_number _ _ _ _ _ _ _ last.weights last_day last.labels _ ∙ (rw (state_same, before_same, same.first))

        grad_of : grad_of_def (params_def w) x column n ≡ grad_of_def (params_def v) y column n
        grad_of = last_grad_same w v twenty last_number _ _ _ _ _ _ _ last.weights last_day last.labels ∙ (rw (state_same, same.first))

        ends_same : (gw : List Float) → end_of (params_def w) x column n gw ≡ end_of (params_def v) y column n gw
        ends_same gw = last_slots_same w v twenty last_number _ _ _ _ _ _ _ last.weights last_day last.labels gw ∙ (rw (state_same, same.first))

        walks_same : (gw : List Float) → walk_of (params_def w) x column n gw ≡ walk_of (params_def v) y column n gw
        walks_same gw =
            walk_same w v hx hy same.first (n - 1) rows twenty _ _ (λ row l. ap (λ (s : Score). s.g_r) (score_same row l)) _ _ ∙
            (rw (grad_of, ends_same gw))

      pub card_loss_same : card_loss_def (params_def w) x column ≡ card_loss_def (params_def v) y column
      unfolding card_loss_def
      card_loss_same =
          by_cases (eqb n 0) _ _ _ _ (λ e. refl) (λ e. loss_of (eqb-false n 0 e)) ∙ ap (loss_with (params_def v) y column) same.lengths

      pub card_slots_same : (gw : List Float) → card_slots_def (params_def w) x column gw ≡ card_slots_def (params_def v) y column gw
      unfolding card_slots_def
      card_slots_same gw =
          by_cases (eqb n 0) _ _ _ _ (λ e. refl) (λ e. walks_same (eqb-false n 0 e) gw) ∙
          ap (λ (m : ℕ). slots_with (params_def v) y column m gw) same.lengths

  -- a slot that neither the steps nor the last row may move
  pub card_keeps :
      (p : RuntimeParams) (slot : ℕ) → ((row : ℕ) → row < n - 1 → Still p hx slot row) →
      eqb slot 20 && card_label last_number (weight_at_def x column (n - 1)) ≡ false → (gw : List Float) → card_slots_def p x column gw ! slot ≡ gw ! slot
  unfolding card_slots_def
  card_keeps p slot steps end gw =
      kept (eqb n 0) _
      (back_keeps _ _ slot p (n - 1) (λ row l. scored_still p _ slot row _ _ (steps row l)) _ _ ∙ last_keeps slot p last_number _ _ _ _ gw end)
    where
      kept : (b : Bool) (xs : List Float) → xs ! slot ≡ gw ! slot → cond b gw xs ! slot ≡ gw ! slot
      kept true xs h = refl
      kept false xs h = h
