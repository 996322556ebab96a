-- A prefix: its fault, its loss and its slots, from the cells and weights that count as read. Assumes nothing.
use Prim.Native.Nat.{ℕ, ◌-◌, ◌<◌}
use mathlib.Core.Bool.{true, false, ◌&&◌}
use mathlib.Core.List.{List}
use mathlib.Core.Path.{◌≡◌, refl, ap, ◌∙◌}
use lib.Dec.{eqb}
use lib.Ieee.{Float}
use Rattle.domain.specs.Doubles.{zero64}
use Rattle.domain.specs.Weights.{◌!◌}
use Rattle.checks.specs.Reads.{non_zero, prefix_day, prefix_row_def, target_def}
use Rattle.checks.specs.Batch.{History, Prefixes, length_at, history, target_weight_at}
use Rattle.checks.specs.Faults.{fault_at_def, rows_fault, prefix_rows_def, target_fault, prefix_column_def}
use Rattle.forward.specs.Params.{params_def}
use Rattle.forward.specs.declared.parameters.RuntimeParams.{RuntimeParams}
use Rattle.forward.specs.WeightsRead.{step_reads, Agree}
use Rattle.forward.specs.declared.state.State.{State}
use Rattle.columns.specs.LastReview.{target_grad, target_slots}
use Rattle.columns.specs.ForwardPass.{state_at, record_at}
use Rattle.analytic_v6.specs.Prefixes.{target_stability, prefix_loss_def, prefix_slots_def}
use Rattle.checks.proofs.reads.Unread.{prefix_row_same, target_same}
use Rattle.laws.proofs.Agreement.Faults.{faults_same}
use Rattle.laws.proofs.Agreement.Path.{Row, states_same, record_same}
use Rattle.laws.proofs.Agreement.Ends.{loss_same, grad_same, slots_same, target_keeps}
use Rattle.laws.proofs.Agreement.Reverse.{back_keeps}
use Rattle.laws.proofs.Agreement.Walk.{walk_same, Still, unscored_still}

module _ (x y : Prefixes) (column : ℕ) where
  abbrev n : ℕ
  n = length_at x.table column

  abbrev hx : History
  hx = history x.table column

  abbrev hy : History
  hy = history y.table column

  -- the cells of the column that count as read are the same
  pub record PrefixCells : Type 0 where
    pub lengths : length_at x.table column ≡ length_at y.table column
    pub first : hx.first ≡ hy.first
    pub ratings : (row : ℕ) → row < n → hx.rating row ≡ hy.rating row
    pub days : (row : ℕ) → row < n → prefix_day (row - hx.first) (hx.rating row) ≡ true → hx.day row ≡ hy.day row
    pub weights : target_weight_at x column ≡ target_weight_at y column
    pub labels : non_zero (target_weight_at x column) ≡ true → x.labels ! column ≡ y.labels ! column
    pub targets : non_zero (target_weight_at x column) ≡ true → x.days ! column ≡ y.days ! column

  module _ (same : PrefixCells) where
    row_same :
        (row : ℕ) → row < n →
        prefix_row_def (row - hx.first) (hx.day row) (hx.rating row) ≡ prefix_row_def (row - hy.first) (hy.day row) (hy.rating row)
    row_same row l = prefix_row_same (row - hx.first) _ _ _ (same.days row l) ∙ (rw (same.ratings row l, same.first))

    rows_same : prefix_rows_def hx column n ≡ prefix_rows_def hy column n
    unfolding rows_fault
    rows_same = faults_same _ _ n (λ row l. ap (λ (n : ℕ). fault_at_def n column row) (row_same row l))

    end_same :
        (n : ℕ) →
        target_fault x.days x.labels (target_weight_at x column) column n ≡ target_fault y.days y.labels (target_weight_at y column) column n
    unfolding target_fault
    end_same n =
        ap (λ (m : ℕ). fault_at_def m column n)
        (target_same _ _ _ _ _ same.labels same.targets ∙ ap (λ (u : Float). target_def u (y.labels ! column) (y.days ! column)) same.weights)

    pub prefix_fault_same : prefix_column_def x column ≡ prefix_column_def y column
    unfolding prefix_column_def
    prefix_fault_same = rw (rows_same, end_same n, same.lengths)

    module _ (w v : List Float)
        (weights : (row : ℕ) → row < n → Agree (step_reads (state_at (params_def w) hx row) (hx.day row) (hx.rating row) (row - hx.first)) w v)
        (twenty : w ! 20 ≡ v ! 20) where
      rows : (row : ℕ) → row < n → Row w v hx hy row
      rows row l = record { rating = same.ratings row l; day = same.days row l; weights = weights row l }

      pub prefix_record_same : (row : ℕ) → row < n → record_at (params_def w) hx row ≡ record_at (params_def v) hy row
      prefix_record_same = record_same w v hx hy same.first n rows

      stability : target_stability (params_def w) x column ≡ target_stability (params_def v) y column
      stability =
          ap (λ (q : State). q.s) (states_same w v hx hy same.first n rows) ∙ ap (λ (n : ℕ). (state_at (params_def v) hy n).s) same.lengths

      pub prefix_loss_same : prefix_loss_def (params_def w) x column ≡ prefix_loss_def (params_def v) y column
      unfolding prefix_loss_def
      prefix_loss_same = loss_same w v twenty _ _ _ _ _ _ same.targets same.labels ∙ (rw (stability, same.weights))

      grad :
          target_grad (params_def w) (target_stability (params_def w) x column) (x.days ! column) (x.labels ! column) (target_weight_at x column) ≡
          target_grad (params_def v) (target_stability (params_def v) y column) (y.days ! column) (y.labels ! column) (target_weight_at y column)
      grad = grad_same w v twenty _ _ _ _ _ _ same.targets same.labels ∙ (rw (stability, same.weights))

      ended :
          (gw : List Float) →
          target_slots (params_def w) (target_stability (params_def w) x column) (x.days ! column) (x.labels ! column) (target_weight_at x column) gw ≡
          target_slots (params_def v) (target_stability (params_def v) y column) (y.days ! column) (y.labels ! column) (target_weight_at y column) gw
      ended gw = slots_same w v twenty _ _ _ _ _ _ same.targets same.labels gw ∙ (rw (stability, same.weights))

      pub prefix_slots_same : (gw : List Float) → prefix_slots_def (params_def w) x column gw ≡ prefix_slots_def (params_def v) y column gw
      unfolding prefix_slots_def
      prefix_slots_same gw =
          walk_same w v hx hy same.first n rows twenty (λ row. zero64) (λ row. zero64) (λ row l. refl) _ _ ∙ (rw (grad, ended gw, same.lengths))

  -- a slot that neither the steps nor the target may move
  pub prefix_keeps :
      (p : RuntimeParams) (slot : ℕ) → ((row : ℕ) → row < n → Still p hx slot row) →
      eqb slot 20 && non_zero (target_weight_at x column) ≡ false → (gw : List Float) → prefix_slots_def p x column gw ! slot ≡ gw ! slot
  unfolding prefix_slots_def
  prefix_keeps p slot steps end gw =
      back_keeps _ _ slot p n (λ row l. unscored_still p _ slot row (steps row l)) _ _ ∙ target_keeps slot p _ _ _ _ gw end
