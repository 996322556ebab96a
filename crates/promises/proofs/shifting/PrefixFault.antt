-- A prefix behind padding that has no fault has none without it. Assumes nothing.
use Prim.Native.Nat.{ℕ, ◌+◌, ◌-◌, ◌<◌}
use mathlib.Core.Path.{◌≡◌, sym, ◌∙◌}
use native.Mathlib.Nat.{add-sub_cancel, sub-zero}
use native.Mathlib.Omega.{arith}
use borrow.Author.Tests.{ne_eqb}
use Rattle.domain.specs.Weights.{◌!◌}
use Rattle.checks.specs.Batch.{History, Prefixes, length_at, history, target_weight_at}
use Rattle.checks.specs.Faults.{prefix_rows_def, target_fault, prefix_column_def}
use Rattle.checks.specs.Reads.{prefix_row_def, target_def}
use Rattle.promises.specs.Aligned.{ShiftedPrefix}
use Rattle.promises.proofs.shifting.States.{Behind, shifted_behind}
use Rattle.promises.proofs.shifting.Prefix.{weights_same}
use Rattle.promises.proofs.shifting.Faults.{else_both, else_neither, number, rows_none}

module _ (x y : Prefixes) (column : ℕ) (s : ShiftedPrefix x y column) where
  abbrev hx : History
  hx = history x.table column

  abbrev hy : History
  hy = history y.table column

  abbrev n : ℕ
  n = length_at x.table column

  abbrev m : ℕ
  m = length_at y.table column

  behind : Behind hx hy m
  behind = shifted_behind x.table y.table column s.table

  row_same :
      (row : ℕ) → row < m →
      prefix_row_def (row + hx.first - hx.first) (hx.day (row + hx.first)) (hx.rating (row + hx.first)) ≡
      prefix_row_def (row - hy.first) (hy.day row) (hy.rating row)
  row_same row l = rw (add-sub_cancel row hx.first, behind.days row l, behind.ratings row l, behind.start, sub-zero row)

  target_same :
      (a b : ℕ) →
      (target_fault x.days x.labels (target_weight_at x column) column a).refusal ≡
      (target_fault y.days y.labels (target_weight_at y column) column b).refusal
  unfolding target_fault
  target_same a b =
      number _ column a ∙ (rw (weights_same x y column s, s.target.0, s.target.1)) ∙
      sym (number (target_def (target_weight_at y column) (y.labels ! column) (y.days ! column)) column b)

  pub prefix_fault : (prefix_column_def x column).refusal ≡ 0 → (prefix_column_def y column).refusal ≡ 0
  unfolding prefix_column_def
  prefix_fault h =
      rw (ne_eqb m 0 (λ e. omega (arith, s.some, s.table.shorter)))
      (else_neither (prefix_rows_def hy column m) _
      (rows_none _ _ column m hx.first n s.table.shorter (λ row l e. sym (row_same row l) ∙ e) both.0)
      (sym (target_same n m) ∙ both.1))
    where
      both : ((prefix_rows_def hx column n).refusal ≡ 0) × ((target_fault x.days x.labels (target_weight_at x column) column n).refusal ≡ 0)
      both = else_both _ _ (rw (ne_eqb n 0 (λ e. omega (arith, s.some))) at h)
