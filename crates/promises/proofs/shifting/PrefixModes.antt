-- Prefixes without padding are the same in both modes, refusals included. Assumes nothing.
use Prim.Native.Nat.{ℕ, ◌<◌}
use mathlib.Core.Bool.{true, cond}
use mathlib.Core.Path.{◌≡◌, refl, sym, ◌∙◌, subst}
use native.Mathlib.Omega.{arith}
use borrow.Author.Tests.{eq-eqb, eqb-false}
use lib.Dec.{T, eqb}
use Rattle.domain.specs.Weights.{◌!◌}
use Rattle.checks.specs.Batch.{Prefixes, length_at, at, history_of}
use Rattle.checks.specs.Faults.{Fault, or_else, prefix_rows_def, target_fault, prefix_column_def, prefix_fault_def}
use Rattle.checks.specs.Reads.{non_zero}
use Rattle.checks.specs.Refusals.{prefix_grad_refusal_def}
use Rattle.checks.specs.declared.align.Align.{Align}
use Rattle.checks.specs.declared.align.Align.TheVariants.{Start, End}
use Rattle.checks.proofs.align.Counted.{target_kept}
use Rattle.checks.proofs.Orders.{grad_accepted}
use Rattle.forward.proofs.Agreement.{by_cases}
use Rattle.analytic_v6.specs.Prefixes.{prefix_loss_def, prefix_slots_def}
use Rattle.laws.proofs.Agreement.Faults.{faults_same}
use Rattle.promises.specs.Aligned.{ShiftedPrefix, Same, prefixes_as, call_with, Reviewed}
use Rattle.promises.specs.LossCalls.{Call, prefixes}
use Rattle.promises.proofs.shifting.Prefix.{prefix_loss, prefix_slots}
use Rattle.promises.proofs.shifting.Faults.{each_none}
use Rattle.promises.proofs.shifting.Calls.{outcome}
use Rattle.promises.proofs.shifting.Whole.{prefix_entries}
use Rattle.promises.proofs.shifting.Modes.{from_0, both_modes}

module _ (x : Prefixes) (reviewed : Reviewed x.table) where
  module _ (column : ℕ) (l : column < x.table.columns) where
    abbrev n : ℕ
    n = length_at x.table column

    reviews : (row : ℕ) → row < n → non_zero (at x.table x.table.ratings row column) ≡ true
    reviews row k = reviewed row column l k

    -- in either mode
    abbrev column_fault_def : Fault
    column_fault_def =
        cond (eqb n 0)
        (record { refusal = 9; column = column; row = 0 })
        (or_else (prefix_rows_def (history_of x.table.days x.table.ratings x.table.columns column 0) column n)
        (target_fault x.days x.labels (x.weights ! column) column n))

    column_fault : (align : Align) → prefix_column_def (prefixes_as align x) column ≡ column_fault_def
    unfolding prefix_column_def
    column_fault align =
        rw (from_0 x.table column reviews align)
        (by_cases (eqb n 0) _ _ _ _ (λ e. refl)
        (λ e. let z = eqb-false n 0 e in rw (target_kept align 0 n (x.weights ! column) (omega arith))))

    -- an empty column is refused
    some : (prefix_column_def (prefixes_as Start x) column).refusal ≡ 0 → n ≡ 0 → ⊥
    unfolding prefix_column_def
    some h z = subst (λ (k : ℕ). T (eqb k 9)) (rw (eq-eqb n 0 z) at h) tt

    shifted : (prefix_column_def (prefixes_as Start x) column).refusal ≡ 0 → ShiftedPrefix (prefixes_as End x) (prefixes_as Start x) column
    shifted h =
        record {
          table = both_modes x.table column reviews;
          some = let z = some h in rw (from_0 x.table column reviews End) (omega arith);
          target = (refl, refl, refl);
        }

  fault_same : prefix_fault_def (prefixes_as Start x) ≡ prefix_fault_def (prefixes_as End x)
  unfolding prefix_fault_def
  fault_same = faults_same _ _ _ (λ column l. column_fault column l Start ∙ sym (column_fault column l End))

pub prefix_modes :
    (c : Call Prefixes) → Reviewed c.x.table → Same prefixes (call_with (prefixes_as Start) c) (call_with (prefixes_as End) c)
unfolding prefix_grad_refusal_def prefix_fault_def
prefix_modes c reviewed =
    outcome prefixes prefix_loss_def prefix_slots_def (call_with (prefixes_as Start) c) (call_with (prefixes_as End) c) prefix_entries
    (record {
      weights = refl;
      gradients = refl;
      columns = refl;
      refusals = rw (fault_same c.x reviewed);
      each = λ z column l p.
          let none = each_none (prefix_column_def (prefixes_as Start c.x)) _ (grad_accepted c.w _ _ _ _ z).4 column l in
          let h = shifted c.x reviewed column l none in
          (sym (prefix_loss _ _ column h p), λ gw. sym (prefix_slots _ _ column h p gw));
    })
