-- Demand 3 for prefixes. Assumes nothing.
use Prim.Native.Nat.{ℕ, ◌-◌, ◌<◌}
use mathlib.Core.Bool.{Bool, true, ◌&&◌}
use mathlib.Core.List.{List}
use mathlib.Core.Path.{◌≡◌, refl, ap, ◌∙◌}
use borrow.Author.Tests.{ltb-true, lt-ltb}
use lib.Dec.{leb, ltb}
use lib.Ieee.{Float}
use lib.ListN.{length}
use Rattle.domain.specs.Weights.{◌!◌, weights_refusal_def}
use Rattle.checks.specs.Align.{target_weight_def}
use Rattle.checks.specs.Reads.{non_zero, prefix_day}
use Rattle.checks.proofs.align.First.{first_same}
use Rattle.checks.proofs.reads.Unread.{and_same}
use Rattle.checks.specs.Batch.{Prefixes, length_at, first_at, at, target_read_at, target_weight_at}
use Rattle.checks.specs.Faults.{Fault, first_fault_def, prefix_column_def, prefix_fault_def}
use Rattle.checks.specs.Refusals.{loss_refusal_def, grad_refusal_def, longest_of, prefixes_sized, prefix_loss_refusal_def, prefix_grad_refusal_def}
use Rattle.checks.proofs.Orders.{grad_accepted}
use Rattle.forward.proofs.Agreement.{by_cases}
use Rattle.analytic_v6.specs.Prefixes.{prefix_loss_def, prefix_slots_def, batch_loss_and_grad_def, batch_slots, batch_loss_def}
use Rattle.laws.proofs.Agreement.Faults.{faults_same}
use Rattle.laws.proofs.Agreement.Prefix.{PrefixCells, prefix_record_same, prefix_fault_same, prefix_loss_same, prefix_slots_same, prefix_keeps}
use Rattle.analytic_v6.proofs.cards.Entry.{halves}
use Rattle.promises.specs.CallReads.{Slice, days, ratings, targets, labels, weights, inside, prefix_cell, prefix_reads}
use Rattle.promises.specs.LossCalls.{Call, prefix_slice, prefixes}
use Rattle.promises.specs.Frozen.{SameInputs, Alike, Frozen}
use Rattle.promises.proofs.reading.Both.{frozen}
use Rattle.promises.proofs.reading.Steps.{SameSteps}

module _ (x y : Prefixes) (same : SameInputs prefixes x y) where
  abbrev c : ℕ
  c = x.table.columns

  -- ---- the cells that are read are the same
  module _ (column : ℕ) (l : column < c) where
    column_in : ltb column c ≡ true
    column_in = lt-ltb column c l

    rating_same : (row : ℕ) → row < length_at x.table column → at x.table x.table.ratings row column ≡ at y.table y.table.ratings row column
    unfolding prefix_reads prefix_cell
    rating_same row m = same.cells ratings row column (rw (column_in, lt-ltb row _ m))

    firsts_same : first_at x.table column ≡ first_at y.table column
    firsts_same = first_same x.table.align _ _ _ (λ e. rating_same) ∙ (rw (same.modes, same.lengths column column_in))

    day_same :
        (row : ℕ) → row < length_at x.table column →
        prefix_day (row - first_at x.table column) (at x.table x.table.ratings row column) ≡ true →
        at x.table x.table.days row column ≡ at y.table y.table.days row column
    unfolding prefix_reads prefix_cell
    day_same row m e = same.cells days row column (rw (column_in, lt-ltb row _ m) e)

    read_same : target_read_at x column ≡ target_read_at y column
    read_same = rw (firsts_same, same.modes, same.lengths column column_in)

    cell_same : target_read_at x column ≡ true → x.weights ! column ≡ y.weights ! column
    unfolding prefix_reads prefix_cell
    cell_same e = same.cells weights 0 column (rw column_in e)

    weight_same : target_weight_at x column ≡ target_weight_at y column
    unfolding target_weight_def
    weight_same = by_cases (target_read_at x column) _ _ _ _ cell_same (λ e. refl) ∙ (rw read_same)

    label_same : non_zero (target_weight_at x column) ≡ true → x.labels ! column ≡ y.labels ! column
    unfolding prefix_reads prefix_cell
    label_same e = same.cells labels 0 column (rw column_in e)

    target_same : non_zero (target_weight_at x column) ≡ true → x.days ! column ≡ y.days ! column
    unfolding prefix_reads prefix_cell
    target_same e = same.cells targets 0 column (rw column_in e)

    column_cells : PrefixCells x y column
    column_cells =
        record {
          lengths = same.lengths column column_in;
          first = firsts_same;
          ratings = rating_same;
          days = day_same;
          weights = weight_same;
          labels = label_same;
          targets = target_same;
        }

  pub same_steps : SameSteps x.table y.table (prefixes.steps x) (prefixes.steps y)
  same_steps =
      record {
        columns = same.columns;
        counts = λ column l. same.lengths column (lt-ltb column c l);
        firsts = firsts_same;
        ratings = λ row column l m. rating_same column l row m;
        days = λ row column l m e. day_same column l row m e;
      }

  column_read : (column : ℕ) → ltb column c ≡ ltb column y.table.columns
  column_read column = ap (ltb column) same.columns

  row_read : (row column : ℕ) → inside x.table row column ≡ inside y.table row column
  row_read row column = and_same (ltb column c) _ _ (λ e. ap (ltb row) (same.lengths column e)) ∙ ap (λ (b : Bool). b && ltb row (length_at y.table column)) (column_read column)

  with_rows : (row column : ℕ) → inside x.table row column ≡ true → (column < c) × (row < length_at x.table column)
  with_rows row column e = let h = halves (ltb column c) _ e in (ltb-true column c h.0, ltb-true row _ h.1)

  -- what a column reads, where it is in the table
  in_column : (column : ℕ) (a b : Bool) → (column < c → a ≡ b) → ltb column c && a ≡ ltb column y.table.columns && b
  in_column column a b h = and_same (ltb column c) a b (λ e. h (ltb-true column c e)) ∙ ap (λ (t : Bool). t && b) (column_read column)

  counted : (column : ℕ) → ltb column c && non_zero (target_weight_at x column) ≡ ltb column y.table.columns && non_zero (target_weight_at y column)
  counted column = in_column column _ _ (λ l. ap non_zero (weight_same column l))

  day_read : (row column : ℕ) → column < c → row < length_at x.table column →
      prefix_day (row - first_at x.table column) (at x.table x.table.ratings row column) ≡
      prefix_day (row - first_at y.table column) (at y.table y.table.ratings row column)
  day_read row column l m = rw (rating_same column l row m, firsts_same column l)

  pub same_cells : (s : Slice) (row column : ℕ) → prefix_reads x s row column ≡ prefix_reads y s row column
  unfolding prefix_reads
  same_cells days row column =
      and_same (inside x.table row column) _ _ (λ e. let h = with_rows row column e in day_read row column h.0 h.1) ∙
      ap (λ (b : Bool). b && prefix_day (row - first_at y.table column) (at y.table y.table.ratings row column)) (row_read row column)
  same_cells ratings row column = row_read row column
  same_cells targets row column = counted column
  same_cells labels row column = counted column
  same_cells weights row column = in_column column _ _ (read_same column)

  -- ---- the same refusal
  fault_same : (prefix_fault_def x).refusal ≡ (prefix_fault_def y).refusal
  unfolding prefix_fault_def
  fault_same = ap (λ (f : Fault). f.refusal) (faults_same _ _ c (λ column l. prefix_fault_same x y column (column_cells column l)) ∙ ap (first_fault_def (prefix_column_def y)) same.columns)

  sized_same : prefixes_sized x ≡ prefixes_sized y
  unfolding prefix_slice
  sized_same = rw (same.rows, same.columns, same.counts, same.sizes days, same.sizes ratings, same.sizes targets, same.sizes labels, same.sizes weights)

  module _ (w v : List Float) (wb : weights_refusal_def w ≡ 0) (vb : weights_refusal_def v ≡ 0) where
    pub loss_refusal : prefix_loss_refusal_def w x ≡ prefix_loss_refusal_def v y
    unfolding prefix_loss_refusal_def loss_refusal_def
    loss_refusal = rw (wb, vb, sized_same, fault_same)

    pub grad_refusal : (slots r s : ℕ) → leb (longest_of x.table) r ≡ true → leb (longest_of y.table) s ≡ true → prefix_grad_refusal_def w x slots r ≡ prefix_grad_refusal_def v y slots s
    unfolding prefix_grad_refusal_def grad_refusal_def
    grad_refusal slots r s a b = rw (wb, vb, a, b, sized_same, fault_same)

refusals : (c d : Call Prefixes) → Alike prefixes c d → prefixes.refusal c ≡ prefixes.refusal d
refusals c d h =
    grad_refusal c.x d.x h.inputs c.w d.w h.weights.boxed.0 h.weights.boxed.1 (length c.gw) _ _ h.room.0 h.room.1 ∙
    ap (λ (gw : List Float). prefix_grad_refusal_def d.w d.x (length gw) d.records) h.gradients

passed : (c : Call Prefixes) → prefixes.refusal c ≡ 0 → (weights_refusal_def c.w ≡ 0) × (prefixes.room c ≡ true)
unfolding prefix_grad_refusal_def
passed c z = let a = grad_accepted c.w _ _ _ _ z in (a.0, a.3)

pub prefixes_frozen : Frozen prefixes
unfolding batch_loss_and_grad_def batch_slots batch_loss_def
prefixes_frozen =
    frozen prefixes
    (record {
      loss = prefix_loss_def;
      change = prefix_slots_def;
      answers = λ c. refl;
      slots = λ c. refl;
      alone = λ w x. refl;
      passed = passed;
      room_kept = λ c k a. refl;
      refusals = refusals;
      alone_refusals = λ x y w v h wb vb. loss_refusal x y h w v wb vb;
      cells = same_cells;
      steps = λ x y h. same_steps x y h;
      ends = λ x y h column l. ap non_zero (weight_same x y h column l);
      losses = λ x y h column l w v a t. prefix_loss_same x y column (column_cells x y h column l) w v a t;
      changes = λ x y h column l w v a t gw. prefix_slots_same x y column (column_cells x y h column l) w v a t gw;
      records = λ x y h column l w v a t row m. prefix_record_same x y column (column_cells x y h column l) w v a t row m;
      keeps = λ x column p slot steps end gw. prefix_keeps x x column p slot steps end gw;
    })
