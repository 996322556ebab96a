-- Demand 3 for cards. Assumes nothing.
use Prim.Native.Nat.{ℕ, ◌-◌, ◌<◌}
use mathlib.Core.Bool.{Bool, true, false, ◌&&◌}
use mathlib.Core.List.{List}
use mathlib.Core.Path.{◌≡◌, refl, sym, ap, ◌∙◌}
use native.Mathlib.Omega.{arith}
use borrow.Author.Tests.{eqb-true, eqb-false, ltb-true, lt-ltb}
use lib.Dec.{eqb, leb, ltb}
use lib.Ieee.{Float}
use lib.ListN.{length}
use Rattle.domain.specs.Weights.{weights_refusal_def}
use Rattle.checks.specs.Align.{is_end_def}
use Rattle.checks.specs.Reads.{later, is_last, card_rating, card_label}
use Rattle.checks.proofs.align.First.{first_same}
use Rattle.checks.proofs.align.Counted.{counts_same, weighed_same}
use Rattle.checks.proofs.reads.Unread.{and_same, card_day_read, card_label_read}
use Rattle.checks.specs.Batch.{Cards, length_at, first_at, at, weight_at_def}
use Rattle.checks.specs.Faults.{Fault, first_fault_def, card_column_def, card_fault_def}
use Rattle.checks.specs.Refusals.{loss_refusal_def, grad_refusal_def, longest_of, cards_sized, card_loss_refusal_def, card_grad_refusal_def}
use Rattle.checks.proofs.Orders.{grad_accepted}
use Rattle.analytic_v6.specs.Cards.{card_loss_def, card_slots_def, cards_loss_and_grad, cards_slots, cards_loss}
use Rattle.laws.proofs.Agreement.Card.{last_inside, card_record_same, inside, rating_read, day_read, RowAt, CardCells, card_fault_same, card_loss_same, card_slots_same, card_keeps}
use Rattle.laws.proofs.Agreement.Faults.{faults_same}
use Rattle.analytic_v6.proofs.cards.Entry.{halves}
use Rattle.promises.specs.CallReads.{Slice, days, ratings, targets, labels, weights, inside as in_table, card_cell, card_reads}
use Rattle.promises.specs.LossCalls.{Call, card_slice, cards}
use Rattle.promises.specs.Frozen.{SameInputs, Alike, Frozen}
use Rattle.promises.proofs.reading.Both.{frozen}
use Rattle.promises.proofs.reading.Steps.{SameSteps}

-- row 0 has no label
no_label : (row : ℕ) (a b : Float) → row ≡ 0 → card_label row a ≡ card_label row b
unfolding card_label later
no_label row a b z = rw z

module _ (x y : Cards) (same : SameInputs cards x y) where
  abbrev c : ℕ
  c = x.table.columns

  -- ---- the cells that are read are the same
  module _ (column : ℕ) (l : column < c) where
    abbrev n : ℕ
    n = length_at x.table column

    column_in : ltb column c ≡ true
    column_in = lt-ltb column c l

    rating_same : (row : ℕ) → row < n → card_rating (is_end_def x.table.align) (is_last n row) ≡ true →
        at x.table x.table.ratings row column ≡ at y.table y.table.ratings row column
    unfolding card_reads card_cell
    rating_same row m e = same.cells ratings row column (rw (column_in, lt-ltb row _ m) e)

    -- at the end every rating is read
    end_same : (row : ℕ) → row < n → is_end_def x.table.align ≡ true →
        at x.table x.table.ratings row column ≡ at y.table y.table.ratings row column
    unfolding card_rating
    end_same row m e = rating_same row m (rw e)

    firsts_same : first_at x.table column ≡ first_at y.table column
    firsts_same = first_same x.table.align _ _ n (λ e row m. end_same row m e) ∙ (rw (same.modes, same.lengths column column_in))

    weight_same : (row : ℕ) → row < n → later (row - first_at x.table column) ≡ true → weight_at_def x column row ≡ weight_at_def y column row
    unfolding card_reads card_cell
    weight_same row m e =
        weighed_same x.table.align _ _ (end_same row m) _ _ (λ k. same.cells weights row column (rw (column_in, lt-ltb row _ m, e) k)) ∙
        (rw same.modes)

    row_same : (row : ℕ) → row < n → RowAt x y column row
    unfolding card_reads card_cell
    row_same row m =
        record {
          ratings = rating_same row m;
          days = λ e. same.cells days row column (rw (column_in, lt-ltb row _ m) e);
          weights = weight_same row m;
          labels = λ e. same.cells labels row column (rw (column_in, lt-ltb row _ m) e);
        }

    column_cells : CardCells x y column
    column_cells =
        record {
          modes = same.modes;
          lengths = same.lengths column column_in;
          first = firsts_same;
          rows = row_same;
        }

  pub same_steps : SameSteps x.table y.table (cards.steps x) (cards.steps y)
  same_steps =
      record {
        columns = same.columns;
        counts = λ column l. ap (λ (n : ℕ). n - 1) (same.lengths column (lt-ltb column c l));
        firsts = firsts_same;
        ratings = λ row column l m. (row_same column l row (inside _ row m)).ratings (rating_read _ row m _);
        days = λ row column l m e. (row_same column l row (inside _ row m)).days (day_read _ row m _ _ _ e);
      }

  row_read : (row column : ℕ) → in_table x.table row column ≡ in_table y.table row column
  row_read row column = and_same (ltb column c) _ _ (λ e. ap (ltb row) (same.lengths column e)) ∙ ap (λ (b : Bool). b && ltb row (length_at y.table column)) (ap (ltb column) same.columns)

  -- what a row reads, where it is in the table
  in_row : (row column : ℕ) (a b : Bool) → ((l : column < c) → row < length_at x.table column → a ≡ b) → in_table x.table row column && a ≡ in_table y.table row column && b
  in_row row column a b h =
      and_same (in_table x.table row column) a b (λ e. let i = halves (ltb column c) _ e in h (ltb-true column c i.0) (ltb-true row _ i.1)) ∙
      ap (λ (t : Bool). t && b) (row_read row column)

  length_same : (column : ℕ) → column < c → length_at x.table column ≡ length_at y.table column
  length_same column l = same.lengths column (lt-ltb column c l)

  pub same_cells : (s : Slice) (row column : ℕ) → card_reads x s row column ≡ card_reads y s row column
  unfolding card_reads
  same_cells days row column =
      in_row row column _ _ (λ l m. card_day_read _ _ _ _ _ _ _ _ _ _ _ (row_same column l row m) ∙ (rw (firsts_same column l, length_same column l)))
  same_cells ratings row column = in_row row column _ _ (λ l m. rw (length_same column l, same.modes))
  same_cells targets row column = refl
  same_cells labels row column =
      in_row row column _ _ (λ l m. card_label_read _ _ _ _ _ _ _ _ _ _ _ (row_same column l row m) ∙ (rw (firsts_same column l)))
  same_cells weights row column =
      in_row row column _ _ (λ l m. rw (firsts_same column l, counts_same x.table.align _ _ (end_same column l row m), same.modes))

  -- ---- the same refusal
  fault_same : (card_fault_def x).refusal ≡ (card_fault_def y).refusal
  unfolding card_fault_def
  fault_same = ap (λ (f : Fault). f.refusal) (faults_same _ _ c (λ column l. card_fault_same x y column (column_cells column l)) ∙ ap (first_fault_def (card_column_def y)) same.columns)

  sized_same : cards_sized x ≡ cards_sized y
  unfolding card_slice
  sized_same = rw (same.rows, same.columns, same.counts, same.sizes days, same.sizes ratings, same.sizes labels, same.sizes weights)

  module _ (w v : List Float) (wb : weights_refusal_def w ≡ 0) (vb : weights_refusal_def v ≡ 0) where
    pub loss_refusal : card_loss_refusal_def w x ≡ card_loss_refusal_def v y
    unfolding card_loss_refusal_def loss_refusal_def
    loss_refusal = rw (wb, vb, sized_same, fault_same)

    pub grad_refusal :
        (slots r s g h : ℕ) → leb (longest_of x.table) r && leb (longest_of x.table) g ≡ true → leb (longest_of y.table) s && leb (longest_of y.table) h ≡ true →
        card_grad_refusal_def w x slots r g ≡ card_grad_refusal_def v y slots s h
    unfolding card_grad_refusal_def grad_refusal_def
    grad_refusal slots r s g h a b = rw (wb, vb, a, b, sized_same, fault_same)

  -- a card's last row is scored where its label is read
  last_read : (column : ℕ) → column < c → cards.scored x column ≡ cards.scored y column
  last_read column l = by (eqb (length_at x.table column) 0) refl
    where
      m : ℕ
      m = length_at x.table column - 1

      number : ℕ
      number = m - first_at x.table column

      moved : card_label number (weight_at_def y column m) ≡ cards.scored y column
      moved = rw (firsts_same column l, length_same column l)

      by : (b : Bool) → b ≡ eqb (length_at x.table column) 0 → cards.scored x column ≡ cards.scored y column
      by true e = no_label number _ _ (omega (arith, eqb-true (length_at x.table column) 0 (sym e))) ∙ moved
      by false e = card_label_read _ _ number _ _ _ _ _ _ _ _ (row_same column l m (last_inside _ (eqb-false _ 0 (sym e)))) ∙ moved

refusals : (c d : Call Cards) → Alike cards c d → cards.refusal c ≡ cards.refusal d
refusals c d h =
    grad_refusal c.x d.x h.inputs c.w d.w h.weights.boxed.0 h.weights.boxed.1 (length c.gw) _ _ _ _ h.room.0 h.room.1 ∙
    ap (λ (gw : List Float). card_grad_refusal_def d.w d.x (length gw) d.records d.step_grads) h.gradients

passed : (c : Call Cards) → cards.refusal c ≡ 0 → (weights_refusal_def c.w ≡ 0) × (cards.room c ≡ true)
unfolding card_grad_refusal_def
passed c z = let a = grad_accepted c.w _ _ _ _ z in (a.0, a.3)

pub cards_frozen : Frozen cards
unfolding cards_loss_and_grad cards_slots cards_loss
cards_frozen =
    frozen cards
    (record {
      loss = card_loss_def;
      change = card_slots_def;
      answers = λ c. refl;
      slots = λ c. refl;
      alone = λ w x. refl;
      passed = passed;
      room_kept = λ c k a. refl;
      refusals = refusals;
      alone_refusals = λ x y w v h wb vb. loss_refusal x y h w v wb vb;
      cells = same_cells;
      steps = λ x y h. same_steps x y h;
      ends = λ x y h column l. last_read x y h column l;
      losses = λ x y h column l w v a t. card_loss_same x y column (column_cells x y h column l) w v a t;
      changes = λ x y h column l w v a t gw. card_slots_same x y column (column_cells x y h column l) w v a t gw;
      records = λ x y h column l w v a t row m. card_record_same x y column (column_cells x y h column l) w v a t row m;
      keeps = λ x column p slot steps end gw. card_keeps x x column p slot steps end gw;
    })
