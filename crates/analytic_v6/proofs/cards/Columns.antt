-- A card with no row, and one with rows: its walk over the lent records and step gradients, and that over those that it left is the walk over its steps and scores. Assumes nothing.
use Rattle.std.proofs.Common.{◌≡◌, ℕ, ◌-◌, ◌≤◌, ◌<◌, List, length, get_or, set, ◌∙◌, arith, eq-eqb, ne_eqb, ne_of_lt, get_or-set_other}
use lib.Ieee.{Float}
use Rattle.domain.specs.Doubles.{zero64}
use Rattle.forward.specs.declared.parameters.RuntimeParams.{RuntimeParams}
use Rattle.forward.specs.declared.state.StepRecord.{StepRecord}
use Rattle.checks.specs.Batch.{History, Cards, length_at, history, label_at, weight_at_def}
use Rattle.checks.specs.declared.deck.Target.{Target}
use Rattle.columns.specs.BackwardPass.{start_grad, back_def}
use Rattle.columns.specs.ForwardPass.{record_at, score_at_def, run_at, grads_def}
use Rattle.columns.specs.LastReview.{last_loss_def, last_grad, last_slots}
use Rattle.columns.specs.Layouts.{left_by}
use Rattle.columns.specs.declared.forward_pass.Run.{Run}
use Rattle.columns.proofs.Kept.{back_same, grads_read}
use Rattle.analytic_v6.specs.Cards.{card_loss_def, card_slots_def, card_left, card_grads_def}
use Rattle.analytic_v6.specs.inner.Over.{card_back_in}

module _ (p : RuntimeParams) (x : Cards) (column : ℕ) where
  module _ (none : 1 ≤ length_at x.table column → ⊥) where
    zero_rows : length_at x.table column ≡ 0
    zero_rows = omega (arith, none)

    pub empty_loss : zero64 ≡ card_loss_def p x column
    unfolding card_loss_def
    empty_loss = rw (eq-eqb _ 0 zero_rows)

    pub empty_back :
        {A : Type 0} (store : List A → ℕ → StepRecord → List A) (load : List A → ℕ → StepRecord) (records : List A) (step_grads gw : List Float) →
        gw ≡ card_back_in p x store load column records step_grads gw
    unfolding card_back_in
    empty_back store load records step_grads gw = rw (eq-eqb _ 0 zero_rows)

    pub empty_left : {A : Type 0} (store : List A → ℕ → StepRecord → List A) (records : List A) → records ≡ card_left p x column store records
    unfolding left_by
    empty_left store records = rw zero_rows

    pub empty_grads : (step_grads : List Float) → step_grads ≡ card_grads_def p x column step_grads
    unfolding card_grads_def
    empty_grads step_grads = rw (eq-eqb _ 0 zero_rows)

  -- a card with rows, its last row, its history, labels and weights
  module _ (some : 1 ≤ length_at x.table column) (last : ℕ) (is-last : last ≡ length_at x.table column - 1)
      (h : History) (is-history : h ≡ history x.table column)
      (label : ℕ → Float) (is-label : label ≡ label_at x column) (weight : ℕ → Float) (is-weight : weight ≡ weight_at_def x column) where
    rows : length_at x.table column ≡ 0 → ⊥
    rows z = omega (arith, some, z)

    pub grads_of : (step_grads : List Float) → set (grads_def p h label weight last step_grads) last zero64 ≡ card_grads_def p x column step_grads
    unfolding card_grads_def
    grads_of step_grads = rw (ne_eqb _ 0 rows, is-last, is-history, is-label, is-weight)

    -- the run of the rows before the last, and the last one's target
    module _ (run : Run) (t : Target) (is-run : run ≡ run_at p h label weight last) (is-target : t ≡ record { day = h.day last; label = label last; weight = weight last }) where
      pub loss_of : last_loss_def p (last - h.first) run.state.s t.day t.label t.weight run.loss ≡ card_loss_def p x column
      unfolding card_loss_def run_at
      loss_of = rw (ne_eqb _ 0 rows, is-run, is-target, is-last, is-history, is-label, is-weight)

      pub back_of :
          {A : Type 0} (store : List A → ℕ → StepRecord → List A) (load : List A → ℕ → StepRecord) (records : List A) (step_grads gw : List Float) →
          back_def p (λ i. load records i) (λ i. get_or step_grads i zero64) last
          (start_grad (last_grad p (last - h.first) run.state.s t.day t.label t.weight)) (last_slots p (last - h.first) run.state.s t.day t.label t.weight gw) ≡
          card_back_in p x store load column records step_grads gw
      unfolding card_back_in run_at
      back_of store load records step_grads gw = rw (ne_eqb _ 0 rows, is-run, is-target, is-last, is-history, is-label, is-weight)

      walk_of :
          (gw : List Float) →
          back_def p (record_at p h) (λ row. (score_at_def p h label weight row).g_r) last
          (start_grad (last_grad p (last - h.first) run.state.s t.day t.label t.weight)) (last_slots p (last - h.first) run.state.s t.day t.label t.weight gw) ≡
          card_slots_def p x column gw
      unfolding card_slots_def run_at
      walk_of gw = rw (ne_eqb _ 0 rows, is-run, is-target, is-last, is-history, is-label, is-weight)

      pub slots_of :
          (records : ℕ → StepRecord) (step_grads gw : List Float) → ((i : ℕ) → i < last → records i ≡ record_at p h i) → length_at x.table column ≤ length step_grads →
          back_def p records (λ i. get_or (set (grads_def p h label weight last step_grads) last zero64) i zero64) last
          (start_grad (last_grad p (last - h.first) run.state.s t.day t.label t.weight)) (last_slots p (last - h.first) run.state.s t.day t.label t.weight gw) ≡
          card_slots_def p x column gw
      slots_of records step_grads gw read fits =
          back_same p records (record_at p h) _ (λ row. (score_at_def p h label weight row).g_r) last read
          (λ i k. get_or-set_other (grads_def p h label weight last step_grads) last i zero64 zero64 (ne_of_lt k) ∙ grads_read p h label weight last i step_grads less k) _ _ ∙
          walk_of gw
        where
          less : last ≤ length step_grads
          less = omega (arith, fits, is-last)
