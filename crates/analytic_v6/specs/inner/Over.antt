-- The slots as the walk back leaves them that reads the records and step gradients which lie in the lent slices, whatever their room: over step
-- records, and over any layout. Where there is room they are the columns' own (proofs/prefixes/Over.antt, proofs/cards/Over.antt). Assumes nothing.
use Rattle.std.specs.Prelude.{ℕ, zero, suc, cond, List, eqb, Float, get_or}
use Rattle.domain.specs.Doubles.{zero64}
use Rattle.domain.specs.Weights.{◌!◌}
use Rattle.forward.specs.declared.parameters.RuntimeParams.{RuntimeParams}
use Rattle.forward.specs.declared.state.StepRecord.{StepRecord}
use Rattle.checks.specs.Batch.{Prefixes, Cards, length_at, target_weight_at, label_at, weight_at_def}
use Rattle.checks.specs.Columns.{through}
use Rattle.columns.specs.BackwardPass.{start_grad, back_def}
use Rattle.columns.specs.LastReview.{target_grad, target_slots, last_grad, last_slots}
use Rattle.columns.specs.StepRecords.{no_step_def}
use Rattle.analytic_v6.specs.Prefixes.{target_stability, prefix_steps_def, prefix_left}
use Rattle.analytic_v6.specs.Cards.{card_length, last_row, last_number_def, last_stability, last_day_def, card_steps_def, card_grads_def, card_left}

module _ (p : RuntimeParams) (x : Prefixes) where
  unfoldable pub prefix_back : (column : ℕ) (records : List StepRecord) (gw : List Float) → List Float
  prefix_back column records gw =
      let s = target_stability p x column in
      let day = x.days ! column in
      let label = x.labels ! column in
      let weight = target_weight_at x column in
      back_def p (λ row. get_or records row no_step_def) (λ row. zero64) (length_at x.table column)
      (start_grad (target_grad p s day label weight)) (target_slots p s day label weight gw)

  unfoldable pub slots_over : (columns : ℕ) (records : List StepRecord) (gw : List Float) → List Float
  slots_over zero records gw = gw
  slots_over (suc column) records gw = prefix_back column (through (prefix_steps_def p x) (suc column) records) (slots_over column records gw)

  -- in any layout
  module _ {A : Type 0} (store : List A → ℕ → StepRecord → List A) (load : List A → ℕ → StepRecord) where
    unfoldable pub prefix_back_in : (column : ℕ) (records : List A) (gw : List Float) → List Float
    prefix_back_in column records gw =
        let s = target_stability p x column in
        let day = x.days ! column in
        let label = x.labels ! column in
        let weight = target_weight_at x column in
        back_def p (λ row. load records row) (λ row. zero64) (length_at x.table column)
        (start_grad (target_grad p s day label weight)) (target_slots p s day label weight gw)

    unfoldable pub slots_over_in : (columns : ℕ) (records : List A) (gw : List Float) → List Float
    slots_over_in zero records gw = gw
    slots_over_in (suc column) records gw =
        prefix_back_in column (through (λ k. prefix_left p x k store) (suc column) records) (slots_over_in column records gw)

module _ (p : RuntimeParams) (x : Cards) where
  unfoldable pub card_back : (column : ℕ) (records : List StepRecord) (step_grads gw : List Float) → List Float
  card_back column records step_grads gw =
      let last = last_row p x column in
      let number = last_number_def p x column in
      let s = last_stability p x column in
      let day = last_day_def p x column in
      let label = label_at x column last in
      let weight = weight_at_def x column last in
      cond (eqb (card_length p x column) 0) gw
      (back_def p (λ row. get_or records row no_step_def) (λ row. get_or step_grads row zero64) last
      (start_grad (last_grad p number s day label weight)) (last_slots p number s day label weight gw))

  unfoldable pub card_slots_over : (columns : ℕ) (records : List StepRecord) (step_grads gw : List Float) → List Float
  card_slots_over zero records step_grads gw = gw
  card_slots_over (suc column) records step_grads gw =
      card_back column (through (card_steps_def p x) (suc column) records) (through (card_grads_def p x) (suc column) step_grads) (card_slots_over column records step_grads gw)

  -- in any layout
  module _ {A : Type 0} (store : List A → ℕ → StepRecord → List A) (load : List A → ℕ → StepRecord) where
    unfoldable pub card_back_in : (column : ℕ) (records : List A) (step_grads gw : List Float) → List Float
    card_back_in column records step_grads gw =
        let last = last_row p x column in
        let number = last_number_def p x column in
        let s = last_stability p x column in
        let day = last_day_def p x column in
        let label = label_at x column last in
        let weight = weight_at_def x column last in
        cond (eqb (card_length p x column) 0) gw
        (back_def p (λ row. load records row) (λ row. get_or step_grads row zero64) last
        (start_grad (last_grad p number s day label weight)) (last_slots p number s day label weight gw))

    unfoldable pub card_slots_over_in : (columns : ℕ) (records : List A) (step_grads gw : List Float) → List Float
    card_slots_over_in zero records step_grads gw = gw
    card_slots_over_in (suc column) records step_grads gw =
        card_back_in column (through (λ k. card_left p x k store) (suc column) records) (through (card_grads_def p x) (suc column) step_grads)
        (card_slots_over_in column records step_grads gw)
