-- What a gradient's call leaves in its records, under the names of the two layouts. Assumes nothing.
use Rattle.std.proofs.Common.{◌≡◌, ℕ, zero, suc, cond, eqb, List, length, refl, ap, ◌∙◌}
use lib.Ieee.{Float}
use Rattle.forward.specs.Params.{params_def}
use Rattle.forward.specs.declared.state.StepRecord.{StepRecord}
use Rattle.checks.specs.Batch.{Prefixes, Cards, length_at, history}
use Rattle.checks.specs.Columns.{through}
use Rattle.checks.specs.Refusals.{prefix_grad_refusal_def, card_grad_refusal_def}
use Rattle.columns.specs.Layouts.{steps_room, store_steps, store_columns}
use Rattle.columns.specs.Records.{room_def}
use Rattle.columns.proofs.Left.{left_in_columns, left_in_steps}
use Rattle.analytic_v6.specs.Cards.{card_steps_def, card_records_def, last_row, cards_left, cards_steps, cards_records}
use Rattle.analytic_v6.specs.Prefixes.{prefix_steps_def, prefix_records_def, batch_left, batch_steps, batch_records}

pub through_same : {E : Type 0} (f g : ℕ → List E → List E) → ((k : ℕ) (ys : List E) → f k ys ≡ g k ys) → (n : ℕ) (xs : List E) → through f n xs ≡ through g n xs
unfolding through
through_same f g h zero xs = refl
through_same f g h (suc n) xs = h n (through f n xs) ∙ ap (g n) (through_same f g h n xs)

module _ (w : List Float) (x : Prefixes) (gw : ℕ) where
  pub batch_in_steps : (records : List StepRecord) → batch_left steps_room store_steps w x gw records ≡ batch_steps w x gw records
  unfolding batch_left batch_steps prefix_steps_def
  batch_in_steps records =
      ap (λ (ys : List StepRecord). cond (eqb (prefix_grad_refusal_def w x gw (length records)) 0) ys records)
      (through_same _ _ (λ k ys. left_in_steps (params_def w) (history x.table k) (length_at x.table k) ys) x.table.columns records)

  pub batch_in_columns : (records : List Float) → batch_left room_def store_columns w x gw records ≡ batch_records w x gw records
  unfolding batch_left batch_records prefix_records_def
  batch_in_columns records =
      ap (λ (ys : List Float). cond (eqb (prefix_grad_refusal_def w x gw (room_def (length records))) 0) ys records)
      (through_same _ _ (λ k ys. left_in_columns (params_def w) (history x.table k) (length_at x.table k) ys) x.table.columns records)

module _ (w : List Float) (x : Cards) (gw step_grads : ℕ) where
  pub cards_in_steps : (records : List StepRecord) → cards_left steps_room store_steps w x gw records step_grads ≡ cards_steps w x gw records step_grads
  unfolding cards_left cards_steps card_steps_def
  cards_in_steps records =
      ap (λ (ys : List StepRecord). cond (eqb (card_grad_refusal_def w x gw (length records) step_grads) 0) ys records)
      (through_same _ _ (λ k ys. left_in_steps (params_def w) (history x.table k) (last_row (params_def w) x k) ys) x.table.columns records)

  pub cards_in_columns : (records : List Float) → cards_left room_def store_columns w x gw records step_grads ≡ cards_records w x gw records step_grads
  unfolding cards_left cards_records card_records_def
  cards_in_columns records =
      ap (λ (ys : List Float). cond (eqb (card_grad_refusal_def w x gw (room_def (length records)) step_grads) 0) ys records)
      (through_same _ _ (λ k ys. left_in_columns (params_def w) (history x.table k) (last_row (params_def w) x k) ys) x.table.columns records)

pub ruleset in_columns = (batch_in_columns, cards_in_columns)

pub ruleset in_steps = (batch_in_steps, cards_in_steps)
