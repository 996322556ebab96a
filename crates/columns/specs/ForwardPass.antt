-- Forward down one column of a batch: prefix_loss_and_grad's and card_column_loss_and_grad's loops over t of analytic_v6.rs. Assumes nothing.
use Rattle.std.specs.Prelude.{ℕ, zero, suc, ◌-◌, cond, List, ◌==◌, nat_lt, slice_set, Float}
use Rattle.domain.specs.Doubles.{◌+ᵈ◌, zero64}
use Rattle.forward.specs.declared.parameters.RuntimeParams.{RuntimeParams}
use Rattle.forward.specs.declared.state.State.{State}
use Rattle.checks.specs.Batch.{History}
use Rattle.forward.specs.Step.{no_state_def, step_def}
use Rattle.forward.specs.declared.state.StepRecord.{StepRecord}
use Rattle.forward.specs.declared.state.Stepped.{Stepped}
use Rattle.columns.specs.Records.{store_def}
use Rattle.columns.specs.Scores.{no_score_def, score_def}
use Rattle.columns.specs.declared.scores.Score.{Score}
use Rattle.columns.specs.declared.forward_pass.Run.{Run}

-- if t == 0 { (0.0, 0.0) } else { bce_loss_and_grad_r(cache.retrievability, labels[idx], weights[idx]) }
unfoldable pub row_score_def : (row : ℕ) (r label weight : Float) → Score
row_score_def row r label weight = cond (row == 0) no_score_def (score_def r label weight)

-- the state after a row: up to the first review (0, 0), which a padding in front does not clamp
unfoldable pub carried_def : (row first : ℕ) (next : State) → State
carried_def row first next = cond (nat_lt row first) no_state_def next

module _ (p : RuntimeParams) (h : History) where
  -- step_forward(p, state, t_hist[idx], r_hist[idx], t); rows are numbered from the first review, which is row 0 by document 01
  unfoldable pub step_at : (q : State) (row : ℕ) → Stepped
  step_at q row = step_def p q (h.day row) (h.rating row) (row - h.first)

  -- the state after so many rows
  unfoldable pub state_at : (rows : ℕ) → State
  state_at zero = no_state_def
  state_at (suc row) = carried_def row h.first (step_at (state_at row) row).state

  unfoldable pub record_at : (row : ℕ) → StepRecord
  record_at row = (step_at (state_at row) row).step

  -- caches.push(cache): each record in its row
  unfoldable pub stored_def : (rows : ℕ) (xs : List Float) → List Float
  stored_def zero xs = xs
  stored_def (suc row) xs = store_def row (record_at row) (stored_def row xs)

  -- a card's labels and review weights, by the row
  module _ (label weight : ℕ → Float) where
    unfoldable pub score_at_def : (row : ℕ) → Score
    score_at_def row = row_score_def (row - h.first) (record_at row).retrievability (label row) (weight row)

    -- loss += step_loss
    unfoldable pub loss_at : (rows : ℕ) → Float
    loss_at zero = zero64
    loss_at (suc row) = loss_at row +ᵈ (score_at_def row).loss

    unfoldable pub run_at : (rows : ℕ) → Run
    run_at rows = record { state = state_at rows; loss = loss_at rows }

    -- g_r_losses[t] = g_r
    unfoldable pub grads_def : (rows : ℕ) (xs : List Float) → List Float
    grads_def zero xs = xs
    grads_def (suc row) xs = slice_set (grads_def row xs) row (score_at_def row).g_r
