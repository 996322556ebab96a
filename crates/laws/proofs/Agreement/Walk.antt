-- A column's walk back, from the cells and weights that its steps read. Assumes nothing.
use Prim.Native.Nat.{ℕ, ◌-◌, ◌<◌}
use mathlib.Core.Bool.{Bool, true, false, not, ◌&&◌, cond}
use mathlib.Core.List.{List}
use mathlib.Core.Path.{◌≡◌, ◌∙◌}
use lib.Dec.{eqb}
use lib.Ieee.{Float, eq, of_bits}
use Rattle.domain.specs.Doubles.{zero64}
use Rattle.domain.specs.Weights.{◌!◌}
use Rattle.domain.proofs.weights.All.{and-false}
use Rattle.forward.specs.Params.{params_def}
use Rattle.forward.specs.declared.parameters.RuntimeParams.{RuntimeParams}
use Rattle.forward.specs.WeightsRead.{among, step_reads, Agree}
use Rattle.checks.specs.Batch.{History}
use Rattle.columns.specs.Scores.{no_score_def}
use Rattle.columns.specs.declared.scores.Score.{Score}
use Rattle.backward.specs.Moves.{slots_of, step_may_move, reverse_reads}
use Rattle.backward.specs.declared.step.StateGrad.{StateGrad}
use Rattle.columns.specs.BackwardPass.{back_def}
use Rattle.columns.specs.ForwardPass.{row_score_def, step_at, state_at, record_at, score_at_def}
use Rattle.columns.proofs.Kept.{back_same}
use Rattle.laws.proofs.Agreement.Path.{Row, record_same}
use Rattle.laws.proofs.Agreement.Within.{reverse_within, moves_within, scored_within}
use Rattle.laws.proofs.Agreement.Reverse.{back_weights}

module _ (w v : List Float) (h h' : History) (first : h.first ≡ h'.first) (n : ℕ) (rows : (row : ℕ) → row < n → Row w v h h' row)
    (twenty : w ! 20 ≡ v ! 20) where
  reads : (row : ℕ) → row < n →
      let c = record_at (params_def w) h row in Agree (reverse_reads c.branch c.rating) w v
  unfolding record_at step_at
  reads row l = reverse_within w v twenty (params_def w) _ _ _ (row - h.first) (rows row l).weights

  pub walk_same : (f g : ℕ → Float) → ((row : ℕ) → row < n → f row ≡ g row) → (s : StateGrad) (gw : List Float) →
      back_def (params_def w) (record_at (params_def w) h) f n s gw ≡ back_def (params_def v) (record_at (params_def v) h') g n s gw
  walk_same f g e s gw =
      back_weights (record_at (params_def w) h) f w v n reads s gw ∙ back_same (params_def v) _ _ f g n (record_same w v h h' first n rows) e s gw

-- the slots that a row's step may move, with its own score or with none
module _ (p : RuntimeParams) (h : History) (k row : ℕ) where
  abbrev pub Still : Type 0
  Still = let c = record_at p h row in among k (slots_of c.branch c.rating) ≡ false

  pub still_unread : among k (step_reads (state_at p h row) (h.day row) (h.rating row) (row - h.first)) ≡ false → Still
  unfolding record_at step_at
  still_unread o = moves_within k p _ _ _ (row - h.first) o

  pub unscored_still : Still → step_may_move (record_at p h row) zero64 k ≡ false
  unfolding step_may_move eq of_bits
  unscored_still o = rw o (and-false (eqb k 20))

  at_first : (b : Bool) (x : Score) → eqb k 20 && not (eq x.g_r zero64) ≡ false → eqb k 20 && not (eq (cond b no_score_def x).g_r zero64) ≡ false
  unfolding no_score_def eq of_bits
  at_first true x e = and-false (eqb k 20)
  at_first false x e = e

  own_score : (label weight : Float) → Still →
      eqb k 20 && not (eq (row_score_def (row - h.first) (record_at p h row).retrievability label weight).g_r zero64) ≡ false
  unfolding row_score_def record_at step_at
  own_score label weight o = at_first (eqb (row - h.first) 0) _ (scored_within k p _ _ _ (row - h.first) label weight o)

  pub scored_still : (label weight : ℕ → Float) → Still → step_may_move (record_at p h row) (score_at_def p h label weight row).g_r k ≡ false
  unfolding step_may_move score_at_def
  scored_still label weight o = rw (o, own_score (label row) (weight row) o)
