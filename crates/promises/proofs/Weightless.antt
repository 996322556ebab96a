-- A review weight of 0 adds nothing: to a column's loss and step gradients, to what goes back, and to a call's total. Assumes nothing.
use Prim.Native.Nat.{ℕ, zero, suc, ◌-◌, ◌≤◌, ◌<◌}
use mathlib.Core.Bool.{Bool, true, false, cond}
use mathlib.Core.List.{List}
use mathlib.Core.Path.{◌≡◌, refl, sym, ap, ◌∙◌, subst}
use native.Mathlib.Nat.{le-suc, le_of_lt, lt_of_lt_of_le, lt-suc_self, ne_of_lt, not-suc-le-zero, zero-lt-suc}
use native.Mathlib.Omega.{arith}
use borrow.Author.Tests.{ne_eqb, leb-true, leb-false}
use lib.Dec.{eqb, leb, eqb-suc-zero}
use lib.Ieee.{Float, nan, add, sum, eq, of_bits}
use lib.ListN.{length, set}
use lib.Seq.{get_or-set_same, get_or-set_other}
use Rattle.domain.specs.Doubles.{◌+ᵈ◌, zero64}
use Rattle.domain.specs.Limits.{zero32}
use Rattle.domain.specs.Weights.{◌!◌}
use Rattle.forward.specs.declared.parameters.RuntimeParams.{RuntimeParams}
use Rattle.forward.specs.declared.state.StepRecord.{StepRecord}
use Rattle.backward.specs.declared.step.StateGrad.{StateGrad}
use Rattle.checks.specs.Align.{target_weight_def}
use Rattle.checks.specs.Batch.{History, Prefixes, Cards, length_at, history, target_read_at, target_weight_at, label_at, weight_at_def}
use Rattle.checks.specs.Columns.{total}
use Rattle.checks.specs.Reads.{later, non_zero, card_label}
use Rattle.columns.specs.Scores.{no_score_def, score_def}
use Rattle.columns.specs.LastReview.{target_loss_def, target_grad, target_slots, last_loss_def, last_grad, last_slots}
use Rattle.columns.specs.ForwardPass.{row_score_def, score_at_def, loss_at, grads_def}
use Rattle.columns.specs.BackwardPass.{back_def}
use Rattle.columns.proofs.Kept.{grads_length, back_same}
use Rattle.analytic_v6.specs.Prefixes.{prefix_loss_def, prefix_slots_def}
use Rattle.analytic_v6.specs.Cards.{card_loss_def, card_slots_def, card_grads_def}
use Rattle.promises.specs.Twelve.{IsZero, Weightless, unscored}

-- 0 + 0
pub no_more : zero64 +ᵈ zero64 ≡ zero64
unfolding add sum of_bits
no_more = refl

pub total-zero : (part : ℕ → Float) (n : ℕ) → ((column : ℕ) → column < n → part column ≡ zero64) → total part n ≡ zero64
unfolding total
total-zero part zero h = refl
total-zero part (suc n) h = rw (total-zero part n (λ i l. h i (lt_of_lt_of_le l (le-suc n))), h n (lt-suc_self n)) no_more

-- a weight that is not read counts as 0
counted : (read : Bool) (weight : Float) → IsZero weight → IsZero (cond read weight zero32)
unfolding eq of_bits
counted true weight e = e
counted false weight e = refl

-- ---- a prefix
module _ (p : RuntimeParams) (x : Prefixes) (column : ℕ) (e : IsZero (x.weights ! column)) where
  no_target : IsZero (target_weight_at x column)
  unfolding target_weight_def
  no_target = counted (target_read_at x column) _ e

  pub prefix_loss : prefix_loss_def p x column ≡ zero64
  unfolding prefix_loss_def target_loss_def
  prefix_loss = rw no_target

  pub prefix_slots : (slots : List Float) → prefix_slots_def p x column slots ≡ unscored p x.table column (length_at x.table column) slots
  unfolding prefix_slots_def target_grad target_slots
  prefix_slots slots = rw no_target

-- ---- a row of a card, by its number: row 0 is not scored
no_label : (row : ℕ) (weight : Float) → (0 < row → IsZero weight) → card_label row weight ≡ false
unfolding card_label later non_zero
no_label zero weight h = refl
no_label (suc row) weight h = rw (eqb-suc-zero row, h (zero-lt-suc row))

no_score : (row : ℕ) (r label weight : Float) → (0 < row → IsZero weight) → row_score_def row r label weight ≡ no_score_def
unfolding row_score_def score_def no_score_def
no_score zero r label weight h = refl
no_score (suc row) r label weight h = rw (eqb-suc-zero row, h (zero-lt-suc row))

-- ---- the rows of a card
set_zero : (xs : List Float) (i row : ℕ) → row < length xs → (row < i → xs ! row ≡ zero64) → row < suc i → set xs i zero64 ! row ≡ zero64
set_zero xs i row l before h = go (leb i row) refl
  where
    go : (b : Bool) → b ≡ leb i row → set xs i zero64 ! row ≡ zero64
    go true e =
        let same : i ≡ row = omega (arith, leb-true i row (sym e)) in
        subst (λ (k : ℕ). set xs i zero64 ! k ≡ zero64) same (get_or-set_same xs i zero64 nan (omega arith))
    go false e = let less = leb-false i row (sym e) in get_or-set_other xs i row zero64 nan (ne_of_lt less) ∙ before less

module _ (p : RuntimeParams) (hist : History) (label weight : ℕ → Float) (n : ℕ) (e : (row : ℕ) → 0 < row → row < n → IsZero (weight row)) where
  scores : (row : ℕ) → row < n → score_at_def p hist label weight row ≡ no_score_def
  unfolding score_at_def
  scores row l = no_score (row - hist.first) _ _ _ (λ z. e row (omega (arith, z)) l)

  losses : (k : ℕ) → k ≤ n → loss_at p hist label weight k ≡ zero64
  unfolding loss_at no_score_def
  losses zero l = refl
  losses (suc k) l = rw (losses k (le_of_lt l), scores k l) no_more

  grads : (k row : ℕ) (xs : List Float) → k ≤ n → row < length xs → row < k → grads_def p hist label weight k xs ! row ≡ zero64
  unfolding grads_def no_score_def
  grads zero row xs l m h = absurd (not-suc-le-zero h)
  grads (suc k) row xs l m h =
      rw (scores k l)
      (set_zero (grads_def p hist label weight k xs) k row (rw (grads_length p hist label weight k xs) m) (grads k row xs (le_of_lt l) m) h)

-- ---- a card of n rows, of which none may be
pub either : {A : Type 0} (b : Bool) (a : A) → cond b a a ≡ a
either true a = refl
either false a = refl

module _ (p : RuntimeParams) (records : ℕ → StepRecord) (f g : ℕ → Float) where
  walk : (n : ℕ) → ((row : ℕ) → row < n - 1 → f row ≡ g row) → (s : StateGrad) (gw : List Float)
      → cond (eqb n 0) gw (back_def p records f (n - 1) s gw) ≡ back_def p records g (n - 1) s gw
  unfolding back_def
  walk zero h s gw = refl
  walk (suc n) h s gw = rw (eqb-suc-zero n) (back_same p records records f g (suc n - 1) (λ i l. refl) h s gw)

module _ (p : RuntimeParams) (x : Cards) (column : ℕ) (e : Weightless x column) where
  abbrev n : ℕ
  n = length_at x.table column

  abbrev hist : History
  hist = history x.table column

  last : card_label (n - 1 - hist.first) (weight_at_def x column (n - 1)) ≡ false
  last = no_label (n - 1 - hist.first) _ (λ z. e (n - 1) (omega (arith, z)) (omega (arith, z)))

  less : n - 1 ≤ n
  less = omega arith

  pub card_loss : card_loss_def p x column ≡ zero64
  unfolding card_loss_def last_loss_def
  card_loss = rw (last, losses p hist (label_at x column) (weight_at_def x column) n e (n - 1) less) (either (eqb n 0) zero64)

  pub card_grads :
      (step_grads : List Float) (row : ℕ) → row < length_at x.table column → row < length step_grads → card_grads_def p x column step_grads ! row ≡ zero64
  unfolding card_grads_def
  card_grads step_grads row l m =
      rw (ne_eqb n 0 (λ z. omega (arith, z)))
      (set_zero (grads_def p hist (label_at x column) (weight_at_def x column) (n - 1) step_grads) (n - 1) row
      (rw (grads_length p hist (label_at x column) (weight_at_def x column) (n - 1) step_grads) m)
      (grads p hist (label_at x column) (weight_at_def x column) n e (n - 1) row step_grads less m) (omega arith))

  pub card_slots : (slots : List Float) → card_slots_def p x column slots ≡ unscored p x.table column (length_at x.table column - 1) slots
  unfolding card_slots_def last_grad last_slots no_score_def
  card_slots slots =
      rw last
      (walk p _ _ (λ row. zero64) n
      (λ row l. ap (λ s. s.g_r) (scores p hist (label_at x column) (weight_at_def x column) n e row (lt_of_lt_of_le l less))) _ slots)
