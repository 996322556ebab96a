-- Down a column whose cells are good where they are read: each step is worked from a state in numbers, each score is at most 2 ^ 27, and so many of them add to at most so much. Assumes
-- nothing.
use mathlib.Core.Path.{◌≡◌, refl, sym, ◌∙◌, subst}
use mathlib.Core.Bool.{Bool, true, false, cond, true≢false}
use mathlib.Core.List.{List, []}
use Prim.Native.Nat.{ℕ, zero, suc, ◌+◌, ◌-◌, ◌*◌, ◌^◌, ◌≤◌, ◌<◌, zero-le}
use native.Mathlib.Nat.{le_of_lt, le_of_eq, lt_of_le_of_lt, le_of_suc-le-suc, lt-suc_self, not-suc-le-zero}
use native.Mathlib.Omega.{arith}
use borrow.Author.Tests.{eqb-true, le-ltb}
use lib.Dec.{T, eqb, ltb, lit<}
use lib.Ieee.{Float, binary32, binary64, of_bits, fits, eq}
use lib.Ieee.Positive.{positive}
use Rattle.soft.proofs.units.Value.{holds}
use Rattle.kernels.specs.Calls.{pow32}
use Rattle.domain.specs.Doubles.{◌+ᵈ◌, zero64}
use Rattle.domain.specs.Limits.{zero32, day_good_def}
use Rattle.domain.specs.Weights.{◌!◌, weights_refusal_def}
use Rattle.checks.specs.Batch.{History}
use Rattle.checks.specs.Reads.{later, non_zero, prefix_day, card_label}
use Rattle.forward.specs.Curve.{base_def, curve_forward_def}
use Rattle.forward.specs.Params.{params_def}
use Rattle.forward.specs.Step.{no_state_def, is_first_def}
use Rattle.forward.specs.declared.parameters.RuntimeParams.{RuntimeParams}
use Rattle.forward.specs.declared.state.State.{State}
use Rattle.columns.specs.Scores.{probability, score_def}
use Rattle.columns.specs.LastReview.{target_loss_def}
use Rattle.columns.specs.ForwardPass.{row_score_def, carried_def, step_at, state_at, record_at, score_at_def, loss_at}
use Rattle.columns.proofs.Before.{none_before}
use Rattle.laws.specs.KernelCalls.{KernelCall, NoneRefused, curve_calls, step_calls, score_calls, scored_calls, row_calls, target_calls}
use Rattle.laws.proofs.Values.Sizes.{Size, size_number}
use Rattle.laws.proofs.Values.Operations.{Least}
use Rattle.laws.proofs.Values.Box.{weight_size, above_20, least_20}
use Rattle.laws.proofs.Ranges.Sums.{Most, size_most, add_most, none_most}
use Rattle.laws.proofs.Ranges.States.{Plain, Inside, inside_plain, none_plain}
use Rattle.laws.proofs.Ranges.Curve.{recall_size}
use Rattle.laws.proofs.Ranges.Scores.{unless_zero, score_size, score_called}
use Rattle.laws.proofs.Ranges.Accepted.{accepted, none_append}
use Rattle.laws.proofs.Ranges.Steps.{Worked, step_worked}
use Rattle.laws.proofs.Ranges.Reads.{ReadRow, ReadScore, ReadTarget}

unless : (b : Bool) (cs : List KernelCall) → (b ≡ false → NoneRefused cs) → NoneRefused (cond b [] cs)
unless true cs h = tt
unless false cs h = h refl

size_unless : (b : Bool) (x : Float) → (b ≡ false → Size 27 x) → Size 27 (cond b zero64 x)
unfolding of_bits
size_unless true x h = zero-le
size_unless false x h = h refl

begins : (row : ℕ) (q : State) → row ≡ 0 → q ≡ no_state_def → is_first_def row q.s ≡ true
unfolding is_first_def no_state_def eq of_bits
begins row q e f = rw (e, f)

module _ (w : List Float) (singles : (k : ℕ) → T (fits binary32 (w ! k))) (box : weights_refusal_def w ≡ 0) where
  abbrev p : RuntimeParams
  p = params_def w

  -- ---- a scored review behind a column: the target of a prefix, or the last row of a card
  module _ (s day label weight : Float) (own : non_zero weight ≡ true → T (positive s) × Least 14 s) (read : ReadTarget day label weight) where
    abbrev r : Float
    r = (curve_forward_def p.curve_decay p.curve_factor day s).retrievability

    counted : eq weight zero32 ≡ false → non_zero weight ≡ true
    unfolding non_zero
    counted e = rw e

    recall : non_zero weight ≡ true → Size 0 r
    unfolding params_def
    recall c = recall_size day (holds (read.day_good c)) (w ! 20) (above_20 w box) (weight_size w box 20 (lit< tt)) (least_20 w box) s (own c).0 (own c).1 (singles 20)

    pub target_size : Size 27 (target_loss_def p s day label weight)
    unfolding target_loss_def
    target_size =
        size_unless (eq weight zero32) (score_def r label weight).loss
        (λ e. score_size r (size_number 0 r (recall (counted e))) label weight (holds read.weight_good) (λ c. holds (read.label_good c)))

    pub target_called : NoneRefused (target_calls p s day weight)
    unfolding target_calls curve_calls curve_forward_def
    target_called =
        unless (eq weight zero32) _
        (λ e. let h = recall (counted e) in
        none_append (curve_calls p.curve_decay p.curve_factor day s) (score_calls (probability r)) (accepted 0 (pow32 (base_def p.curve_factor day s) p.curve_decay) h, tt) (score_called r (size_number 0 r h)))

  -- ---- the rows that have a step
  module _ (h : History) (n : ℕ) (single : (row : ℕ) → T (fits binary32 (h.rating row))) (rows : (row : ℕ) → row < n → ReadRow (row - h.first) (h.day row) (h.rating row)) where
    -- a day goes unread in padding and in a first step; before the first review the state is (0, 0)
    day_read : (row : ℕ) → row < n → eq (h.rating row) zero32 ≡ false → is_first_def (row - h.first) (state_at p h row).s ≡ false → T (day_good_def (h.day row))
    unfolding prefix_day later non_zero
    day_read row l e f = go (eqb (row - h.first) 0) refl
      where
        go : (b : Bool) → b ≡ eqb (row - h.first) 0 → T (day_good_def (h.day row))
        go true d = let z = eqb-true (row - h.first) 0 (sym d) in absurd (true≢false (sym (begins (row - h.first) (state_at p h row) z (none_before p h row z)) ∙ f))
        go false d = holds ((rows row l).day_good (rw (← d, e)))

    worked_from : (row : ℕ) → row < n → Plain (state_at p h row) → Worked (step_at p h (state_at p h row) row) (step_calls p (state_at p h row) (h.day row) (h.rating row) (row - h.first))
    unfolding step_at
    worked_from row l i = step_worked w singles box (state_at p h row) i (h.day row) (h.rating row) (row - h.first) (single row) (rows row l).rating_good (day_read row l)

    carried_plain : (b : Bool) (q : State) → Plain q → Plain (cond b no_state_def q)
    carried_plain true q i = none_plain
    carried_plain false q i = i

    pub plain_at : (row : ℕ) → row ≤ n → Plain (state_at p h row)
    unfolding state_at carried_def
    plain_at zero l = none_plain
    plain_at (suc row) l = carried_plain (ltb row h.first) _ (inside_plain _ (worked_from row l (plain_at row (le_of_lt l))).inside)

    pub worked_at : (row : ℕ) → row < n → Worked (step_at p h (state_at p h row) row) (step_calls p (state_at p h row) (h.day row) (h.rating row) (row - h.first))
    worked_at row l = worked_from row l (plain_at row (le_of_lt l))

    -- from the first review on the step's state is carried on
    pub inside_at : (row : ℕ) → row < n → h.first ≤ row → Inside (state_at p h (suc row))
    unfolding state_at carried_def
    inside_at row l m = rw (le-ltb row h.first m) (worked_at row l).inside

    -- ---- and their scores, in a card
    module _ (label weight : ℕ → Float) (scores : (row : ℕ) → row < n → ReadScore (row - h.first) (label row) (weight row)) where
      number_at : (row : ℕ) → row < n → Size 0 (record_at p h row).retrievability
      unfolding record_at
      number_at row l = (worked_at row l).recall

      is_later : (row : ℕ) → eqb row 0 ≡ false → later row ≡ true
      unfolding later
      is_later row e = rw e

      is_read : (row : ℕ) (x : Float) → eqb row 0 ≡ false → non_zero x ≡ true → card_label row x ≡ true
      unfolding card_label later
      is_read row x e c = rw (e, c)

      pub score_at : (row : ℕ) → row < n → Size 27 (score_at_def p h label weight row).loss
      unfolding score_at_def row_score_def
      score_at row l =
          let r = (record_at p h row).retrievability in
          let i = row - h.first in
          unless_zero (eqb i 0) (score_def r (label row) (weight row))
          (λ e. score_size r (size_number 0 r (number_at row l)) (label row) (weight row) (holds ((scores row l).weight_good (is_later i e)))
          (λ c. holds ((scores row l).label_good (is_read i (weight row) e c))))

      pub called_at : (row : ℕ) → row < n → NoneRefused (row_calls (row - h.first) (record_at p h row).retrievability (weight row))
      unfolding row_calls scored_calls
      called_at row l =
          let r = (record_at p h row).retrievability in
          unless (eqb (row - h.first) 0) _ (λ e. unless (eq (weight row) zero32) _ (λ f. score_called r (size_number 0 r (number_at row l))))

      -- so many scores
      pub loss_most : (k : ℕ) → k ≤ n → k * 2 ^ 27 < 2 ^ 53 → Most (k * 2 ^ 27) (loss_at p h label weight k)
      unfolding loss_at
      loss_most zero l m = none_most
      loss_most (suc k) l m =
          subst (λ (A : ℕ). Most A (loss_at p h label weight k +ᵈ (score_at_def p h label weight k).loss)) (more k)
          (add_most binary64 (k * 2 ^ 27) (2 ^ 27) (loss_at p h label weight k) (score_at_def p h label weight k).loss (lt_of_le_of_lt (le_of_eq (more k)) m)
          (loss_most k (le_of_lt l) (lt_of_le_of_lt (less k) m)) (size_most 27 (score_at_def p h label weight k).loss (score_at k l)))
        where
          more : (k : ℕ) → k * 2 ^ 27 + 2 ^ 27 ≡ suc k * 2 ^ 27
          more k = omega arith

          less : (k : ℕ) → k * 2 ^ 27 ≤ suc k * 2 ^ 27
          less k = omega arith

  -- the state behind the last row, where a review stands before it
  pub inside_end : (h : History) (n : ℕ) → ((row : ℕ) → T (fits binary32 (h.rating row))) → ((row : ℕ) → row < n → ReadRow (row - h.first) (h.day row) (h.rating row))
      → h.first < n → Inside (state_at p h n)
  inside_end h zero single rows l = absurd (not-suc-le-zero l)
  inside_end h (suc m) single rows l = inside_at h (suc m) single rows m (lt-suc_self m) (le_of_suc-le-suc l)
