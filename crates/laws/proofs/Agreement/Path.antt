-- Down a column: the states and the records depend on no cell and no weight but those that the steps read. Assumes nothing.
use Prim.Native.Nat.{ℕ, zero, suc, ◌-◌, ◌<◌}
use mathlib.Core.Bool.{Bool, true, false}
use mathlib.Core.List.{List}
use mathlib.Core.Path.{◌≡◌, refl, sym, ap, ◌∙◌}
use native.Mathlib.Nat.{le-suc, le_of_lt, lt_of_lt_of_le, lt-suc_self, suc-ne-zero}
use lib.Ieee.{Float, eq, of_bits}
use borrow.Author.Tests.{ne_eqb}
use Rattle.domain.specs.Limits.{zero32}
use Rattle.checks.specs.Reads.{later, non_zero, prefix_day}
use Rattle.forward.specs.Params.{params_def}
use Rattle.forward.specs.declared.parameters.RuntimeParams.{RuntimeParams}
use Rattle.checks.specs.Batch.{History}
use Rattle.forward.specs.declared.state.State.{State}
use Rattle.forward.specs.WeightsRead.{step_reads, Agree}
use Rattle.forward.specs.Step.{no_state_def, is_first_def, step_def}
use Rattle.forward.specs.declared.state.Stepped.{Stepped}
use Rattle.forward.proofs.Agreement.{same_step}
use Rattle.forward.proofs.Unread.{padding_day, first_day}
use Rattle.columns.proofs.Before.{none_before}
use Rattle.columns.specs.ForwardPass.{step_at, state_at, record_at}

-- a review's day is read in every row but the first
read_later : (row : ℕ) (rating : Float) → eq rating zero32 ≡ false → prefix_day (suc row) rating ≡ true
unfolding prefix_day later non_zero
read_later row rating e = rw (e, ne_eqb (suc row) 0 (suc-ne-zero row))

module _ (p : RuntimeParams) (day other rating : Float) where
  at_first : step_def p no_state_def day rating 0 ≡ step_def p no_state_def other rating 0
  unfolding no_state_def is_first_def eq of_bits
  at_first = first_day p no_state_def day other rating 0 refl

  after_first : (q : State) (row : ℕ) → (prefix_day (suc row) rating ≡ true → day ≡ other) → step_def p q day rating (suc row) ≡ step_def p q other rating (suc row)
  after_first q row h = by (eq rating zero32) refl
    where
      by : (b : Bool) → b ≡ eq rating zero32 → step_def p q day rating (suc row) ≡ step_def p q other rating (suc row)
      by true e = padding_day p q day other rating (suc row) (sym e)
      by false e = ap (λ (d : Float). step_def p q d rating (suc row)) (h (read_later row rating (sym e)))

  -- the row is numbered from the first review, where the state is (0, 0)
  day_unread :
      (q : State) (row : ℕ) → (row ≡ 0 → q ≡ no_state_def) → (prefix_day row rating ≡ true → day ≡ other) →
      step_def p q day rating row ≡ step_def p q other rating row
  day_unread q zero z h = rw (z refl) at_first
  day_unread q (suc row) z h = after_first q row h

module _ (w v : List Float) (h h' : History) where
  abbrev pub state_of : (row : ℕ) → State
  state_of row = state_at (params_def w) h row

  -- the two columns agree on what the row's step reads: its rating, its day where that is read, and the weights
  pub record Row (row : ℕ) : Type 0 where
    pub rating : h.rating row ≡ h'.rating row
    pub day : prefix_day (row - h.first) (h.rating row) ≡ true → h.day row ≡ h'.day row
    pub weights : Agree (step_reads (state_of row) (h.day row) (h.rating row) (row - h.first)) w v

  -- and on their first reviews
  module _ (first : h.first ≡ h'.first) where
    step_same : (row : ℕ) → Row row → state_of row ≡ state_at (params_def v) h' row →
        step_at (params_def w) h (state_of row) row ≡ step_at (params_def v) h' (state_at (params_def v) h' row) row
    unfolding step_at
    step_same row r e =
        same_step w v (state_of row) _ _ (row - h.first) r.weights
        ∙ day_unread (params_def v) _ _ _ _ (row - h.first) (none_before (params_def w) h row) r.day
        ∙ (rw (r.rating, e, first))

    pub states_same : (n : ℕ) → ((row : ℕ) → row < n → Row row) → state_of n ≡ state_at (params_def v) h' n
    unfolding state_at
    states_same zero r = refl
    states_same (suc n) r =
        rw (step_same n (r n (lt-suc_self n)) (states_same n (λ row l. r row (lt_of_lt_of_le l (le-suc n)))), first)

    pub record_same : (n : ℕ) → ((row : ℕ) → row < n → Row row) → (row : ℕ) → row < n →
        record_at (params_def w) h row ≡ record_at (params_def v) h' row
    unfolding record_at
    record_same n r row l =
        ap (λ (s : Stepped). s.step) (step_same row (r row l) (states_same row (λ i m. r i (lt_of_lt_of_le m (le_of_lt l)))))
