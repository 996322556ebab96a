-- A history behind padding: no state before its first review, and from there what it has without that padding. Assumes nothing.
use Prim.Native.Nat.{ℕ, zero, suc, ◌+◌, ◌≤◌, ◌<◌}
use mathlib.Core.Bool.{false}
use mathlib.Core.Path.{◌≡◌, ap, ◌∙◌}
use native.Mathlib.Nat.{add-sub_cancel, le_of_lt, sub-zero, suc-add, zero-add}
use native.Mathlib.Omega.{arith}
use borrow.Author.Tests.{le-ltb, not-false}
use lib.Ieee.{Float, eq}
use Rattle.domain.specs.Limits.{zero32}
use Rattle.checks.specs.Align.{is_end_def, first_of}
use Rattle.checks.specs.Batch.{Table, History, length_at, view, first_at, history}
use Rattle.checks.specs.Reads.{non_zero}
use Rattle.checks.proofs.align.First.{before_first}
use Rattle.forward.specs.Step.{padding_def, step_def}
use Rattle.forward.specs.declared.parameters.RuntimeParams.{RuntimeParams}
use Rattle.forward.specs.declared.state.Branch.TheVariants.{Padding}
use Rattle.forward.specs.declared.state.State.{State}
use Rattle.forward.specs.declared.state.Stepped.{Stepped}
use Rattle.columns.proofs.Before.{none_before}
use Rattle.columns.specs.ForwardPass.{carried_def, step_at, state_at, record_at}
use Rattle.promises.specs.Aligned.{Shifted}

-- ---- the rows in front
padding_step :
    (p : RuntimeParams) (q : State) (day rating : Float) (row : ℕ) → non_zero rating ≡ false → step_def p q day rating row ≡ padding_def q rating
unfolding non_zero step_def
padding_step p q day rating row e = rw (not-false (eq rating zero32) e)

module _ (p : RuntimeParams) (h : History) where
  padding_record : (row : ℕ) → non_zero (h.rating row) ≡ false → (record_at p h row).branch ≡ Padding
  unfolding record_at step_at padding_def
  padding_record row e = ap (λ (s : Stepped). s.step.branch) (padding_step p _ _ (h.rating row) _ e)

-- ---- the m rows of g are those of h from its first review on
pub record Behind (h g : History) (m : ℕ) : Type 0 where
  pub start : g.first ≡ 0
  pub days : (i : ℕ) → i < m → g.day i ≡ h.day (i + h.first)
  pub ratings : (i : ℕ) → i < m → g.rating i ≡ h.rating (i + h.first)

module _ (p : RuntimeParams) (h g : History) (m : ℕ) (b : Behind h g m) where
  abbrev f : ℕ
  f = h.first

  step_same : (q : State) (i : ℕ) → i < m → step_at p h q (i + f) ≡ step_at p g q i
  unfolding step_at
  step_same q i l = rw (b.days i l, b.ratings i l, b.start, add-sub_cancel i f, sub-zero i)

  pub states_same : (i : ℕ) → i ≤ m → state_at p h (i + f) ≡ state_at p g i
  unfolding state_at carried_def
  states_same zero l = rw (zero-add f) (none_before p h f (omega arith))
  states_same (suc i) l =
      rw (
        suc-add i f,
        le-ltb (i + f) f (omega arith),
        le-ltb i g.first (omega (arith, b.start)),
        states_same i (le_of_lt l),
        step_same (state_at p g i) i l,
      )

  pub records_same : (i : ℕ) → i < m → record_at p h (i + f) ≡ record_at p g i
  unfolding record_at
  records_same i l =
      ap (λ (q : State). (step_at p h q (i + f)).step) (states_same i (le_of_lt l)) ∙
      ap (λ (s : Stepped). s.step) (step_same (state_at p g i) i l)

-- ---- of a table
pub shifted_behind : (t u : Table) (column : ℕ) → Shifted t u column → Behind (history t column) (history u column) (length_at u column)
unfolding first_of is_end_def
shifted_behind t u column s = record { start = rw s.modes.1; days = s.days; ratings = s.ratings }

pub padding_before :
    (p : RuntimeParams) (t : Table) (column row : ℕ) → row < first_at t column → (record_at p (history t column) row).branch ≡ Padding
padding_before p t column row l =
    padding_record p (history t column) row (before_first t.align (view t.ratings t.columns column) (length_at t column) row l)
