-- A column's walk over the lent records, at its own state and target; and that over the records that it left is the walk over its steps. Assumes nothing.
use Rattle.std.proofs.Common.{◌≡◌, ℕ, ◌<◌, List, [], get_or, refl, ◌∙◌}
use lib.Ieee.{Float}
use Rattle.domain.specs.Doubles.{zero64}
use Rattle.domain.specs.Weights.{◌!◌}
use Rattle.forward.specs.declared.parameters.RuntimeParams.{RuntimeParams}
use Rattle.forward.specs.declared.state.State.{State}
use Rattle.forward.specs.declared.state.StepRecord.{StepRecord}
use Rattle.checks.specs.Align.{target_weight_def}
use Rattle.checks.specs.Batch.{History, Prefixes, length_at, history}
use Rattle.checks.specs.declared.deck.Target.{Target}
use Rattle.columns.specs.BackwardPass.{start_grad, back_def}
use Rattle.columns.specs.LastReview.{target_grad, target_slots}
use Rattle.columns.specs.ForwardPass.{state_at, record_at}
use Rattle.columns.proofs.Kept.{back_same}
use Rattle.analytic_v6.specs.Prefixes.{prefix_slots_def}
use Rattle.analytic_v6.specs.inner.Over.{prefix_back_in}

pub back_of :
    (p : RuntimeParams) (x : Prefixes) (column n : ℕ) (h : History) (q : State) (t : Target) →
    n ≡ length_at x.table column → h ≡ history x.table column → q ≡ state_at p h n →
    t ≡ record { day = x.days ! column; label = x.labels ! column; weight = target_weight_def x.table.align h.first n (x.weights ! column) } →
    {A : Type 0} (store : List A → ℕ → StepRecord → List A) (load : List A → ℕ → StepRecord) (records : List A) (gw : List Float) →
    back_def p (λ i. load records i) (λ i. get_or [] i zero64) n (start_grad (target_grad p q.s t.day t.label t.weight)) (target_slots p q.s t.day t.label t.weight gw) ≡
    prefix_back_in p x store load column records gw
unfolding prefix_back_in
back_of p x column n h q t en eh eq et store load records gw = rw (et, eq, eh, en)

pub slots_of :
    (p : RuntimeParams) (x : Prefixes) (column n : ℕ) (h : History) (q : State) (t : Target) (records : ℕ → StepRecord) (gw : List Float) →
    n ≡ length_at x.table column → h ≡ history x.table column → q ≡ state_at p h n →
    t ≡ record { day = x.days ! column; label = x.labels ! column; weight = target_weight_def x.table.align h.first n (x.weights ! column) } →
    ((i : ℕ) → i < n → records i ≡ record_at p h i) →
    back_def p records (λ i. get_or [] i zero64) n (start_grad (target_grad p q.s t.day t.label t.weight)) (target_slots p q.s t.day t.label t.weight gw) ≡ prefix_slots_def p x column gw
unfolding prefix_slots_def
slots_of p x column n h q t records gw en eh eq et read = back_same p records (record_at p h) _ (λ row. zero64) n read (λ i k. refl) _ _ ∙ rw (et, eq, eh, en)
