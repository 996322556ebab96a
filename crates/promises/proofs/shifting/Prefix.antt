-- A prefix behind padding, and one that is nothing else. Assumes nothing.
use Prim.Native.Nat.{ℕ, ◌<◌}
use mathlib.Core.Bool.{true}
use mathlib.Core.List.{List}
use mathlib.Core.Path.{◌≡◌, refl, sym, ap, ◌∙◌, subst}
use native.Mathlib.Nat.{le_refl}
use native.Mathlib.Omega.{arith}
use lib.Ieee.{Float, eq, of_bits}
use Rattle.domain.specs.Doubles.{zero64}
use Rattle.domain.specs.Limits.{zero32}
use Rattle.domain.specs.Weights.{◌!◌}
use Rattle.checks.specs.Align.{target_weight_def}
use Rattle.checks.proofs.align.Counted.{target_kept, target_weightless}
use Rattle.checks.specs.Batch.{History, Prefixes, length_at, first_at, history, target_weight_at}
use Rattle.checks.specs.declared.align.Align.{Align}
use Rattle.checks.specs.declared.align.Align.TheVariants.{End}
use Rattle.forward.specs.declared.parameters.RuntimeParams.{RuntimeParams}
use Rattle.forward.specs.declared.state.State.{State}
use Rattle.backward.specs.declared.step.StateGrad.{StateGrad}
use Rattle.columns.specs.BackwardPass.{start_grad, back_def}
use Rattle.columns.specs.ForwardPass.{state_at, record_at}
use Rattle.columns.specs.LastReview.{target_loss_def, target_grad, target_slots}
use Rattle.analytic_v6.specs.Prefixes.{prefix_loss_def, prefix_slots_def}
use Rattle.promises.specs.Aligned.{ShiftedPrefix}
use Rattle.promises.proofs.shifting.States.{Behind, states_same, records_same, shifted_behind, padding_before}
use Rattle.promises.proofs.shifting.Back.{Unscored, back_none, back_behind}

-- no step of a prefix is scored
abbrev walk : (p : RuntimeParams) (h : History) (n : ℕ) (g : StateGrad) (gw : List Float) → List Float
walk p h n g gw = back_def p (record_at p h) (λ row. zero64) n g gw

module _ (x y : Prefixes) (column : ℕ) (s : ShiftedPrefix x y column) where
  abbrev hx : History
  hx = history x.table column

  abbrev hy : History
  hy = history y.table column

  abbrev n : ℕ
  n = length_at x.table column

  abbrev m : ℕ
  m = length_at y.table column

  behind : Behind hx hy m
  behind = shifted_behind x.table y.table column s.table

  pub weights_same : target_weight_at x column ≡ target_weight_at y column
  weights_same =
      target_kept x.table.align hx.first n _ s.some ∙ s.target.2 ∙
      sym (target_kept y.table.align hy.first m _ (omega (arith, behind.start, s.some, s.table.shorter)))

  module _ (p : RuntimeParams) where
    state_same : state_at p hx n ≡ state_at p hy m
    state_same =
        subst (λ (k : ℕ). state_at p hx k ≡ state_at p hy m) s.table.shorter (states_same p hx hy m behind m (le_refl m))

    -- whatever is worked from the target
    target_same :
        {A : Type 0} (f : (s day label weight : Float) → A) →
        f (state_at p hx n).s (x.days ! column) (x.labels ! column) (target_weight_at x column) ≡
        f (state_at p hy m).s (y.days ! column) (y.labels ! column) (target_weight_at y column)
    target_same f = rw (ap (λ (q : State). q.s) state_same, s.target.0, s.target.1, weights_same)

    pub prefix_loss : prefix_loss_def p x column ≡ prefix_loss_def p y column
    unfolding prefix_loss_def
    prefix_loss = target_same (target_loss_def p)

    unscored : Unscored p (record_at p hx) (λ row. zero64) hx.first
    unscored = record { records = padding_before p x.table column; grads = λ i l. refl }

    walk_same : (g : StateGrad) (gw : List Float) → walk p hx n g gw ≡ walk p hy m g gw
    walk_same g gw =
        subst (λ (k : ℕ). walk p hx k g gw ≡ walk p hy m g gw) s.table.shorter
        (back_behind p (record_at p hx) (record_at p hy) _ _ hx.first unscored m (records_same p hx hy m behind) (λ i l. refl) g gw)

    pub prefix_slots : (gw : List Float) → prefix_slots_def p x column gw ≡ prefix_slots_def p y column gw
    unfolding prefix_slots_def
    prefix_slots gw =
        walk_same _ _ ∙
        target_same (λ s day label weight. walk p hy m (start_grad (target_grad p s day label weight)) (target_slots p s day label weight gw))

-- ---- nothing but padding
none : eq zero32 zero32 ≡ true
unfolding eq of_bits
none = refl

unread : (align : Align) (f n : ℕ) (w : Float) → align ≡ End → f ≡ n → target_weight_def align f n w ≡ zero32
unread align f n w e z = rw (e, z) (target_weightless n w)

module _ (p : RuntimeParams) (x : Prefixes) (column : ℕ) (e : x.table.align ≡ End)
    (all : first_at x.table column ≡ length_at x.table column) where
  weight_none : target_weight_at x column ≡ zero32
  weight_none = unread x.table.align (first_at x.table column) (length_at x.table column) _ e all

  pub padding_loss : prefix_loss_def p x column ≡ zero64
  unfolding prefix_loss_def target_loss_def
  padding_loss = rw (weight_none, none)

  pub padding_slots : (gw : List Float) → prefix_slots_def p x column gw ≡ gw
  unfolding prefix_slots_def target_slots
  padding_slots gw =
      rw (weight_none, none)
      (back_none p (record_at p (history x.table column)) (λ row. zero64) (length_at x.table column)
      (record { records = λ i l. padding_before p x.table column i (subst (λ (k : ℕ). i < k) (sym all) l); grads = λ i l. refl }) _ gw)
