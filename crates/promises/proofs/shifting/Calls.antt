-- Two calls that are refused alike, and whose columns are the same where they are accepted, have the same outcome. Assumes nothing.
use Prim.Native.Nat.{ℕ, ◌<◌}
use mathlib.Core.Bool.{Bool, true, cond}
use mathlib.Core.List.{List}
use mathlib.Core.Path.{◌≡◌, refl, sym, ap, ◌∙◌}
use borrow.Author.Tests.{eqb-true}
use lib.Dec.{eqb}
use lib.Ieee.{Float}
use lib.ListN.{length}
use Rattle.domain.specs.Doubles.{zero64}
use Rattle.domain.specs.Weights.{weights_refusal_def}
use Rattle.checks.specs.Columns.{total, through}
use Rattle.checks.specs.Refusals.{grad_refusal_def}
use Rattle.checks.proofs.Orders.{grad_accepted, grad_fault}
use Rattle.forward.specs.Params.{params_def}
use Rattle.forward.specs.declared.parameters.RuntimeParams.{RuntimeParams}
use Rattle.forward.proofs.Agreement.{by_cases}
use Rattle.analytic_v6.specs.Answers.{answer}
use Rattle.laws.proofs.Agreement.Columns.{total_same, through_same}
use Rattle.promises.specs.Aligned.{Same}
use Rattle.promises.specs.LossCalls.{Call, Kind}

answers_same : (m n : ℕ) (a b : Float) → m ≡ n → (m ≡ 0 → a ≡ b) → answer m a ≡ answer n b
unfolding answer
answers_same m n a b e h =
    rw (← e)
    (ap (λ (x : Float). record { refusal = m; loss = x }) (by_cases (eqb m 0) a zero64 b zero64 (λ t. h (eqb-true m 0 t)) (λ t. refl)))

leaves_same : (m n : ℕ) (a b xs ys : List Float) → m ≡ n → xs ≡ ys → (m ≡ 0 → a ≡ b) → cond (eqb m 0) a xs ≡ cond (eqb n 0) b ys
leaves_same m n a b xs ys e d h = rw (← e) (by_cases (eqb m 0) a xs b ys (λ t. h (eqb-true m 0 t)) (λ t. d))

-- what a column comes to
module _ (K : Kind) (loss : RuntimeParams → K.Input → (column : ℕ) → Float)
    (change : RuntimeParams → K.Input → (column : ℕ) → List Float → List Float) where
  abbrev total_of : (c : Call K.Input) → Float
  total_of c = total (loss (params_def c.w) c.x) (K.table c.x).columns

  abbrev slots_of : (c : Call K.Input) → List Float
  slots_of c = through (change (params_def c.w) c.x) (K.table c.x).columns c.gw

  -- the entries of it
  pub record Entries : Type 0 where
    pub answers : (c : Call K.Input) → K.answer c ≡ answer (K.refusal c) (total_of c)
    pub slots : (c : Call K.Input) → K.slots c ≡ cond (eqb (K.refusal c) 0) (slots_of c) c.gw

  module _ (c d : Call K.Input) where
    pub record Pair : Type 0 where
      pub weights : c.w ≡ d.w
      pub gradients : c.gw ≡ d.gw
      pub columns : (K.table c.x).columns ≡ (K.table d.x).columns
      pub refusals : K.refusal c ≡ K.refusal d
      pub each :
          K.refusal c ≡ 0 → (column : ℕ) → column < (K.table c.x).columns → (p : RuntimeParams) →
          (loss p c.x column ≡ loss p d.x column) × ((gw : List Float) → change p c.x column gw ≡ change p d.x column gw)

    module _ (of : Entries) (h : Pair) where
      totals : K.refusal c ≡ 0 → total_of c ≡ total_of d
      totals z = total_same _ _ _ (λ column l. (h.each z column l (params_def c.w)).0) ∙ (rw (h.weights, h.columns))

      changes : K.refusal c ≡ 0 → slots_of c ≡ slots_of d
      changes z =
          through_same _ _ _ (λ column l. (h.each z column l (params_def c.w)).1) c.gw ∙ (rw (h.weights, h.columns, h.gradients))

      pub outcome : Same K c d
      outcome = (
        rw (of.answers c, of.answers d) (answers_same (K.refusal c) (K.refusal d) _ _ h.refusals totals),
        rw (of.slots c, of.slots d) (leaves_same (K.refusal c) (K.refusal d) _ _ c.gw d.gw h.refusals h.gradients changes),
      )

-- a call is accepted with the weights and slots of an accepted one, if its slices and room are long enough and it has no fault
pub accepted :
    (w v xs ys : List Float) (sized room sized' room' : Bool) (fault fault' : ℕ) →
    w ≡ v → xs ≡ ys → sized' ≡ true → room' ≡ true → (fault ≡ 0 → fault' ≡ 0) →
    grad_refusal_def w (eqb (length xs) 21) sized room fault ≡ 0 → grad_refusal_def v (eqb (length ys) 21) sized' room' fault' ≡ 0
accepted w v xs ys sized room sized' room' fault fault' a b s r f z =
    let h = grad_accepted w (eqb (length xs) 21) sized room fault z in
    rw (← a, ← b) (sym (grad_fault w (weights_refusal_def w) refl h.0 (eqb (length xs) 21) h.1 sized' s room' fault' r) ∙ f h.4)
