-- Walking back: padding without a score moves no slot, whatever reaches it. Assumes nothing.
use Prim.Native.Nat.{ℕ, zero, suc, ◌+◌, ◌<◌}
use mathlib.Core.Bool.{true}
use mathlib.Core.List.{List}
use mathlib.Core.Path.{◌≡◌, refl}
use native.Mathlib.Nat.{le-suc, lt_of_lt_of_le, lt-suc_self, suc-add, zero-add}
use lib.Ieee.{Float, eq, of_bits}
use Rattle.domain.specs.Doubles.{zero64}
use Rattle.forward.specs.declared.parameters.RuntimeParams.{RuntimeParams}
use Rattle.forward.specs.declared.state.Branch.TheVariants.{Padding}
use Rattle.forward.specs.declared.state.StepRecord.{StepRecord}
use Rattle.backward.specs.Curve.{curve_slots}
use Rattle.backward.specs.Step.{carried, flow_def, flow_moved, step_grad, step_moved}
use Rattle.backward.specs.declared.step.StateGrad.{StateGrad}
use Rattle.columns.specs.BackwardPass.{back_def}

none : eq zero64 zero64 ≡ true
unfolding eq of_bits
none = refl

still :
    (p : RuntimeParams) (c : StepRecord) (g-s g-d g-r : Float) (gw : List Float) → c.branch ≡ Padding → g-r ≡ zero64 →
    step_moved p c g-s g-d g-r gw ≡ gw
unfolding step_moved flow_def flow_moved carried curve_slots
still p c g-s g-d g-r gw e z = rw (e, z, none)

module _ (p : RuntimeParams) (a : ℕ → StepRecord) (u : ℕ → Float) where
  -- the last record
  one_back :
      (n : ℕ) (s : StateGrad) (gw : List Float) →
      back_def p a u (suc n) s gw ≡ back_def p a u n (step_grad p (a n) s.s s.d (u n)) (step_moved p (a n) s.s s.d (u n) gw)
  unfolding back_def
  one_back n s gw = refl

  -- the first f records
  pub record Unscored (f : ℕ) : Type 0 where
    pub records : (i : ℕ) → i < f → (a i).branch ≡ Padding
    pub grads : (i : ℕ) → i < f → u i ≡ zero64

  fewer : (f : ℕ) → Unscored (suc f) → Unscored f
  fewer f h =
      record { records = λ i l. h.records i (lt_of_lt_of_le l (le-suc f)); grads = λ i l. h.grads i (lt_of_lt_of_le l (le-suc f)) }

  pub back_none : (f : ℕ) → Unscored f → (s : StateGrad) (gw : List Float) → back_def p a u f s gw ≡ gw
  unfolding back_def
  back_none zero h s gw = refl
  back_none (suc f) h s gw =
      rw (still p (a f) s.s s.d (u f) gw (h.records f (lt-suc_self f)) (h.grads f (lt-suc_self f)))
      (back_none f (fewer f h) _ gw)

-- m records after them
module _ (p : RuntimeParams) (a b : ℕ → StepRecord) (u v : ℕ → Float) (f : ℕ) (h : Unscored p a u f) where
  pub back_behind :
      (m : ℕ) → ((i : ℕ) → i < m → a (i + f) ≡ b i) → ((i : ℕ) → i < m → u (i + f) ≡ v i) → (s : StateGrad) (gw : List Float) →
      back_def p a u (m + f) s gw ≡ back_def p b v m s gw
  unfolding back_def
  back_behind zero ea eu s gw = rw (zero-add f) (back_none p a u f h s gw)
  back_behind (suc m) ea eu s gw =
      rw (suc-add m f, one_back p a u (m + f) s gw, one_back p b v m s gw, ea m (lt-suc_self m), eu m (lt-suc_self m))
      (back_behind m (λ i l. ea i (lt_of_lt_of_le l (le-suc m))) (λ i l. eu i (lt_of_lt_of_le l (le-suc m))) _ _)
