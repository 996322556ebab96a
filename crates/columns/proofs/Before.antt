-- Before a column's first review. Assumes nothing.
use Rattle.std.proofs.Common.{◌≡◌, ℕ, zero, suc, ◌-◌, refl, arith, lt-ltb}
use Rattle.checks.specs.Batch.{History}
use Rattle.forward.specs.Step.{no_state_def}
use Rattle.forward.specs.declared.parameters.RuntimeParams.{RuntimeParams}
use Rattle.columns.specs.ForwardPass.{carried_def, state_at}

-- up to it the state is (0, 0), whatever padding stands in front
pub none_before : (p : RuntimeParams) (h : History) (row : ℕ) → row - h.first ≡ 0 → state_at p h row ≡ no_state_def
unfolding state_at carried_def
none_before p h zero e = refl
none_before p h (suc row) e = rw (lt-ltb row h.first (omega (arith, e)))
