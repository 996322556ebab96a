-- A step's outcome depends on no day that goes unread: in padding, and in a first step. Assumes nothing.
use Rattle.std.proofs.Common.{◌≡◌, ℕ, true}
use lib.Ieee.{Float, eq}
use Rattle.domain.specs.Limits.{zero32}
use Rattle.forward.specs.declared.parameters.RuntimeParams.{RuntimeParams}
use Rattle.forward.specs.declared.state.State.{State}
use Rattle.forward.specs.Step.{is_first_def, step_def}

module _ (p : RuntimeParams) (q : State) (day other rating : Float) (row : ℕ) where
  pub padding_day : eq rating zero32 ≡ true → step_def p q day rating row ≡ step_def p q other rating row
  unfolding step_def
  padding_day e = rw e

  pub first_day : is_first_def row q.s ≡ true → step_def p q day rating row ≡ step_def p q other rating row
  unfolding step_def
  first_day e = rw e
