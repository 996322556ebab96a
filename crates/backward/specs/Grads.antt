-- The gradients that go back through a review. Assumes nothing.
use Rattle.domain.specs.Doubles.{zero64}
use Rattle.backward.specs.declared.grads.Grads.{Grads}

-- (0.0, 0.0, 0.0): what backward_failure and backward_success give where no gradient comes in
unfoldable pub no_grads_def : Grads
no_grads_def = record { s = zero64; d = zero64; r = zero64 }
