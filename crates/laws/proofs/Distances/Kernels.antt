-- All that is promised of exp, ln and pow. Assumes nothing.
use mathlib.Core.Bool.{◌&&◌}
use lib.Ieee.{Format}
use lib.Ieee.Scale.{finite}
use Rattle.kernels.specs.Kernels.{exp_def, ln_def, pow_def, powered}
use Rattle.laws.specs.Distances.{positive, Kernels}
use Rattle.laws.proofs.Distances.Exp.{exp_near}
use Rattle.laws.proofs.Distances.Ends.{exp_ends, exp_zero, exp_nan, refusal_10}
use Rattle.laws.proofs.Distances.Ln.{ln_close, ln_one, ln_nan}
use Rattle.laws.proofs.Distances.pow.Laws.{pow_near, pow_ends, pow-one, pow-zero, pow_at_most_one, pow_nan}

pub kernels : (f : Format) → Kernels f
kernels f = record {
  exp_near = exp_near f;
  exp_ends = exp_ends f;
  exp_zero = exp_zero f;
  exp_refuses = λ x. refusal_10 (exp_def f x) (finite x) (exp_nan f x);
  ln_close = ln_close f;
  ln_one = ln_one f;
  ln_refuses = λ x. refusal_10 (ln_def f x) (positive x) (ln_nan f x);
  pow_near = pow_near f;
  pow_ends = pow_ends f;
  pow-one = pow-one f;
  pow-zero = pow-zero f;
  pow_at_most_one = pow_at_most_one f;
  pow_refuses = λ x y. refusal_10 (pow_def f x y) (positive x && powered y) (pow_nan f x y);
}
