-- What the steps inside ln and pow compute. Assumes nothing.
use Rattle.std.specs.Prelude.{◌≡◌, ℕ, ◌^◌, ◌<◌, ℤ, pos, Float}
use Rattle.std.specs.Int.Signed.{mag}
use Rattle.std.specs.Float.{nan, inf, fin, Format}
use Rattle.table.specs.Entry.{first_from}
use Rattle.kernels.specs.Logarithm.{binade, first64, steps, below64, logarithm, step_log_def}
use Rattle.kernels.specs.declared.log.Log.{Log}

unfoldable pub log_of : Format → Float → ℤ
unfolding logarithm
log_of f nan = pos 0
log_of f (inf s) = pos 0
log_of f (fin s m e) = logarithm f m e

unfoldable pub step_log_of : Format → Float → ℤ
unfolding step_log_def
step_log_of f nan = pos 0
step_log_of f (inf s) = pos 0
step_log_of f (fin s m e) = step_log_def f m e

unfoldable pub steps_of : Float → ℤ
unfolding first_from
steps_of nan = pos 0
steps_of (inf s) = pos 0
steps_of (fin s m e) = steps (binade m e) (first64 m)

unfoldable pub below_of_def : Float → ℕ
unfolding below64
below_of_def nan = 0
below_of_def (inf s) = 0
below_of_def (fin s m e) = below64 m

pub record Logged (x : Float) (r : Log) : Type 0 where
  pub steps_is : r.j ≡ steps_of x
  pub below_is : r.l ≡ below_of_def x
  pub few : mag r.j < 2 ^ 19
  pub short : r.l < 2 ^ 57
