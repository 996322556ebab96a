-- An accepted step's record is written whole: its seven values, then the three of its branch. Assumes nothing.
use mathlib.Core.Path.{◌≡◌, refl}
use mathlib.Core.List.{List, [], ◌∷◌, ◌++◌}
use native.Mathlib.Omega.{arith}
use lib.Ieee.{Float}
use lib.ListN.{length}
use Rattle.forward.specs.declared.state.StepRecord.{StepRecord}
use Rattle.columns.specs.Records.{place, step_values, branch_values, put_all, store_def}
use Rattle.fsrs6.specs.Places.{written}
use Rattle.fsrs6.specs.Numbers.{recorded}

pub written_whole : (step : StepRecord) (was : List Float) → length was ≡ 10 → recorded 0 step was ≡ step_values step ++ branch_values step.branch
unfolding recorded written store_def put_all place step_values branch_values
written_whole step [] l = absurd (omega (arith, l))
written_whole step (a ∷ []) l = absurd (omega (arith, l))
written_whole step (a ∷ b ∷ []) l = absurd (omega (arith, l))
written_whole step (a ∷ b ∷ c ∷ []) l = absurd (omega (arith, l))
written_whole step (a ∷ b ∷ c ∷ d ∷ []) l = absurd (omega (arith, l))
written_whole step (a ∷ b ∷ c ∷ d ∷ e ∷ []) l = absurd (omega (arith, l))
written_whole step (a ∷ b ∷ c ∷ d ∷ e ∷ f ∷ []) l = absurd (omega (arith, l))
written_whole step (a ∷ b ∷ c ∷ d ∷ e ∷ f ∷ g ∷ []) l = absurd (omega (arith, l))
written_whole step (a ∷ b ∷ c ∷ d ∷ e ∷ f ∷ g ∷ h ∷ []) l = absurd (omega (arith, l))
written_whole step (a ∷ b ∷ c ∷ d ∷ e ∷ f ∷ g ∷ h ∷ i ∷ []) l = absurd (omega (arith, l))
written_whole step (a ∷ b ∷ c ∷ d ∷ e ∷ f ∷ g ∷ h ∷ i ∷ j ∷ []) l = refl
written_whole step (a ∷ b ∷ c ∷ d ∷ e ∷ f ∷ g ∷ h ∷ i ∷ j ∷ k ∷ more) l = absurd (omega (arith, l))
