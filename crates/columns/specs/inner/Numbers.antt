-- A record as the list of its ten numbers, in the order of the columns. Assumes nothing.
use Rattle.std.specs.Prelude.{List, [], ◌∷◌, Float}
use Rattle.domain.specs.Weights.{◌!◌}
use Rattle.forward.specs.Step.{clamp_state_def}
use Rattle.forward.specs.declared.state.State.{State}
use Rattle.forward.specs.declared.state.StepRecord.{StepRecord}
use Rattle.columns.specs.Records.{STABILITY, DIFFICULTY, DAY, RATING, RETRIEVABILITY, PRE-STABILITY, PRE-DIFFICULTY, BRANCH, BRANCH-RAW, BRANCH-OTHER, number_of, branch_of_def}

unfoldable pub numbers_of : StepRecord → List Float
numbers_of c =
    number_of STABILITY c ∷ number_of DIFFICULTY c ∷ number_of DAY c ∷ number_of RATING c ∷ number_of RETRIEVABILITY c ∷ number_of PRE-STABILITY c ∷ number_of PRE-DIFFICULTY c ∷
    number_of BRANCH c ∷ number_of BRANCH-RAW c ∷ number_of BRANCH-OTHER c ∷ []

unfoldable pub record_of_def : List Float → StepRecord
record_of_def numbers =
    let state : State = record { s = numbers ! 0; d = numbers ! 1 } in
    record {
      state = state;
      last = clamp_state_def state;
      day = numbers ! 2;
      rating = numbers ! 3;
      retrievability = numbers ! 4;
      pre_s = numbers ! 5;
      pre_d = numbers ! 6;
      branch = branch_of_def (numbers ! 7) (numbers ! 3) (numbers ! 8) (numbers ! 9);
    }
