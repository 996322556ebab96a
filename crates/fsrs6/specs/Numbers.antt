-- The ten numbers of one step's record, as a C caller reads them. Assumes nothing.
use Rattle.std.specs.Prelude.{ℕ, List, Float}
use Rattle.forward.specs.declared.state.StepRecord.{StepRecord}
use Rattle.columns.specs.Records.{store_def}
use Rattle.fsrs6.specs.Places.{written}

-- a table of records with one row; left as it was where the call is refused
unfoldable pub recorded : (refusal : ℕ) (step : StepRecord) (was : List Float) → List Float
recorded refusal step was = written refusal (store_def 0 step was) was
