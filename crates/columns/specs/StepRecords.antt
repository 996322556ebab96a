-- Step records in a lent slice of their own, one for each row: what forward writes, and what is read past the end. Assumes nothing.
use Rattle.std.specs.Prelude.{ℕ, zero, suc, List, slice_set}
use Rattle.domain.specs.Limits.{zero32}
use Rattle.checks.specs.Batch.{History}
use Rattle.forward.specs.Step.{no_state_def}
use Rattle.forward.specs.declared.parameters.RuntimeParams.{RuntimeParams}
use Rattle.forward.specs.declared.state.Branch.TheVariants.{Padding}
use Rattle.forward.specs.declared.state.StepRecord.{StepRecord}
use Rattle.columns.specs.ForwardPass.{record_at}

-- what stands past the end
unfoldable pub no_step_def : StepRecord
unfolding no_state_def
no_step_def =
    record {
      state = no_state_def;
      last = no_state_def;
      day = zero32;
      rating = zero32;
      retrievability = zero32;
      pre_s = zero32;
      pre_d = zero32;
      branch = Padding;
    }

-- caches.push(cache): each record in its row
unfoldable pub steps_def : (p : RuntimeParams) (h : History) (rows : ℕ) (xs : List StepRecord) → List StepRecord
steps_def p h zero xs = xs
steps_def p h (suc row) xs = slice_set (steps_def p h row xs) row (record_at p h row)
