-- What is promised of the definitions that the code is proved to equal. docs/PROMISES.md tells it in words, with what
-- crates/outcomes says of the contracts themselves. Assumes nothing.
use Rattle.std.specs.Float.{Format}
use Rattle.laws.specs.Distances.{Kernels, Minus}
use Rattle.laws.specs.KernelCalls.{Ties}
use Rattle.promises.specs.Aligned.{Aligned}
use Rattle.promises.specs.Carried.{Carried}
use Rattle.promises.specs.Finite.{NoSilentNaNs}
use Rattle.promises.specs.Twelve.{Twelve}
use Rattle.promises.specs.FirstFault.{FirstFault}
use Rattle.promises.specs.Frozen.{Demand3}
use Rattle.promises.specs.Imported.{Imported}
use Rattle.promises.specs.Layouts.{TwoLayouts}
use Rattle.promises.specs.Pulled.{Pulled}
use Rattle.promises.specs.Reasoned.{Reasoned}
use Rattle.promises.specs.Rows.{Rows}
use Rattle.promises.specs.Starting.{Starting}

pub record Promises : Type 0 where
  -- demand 2: exp, ln and pow 'lie within document 01's distances of its exact fractions', in single and in double (laws/specs/Distances.antt)
  pub distances : (f : Format) → Kernels f
  -- document 01's 'Values to prove (one theorem over the list)' (Twelve.antt)
  pub twelve_values : Twelve
  -- demand 3, for both kinds of loss call (Frozen.antt)
  pub frozen_weights : Demand3
  -- change request K1: exp less 1 within its distance (laws/specs/Distances.antt), and a deck from SM-2 (Imported.antt)
  pub exp_less_one : Minus
  pub from_sm2 : Imported
  -- change request K5: a deck at the end of its tables is given what it is given at their start (Aligned.antt)
  pub aligned_at_the_end : Aligned
  -- change request K2: a review on a day, of a state that carries the day when its card was last seen (Carried.antt)
  pub last_seen : Carried
  -- change request K10: the step records as a slice of records and as plain columns (Layouts.antt)
  pub both_layouts : TwoLayouts
  -- change request K13: a pull toward the old weights is finite, and its slots are its own (Pulled.antt)
  pub toward_the_old_weights : Pulled
  -- change request K14: no silent NaN in the forward pass of an accepted loss call (Finite.antt), whose kernel calls are those of the formulas (laws/specs/KernelCalls.antt)
  pub no_silent_nan : NoSilentNaNs
  pub kernel_calls : Ties
  -- change request K9: rows that an app has worked out for itself (Rows.antt)
  pub exported_rows : Rows
  -- change request K7: why a card moved (Reasoned.antt), and why a loss call is refused and where (FirstFault.antt)
  pub why_it_moved : Reasoned
  pub first_at_fault : FirstFault
  -- change request K6: a starting stability from first recalls lies between 0.0001 and 100 (Starting.antt)
  pub starting_stability : Starting
