-- All of it. Assumes nothing.
use Rattle.laws.proofs.Distances.Kernels.{kernels}
use Rattle.laws.proofs.Distances.minus.Laws.{minus}
use Rattle.laws.proofs.Ranges.Ties.{ties}
use Rattle.promises.specs.Promises.{Promises}
use Rattle.promises.proofs.Aligned.{aligned}
use Rattle.promises.proofs.Carried.{carried}
use Rattle.promises.proofs.Finite.{no_silent_nan}
use Rattle.promises.proofs.Twelve.{twelve}
use Rattle.promises.proofs.FirstFault.{first_fault}
use Rattle.promises.proofs.Frozen.{demand3}
use Rattle.promises.proofs.Imported.{imported}
use Rattle.promises.proofs.Layouts.{two_layouts}
use Rattle.promises.proofs.Pulled.{pulled}
use Rattle.promises.proofs.Reasoned.{reasoned}
use Rattle.promises.proofs.Rows.{rows}
use Rattle.promises.proofs.Starting.{starting}

pub promises : Promises
promises = record { distances = kernels; twelve_values = twelve; frozen_weights = demand3; exp_less_one = minus; from_sm2 = imported; aligned_at_the_end = aligned; last_seen = carried; both_layouts = two_layouts; toward_the_old_weights = pulled; no_silent_nan = no_silent_nan; kernel_calls = ties; exported_rows = rows; why_it_moved = reasoned; first_at_fault = first_fault; starting_stability = starting }
