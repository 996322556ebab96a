use Rattle.std.proofs.Common.{◌≡◌, length}
use Rattle.checks.specs.Columns.{through}
use Rattle.training_v7.specs.Penalty.{store_slot_def}
use Rattle.training_v7.proofs.penalty.Pull.store.Given as goal

abbrev pub invariant-loop-i : goal.invariant-loop-i
invariant-loop-i l =
    (length l.slots ≡ 21) × (l.slots ≡ through (store_slot_def l.self.weights l.self.old l.self.spreads l.scale l.counted) l.i l.initial.slots)
