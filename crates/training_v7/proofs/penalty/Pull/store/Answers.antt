use Rattle.std.proofs.Common.{slice_set, ap, rules}
use Rattle.checks.proofs.tables.Columns.{next_through}
use Rattle.training_v7.specs.Penalty.{store_slot_def}
use Rattle.training_v7.proofs.penalty.Pull.store.Goals as goal

pub loop-i-preserved : goal.loop-i-preserved
unfolding store_slot_def
loop-i-preserved c =
    let l = c.loop-i in (search rules, next_through _ _ l.i _ _ l.invariant.1 (ap (slice_set l.slots l.i) c.slot.ensures))
