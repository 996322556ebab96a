use Rattle.std.proofs.Common.{refl, ◌∙◌}
use lib.Ieee.{of_bits}
use Rattle.columns.proofs.records.Numbers.{read_more, read_done}
use Rattle.columns.proofs.records.ColumnsLayout.load.Goals as goal
use Rattle.columns.proofs.records.ColumnsLayout.load.Goals.{then-row-room+else-loop-field-test, else-row-room+else-loop-field-else-row-room-test}

pub loop-field-preserved : goal.loop-field-preserved
loop-field-preserved c = let l = c.loop-field in read_more c.args.row c.args.records.now l.field l.number-items _ _ c.loop-field-test.true l.invariant refl refl

pub loop-field-else-row-room-preserved : goal.loop-field-else-row-room-preserved
unfolding of_bits
loop-field-else-row-room-preserved c =
    let l = c.loop-field-else-row-room in read_more c.args.row c.args.records.now l.field l.number-items _ _ c.loop-field-else-row-room-test.true l.invariant c.cell_or.ensures refl

pub returns : goal.returns
returns c =
    c.record_of.ensures ∙
    elim c.if-row-room.branch [
      | then-row-room+else-loop-field-test w ↦ rw w.numbers-is (read_done c.args.row c.args.records.now w.loop-field.field _ w.loop-field-test.false w.loop-field.invariant)
      | else-row-room+else-loop-field-else-row-room-test w ↦
          rw w.numbers-is (read_done c.args.row c.args.records.now w.loop-field-else-row-room.field _ w.loop-field-else-row-room-test.false w.loop-field-else-row-room.invariant)
    ]
