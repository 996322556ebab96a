use Rattle.std.proofs.Common.{refl}
use Rattle.columns.proofs.records.Numbers.{put_none, put_more, put_done}
use Rattle.columns.proofs.records.ColumnsLayout.store.Goals as goal

pub loop-field-init : goal.loop-field-init
loop-field-init c = put_none c.args.row c.args.step.now _ c.args.records.now c.numbers_of-numbers.ensures

pub loop-field-preserved : goal.loop-field-preserved
loop-field-preserved c =
    let l = c.loop-field in put_more c.args.row c.args.step.now _ c.args.records.now c.numbers_of-numbers.ensures l.field l.records _ c.loop-field-test.true l.invariant refl

pub loop-field-else-row-room-init : goal.loop-field-else-row-room-init
loop-field-else-row-room-init c = put_none c.args.row c.args.step.now _ c.args.records.now c.numbers_of-numbers.ensures

pub loop-field-else-row-room-preserved : goal.loop-field-else-row-room-preserved
loop-field-else-row-room-preserved c =
    let l = c.loop-field-else-row-room in put_more c.args.row c.args.step.now _ c.args.records.now c.numbers_of-numbers.ensures l.field l.records _ c.loop-field-else-row-room-test.true l.invariant c.put_cell.ensures

pub returns-after-loop-field : goal.returns-after-loop-field
returns-after-loop-field c =
    let l = c.loop-field in put_done c.args.row c.args.step.now _ c.args.records.now c.numbers_of-numbers.ensures l.field l.records c.loop-field-test.false l.auto.field-end l.invariant

pub returns-after-loop-field-else-row-room : goal.returns-after-loop-field-else-row-room
returns-after-loop-field-else-row-room c =
    let l = c.loop-field-else-row-room in put_done c.args.row c.args.step.now _ c.args.records.now c.numbers_of-numbers.ensures l.field l.records c.loop-field-else-row-room-test.false l.auto.field-end l.invariant
