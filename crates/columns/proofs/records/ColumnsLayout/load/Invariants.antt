use Rattle.columns.proofs.records.Numbers.{Read}
use Rattle.columns.proofs.records.ColumnsLayout.load.Given as goal

abbrev pub invariant-loop-field : goal.invariant-loop-field
invariant-loop-field l = Read l.row l.records l.field l.number-items

abbrev pub invariant-loop-field-else-row-room : goal.invariant-loop-field-else-row-room
invariant-loop-field-else-row-room l = Read l.row l.records l.field l.number-items
