use Rattle.std.proofs.Common.{◌≡◌, length, take}
use Rattle.columns.specs.Records.{put_all}
use Rattle.columns.proofs.records.ColumnsLayout.store.Given as goal

abbrev pub invariant-loop-field : goal.invariant-loop-field
invariant-loop-field l = l.records ≡ put_all (length l.initial.records) l.row 0 (take l.field l.number-items) l.initial.records

abbrev pub invariant-loop-field-else-row-room : goal.invariant-loop-field-else-row-room
invariant-loop-field-else-row-room l = l.records ≡ put_all (length l.initial.records) l.row 0 (take l.field l.number-items) l.initial.records
