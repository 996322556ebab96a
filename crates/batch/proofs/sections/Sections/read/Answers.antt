use Rattle.std.proofs.Common.{sym, ◌∙◌}
use Rattle.batch.proofs.sections.Headers.{rows_over, bytes_over, unplaced, well_placed, end_small}
use Rattle.batch.proofs.sections.Sections.read.Goals as goal
use Rattle.batch.proofs.sections.Sections.read.Goals.{then-rows-gt-MAX_ROWS-via-then-rows-gt-MAX_ROWS, then-rows-gt-MAX_ROWS-via-else-rows-gt-MAX_ROWS+then-file-gt-MAX_BYTES}

pub returns-then-rows-gt-MAX_ROWS-clause-header : goal.returns-then-rows-gt-MAX_ROWS-clause-header
returns-then-rows-gt-MAX_ROWS-clause-header c =
    elim c.then-rows-gt-MAX_ROWS.branch [
      | then-rows-gt-MAX_ROWS-via-then-rows-gt-MAX_ROWS w ↦ rows_over c.args.file.now (rw c.word_at-rows.ensures at w.if-rows-gt-MAX_ROWS.true)
      | then-rows-gt-MAX_ROWS-via-else-rows-gt-MAX_ROWS+then-file-gt-MAX_BYTES w ↦ bytes_over c.args.file.now w.if-file-gt-MAX_BYTES.true
    ]

pub returns-else-are_placed-clause-header : goal.returns-else-are_placed-clause-header
returns-else-are_placed-clause-header c =
    unplaced c.args.file.now _ _ _ _ (c.in_ok-kind.ensures ∙ c.word_at.ensures) c.word_at-rows.ensures c.word_at-2.ensures c.if-rows-gt-MAX_ROWS.false c.if-file-gt-MAX_BYTES.false
    c.new-sections.ensures (sym c.if-are_placed.ensures)

pub returns-then-are_placed-clause-header : goal.returns-then-are_placed-clause-header
returns-then-are_placed-clause-header c =
    well_placed c.args.file.now _ _ _ _ (c.in_ok-kind.ensures ∙ c.word_at.ensures) c.word_at-rows.ensures c.word_at-2.ensures c.if-rows-gt-MAX_ROWS.false c.if-file-gt-MAX_BYTES.false
    c.new-sections.ensures (sym c.if-are_placed.ensures)

pub returns-then-are_placed-clause-fits : goal.returns-then-are_placed-clause-fits
returns-then-are_placed-clause-fits c =
    end_small c.args.file.now _ _ _ _ (c.in_ok-kind.ensures ∙ c.word_at.ensures) c.word_at-rows.ensures c.word_at-2.ensures c.if-rows-gt-MAX_ROWS.false c.if-file-gt-MAX_BYTES.false
    c.new-sections.ensures (sym c.if-are_placed.ensures)
