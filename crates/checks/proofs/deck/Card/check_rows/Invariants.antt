use Prim.Native.Nat.{◌-◌}
use mathlib.Core.Path.{◌≡◌}
use Rattle.checks.specs.Align.{is_end_def}
use Rattle.checks.specs.Decks.{history_at, rows_of, weights_at}
use Rattle.checks.specs.Reads.{card_row_def, is_last}
use Rattle.checks.specs.Faults.{rows_fault}
use Rattle.checks.proofs.faults.First.{none}
use Rattle.checks.proofs.deck.Card.check_rows.Given as goal

abbrev pub invariant-loop-row : goal.invariant-loop-row
invariant-loop-row l =
    let c = l.self in
    let h = history_at c.history in
    none ≡
    rows_fault (λ row. card_row_def (is_end_def c.align) (is_last l.n row) (row - h.first) (h.day row) (h.rating row) (weights_at c row) (rows_of c.labels row)) l.column l.row
