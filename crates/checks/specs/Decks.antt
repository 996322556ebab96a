-- What a loss call is lent, as the declared structs hold it, turned into the values of Batch.antt. Assumes nothing.
use Rattle.std.specs.Prelude.{ℕ, Float}
use Rattle.checks.specs.Align.{weighed}
use Rattle.checks.specs.Batch as Batch
use Rattle.checks.specs.declared.deck.Table.{Table}
use Rattle.checks.specs.declared.deck.Prefixes.{Prefixes}
use Rattle.checks.specs.declared.deck.Cards.{Cards}
use Rattle.checks.specs.declared.deck.History.{History}
use Rattle.checks.specs.declared.deck.Card.{Card}
use Rattle.checks.specs.declared.view.Column.{Column}

abbrev pub table_of : Table → Batch.Table
table_of t = record { days = t.days.now; ratings = t.ratings.now; rows = t.rows; columns = t.columns; lengths = t.lengths.now; align = t.align }

abbrev pub prefixes_now : Prefixes → Batch.Prefixes
prefixes_now x = record { table = table_of x.table; days = x.days.now; labels = x.labels.now; weights = x.weights.now }

abbrev pub cards_now : Cards → Batch.Cards
cards_now x = record { table = table_of x.table; labels = x.labels.now; weights = x.weights.now }

-- a column's cells, as a function of the row
abbrev pub rows_of : Column → ℕ → Float
rows_of c = Batch.view c.cells.now c.stride c.column

abbrev pub history_at : History → Batch.History
history_at h = record { day = rows_of h.days; rating = rows_of h.ratings; first = h.first }

-- a card's review weights as they count, as a function of the row
abbrev pub weights_at : Card → ℕ → Float
weights_at c row = weighed c.align (rows_of c.history.ratings row) (rows_of c.weights row)

-- the column's history as it is lent: both tables through the view, from the row of its first review
abbrev pub history_lent : Table → (column : ℕ) → History
history_lent t column =
    record {
      days = record { cells = t.days; column = column; stride = t.columns };
      ratings = record { cells = t.ratings; column = column; stride = t.columns };
      first = Batch.first_at (table_of t) column;
    }

-- and a card's column
abbrev pub card_lent : Cards → (column : ℕ) → Card
card_lent x column =
    record {
      history = history_lent x.table column;
      labels = record { cells = x.labels; column = column; stride = x.table.columns };
      weights = record { cells = x.weights; column = column; stride = x.table.columns };
      align = x.table.align;
    }
