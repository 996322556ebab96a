-- What the code takes a header apart into, as the record that the definitions speak of. Assumes nothing.
use Rattle.std.specs.Prelude.{ℕ, Result, Ok, Err}
use Rattle.domain.specs.Refusals.{number}
use Rattle.domain.specs.declared.refusal.Refusal.{Refusal}
use Rattle.batch.specs.Header.{Header}
use Rattle.batch.specs.declared.sections.Kind.{Kind}
use Rattle.batch.specs.declared.sections.Kind.TheVariants.{Prefixes, Cards}
use Rattle.batch.specs.declared.sections.Sections.{Sections}

abbrev pub kind_number : Kind → ℕ
kind_number Prefixes = 1
kind_number Cards = 2

abbrev pub header_at : Sections → Header
header_at s =
    record {
      refusal = 0;
      kind = kind_number s.kind;
      rows = s.rows;
      columns = s.columns;
      weights = s.weights;
      days = s.days;
      ratings = s.ratings;
      lengths = s.lengths;
      targets = s.targets;
      labels = s.labels;
      reviews = s.reviews;
      end = s.end;
    }

-- a refused header is none at all but for the refusal's number
abbrev pub header_read : Result Sections Refusal → Header
header_read (Ok s) = header_at s
header_read (Err e) =
    record {
      refusal = number e;
      kind = 0;
      rows = 0;
      columns = 0;
      weights = 0;
      days = 0;
      ratings = 0;
      lengths = 0;
      targets = 0;
      labels = 0;
      reviews = 0;
      end = 0;
    }
