-- Document 01, 'Batch file and program': the header of ten words, and where the sections stand. Positions are in words. Assumes nothing.
use Rattle.std.specs.Prelude.{ℕ, ◌+◌, ◌*◌, Bool, ◌&&◌, ◌||◌, cond, List, eqb, leb, length}
use Rattle.batch.specs.Words.{word_at_def}

-- a header that is taken apart: 11 and nothing else where the file is malformed
pub record Header : Type 0 where
  pub refusal : ℕ
  pub kind : ℕ
  pub rows : ℕ
  pub columns : ℕ
  pub weights : ℕ
  pub days : ℕ
  pub ratings : ℕ
  pub lengths : ℕ
  pub targets : ℕ
  pub labels : ℕ
  pub reviews : ℕ
  pub end : ℕ

-- 'kind (1 prefix, 2 card)'
unfoldable pub is_kind_def : (kind : ℕ) → Bool
is_kind_def kind = eqb kind 1 || eqb kind 2

-- 'At most 512 rows and 65,536 bytes'
unfoldable pub sized : (kind rows bytes : ℕ) → Bool
sized kind rows bytes = is_kind_def kind && (leb rows 512 && leb bytes 65536)

-- 'lengths, and a prefix's targets, labels and review weights, have one per column; a card has no target days'
unfoldable pub target_count : (kind columns : ℕ) → ℕ
target_count kind columns = cond (eqb kind 1) columns 0

-- a card's labels and review weights are tables: rows × columns entries
unfoldable pub score_count : (kind columns cells : ℕ) → ℕ
score_count kind columns cells = cond (eqb kind 1) columns cells

-- 'Sections follow with no gap, the first at 40': 21 weights, days, ratings, lengths, target days, labels, review weights
unfoldable pub sections_def : (kind rows columns : ℕ) → Header
sections_def kind rows columns =
    let cells = rows * columns in
    let scores = score_count kind columns cells in
    let ratings = 31 + cells in
    let lengths = ratings + cells in
    let targets = lengths + columns in
    let labels = targets + target_count kind columns in
    let reviews = labels + scores in
    record {
      refusal = 0;
      kind = kind;
      rows = rows;
      columns = columns;
      weights = 10;
      days = 31;
      ratings = ratings;
      lengths = lengths;
      targets = targets;
      labels = labels;
      reviews = reviews;
      end = reviews + scores;
    }

-- the header's i-th word is the byte offset of the word k
unfoldable pub offset_is : (file : List ℕ) (i k : ℕ) → Bool
offset_is file i k = eqb (word_at_def file i) (4 * k)

-- 'then byte offsets of weights, days, ratings, lengths, target days, labels, review weights', and nothing after the last section
unfoldable pub placed : (file : List ℕ) (h : Header) → Bool
placed file h =
    ((offset_is file 3 h.weights && eqb (length file) (4 * h.end)) && (offset_is file 4 h.days && offset_is file 5 h.ratings)) &&
    ((offset_is file 6 h.lengths && offset_is file 7 h.targets) && (offset_is file 8 h.labels && offset_is file 9 h.reviews))

-- its sections by its first three words
abbrev pub sections_of : (file : List ℕ) → Header
sections_of file = sections_def (word_at_def file 0) (word_at_def file 1) (word_at_def file 2)

unfoldable pub well_formed_def : (file : List ℕ) → Bool
well_formed_def file = sized (word_at_def file 0) (word_at_def file 1) (length file) && placed file (sections_of file)

unfoldable pub malformed_def : Header
malformed_def =
    record {
      refusal = 11;
      kind = 0;
      rows = 0;
      columns = 0;
      weights = 0;
      days = 0;
      ratings = 0;
      lengths = 0;
      targets = 0;
      labels = 0;
      reviews = 0;
      end = 0;
    }

-- 'Anything else is 11.'
unfoldable pub header_def : (file : List ℕ) → Header
header_def file = cond (well_formed_def file) (sections_of file) malformed_def
