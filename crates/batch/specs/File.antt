-- Document 01, 'Batch file and program': a file as one call. Assumes nothing.
use Rattle.std.specs.Prelude.{ℕ, Bool, false, ◌-◌, cond, List, eqb, Float, take, drop}
use Rattle.domain.specs.Doubles.{zero64}
use Rattle.batch.specs.Words.{words, singles}
use Rattle.batch.specs.Header.{Header, sections_of, well_formed_def}
use Rattle.checks.specs.Batch.{Prefixes, Cards, prefixes_of, cards_of}
use Rattle.checks.specs.Faults.{Fault, unplaced}
use Rattle.checks.specs.Refusals.{prefix_grad_fault, card_grad_fault, prefix_grad_reads, card_grad_reads}
use Rattle.analytic_v6.specs.Answers.{answer}
use Rattle.analytic_v6.specs.Results.{Loss}
use Rattle.analytic_v6.specs.Prefixes.{batch_loss_and_grad_def, batch_slots}
use Rattle.analytic_v6.specs.Cards.{cards_loss_and_grad, cards_slots}

-- what stands from the word a up to the word e
abbrev pub part : (a e : ℕ) (xs : List Float) → List Float
part a e xs = take (e - a) (drop a xs)

-- the call's own records and step gradients are one for each of 512 rows, the most that a file has
abbrev pub rows_of : ℕ
rows_of = 512

-- the call of a header: cells are the file's words as singles, lens the lengths
module _ (h : Header) (cells : List Float) (lens : List ℕ) where
  abbrev pub weights_in : List Float
  weights_in = part h.weights h.days cells

  abbrev pub prefixes_in_def : Prefixes
  prefixes_in_def =
      prefixes_of
      (part h.days h.ratings cells)
      (part h.ratings h.lengths cells)
      h.rows
      h.columns
      lens
      (part h.targets h.labels cells)
      (part h.labels h.reviews cells)
      (part h.reviews h.end cells)

  abbrev pub cards_in_def : Cards
  cards_in_def =
      cards_of
      (part h.days h.ratings cells)
      (part h.ratings h.lengths cells)
      h.rows
      h.columns
      lens
      (part h.labels h.reviews cells)
      (part h.reviews h.end cells)

  unfoldable pub prefix_loss_in : (gw : ℕ) → Loss
  prefix_loss_in gw = batch_loss_and_grad_def weights_in prefixes_in_def gw rows_of

  unfoldable pub prefix_slots_in : (gw : List Float) → List Float
  prefix_slots_in gw = batch_slots weights_in prefixes_in_def gw rows_of

  unfoldable pub card_loss_in_def : (gw : ℕ) → Loss
  card_loss_in_def gw = cards_loss_and_grad weights_in cards_in_def gw rows_of rows_of

  unfoldable pub card_slots_in : (gw : List Float) → List Float
  card_slots_in gw = cards_slots weights_in cards_in_def gw rows_of rows_of

  -- 'kind (1 prefix, 2 card)'
  unfoldable pub call_loss : (gw : ℕ) → Loss
  call_loss gw = cond (eqb h.kind 1) (prefix_loss_in gw) (card_loss_in_def gw)

  unfoldable pub call_slots : (gw : List Float) → List Float
  call_slots gw = cond (eqb h.kind 1) (prefix_slots_in gw) (card_slots_in gw)

  -- change request K7: the call's refusal with its place, where 21 slots are lent
  unfoldable pub prefix_fault_in : Fault
  prefix_fault_in = prefix_grad_fault weights_in prefixes_in_def 21 rows_of

  unfoldable pub card_fault_in : Fault
  card_fault_in = card_grad_fault weights_in cards_in_def 21 rows_of rows_of

  unfoldable pub call_fault_def : Fault
  call_fault_def = cond (eqb h.kind 1) prefix_fault_in card_fault_in

  -- whether it reads its cells: a fault has a place only where it does
  unfoldable pub call_reads : Bool
  call_reads =
      cond (eqb h.kind 1) (prefix_grad_reads weights_in prefixes_in_def 21 rows_of) (card_grad_reads weights_in cards_in_def 21 rows_of rows_of)

module _ (file : List ℕ) where
  -- 'all other entries single bits'
  abbrev pub cells_of : List Float
  cells_of = singles file 0 (sections_of file).end

  -- 'Lengths are unsigned whole numbers'
  abbrev pub lengths_of : List ℕ
  lengths_of = words file (sections_of file).lengths (sections_of file).columns

  -- 'Anything else is 11.'
  unfoldable pub file_loss : (gw : ℕ) → Loss
  file_loss gw = cond (well_formed_def file) (call_loss (sections_of file) cells_of lengths_of gw) (answer 11 zero64)

  unfoldable pub file_slots_def : (gw : List Float) → List Float
  file_slots_def gw = cond (well_formed_def file) (call_slots (sections_of file) cells_of lengths_of gw) gw

  unfoldable pub file_fault_def : Fault
  file_fault_def = cond (well_formed_def file) (call_fault_def (sections_of file) cells_of lengths_of) (unplaced 11)

  unfoldable pub file_reads : Bool
  file_reads = cond (well_formed_def file) (call_reads (sections_of file) cells_of lengths_of) false
