-- How step records lie in a lent slice: what every layout keeps, what a pass leaves in it, and the layouts. Assumes nothing.
use Rattle.std.specs.Prelude.{◌≡◌, ◌≢◌, ℕ, zero, suc, ◌<◌, List, length, slice_set, slice_index_or, refl, Float}
use Rattle.std.proofs.Common.{length-set, get_or-set_same, get_or-set_other, ◌∙◌, arith}
use Rattle.checks.specs.Batch.{History}
use Rattle.forward.specs.declared.parameters.RuntimeParams.{RuntimeParams}
use Rattle.forward.specs.declared.state.StepRecord.{StepRecord}
use Rattle.columns.specs.ForwardPass.{record_at}
use Rattle.columns.specs.Records.{room_def, store_def, load_def, read_back_def}
use Rattle.columns.specs.StepRecords.{no_step_def}
use Rattle.columns.specs.laws.Stored.{stored_length, stored_read, others_kept}

-- a record as a step makes it: its ten numbers are all of it
abbrev pub IsStored : StepRecord → Type 0
IsStored c = read_back_def c ≡ c

-- what is stored in a row with room is what is read back, and the other rows are kept
pub record LayoutLaws {A : Type 0} (room : ℕ → ℕ) (store : List A → ℕ → StepRecord → List A) (load : List A → ℕ → StepRecord) : Type 0 where
  pub keeps_length : (xs : List A) (row : ℕ) (c : StepRecord) → length (store xs row c) ≡ length xs
  pub reads_back : (xs : List A) (row : ℕ) (c : StepRecord) → IsStored c → row < room (length xs) → load (store xs row c) row ≡ c
  pub keeps_others : (xs : List A) (row other : ℕ) (c : StepRecord) → row < room (length xs) → other < room (length xs) → other ≢ row → load (store xs row c) other ≡ load xs other

-- caches.push(cache): each record in its row
unfoldable pub left_by : {A : Type 0} (store : List A → ℕ → StepRecord → List A) (p : RuntimeParams) (h : History) (rows : ℕ) (xs : List A) → List A
left_by store p h zero xs = xs
left_by store p h (suc row) xs = store (left_by store p h row xs) row (record_at p h row)

-- one record a cell: left_by store_steps is steps_def
abbrev pub steps_room : (cells : ℕ) → ℕ
steps_room cells = cells

abbrev pub store_steps : List StepRecord → ℕ → StepRecord → List StepRecord
store_steps xs row c = slice_set xs row c

abbrev pub load_steps : List StepRecord → ℕ → StepRecord
load_steps xs row = slice_index_or xs row no_step_def

pub steps_laws : LayoutLaws steps_room store_steps load_steps
steps_laws = record {
  keeps_length = λ xs row c. length-set xs row c;
  reads_back = λ xs row c s l. get_or-set_same xs row c no_step_def l;
  keeps_others = λ xs row other c l k d. get_or-set_other xs row other c no_step_def d;
}

-- ten columns of singles: left_by store_columns is stored_def
abbrev pub store_columns : List Float → ℕ → StepRecord → List Float
store_columns xs row c = store_def row c xs

abbrev pub load_columns : List Float → ℕ → StepRecord
load_columns xs row = load_def row xs

pub columns_laws : LayoutLaws room_def store_columns load_columns
columns_laws = record {
  keeps_length = λ xs row c. stored_length row c xs;
  reads_back = λ xs row c s l. stored_read row c xs l ∙ s;
  keeps_others = λ xs row other c l k d. others_kept row c xs l other k d;
}

-- no records: the laws speak of no row
abbrev pub no_room : (cells : ℕ) → ℕ
no_room cells = 0

abbrev pub store_nothing : {A : Type 0} → List A → ℕ → StepRecord → List A
store_nothing xs row c = xs

abbrev pub load_nothing : {A : Type 0} → List A → ℕ → StepRecord
load_nothing xs row = no_step_def

pub untraced_laws : {A : Type 0} → LayoutLaws {A = A} no_room store_nothing load_nothing
untraced_laws = record {
  keeps_length = λ xs row c. refl;
  reads_back = λ xs row c s l. absurd (omega (arith, l));
  keeps_others = λ xs row other c l k d. refl;
}
