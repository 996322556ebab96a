-- The refusals' numbers, and a Result as a number: 0 where there is none. Assumes nothing.
use Rattle.std.specs.Prelude.{ℕ, Result, Ok, Err}
use Rattle.domain.specs.declared.refusal.Refusal.{Refusal}
use Rattle.domain.specs.declared.refusal.Refusal.TheVariants.{WeightCount, WeightBox, Sizes, Room, SlotCount, Rating, Day, Review, EmptyPrefix, Kernel, File, FillingCount, Argument, Import, Earlier}

abbrev pub number : Refusal → ℕ
number WeightCount = 1
number WeightBox = 2
number Sizes = 3
number Room = 4
number SlotCount = 5
number Rating = 6
number Day = 7
number Review = 8
number EmptyPrefix = 9
number Kernel = 10
number File = 11
number FillingCount = 12
number Argument = 13
number Import = 14
number Earlier = 15

-- whatever is answered beside it
abbrev pub number_of : {A : Type 0} → Result A Refusal → ℕ
number_of (Ok x) = 0
number_of (Err e) = number e
