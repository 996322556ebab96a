-- Change request K7: the reasons for which a card moves, and the ends of a range, each with its number. Assumes nothing.
use Rattle.std.specs.Prelude.{ℕ, cond, Float}
use Rattle.std.specs.Float.Ieee.{eq, lt}
use Rattle.domain.specs.Limits.{two, four}
use Rattle.forward.specs.declared.state.Branch.{Branch}
use Rattle.forward.specs.declared.state.Branch.TheVariants.{Padding as PaddingBranch, First as FirstBranch, SameDay, Lapse, Success as SuccessBranch}
use Rattle.explain.specs.declared.reasons.Held.{Held}
use Rattle.explain.specs.declared.reasons.Held.TheVariants.{Free, Low, High}
use Rattle.explain.specs.declared.reasons.Reason.{Reason}
use Rattle.explain.specs.declared.reasons.Reason.TheVariants.{
  Padding,
  First,
  SameDayRaw,
  SameDayOne,
  LapseRaw,
  LapseFloor,
  Success,
  SuccessHard,
  SuccessEasy,
}

-- 'Where an answer is an enum, a definition tells you this paper's number .. for each of its cases'; 0 to 6 as in a record's columns
unfoldable pub reason_number_def : Reason → ℕ
reason_number_def Padding = 0
reason_number_def First = 1
reason_number_def SameDayRaw = 2
reason_number_def SameDayOne = 3
reason_number_def LapseRaw = 4
reason_number_def LapseFloor = 5
reason_number_def Success = 6
reason_number_def SuccessHard = 7
reason_number_def SuccessEasy = 8

unfoldable pub held_number_def : Held → ℕ
held_number_def Free = 0
held_number_def Low = 1
held_number_def High = 2

-- 'success with plain, hard or easy'
unfoldable pub success_reason_def : (rating : Float) → Reason
success_reason_def rating = cond (eq rating two) SuccessHard (cond (eq rating four) SuccessEasy Success)

-- 'padding, first review, same-day with the raw multiplier or with the 1, lapse with raw value or floor, or success': as the step's branch says
unfoldable pub reason_of_def : Branch → (rating : Float) → Reason
reason_of_def PaddingBranch rating = Padding
reason_of_def (FirstBranch number) rating = First
reason_of_def (SameDay raw value active) rating = cond active SameDayRaw SameDayOne
reason_of_def (Lapse raw floor floored) rating = cond floored LapseFloor LapseRaw
reason_of_def SuccessBranch rating = success_reason_def rating

-- 'held at an end of its range, and which end': x, not yet clamped, 'lay outside'. Exactly at an end is not outside, and neither is a NaN
unfoldable pub held_at : (x low high : Float) → Held
held_at x low high = cond (lt x low) Low (cond (lt high x) High Free)
