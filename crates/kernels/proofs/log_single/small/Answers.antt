-- `log_single::small` meets its contract: a widened single is the same number. Assumes nothing.
use Rattle.std.proofs.Common.{pos, ◌-ℤ◌, w64, to_z, ◌+◌, ◌/◌, ◌%◌, ◌^◌, ◌<◌, T, sym, ap, ◌∙◌, subst, lt_of_lt_of_le, lit<, lit≤}
use lib.Ieee.{Float, binary64, minus, to_bits}
use lib.Ieee.Positive.{positive}
use Rattle.soft.proofs.Rounding.Exponent.{read, exponent_fits, exponent_is}
use Rattle.kernels.proofs.log_double.Pattern.{no_nan}
use Rattle.kernels.proofs.log_single.Pattern.{Known, known, wide_lt, wide_place, wide_digits}
use Rattle.kernels.proofs.log_single.small.Goals.{After-from-b}
use Rattle.kernels.proofs.log_single.small.Goals as goal

field_lt : (c : goal.After-from-b) → to_bits binary64 c.from-b.result / 2 ^ 52 < 2 ^ 13
field_lt c = subst (λ (z : Float). to_bits binary64 z / 2 ^ 52 < 2 ^ 13) (sym c.from-b.ensures) (wide_lt c.args.x.number c.args.x.holds c.args.x.is_positive)

pub float_to_bits-b : goal.float_to_bits-b
float_to_bits-b c = let w = c.from-b in no_nan w.result (subst (λ (z : Float). T (positive z)) (sym w.ensures) c.args.x.is_positive)

pub overflow_cast-k : goal.overflow_cast-k
overflow_cast-k c = record { sfits = lt_of_lt_of_le (field_lt c) (lit≤ tt) }

pub overflow_sub-k : goal.overflow_sub-k
overflow_sub-k c = exponent_fits 1022 (to_bits binary64 c.from-b.result / 2 ^ 52) (lit< tt) (field_lt c)

met : (c : goal.After-from-b) → Known c.args.x.number ((2 ^ 52 + to_bits binary64 c.from-b.result % 2 ^ 52) / 2 ^ 29) (read (to_z w64 (to_bits binary64 c.from-b.result / 2 ^ 52) -ℤ pos 1023))
met c =
    let w = c.from-b in
    let x = c.args.x in
    known x.number x.holds x.is_positive _ _
    (ap (λ (z : Float). (2 ^ 52 + to_bits binary64 z % 2 ^ 52) / 2 ^ 29) w.ensures ∙ sym (wide_digits x.number x.holds x.is_positive))
    (exponent_is 1022 (to_bits binary64 w.result / 2 ^ 52) (lit< tt) (field_lt c) ∙ ap (λ (z : Float). minus (to_bits binary64 z / 2 ^ 52) 1023) w.ensures ∙ sym (wide_place x.number x.holds x.is_positive))

pub invariant_of-result : goal.invariant_of-result
invariant_of-result c = let a = (met (goal.at.invariant_of-result c).After-from-b).asks in record { least = a.0; most = a.1; few = a.2 }

pub returns : goal.returns
returns c = let m = met (goal.at.returns c).After-from-b in (m.digits, m.place)
