-- A finite float in units of its format's smallest value, as the code takes it apart. Assumes nothing.
use Rattle.std.specs.Prelude.{ℕ, ◌+◌, ◌-◌, ◌/◌, ◌%◌, cond, ◌==◌, nat_le, to_bits, Float}
use Rattle.std.specs.Float.{Format}
use Rattle.std.specs.Float.Ieee.{hid, top}
use Rattle.soft.specs.declared.units.Units.{Units}

-- the fields of a pattern b: the sign's weight is t, the exponent's field's h
unfoldable pub split_def : (t h b : ℕ) → Units
split_def t h b = record { negative = nat_le t b; digits = cond (b % t / h == 0) (b % h) (h + b % h); places = b % t / h - 1 }

abbrev pub units_def : Format → Float → Units
units_def f x = split_def (top f) (hid f) (to_bits f x)
