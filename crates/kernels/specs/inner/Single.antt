-- What the steps inside the logarithms of a single compute. Assumes nothing.
use Rattle.std.specs.Prelude.{ℕ, ◌*◌, ◌/◌, ◌^◌, ℤ, pos, ◌-ℤ◌, ◌*ℤ◌, Float}
use Rattle.std.specs.Float.{nan, inf, fin}
use Rattle.table.specs.Exact.{N}
use Rattle.table.specs.Entry.{first_from, index_at_def}
use Rattle.kernels.specs.Logarithm.{binade, moved, interval, steps, gap63, low63, low22}

-- a float by its w digits with the leading one, and that one's place: a single has 24
abbrev pub digits_at : ℕ → Float → ℕ
digits_at w nan = 0
digits_at w (inf s) = 0
digits_at w (fin s m e) = moved w m

abbrev pub digits_of_def : Float → ℕ
digits_of_def x = digits_at 24 x

abbrev pub place_of : Float → ℤ
place_of nan = pos 0
place_of (inf s) = pos 0
place_of (fin s m e) = binade m e

-- the first entry above every number with the first ten digits of m, which has 24
abbrev pub index_of : ℕ → ℕ
index_of m = index_at_def (interval (m * 2 ^ 40))

-- ln x in units of 2 ^ -22 of a step, by its digits and their place
unfoldable pub step_log_at_def : (m : ℕ) → ℤ → ℤ
unfolding first_from gap63 low22
step_log_at_def m k = steps k (index_of m) *ℤ pos (2 ^ 22) -ℤ pos (low22 (gap63 (index_of m) m))

-- and in units of 2 ^ -56, but for the numbers next to 1
unfoldable pub log_at : (m : ℕ) → ℤ → ℤ
unfolding first_from gap63 low63
log_at m k = steps k (index_of m) *ℤ pos (N / 2 ^ 16) -ℤ pos (low63 (gap63 (index_of m) m) / 2 ^ 7)
