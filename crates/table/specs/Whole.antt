-- Whole numbers of either sign. `shr_z` of Rattle.std.specs.Int.Signed is the quotient by m, rounded down, and `rest_z` what it leaves: z = shr_z z m * m + rest_z z m.
-- Assumes nothing.
use Rattle.std.specs.Prelude.{ℕ, suc, ◌-◌, ◌%◌, Bool, true, false, not, ℤ, pos, negsuc, neg_ℤ}
use Rattle.std.specs.Int.Signed.{non_neg}

-- ±n
abbrev pub signed : Bool → ℕ → ℤ
signed false n = pos n
signed true n = neg_ℤ (pos n)

abbrev pub below0 : ℤ → Bool
below0 z = not (non_neg z)

abbrev pub rest_z : ℤ → ℕ → ℕ
rest_z (pos a) m = a % m
rest_z (negsuc a) m = m - suc (a % m)
