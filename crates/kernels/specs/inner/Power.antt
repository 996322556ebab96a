-- What the steps inside a power compute. Assumes nothing.
use Rattle.std.specs.Prelude.{◌≡◌, ◌^◌, ◌<◌, false, ℤ, pos, int_lt}
use Rattle.std.proofs.Math.IntN.{sub_ℕ}
use Rattle.std.specs.Int.Signed.{shr_z}
use Rattle.std.specs.Float.{Format}
use Rattle.std.specs.Float.Ieee.{emax}
use Rattle.table.specs.Whole.{rest_z}
use Rattle.kernels.specs.declared.parts.Parts.{Parts}

-- z = k 2 ^ 52 + i 2 ^ 44 + f, k rounded down
pub record Split (z : ℤ) (r : Parts) : Type 0 where
  pub k_is : r.k ≡ shr_z z (2 ^ 52)
  pub i_is : r.i ≡ rest_z (shr_z z (2 ^ 44)) 256
  pub f_is : r.f ≡ rest_z z (2 ^ 44)
  pub i_lt : r.i < 256
  pub f_lt : r.f < 2 ^ 44

-- an exponent of the normal range
abbrev pub Normal : Format → ℤ → Type 0
Normal f k = (int_lt k (sub_ℕ 1 (emax f)) ≡ false) × (int_lt (pos (emax f)) k ≡ false)
