-- The 21 slots, and what a clamp lets through. Assumes nothing.
use Rattle.std.specs.Prelude.{ℕ, Bool, cond, List, slice_index_or, slice_set, Float}
use Rattle.std.specs.Float.{nan}
use Rattle.domain.specs.Floats.{within}
use Rattle.domain.specs.Doubles.{◌+ᵈ◌, zero64, one64}

-- gw[i] += v; a slot that is not there stays so
unfoldable pub bump : List Float → ℕ → Float → List Float
bump gw i v = slice_set gw i (slice_index_or gw i nan +ᵈ v)

unfoldable pub bump_if : Bool → List Float → ℕ → Float → List Float
bump_if c gw i v = cond c (bump gw i v) gw

-- if x >= min && x <= max { 1.0 } else { 0.0 }
unfoldable pub clamp_grad : (x low high : Float) → Float
clamp_grad x low high = cond (within x low high) one64 zero64
