-- What stands for a cell past the end of a list: `f32::NAN` is the one NaN, and within the list it does not matter. Assumes nothing.
use Prim.Native.Nat.{ℕ, zero, suc, ◌<◌}
use mathlib.Core.Path.{◌≡◌, refl}
use mathlib.Core.List.{List, [], ◌∷◌}
use native.Mathlib.Nat.{le_of_suc-le-suc, not-suc-le-zero}
use lib.Ieee.{Float, nan, binary32, of_bits}
use lib.ListN.{get_or, length}

pub nan_pattern : of_bits binary32 0x7fc0_0000 ≡ nan
unfolding of_bits
nan_pattern = refl

pub within : (l : List Float) (k : ℕ) (a b : Float) → k < length l → get_or l k a ≡ get_or l k b
within [] k a b h = absurd (not-suc-le-zero h)
within (x ∷ l) zero a b h = refl
within (x ∷ l) (suc k) a b h = within l k a b (le_of_suc-le-suc h)
