-- exp and pow at a zero are 1, and how large a power with an exponent from -1 to 1 is. Assumes nothing.
use mathlib.Core.Path.{◌≡◌, refl, ap, ap₂, ◌∙◌}
use mathlib.Core.Bool.{true, false, not}
use Prim.Native.Nat.{ℕ, zero, suc, ◌+◌, ◌<◌}
use lib.Dec.{T, lit<, lit≤}
use lib.IntN.{pos}
use lib.Ieee.{Float, nan, inf, fin, binary32, of_bits, neg, sub}
use lib.Ieee.Positive.{positive}
use Rattle.kernels.specs.Calls.{exp32, pow32}
use Rattle.domain.specs.Floats.{◌-ᶠ◌}
use Rattle.domain.specs.Limits.{three}
use Rattle.laws.proofs.Values.Sizes.{Size, wider, unit}
use Rattle.laws.proofs.Values.Operations.{Least, least_wider}
use Rattle.laws.proofs.Values.Powers.{pow_size}
use Rattle.laws.proofs.Values.Logs.{log_size, in_reach}
use Rattle.laws.proofs.Values.Zeros.{Zero, shape}
use Rattle.laws.proofs.Distances.Ends.{exp_zero}
use Rattle.laws.proofs.Distances.pow.Laws.{pow-zero}

-- ---- at a zero
pub exp_at : (x : Float) → Zero x → exp32 x ≡ unit
exp_at x z = ap exp32 z.1 ∙ exp_zero binary32 z.0

pub pow_at : (x y : Float) → T (positive x) → Zero y → pow32 x y ≡ unit
pow_at x y p z = let f = shape x p in ap₂ pow32 f.2 z.1 ∙ pow-zero binary32 f.0 f.1 z.0

pub neg-zero : (x : Float) → Zero x → Zero (neg x)
unfolding neg
neg-zero x z = (not z.0, ap neg z.1)

pub three_less : three -ᶠ three ≡ fin false 0 (pos 0)
unfolding sub of_bits
three_less = refl

-- a power with an exponent from -1 to 1, of a number from 2 ^ -c to 2 ^ c
pub pow_within : (c : ℕ) (x y : Float) → T (positive x) → c + 6 < 128 → Size c x → Least c x → Size 0 y → Size (c + 6) (pow32 x y)
pow_within c nan y p z u l h = absurd p
pow_within c (inf s) y p z u l h = absurd p
pow_within c (fin true m e) y p z u l h = absurd p
pow_within c (fin false zero e) y p z u l h = absurd p
pow_within c (fin false (suc m) e) y p z u l h = pow_size (c + 6) m e y z (log_size c m e u l) (in_reach y (wider 0 4 y (lit≤ tt) h)) h

-- from 2 ^ -14 to 2 ^ 16
pub pow_of : (x y : Float) → T (positive x) → Size 16 x → Least 14 x → Size 0 y → Size 22 (pow32 x y)
pow_of x y p u l h = pow_within 16 x y p (lit< tt) u (least_wider 14 16 x (lit≤ tt) l) h
