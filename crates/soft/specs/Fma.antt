-- IEEE 754's fusedMultiplyAdd (5.4.1): x * y + z as if with unbounded range and precision, rounded once. Assumes nothing.
use Rattle.std.specs.Prelude.{ℕ, ◌*◌, Bool, cond, ◌==◌, Float}
use Rattle.std.specs.Bool.{beq}
use Rattle.std.specs.Float.{nan, inf, fin, Format}
use Rattle.std.specs.Float.Ieee.{up, down, unlike, sum}

-- x * y before any rounding: no number, an infinity, or the fraction ±a / c
pub data Exact : Type 0 where
  invalid : Exact
  infinite : Bool → Exact
  ratio : Bool → ℕ → ℕ → Exact

-- zero times an infinity is invalid (7.2); the sign is the exclusive or of the signs (6.3)
unfoldable pub times : Float → Float → Exact
times nan y = invalid
times (inf s) nan = invalid
times (inf s) (inf t) = infinite (unlike s t)
times (inf s) (fin t n d) = cond (n == 0) invalid (infinite (unlike s t))
times (fin s m e) nan = invalid
times (fin s m e) (inf t) = cond (m == 0) invalid (infinite (unlike s t))
times (fin s m e) (fin t n d) = ratio (unlike s t) (m * up e * (n * up d)) (down e * down d)

-- Infinities of unlike sign have no sum (7.2). Two fractions are added exactly and rounded once by the kit's `sum`, which gives
-- an exact zero the sign + unless both are negative (6.3).
unfoldable pub plus : Format → Exact → Float → Float
plus f invalid z = nan
plus f (infinite s) nan = nan
plus f (infinite s) (inf t) = cond (beq s t) (inf s) nan
plus f (infinite s) (fin t n d) = inf s
plus f (ratio s a c) nan = nan
plus f (ratio s a c) (inf t) = inf t
plus f (ratio s a c) (fin t n d) = sum f s (a * down d) t (n * up d * c) (c * down d)

unfoldable pub fma_def : Format → Float → Float → Float → Float
fma_def f x y z = plus f (times x y) z
