-- All that is promised of pow: its logarithm is near L, and at 1 no more than the one unit that the single leaves. Assumes nothing.
use mathlib.Core.Path.{◌≡◌, refl, sym, ap, ◌∙◌, subst}
use mathlib.Core.Bool.{Bool, true, false, not, ◌&&◌, cond}
use Prim.Native.Nat.{ℕ, zero, suc, ◌+◌, ◌-◌, ◌*◌, ◌^◌, ◌≤◌}
use native.Mathlib.Nat.{le_trans, le_of_eq, lt_of_le_of_lt, zero-lt-suc, mul-one, one-mul, zero-mul}
use native.Mathlib.Omega.{arith}
use borrow.Author.Tests.{le-ltb}
use lib.Dec.{T, eqb, eqb→eq, leb-suc-zero}
use lib.IntN.{ℤ, pos, negsuc}
use lib.Ieee.{Float, nan, inf, fin, Format, size, up, down, is_nan, le, lt, eq}
use lib.Ieee.Digits.{size-lt}
use lib.Ieee.Fits.{down_pos, and_r}
use lib.Ieee.Scale.{finite}
use Rattle.soft.proofs.Rounding.Pattern.{pow_lt_back}
use Rattle.table.specs.Exact.{N, log_at, series_num, series_den, L}
use Rattle.kernels.specs.Logarithm.{step_log_def}
use Rattle.kernels.specs.Kernels.{powered, pow_at_def, pow_def}
use Rattle.kernels.proofs.Definitions.Cases.{powered_finite, below_or, in_domain}
use Rattle.laws.specs.Distances.{float_one, PowNear, PowEnds, PowOne, PowZero, PowAtMostOne, positive}
use Rattle.laws.proofs.Distances.logarithm.Near.{L-den-pos}
use Rattle.laws.proofs.Distances.logarithm.Steps.{near, at_one}
use Rattle.laws.proofs.Distances.pow.At as At

-- ---- from 1 on L is not negative
up_from_0 : (k s d : ℕ) → (log_at (pos k) s d).negative ≡ false
up_from_0 k s d = leb-suc-zero (k * N * d + 2 ^ 64 * s)

L-positive : (m : ℕ) (e : ℤ) → down e ≤ m * up e → (L m e).negative ≡ false
unfolding L
L-positive m (pos k) h = up_from_0 (k + (size m - 1)) (series_num m) (series_den m)
L-positive m (negsuc k) h =
    ap (λ (b : Bool). (log_at (cond b (negsuc (suc k - suc (size m - 1))) (pos (size m - 1 - suc k))) (series_num m) (series_den m)).negative)
    (le-ltb (size m - 1) (suc k) (omega (arith, pow_lt_back (suc k) (size m) (lt_of_le_of_lt (le_trans h (le_of_eq (mul-one m))) (size-lt m)))))
    ∙ up_from_0 (size m - 1 - suc k) (series_num m) (series_den m)

-- what `le` says of 1 and another number
from_one : (m : ℕ) (e : ℤ) → T (le float_one (fin false m e)) → down e ≤ m * up e
unfolding le lt eq
from_one m e h = le_trans (le_of_eq (sym (one-mul (down e)))) (le_trans (below_or (1 * 1 * down e) (m * up e * 1) true h) (le_of_eq (mul-one (m * up e))))

no_negative : (m : ℕ) (e : ℤ) → T (le float_one (fin true m e)) → ⊥
unfolding le lt eq
no_negative m e h = omega (arith, down_pos e, eqb→eq (1 * 1 * down e) 0 (and_r (eqb (1 * 1 * down e) (m * up e * 1)) (eqb (1 * 1 * down e) 0) h))

zero_in : (s : Bool) → T (powered (fin s 0 (pos 0)))
unfolding le lt eq
zero_in true = tt
zero_in false = tt

-- ---- the laws
module _ (f : Format) where
  pub pow_near : PowNear f
  pow_near m e t n d k j p r =
      rw (in_domain f m e (fin t n d) p)
      (At.pow_near f (step_log_def f (suc m) e) (L (suc m) e) (L-den-pos (suc m) e (zero-lt-suc m)) (near f m e k) t n d p r)

  pub pow_ends : PowEnds f
  pow_ends m e t n d k j p r =
      in_domain f m e (fin t n d) p ∙ At.pow_ends f (step_log_def f (suc m) e) (L (suc m) e) (L-den-pos (suc m) e (zero-lt-suc m)) (near f m e k) t n d p r

  pub pow-one : PowOne f
  pow-one y p = in_domain f 0 (pos 0) y p ∙ At.pow-one f (step_log_def f 1 (pos 0)) y (at_one f) p

  pub pow-zero : PowZero f
  pow-zero m e s = in_domain f m e (fin s 0 (pos 0)) (zero_in s) ∙ At.pow-zero f (step_log_def f (suc m) e) s

  pub pow_at_most_one : PowAtMostOne f
  pow_at_most_one nan y k j g p h z = absurd g
  pow_at_most_one (inf s) y k j g p h z = absurd g
  pow_at_most_one (fin true m e) y k j g p h z = absurd (no_negative m e h)
  pow_at_most_one (fin false zero e) y k j g p h z = absurd (omega (arith, down_pos e, le_trans (from_one 0 e h) (le_of_eq (zero-mul (up e)))))
  pow_at_most_one (fin false (suc m) e) y k j g p h z =
      subst (λ (x : Float). T (le x float_one)) (sym (in_domain f m e y p))
      (At.pow_at_most_one f (step_log_def f (suc m) e) y ((near f m e k).sign ∙ L-positive (suc m) e (from_one (suc m) e h)) p z)

  pub pow_nan : (x y : Float) → is_nan (pow_def f x y) ≡ not (positive x && powered y)
  unfolding pow_def is_nan
  pow_nan nan y = refl
  pow_nan (inf s) y = refl
  pow_nan (fin s zero e) y = refl
  pow_nan (fin true (suc m) e) y = refl
  pow_nan (fin false (suc m) e) y = at (powered y) (powered_finite y)
    where
      at : (b : Bool) → (T b → T (finite y)) → is_nan (cond b (pow_at_def f (step_log_def f (suc m) e) y) nan) ≡ not b
      at true h = At.pow_number f (step_log_def f (suc m) e) y (h tt)
      at false h = refl
