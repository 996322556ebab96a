-- Our definitions are std's: the fused multiply-add, the rounding to a whole number, the cast to a narrower float. Assumes nothing.
use Rattle.std.specs.Prelude.{◌≡◌, ℕ, ◌*◌, ◌+◌, ◌/◌, Bool, true, false, cond, ◌==◌, ℤ, Float}
use Rattle.std.specs.Float.{nan, inf, fin, Format, float_mul_add, float_round, float_is_finite, round_with, ratio_round_half_up, round_to_format}
use Rattle.std.specs.Float.Ieee.{add, mul, unlike, up, down, round}
use mathlib.Core.Path.{refl, ap}
use native.Mathlib.Nat.{mul_comm}
use Rattle.std.specs.Float.Ieee.Scale.{finite}
use Rattle.soft.specs.Fma.{invalid, infinite, times, plus, fma_def}
use Rattle.soft.specs.HalfAway.{half_away_def, round_def}
use Rattle.soft.specs.Narrow.{narrow_def}

-- a product that is no number or an infinity, and z
pick : (f : Format) (b s : Bool) (z : Float) → add f (cond b nan (inf s)) z ≡ plus f (cond b invalid (infinite s)) z
unfolding add plus
pick f true s z = refl
pick f false s nan = refl
pick f false s (inf t) = refl
pick f false s (fin t n d) = refl

pub fused : (f : Format) (x y z : Float) → float_mul_add f x y z ≡ fma_def f x y z
unfolding float_mul_add add mul fma_def times plus
fused f nan y z = refl
fused f (inf s) nan z = refl
fused f (inf s) (inf t) z = pick f false (unlike s t) z
fused f (inf s) (fin t n d) z = pick f (n == 0) (unlike s t) z
fused f (fin s m e) nan z = refl
fused f (fin s m e) (inf t) z = pick f (m == 0) (unlike s t) z
fused f (fin s m e) (fin t n d) nan = refl
fused f (fin s m e) (fin t n d) (inf u) = refl
fused f (fin s m e) (fin t n d) (fin u k g) = refl

half : (m : ℕ) (e : ℤ) → ratio_round_half_up (m * up e) (down e) ≡ half_away_def m e
half m e = λ i. (mul_comm 2 (m * up e) i + down e) / mul_comm 2 (down e) i

pub rounded : (f : Format) (x : Float) → float_round f x ≡ round_def f x
unfolding round_with round_def
rounded f nan = refl
rounded f (inf s) = refl
rounded f (fin false m e) = ap (λ n. round f false n 1) (half m e)
rounded f (fin true m e) = ap (λ n. round f true n 1) (half m e)

pub narrowed : (f : Format) (x : Float) → round_to_format f x ≡ narrow_def f x
unfolding round_to_format narrow_def
narrowed f nan = refl
narrowed f (inf s) = refl
narrowed f (fin s m e) = refl

pub finite_is : (x : Float) → float_is_finite x ≡ finite x
unfolding float_is_finite
finite_is nan = refl
finite_is (inf s) = refl
finite_is (fin s m e) = refl
