-- pow in its domain, a positive x and a y from -16 to 16, and the NaN outside. Assumes nothing.
use Rattle.std.proofs.Common.{◌≡◌, zero, suc, Bool, true, false, cond, not, T, sym, refl, ap, ◌∙◌, true≢false, zero-lt-suc, lt-ltb}
use borrow.Author.Tests.{not-true, not-false}
use lib.Ieee.{Float, nan, inf, fin, Format}
use lib.Ieee.Positive.{positive}
use Rattle.kernels.specs.Kernels.{powered, pow_at_def, pow_def}
use Rattle.kernels.specs.inner.Logs.{step_log_of}

-- ---- a test whose failure returns early
pub passed : {r b : Bool} → r ≡ b → not r ≡ false → b ≡ true
passed {r} e t = sym e ∙ not-false r t

pub failed : {r b : Bool} → r ≡ b → not r ≡ true → b ≡ false
failed {r} e t = sym e ∙ not-true r t

-- ---- x has no logarithm
pub no_base : (f : Format) (x y : Float) → positive x ≡ false → nan ≡ pow_def f x y
unfolding pow_def
no_base f nan y h = refl
no_base f (inf s) y h = refl
no_base f (fin s zero e) y h = refl
no_base f (fin true (suc m) e) y h = refl
no_base f (fin false (suc m) e) y h = absurd (true≢false (sym (lt-ltb 0 (suc m) (zero-lt-suc m)) ∙ h))

-- ---- and of a positive x
at : (f : Format) (x y : Float) → T (positive x) → cond (powered y) (pow_at_def f (step_log_of f x) y) nan ≡ pow_def f x y
unfolding step_log_of pow_def
at f nan y h = absurd h
at f (inf s) y h = absurd h
at f (fin true m e) y h = absurd h
at f (fin false zero e) y h = absurd h
at f (fin false (suc m) e) y h = refl

pub no_exponent : (f : Format) (x y : Float) → T (positive x) → powered y ≡ false → nan ≡ pow_def f x y
no_exponent f x y h k = ap (λ (b : Bool). cond b (pow_at_def f (step_log_of f x) y) nan) (sym k) ∙ at f x y h

pub within : (f : Format) (x y : Float) → T (positive x) → powered y ≡ true → pow_at_def f (step_log_of f x) y ≡ pow_def f x y
within f x y h k = ap (λ (b : Bool). cond b (pow_at_def f (step_log_of f x) y) nan) (sym k) ∙ at f x y h
