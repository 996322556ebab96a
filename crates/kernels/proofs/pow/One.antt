-- 1 to any power is 1, and what is not 1 has the logarithm that the code adds up from what `log_f64` hands over. Assumes nothing.
use Rattle.std.proofs.Common.{◌≡◌, ℕ, ◌+◌, ◌*◌, ◌/◌, ◌^◌, Bool, true, false, cond, T, ℤ, pos, ◌-ℤ◌, ◌*ℤ◌, sym, ap, ◌∙◌, ap₂, mul-zero}
use native.Mathlib.Nat.{zero-div}
use lib.Ieee.{Float, nan, inf, fin, binary64, to_bits, fits, unlike, up, down}
use lib.Ieee.Positive.{positive}
use Rattle.table.specs.Exact.{N}
use Rattle.table.specs.Whole.{signed}
use Rattle.kernels.specs.Power.{hi, power}
use Rattle.kernels.specs.Logarithm.{steps, binade, first64, below64, step_log_def}
use Rattle.kernels.specs.Kernels.{nearest_of, powered, raised, pow_at_def, pow_def, ln_def}
use Rattle.kernels.specs.inner.Logs.{steps_of, below_of_def, step_log_of, Logged}
use Rattle.kernels.specs.declared.log.Log.{Log}
use Rattle.kernels.proofs.Definitions.Cases.{powered_finite, in_domain}
use Rattle.kernels.proofs.ln.One.{one_bits_def, is_one, not-one, other}
use Rattle.kernels.proofs.pow.Domain.{within}
use Rattle.kernels.proofs.power.Answers.{one, at_zero}

-- ---- 1
pow_none : (y : Float) → T (powered y) → one ≡ pow_at_def binary64 (pos 0) y
unfolding raised
pow_none nan p = absurd (powered_finite nan p)
pow_none (inf s) p = absurd (powered_finite (inf s) p)
pow_none (fin t n d) p =
    at_zero binary64 (unlike false t) ∙ sym (ap (λ (x : ℕ). power binary64 (signed (unlike false t) x)) (ap (λ (x : ℕ). x / (down d * 64)) (mul-zero (n * up d)) ∙ zero-div (down d * 64)))

pub pow-one : (x y : Float) → T (fits binary64 x) → to_bits binary64 x ≡ one_bits_def → T (powered y) → one ≡ pow_def binary64 x y
unfolding step_log_def
pow-one x y k e p = pow_none y p ∙ sym (ap (λ (z : Float). pow_def binary64 z y) (is_one x k e) ∙ in_domain binary64 0 (pos 0) y p)

-- ---- any other
steps_is : (x : Float) → T (positive x) → (to_bits binary64 x ≡ one_bits_def → ⊥) → steps_of x *ℤ pos (2 ^ 50) -ℤ pos (hi (below_of_def x) (2 ^ 122 / N)) ≡ step_log_of binary64 x
unfolding steps_of below_of_def step_log_of step_log_def
steps_is nan h n = absurd h
steps_is (inf s) h n = absurd h
steps_is (fin true m e) h n = absurd h
steps_is (fin false m e) h n = sym (ap (λ (b : Bool). cond b (pos 0) (steps (binade m e) (first64 m) *ℤ pos (2 ^ 50) -ℤ pos (hi (below64 m) (2 ^ 122 / N)))) (not-one m e n))

-- ---- by what `log_f64` hands over
module _ (x : Float) (g : Log) (h : T (positive x)) (n : to_bits binary64 x ≡ one_bits_def → ⊥) (l : Logged x g) where
  pub raised_is : (y : Float) → powered y ≡ true → pow_at_def binary64 (g.j *ℤ pos (2 ^ 50) -ℤ pos (hi g.l (2 ^ 122 / N))) y ≡ pow_def binary64 x y
  raised_is y p =
      ap (λ (z : ℤ). pow_at_def binary64 z y) (ap₂ (λ (j : ℤ) (n : ℕ). j *ℤ pos (2 ^ 50) -ℤ pos (hi n (2 ^ 122 / N))) l.steps_is l.below_is ∙ steps_is x h n) ∙ within binary64 x y h p

  pub nearest_is : nearest_of binary64 (g.j *ℤ pos ((N + 128) / 2 ^ 8) -ℤ pos g.l) 64 ≡ ln_def binary64 x
  nearest_is = ap₂ (λ (j : ℤ) (n : ℕ). nearest_of binary64 (j *ℤ pos ((N + 128) / 2 ^ 8) -ℤ pos n) 64) l.steps_is l.below_is ∙ other x h n
