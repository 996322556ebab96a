-- ln by its cases: no logarithm, x = 1, and all the others. Assumes nothing.
use Rattle.std.proofs.Common.{◌≡◌, ℕ, zero, suc, ◌+◌, ◌/◌, ◌^◌, Bool, true, false, cond, ◌&&◌, T, eqb, ℤ, pos, negsuc, ◌-ℤ◌, ◌*ℤ◌, sym, refl, ap, ◌∙◌, ap₂, true≢false, zero-lt-suc, eqb→eq, pow_pos, lt-ltb}
use lib.Ieee.{Float, nan, inf, fin, Format, binary32, binary64, span, climb, size, fits, to_bits, of_bits, of_fields, odd}
use lib.Ieee.Bits.{of_bits-to_bits}
use lib.Ieee.Positive.{positive}
use lib.Count.{count_trailing_zeros}
use Rattle.soft.proofs.Rounding.Place.{round_none}
use Rattle.table.specs.Exact.{N}
use Rattle.kernels.specs.Logarithm.{is_one_def, binade, first64, steps, below64, logarithm}
use Rattle.kernels.specs.Kernels.{nearest_of, ln_def}
use Rattle.kernels.specs.inner.Logs.{log_of, steps_of, below_of_def, Logged}
use Rattle.kernels.specs.declared.log.Log.{Log}
use Rattle.kernels.proofs.log_double.Pattern.{by_parts}

-- ---- what is not positive has none
pub no_log : (f : Format) (x : Float) → positive x ≡ false → nan ≡ ln_def f x
unfolding ln_def
no_log f nan h = refl
no_log f (inf s) h = refl
no_log f (fin s zero e) h = refl
no_log f (fin true (suc m) e) h = refl
no_log f (fin false (suc m) e) h = absurd (true≢false (sym (lt-ltb 0 (suc m) (zero-lt-suc m)) ∙ h))

-- ---- x = 1
abbrev pub one_bits_def : ℕ
one_bits_def = 0x3ff0_0000_0000_0000

pub is_one : (x : Float) → T (fits binary64 x) → to_bits binary64 x ≡ one_bits_def → x ≡ fin false 1 (pos 0)
unfolding of_bits of_fields odd count_trailing_zeros
is_one x h e = sym (of_bits-to_bits binary64 x h) ∙ ap (of_bits binary64) e

pub at_one : (x : Float) → T (fits binary64 x) → to_bits binary64 x ≡ one_bits_def → fin false 0 (pos 0) ≡ ln_def binary64 x
unfolding ln_def logarithm
at_one x h e = sym (ap (ln_def binary64) (is_one x h e) ∙ round_none binary64 false (2 ^ 64) (pow_pos 64))

one_bits : to_bits binary64 (fin false 1 (pos 0)) ≡ one_bits_def
unfolding to_bits size span climb
one_bits = refl

-- and nothing else is
pub not-one : (m : ℕ) (e : ℤ) → (to_bits binary64 (fin false m e) ≡ one_bits_def → ⊥) → is_one_def m e ≡ false
not-one m (negsuc e) n = refl
not-one m (pos e) n = go (eqb m 1) (eqb e 0) (eqb→eq m 1) (eqb→eq e 0)
  where
    go : (s t : Bool) → (T s → m ≡ 1) → (T t → e ≡ 0) → (s && t) ≡ false
    go true true p q = absurd (n (ap₂ (λ (a b : ℕ). to_bits binary64 (fin false a (pos b))) (p tt) (q tt) ∙ one_bits))
    go true false p q = refl
    go false t p q = refl

-- ---- all the others
pub other : (x : Float) → T (positive x) → (to_bits binary64 x ≡ one_bits_def → ⊥) → nearest_of binary64 (steps_of x *ℤ pos ((N + 128) / 2 ^ 8) -ℤ pos (below_of_def x)) 64 ≡ ln_def binary64 x
unfolding ln_def logarithm steps_of below_of_def
other x p n = by_parts (λ (x : Float). (to_bits binary64 x ≡ one_bits_def → ⊥) → nearest_of binary64 (steps_of x *ℤ pos ((N + 128) / 2 ^ 8) -ℤ pos (below_of_def x)) 64 ≡ ln_def binary64 x) go x p n
  where
    go : (m : ℕ) (e : ℤ) → (to_bits binary64 (fin false (suc m) e) ≡ one_bits_def → ⊥)
        → nearest_of binary64 (steps_of (fin false (suc m) e) *ℤ pos ((N + 128) / 2 ^ 8) -ℤ pos (below_of_def (fin false (suc m) e))) 64 ≡ ln_def binary64 (fin false (suc m) e)
    go m e n = ap (λ (b : Bool). nearest_of binary64 (cond b (pos 0) (steps (binade (suc m) e) (first64 (suc m)) *ℤ pos ((N + 128) / 2 ^ 8) -ℤ pos (below64 (suc m)))) 64) (sym (not-one (suc m) e n))

pub ln_double : (x : Float) (r : Log) → T (positive x) → Logged x r → (to_bits binary64 x ≡ one_bits_def → ⊥)
    → nearest_of binary64 (r.j *ℤ pos ((N + 128) / 2 ^ 8) -ℤ pos r.l) 64 ≡ ln_def binary64 x
ln_double x r p t n =
    ap₂ (λ (j : ℤ) (l : ℕ). nearest_of binary64 (j *ℤ pos ((N + 128) / 2 ^ 8) -ℤ pos l) 64) t.steps_is t.below_is ∙ other x p n

pub ln_single : (x : Float) → T (positive x) → nearest_of binary32 (log_of binary32 x) 56 ≡ ln_def binary32 x
unfolding ln_def log_of
ln_single x p = by_parts (λ (x : Float). nearest_of binary32 (log_of binary32 x) 56 ≡ ln_def binary32 x) (λ (m : ℕ) (e : ℤ). refl) x p
