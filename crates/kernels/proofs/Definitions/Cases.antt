-- The definitions, case by case: what `powered` and `tiny` ask, and `pow_def` in its domain. Assumes nothing.
use Rattle.std.proofs.Common.{◌≡◌, ℕ, suc, ◌+◌, ◌*◌, ◌^◌, ◌<◌, ◌≤◌, Bool, true, false, cond, ◌&&◌, ◌||◌, T, eqb, ltb, ◌⊎◌, ℤ, pos, sym, refl, ap, ◌∙◌, inl, inr, le_trans, le_of_eq, le_of_lt, mul-one, arith, eqb→eq, ltb→lt, lt-ltb}
use lib.Ieee.{Float, nan, inf, fin, Format, up, down, neg, of_bits, le, lt, eq}
use lib.Ieee.Bits.{is_true}
use lib.Ieee.Fits.{and_l, and_r, down_pos}
use lib.Ieee.Scale.{finite}
use mir.Facts.{or_yes}
use Rattle.kernels.specs.Logarithm.{step_log_def}
use Rattle.kernels.specs.Kernels.{tiny, powered, pow_at_def, pow_def}

-- ---- an exponent from -16 to 16
pub powered_finite : (y : Float) → T (powered y) → T (finite y)
unfolding le lt eq
powered_finite nan h = h
powered_finite (inf true) h = h
powered_finite (inf false) h = h
powered_finite (fin t n d) h = tt

-- below b or equal to it, however the equality is asked
pub below_or : (a b : ℕ) (c : Bool) → T (ltb a b || (eqb a b && c)) → a ≤ b
below_or a b c h = go (or_yes (ltb a b) (eqb a b && c) h)
  where
    go : T (ltb a b) ⊎ T (eqb a b && c) → a ≤ b
    go (inl l) = le_of_lt (ltb→lt a b l)
    go (inr e) = le_of_eq (eqb→eq a b (and_l (eqb a b) c e))

pub or_below : (a b : ℕ) (c : Bool) → T (ltb a b || (eqb b a && c)) → a ≤ b
or_below a b c h = go (or_yes (ltb a b) (eqb b a && c) h)
  where
    go : T (ltb a b) ⊎ T (eqb b a && c) → a ≤ b
    go (inl l) = le_of_lt (ltb→lt a b l)
    go (inr e) = le_of_eq (sym (eqb→eq b a (and_l (eqb b a) c e)))

pub at_most_16 : (t : Bool) (n : ℕ) (d : ℤ) → T (powered (fin t n d)) → n * up d ≤ 16 * down d
unfolding le lt eq
at_most_16 t n d h = le_trans (le_of_eq (sym (mul-one (n * up d)))) (go t h)
  where
    go : (t : Bool) → T (powered (fin t n d)) → n * up d * 1 ≤ 16 * down d
    go false h = below_or (n * up d * 1) (1 * 2 ^ 4 * down d) true (and_r (le (fin true 1 (pos 4)) (fin false n d)) (le (fin false n d) (fin false 1 (pos 4))) h)
    go true h = or_below (n * up d * 1) (1 * 2 ^ 4 * down d) true (and_l (le (fin true 1 (pos 4)) (fin true n d)) (le (fin true n d) (fin false 1 (pos 4))) h)

pub in_domain : (f : Format) (m : ℕ) (e : ℤ) (y : Float) → T (powered y) → pow_def f (fin false (suc m) e) y ≡ pow_at_def f (step_log_def f (suc m) e) y
unfolding pow_def
in_domain f m e y h = ap (λ (b : Bool). cond b (pow_at_def f (step_log_def f (suc m) e) y) nan) (is_true (powered y) h)

-- ---- exp less 1: which arguments are its own answer, those below 2 ^ -24 in size
pub tiny_is : (s : Bool) (m : ℕ) (e : ℤ) → tiny (fin s m e) ≡ ltb (m * up e * 2 ^ 24) (1 * 1 * down e)
unfolding lt neg of_bits
tiny_is false m e = ap (λ (b : Bool). b && ltb (m * up e * 2 ^ 24) (1 * 1 * down e)) (lt-ltb 0 (1 * 1 * down e + m * up e * 2 ^ 24) (some (m * up e * 2 ^ 24) (down e) (down_pos e)))
  where
    some : (x d : ℕ) → 0 < d → 0 < 1 * 1 * d + x
    some x d h = omega arith
tiny_is true m e =
    ap (λ (b : Bool). ltb (m * up e * 2 ^ 24) (1 * 1 * down e) && b) (lt-ltb 0 (m * up e * 2 ^ 24 + 1 * 1 * down e) (some (m * up e * 2 ^ 24) (down e) (down_pos e)))
    ∙ and-true (ltb (m * up e * 2 ^ 24) (1 * 1 * down e))
  where
    some : (x d : ℕ) → 0 < d → 0 < x + 1 * 1 * d
    some x d h = omega arith

    and-true : (b : Bool) → (b && true) ≡ b
    and-true true = refl
    and-true false = refl
