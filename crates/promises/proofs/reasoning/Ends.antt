-- A number that a clamp holds is held at the end that it lay beyond: no number lies beyond both. Assumes nothing.
use Prim.Native.Nat.{ℕ, ◌*◌, ◌≤◌, ◌<◌}
use mathlib.Core.Bool.{Bool, true, false, cond, true≢false}
use mathlib.Core.Path.{◌≡◌, refl, sym, ap, ◌∙◌}
use native.Mathlib.Nat.{mul-le-mul_right}
use native.Mathlib.Omega.{arith}
use borrow.Author.Tests.{ltb-true}
use lib.Dec.{lit≤}
use lib.IntN.{ℤ}
use lib.Ieee.{Float, nan, inf, fin, up, down, lt, of_bits}
use lib.Ieee.Fits.{down_pos}
use Rattle.domain.specs.Floats.{clamp_def}
use Rattle.domain.specs.Limits.{decimal, one, s_min_def, s_max_def, d_min, d_max}
use Rattle.explain.specs.Reasons.{held_at}
use Rattle.explain.specs.declared.reasons.Held.{Held}
use Rattle.explain.specs.declared.reasons.Held.TheVariants.{Free, Low, High}
use Rattle.promises.specs.Reasoned.{HeldRight}

-- m / e is below a / c and above b / d, but a / c is not above b / d
clash : (m e a c b d : ℕ) → 0 < c → 0 < d → m * c < a * e → b * e < m * d → a * d ≤ b * c → ⊥
clash m e a c b d c_pos d-pos h k l =
    let p = mul-le-mul_right d h in
    let q = mul-le-mul_right c k in
    let r = mul-le-mul_right e l in
    omega (arith, p, q, r, c_pos, d-pos)

pub not_beyond_both :
    (x : Float) (n : ℕ) (a : ℤ) (m : ℕ) (b : ℤ) → n * up a * down b ≤ m * up b * down a →
    lt x (fin false n a) ≡ true → lt (fin false m b) x ≡ true → ⊥
unfolding lt
not_beyond_both nan n a m b l h k = true≢false (sym h)
not_beyond_both (inf true) n a m b l h k = true≢false (sym k)
not_beyond_both (inf false) n a m b l h k = true≢false (sym h)
not_beyond_both (fin true p e) n a m b l h k = true≢false (sym k)
not_beyond_both (fin false p e) n a m b l h k =
    clash (p * up e) (down e) (n * up a) (down a) (m * up b) (down b) (down_pos a) (down_pos b) (ltb-true _ _ h) (ltb-true _ _ k) l

pub stability_ends : (x : Float) → lt x s_min_def ≡ true → lt s_max_def x ≡ true → ⊥
unfolding s_min_def s_max_def decimal
stability_ends x = not_beyond_both x _ _ _ _ (lit≤ tt)

pub difficulty_ends : (x : Float) → lt x d_min ≡ true → lt d_max x ≡ true → ⊥
unfolding of_bits
difficulty_ends x = not_beyond_both x _ _ _ _ (lit≤ tt)

pub one_ends : (x : Float) → lt x one ≡ true → lt one x ≡ true → ⊥
unfolding of_bits
one_ends x = not_beyond_both x _ _ _ _ (lit≤ tt)

-- ---- the three cases are not one
abbrev is_low_def : Held → Bool
is_low_def Free = false
is_low_def Low = true
is_low_def High = false

abbrev is_free : Held → Bool
is_free Free = true
is_free Low = false
is_free High = false

high_low : High ≡ Low → ⊥
high_low e = true≢false (sym (ap is_low_def e))

free_low : Free ≡ Low → ⊥
free_low e = true≢false (sym (ap is_low_def e))

low_free : Low ≡ Free → ⊥
low_free e = true≢false (sym (ap is_free e))

high_free : High ≡ Free → ⊥
high_free e = true≢false (sym (ap is_free e))

free_high : Free ≡ High → ⊥
free_high e = high_free (sym e)

low_high : Low ≡ High → ⊥
low_high e = high_low (sym e)

pub held_right : (x low high : Float) → (lt x low ≡ true → lt high x ≡ true → ⊥) → HeldRight x low high (clamp_def x low high) (held_at x low high)
unfolding clamp_def held_at
held_right x low high apart = go (lt x low) (lt high x) refl refl
  where
    go : (p q : Bool) → p ≡ lt x low → q ≡ lt high x → HeldRight x low high (cond p low (cond q high x)) (cond p Low (cond q High Free))
    go true q d e =
        record {
          low_if = λ h. refl;
          low_only = λ h. sym d;
          high_if = λ h. absurd (apart (sym d) h);
          high_only = λ h. absurd (low_high h);
          at_low = λ h. refl;
          at_high = λ h. absurd (low_high h);
          at_none = λ h. absurd (low_free h);
        }
    go false true d e =
        record {
          low_if = λ h. absurd (true≢false (sym h ∙ sym d));
          low_only = λ h. absurd (high_low h);
          high_if = λ h. refl;
          high_only = λ h. sym e;
          at_low = λ h. absurd (high_low h);
          at_high = λ h. refl;
          at_none = λ h. absurd (high_free h);
        }
    go false false d e =
        record {
          low_if = λ h. absurd (true≢false (sym h ∙ sym d));
          low_only = λ h. absurd (free_low h);
          high_if = λ h. absurd (true≢false (sym h ∙ sym e));
          high_only = λ h. absurd (free_high h);
          at_low = λ h. absurd (free_low h);
          at_high = λ h. absurd (free_high h);
          at_none = λ h. refl;
        }
