-- exp's answers by the fields of x's pattern. Assumes nothing.
use Rattle.std.proofs.Common.{◌≡◌, ℕ, ◌+◌, ◌-◌, ◌*◌, ◌^◌, ◌<◌, ◌≤◌, Bool, true, false, cond, ◌&&◌, T, true≢false, ℤ, pos, sym, refl, ap, ◌∙◌, subst, ap₂, le_trans, lt_trans, le_of_eq, lt_of_lt_of_le, mul-le-mul, mul-le-mul_left, mul-lt-mul_of_pos_right, ne_of_lt, arith, lit<, leb, leb→le, le-leb, leb-false, pow_pos, pow_mono, pow-add}
use lib.Ieee.{Float, nan, inf, fin, Format, binary32, binary64, prec, low, hid, ones, up, down, is_nan, to_bits, fits}
use mathlib.Core.Bool.{false≢true}
use lib.Ieee.Exact.{HasValue}
use lib.Ieee.Fits.{and_l, and_r, down_pos}
use lib.Ieee.Scale.{finite}
use Rattle.soft.specs.Units.{split_def, units_def}
use Rattle.soft.proofs.units.Value.{measured, digits_lt, places_lt, leading}
use Rattle.table.specs.Whole.{signed}
use Rattle.kernels.specs.Power.{power}
use Rattle.kernels.specs.Kernels.{turns, exp_def}
use Rattle.kernels.specs.inner.Fields.{sign, field, rest, least, most}
use Rattle.kernels.proofs.whole.Words.{word, signed_word}
use Rattle.kernels.proofs.exp.Turns.{turns_same, nothing, much}
use Rattle.kernels.proofs.power.Answers.{at_zero, past}
use Rattle.kernels.proofs.power.Fields.{digits_is}

-- ---- no number
pub refused : (f : Format) (x : Float) → is_nan x ≡ true → nan ≡ exp_def f x
unfolding exp_def is_nan
refused f nan e = refl
refused f (inf s) e = absurd (false≢true e)
refused f (fin s m k) e = absurd (false≢true e)

at_units : (f : Format) (x : Float) (s : Bool) (n : ℕ) → HasValue x s n (2 ^ low f) → exp_def f x ≡ power f (signed s (turns f n (2 ^ low f)))
unfolding exp_def
at_units f nan s n h = absurd h
at_units f (inf t) s n h = absurd h
at_units f (fin t m e) s n (g, h) =
    ap (λ (b : Bool). power f (signed b (turns f (m * up e) (down e)))) g ∙ ap (λ (a : ℕ). power f (signed s a)) (turns_same f (m * up e) (down e) n (2 ^ low f) (down_pos e) (pow_pos (low f)) h)

bits_inf : (f : Format) (s : Bool) → field f (inf s) ≡ ones f
unfolding to_bits
bits_inf binary32 true = refl
bits_inf binary32 false = refl
bits_inf binary64 true = refl
bits_inf binary64 false = refl

finite_is : (f : Format) (x : Float) → is_nan x ≡ false → (field f x ≡ ones f → ⊥) → T (finite x)
unfolding is_nan
finite_is f nan n h = absurd (true≢false n)
finite_is f (inf s) n h = absurd (h (bits_inf f s))
finite_is f (fin s m e) n h = tt

pub infinite : (f : Format) (x : Float) → T (fits f x) → field f x ≡ ones f → nan ≡ exp_def f x
unfolding exp_def split_def
infinite f nan k h = refl
infinite f (inf s) k h = refl
infinite f (fin s m e) k h = absurd (omega (arith, h, places_lt f (fin s m e) k tt))

-- ---- a number, where x is one
module _ (f : Format) (x : Float) (held : T (fits f x)) (n : is_nan x ≡ false) where
  abbrev units : ℕ
  units = (units_def f x).digits * 2 ^ (units_def f x).places

  argument : (field f x ≡ ones f → ⊥) → exp_def f x ≡ power f (signed (sign f x) (turns f units (2 ^ low f)))
  unfolding split_def
  argument h = at_units f x (sign f x) units (measured f x held (finite_is f x n h))

  -- where the leading digit is there, and the code's word z holds the argument
  pub near : 0 < field f x → field f x < ones f → (a : ℕ) (z : ℤ) → a ≡ turns f ((hid f + rest f x) * 2 ^ (field f x - 1)) (2 ^ low f) → a < 2 ^ 63 → z ≡ signed (sign f x) a
      → power f (word z) ≡ exp_def f x
  unfolding split_def
  near p h a z e l ze =
      ap (power f) (signed_word (sign f x) a z l ze)
      ∙ ap (λ (n : ℕ). power f (signed (sign f x) n)) (e ∙ ap (λ (d : ℕ). turns f (d * 2 ^ (field f x - 1)) (2 ^ low f)) (sym (digits_is f x p)))
      ∙ sym (argument (ne_of_lt h))

  pub tiny : field f x < least f → fin false 1 (pos 0) ≡ exp_def f x
  unfolding split_def
  tiny h =
      sym (argument (early f (field f x) h).0 ∙ ap (λ (a : ℕ). power f (signed (sign f x) a)) (nothing f units (lt_of_lt_of_le (mul-lt-mul_of_pos_right (digits_lt f x) (pow_pos (field f x - 1)))
      (le_trans (mul-le-mul_left (2 ^ prec f) (pow_mono (early f (field f x) h).1)) (le_of_eq (sym (pow-add 2 (prec f) (least f - 2))))))) ∙ sym (at_zero f (sign f x)))
    where
      early : (f : Format) (F : ℕ) → F < least f → (F ≡ ones f → ⊥) × (F - 1 ≤ least f - 2)
      early binary32 F h = (ne_of_lt (lt_trans h (lit< tt)), omega arith)
      early binary64 F h = (ne_of_lt (lt_trans h (lit< tt)), omega arith)

  pub far : most f < field f x → (field f x ≡ ones f → ⊥) → (s : Bool) → sign f x ≡ s → cond s (fin false 0 (pos 0)) (inf false) ≡ exp_def f x
  unfolding split_def
  far h u s e =
      ap (λ (b : Bool). cond b (fin false 0 (pos 0)) (inf false)) (sym e)
      ∙ past f (sign f x) (turns f units (2 ^ low f)) (much f units (mul-le-mul (leading f x (late f (field f x) h).0) (pow_mono (late f (field f x) h).1))) ∙ sym (argument u)
    where
      late : (f : Format) (F : ℕ) → most f < F → (0 < F - 1) × (most f ≤ F - 1)
      late binary32 F h = (omega arith, omega arith)
      late binary64 F h = (omega arith, omega arith)

-- ---- as the code tests the fields, E and D below the sign S
inside : (f : Format) (F : ℕ) → least f ≤ F → F ≤ most f → (0 < F) × (F < ones f)
inside binary32 F l m = (omega arith, omega arith)
inside binary64 F l m = (omega arith, omega arith)

passing : (a b : ℕ) (c d : ℕ) → (leb a b && leb c d) ≡ true → (a ≤ b) × (c ≤ d)
passing a b c d h = (leb→le a b (and_l (leb a b) (leb c d) (subst T (sym h) tt)), leb→le c d (and_r (leb a b) (leb c d) (subst T (sym h) tt)))

beyond : (a b d : ℕ) → (leb a b && leb b d) ≡ false → a ≤ b → d < b
beyond a b d h l = go (leb a b) (leb b d) (le-leb a b l) h (λ e. leb-false b d e)
  where
    go : (s t : Bool) → s ≡ true → (s && t) ≡ false → (t ≡ false → d < b) → d < b
    go s true e h k = absurd (true≢false (sym (ap (λ (u : Bool). u && true) e) ∙ h))
    go s false e h k = k refl

module _ (f : Format) (x : Float) (held : T (fits f x)) (n : is_nan x ≡ false) (E D : ℕ) (S : Bool) (eE : E ≡ field f x) (eD : D ≡ rest f x) (eS : S ≡ sign f x) where
  pub among : (leb (least f) E && leb E (most f)) ≡ true → (a : ℕ) (z : ℤ) → a ≡ turns f ((hid f + D) * 2 ^ (E - 1)) (2 ^ low f) → a < 2 ^ 63 → z ≡ signed S a → power f (word z) ≡ exp_def f x
  among h a z ea la ez =
      let p = passing (least f) E E (most f) h in
      let i = inside f (field f x) (subst (λ (m : ℕ). least f ≤ m) eE p.0) (subst (λ (m : ℕ). m ≤ most f) eE p.1) in
      near f x held n i.0 i.1 a z (ea ∙ ap₂ (λ (d e : ℕ). turns f ((hid f + d) * 2 ^ (e - 1)) (2 ^ low f)) eD eE) la (ez ∙ ap (λ (s : Bool). signed s a) eS)

  pub under : (L : ℕ) → L ≡ least f → E < L → fin false 1 (pos 0) ≡ exp_def f x
  under L e h = tiny f x held n (subst (λ (m : ℕ). m < least f) eE (subst (λ (m : ℕ). E < m) e h))

  pub at_end : (O : ℕ) → O ≡ ones f → E ≡ O → nan ≡ exp_def f x
  at_end O e h = infinite f x held (sym eE ∙ h ∙ e)

  pub past_end : (L O : ℕ) → L ≡ least f → O ≡ ones f → (leb (least f) E && leb E (most f)) ≡ false → L ≤ E → (E ≡ O → ⊥) → cond S (fin false 0 (pos 0)) (inf false) ≡ exp_def f x
  past_end L O eL eO t h u =
      far f x held n (subst (λ (m : ℕ). most f < m) eE (beyond (least f) E (most f) t (subst (λ (m : ℕ). m ≤ E) eL h))) (λ q. u (eE ∙ q ∙ sym eO)) S (sym eS)
