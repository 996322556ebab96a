-- J = 256 k + i as the code computes it, and what `log_at` gives: x's logarithm, where M and k are x's 64 digits and their place. Assumes nothing.
use Rattle.std.proofs.Common.{◌≡◌, ℕ, suc, ◌+◌, ◌-◌, ◌*◌, ◌/◌, ◌%◌, ◌^◌, ◌<◌, ◌≤◌, false, T, ℤ, pos, ◌+ℤ◌, ◌-ℤ◌, ◌*ℤ◌, nat_abs, sym, ap, ◌∙◌, subst, ap₂, le_trans, lt_of_lt_of_le, lt_of_le_of_lt, mod-eq_of_lt, arith, lit<, lit≤, w64, SFits, to_z}
use lib.Signed.{mag, nat_abs-le}
use lib.Ieee.{Float, fin, binary64, size, minus, fits, to_bits}
use lib.Ieee.Positive.{positive}
use Rattle.soft.proofs.Rounding.Exponent.{read, exponent_fits, exponent_is}
use Rattle.soft.proofs.Rounding.Place.{size_pos}
use Rattle.soft.specs.Units.{units_def}
use Rattle.soft.specs.declared.units.Units.{Units}
use Rattle.table.specs.Entry.{index_at_def}
use Rattle.kernels.specs.Logarithm.{binade, moved, interval, steps, gap64, low64, below64}
use Rattle.kernels.specs.inner.Logs.{steps_of, below_of_def, Logged}
use Rattle.kernels.specs.inner.Single.{digits_at, place_of}
use Rattle.kernels.specs.declared.log.Log.{Log}
use Rattle.kernels.proofs.log_double.Pattern.{by_parts, placed, short, digits_in, places_few, place_near, field_lt, normal_place, normal_digits, moved_range}
use Rattle.kernels.proofs.log_double.Words.{mag-le, given, Line, line}

-- j and l are the logarithm of M / 2 ^ 63 * 2 ^ k
abbrev pub At : ℕ → ℤ → (j : ℤ) → ℕ → Type 0
At M k j l = (j ≡ steps k (index_at_def (interval M))) × (l ≡ low64 (gap64 (index_at_def (interval M)) M)) × (mag j < 2 ^ 19) × (l < 2 ^ 57)

room : (n i : ℕ) → n ≤ 1100 → i ≤ 256 → (n * 256 + i < 2 ^ 63) × (n * 256 + i < 2 ^ 19)
room n i a b = (omega arith, omega arith)

module _ (k : ℤ) (i : ℕ) (f : SFits w64 k) (a : mag k < 1100) (b : i ≤ 256) where
  pub steps_line : Line false k 256 i
  steps_line = line false k 256 i f (room (nat_abs k) i (nat_abs-le k a) b).0

  pub log_given : (M g l : ℕ) → i ≡ index_at_def (interval M) → g ≡ gap64 i M → l ≡ low64 g → l < 2 ^ 57 → At M k (read (read (read k *ℤ pos 256) +ℤ to_z w64 i)) l
  log_given M g l p q s t =
      let j = given (λ (z : ℤ). mag z < 2 ^ 19) (read (read (read k *ℤ pos 256) +ℤ to_z w64 i)) (steps k i) steps_line.sum.is
      (lt_of_le_of_lt (mag-le (steps k i)) (lt_of_le_of_lt steps_line.size (room (nat_abs k) i (nat_abs-le k a) b).1)) in
      (j.0 ∙ ap (steps k) p, s ∙ ap low64 (q ∙ ap (λ (x : ℕ). gap64 x M) p), j.1, t)

-- ---- x's digits and their place
logged_at : (M : ℕ) (k : ℤ) (r : Log) → At M k r.j r.l → (m : ℕ) (e : ℤ) → k ≡ binade (suc m) e → M ≡ moved 64 (suc m) → Logged (fin false (suc m) e) r
unfolding steps_of below_of_def below64
logged_at M k r t m e p q = record {
  steps_is = t.0 ∙ ap₂ (λ (y : ℤ) (x : ℕ). steps y (index_at_def (interval x))) p q;
  below_is = t.1 ∙ ap (λ (x : ℕ). low64 (gap64 (index_at_def (interval x)) x)) q;
  few = t.2;
  short = t.3;
}

pub record Known (x : Float) (M : ℕ) (k : ℤ) : Type 0 where
  pub asks : (2 ^ 63 ≤ M) × (mag k < 1100)
  pub logged : (r : Log) → At M k r.j r.l → Logged x r

module _ (x : Float) (h : T (fits binary64 x)) (p : T (positive x)) where
  known : (M : ℕ) (k : ℤ) → k ≡ place_of x → M ≡ digits_at 64 x → Known x M k
  known M k a b = record {
    asks = (subst (λ (y : ℕ). 2 ^ 63 ≤ y) (sym b) (digits_in binary64 x h p 64 (lit≤ tt)).0, subst (λ (z : ℤ). mag z < 1100) (sym a) (lt_of_le_of_lt (le_trans (mag-le (place_of x)) (place_near binary64 x h p)) (lit< tt)));
    logged = λ r t. by_parts (λ (x : Float). k ≡ place_of x → M ≡ digits_at 64 x → Logged x r) (logged_at M k r t) x p a b;
  }

  -- straight from a normal double's pattern
  abbrev b : ℕ
  b = to_bits binary64 x

  pub field_in : SFits w64 (to_z w64 (b / 2 ^ 52) -ℤ pos 1023)
  field_in = exponent_fits 1022 (b / 2 ^ 52) (lit< tt) (lt_of_lt_of_le (field_lt binary64 x h p) (lit≤ tt))

  pub normal_known : (b / 2 ^ 52 ≡ 0 → ⊥) → Known x (2 ^ 63 + b % 2 ^ 52 * 2048) (read (to_z w64 (b / 2 ^ 52) -ℤ pos 1023))
  normal_known n =
      known (2 ^ 63 + b % 2 ^ 52 * 2048) (read (to_z w64 (b / 2 ^ 52) -ℤ pos 1023))
      (exponent_is 1022 (b / 2 ^ 52) (lit< tt) (lt_of_lt_of_le (field_lt binary64 x h p) (lit≤ tt)) ∙ sym (normal_place binary64 x h p n)) (out (b % 2 ^ 52) ∙ sym (normal_digits binary64 x h p n 64 (lit≤ tt)))
    where
      out : (t : ℕ) → 2 ^ 63 + t * 2048 ≡ (2 ^ 52 + t) * 2 ^ 11
      out t = omega arith

  -- ---- from what `measure` gives, u, and the size z of its digits
  pub record Measured (u : Units) (z : ℕ) : Type 0 where
    pub some : 0 < z
    pub few : z ≤ 53
    pub far : u.places < 2 ^ 11
    pub place : minus (u.places + z) 1075 ≡ place_of x
    pub digits : u.digits * 2 ^ (64 - z) % 2 ^ 64 ≡ digits_at 64 x

  pub measured_is : (u : Units) (z : ℕ) → u ≡ units_def binary64 x → z ≡ size u.digits → Measured u z
  measured_is u z e q = subst (Measured u) (sym q) (subst (λ (v : Units). Measured v (size v.digits)) (sym e) (record {
    some = size_pos d (placed binary64 x h p).some;
    few = short binary64 x h p;
    far = lt_of_lt_of_le (places_few binary64 x h p) (lit≤ tt);
    place = sym (placed binary64 x h p).place;
    digits = mod-eq_of_lt (moved_range 64 d (placed binary64 x h p).some (le_trans (short binary64 x h p) (lit≤ tt))).1 ∙ sym ((placed binary64 x h p).digits 64 (lit≤ tt));
  }))
    where
      d : ℕ
      d = (units_def binary64 x).digits

  module _ (u : Units) (z : ℕ) (w : Measured u z) where
    near : u.places + z < 2 ^ 13
    near = omega (arith, w.far, w.few)

    pub exponent_in : SFits w64 (to_z w64 (u.places + z) -ℤ pos 1075)
    exponent_in = exponent_fits 1074 (u.places + z) (lit< tt) near

    pub small_known : Known x (u.digits * 2 ^ (64 - z) % 2 ^ 64) (read (to_z w64 (u.places + z) -ℤ pos 1075))
    small_known = known (u.digits * 2 ^ (64 - z) % 2 ^ 64) (read (to_z w64 (u.places + z) -ℤ pos 1075)) (exponent_is 1074 (u.places + z) (lit< tt) near ∙ w.place) w.digits
