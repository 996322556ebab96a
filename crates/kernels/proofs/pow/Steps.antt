-- Λ = j 2 ^ 50 - h, by the size of j: below -4000 and above 4000 steps its sign is j's, and between it has room in a word. Assumes nothing.
use Rattle.std.proofs.Common.{◌≡◌, ℕ, suc, ◌+◌, ◌-◌, ◌*◌, ◌/◌, ◌^◌, ◌<◌, ◌≤◌, true, false, ℤ, pos, negsuc, ◌-ℤ◌, ◌*ℤ◌, neg_ℤ, nat_abs, sym, ap, ◌∙◌, subst, ap₂, lt_trans, le_of_eq, lt_of_le_of_lt, le_of_lt, mul-le-mul_right, zero-lt-suc, lt_of_mul-lt-mul_right, arith, lit<, to_z-of_z, w64, SFits, to_z, ltb-false, ltb-true}
use mathlib.Core.Bool.{false≢true}
use lib.IntN.{neg_ℤ-+ℤ}
use lib.Signed.{mag, lt_z, nat_abs-le}
use mir.Facts.{to_z_pos}
use Rattle.table.specs.Exact.{N}
use Rattle.kernels.specs.Power.{hi}
use Rattle.kernels.proofs.Definitions.Hi.{hi_le}
use Rattle.kernels.proofs.Definitions.Sizes.{nat_abs_mul, nat_abs_less}
use Rattle.kernels.proofs.whole.Divide.{minus}
use Rattle.kernels.proofs.whole.Words.{word, tested, fits_size}

abbrev cut : ℕ → ℕ
cut l = hi l (2 ^ 122 / N)

pub cut_lt : (l h : ℕ) → l < 2 ^ 57 → h ≡ cut l → h < 2 ^ 52
cut_lt l h a e = subst (λ (n : ℕ). n < 2 ^ 52) (sym e) (lt_of_mul-lt-mul_right (2 ^ 64) (lt_of_le_of_lt (hi_le l (2 ^ 122 / N)) (lt_of_le_of_lt (mul-le-mul_right (2 ^ 122 / N) (le_of_lt a)) (lit< tt))))

-- ---- far from 0: n is j's size
module _ (j : ℤ) (n l h : ℕ) (k : SFits w64 j) (m : mag j < 2 ^ 19) (a : l < 2 ^ 57) (en : n ≡ nat_abs (word j)) (eh : h ≡ cut l) where
  n_is : n ≡ nat_abs j
  n_is = en ∙ ap nat_abs (to_z-of_z k)

  n_le : n ≤ 2 ^ 19
  n_le = subst (λ (x : ℕ). x ≤ 2 ^ 19) (sym n_is) (nat_abs-le j m)

  pub below : lt_z (word j) (negsuc 3999) ≡ true → (0 < n) × (n ≤ 2 ^ 19) × (h < 2 ^ 52) × (neg_ℤ (pos (n * 2 ^ 50 + h)) ≡ j *ℤ pos (2 ^ 50) -ℤ pos (cut l))
  below t = let g = go j (tested (λ (z : ℤ). lt_z z (negsuc 3999)) true j k t) in (subst (λ (x : ℕ). 0 < x) (sym n_is) g.0, n_le, cut_lt l h a eh, ap₂ (λ (x y : ℕ). neg_ℤ (pos (x * 2 ^ 50 + y))) n_is eh ∙ g.1)
    where
      go : (j : ℤ) → lt_z j (negsuc 3999) ≡ true → (0 < nat_abs j) × (neg_ℤ (pos (nat_abs j * 2 ^ 50 + cut l)) ≡ j *ℤ pos (2 ^ 50) -ℤ pos (cut l))
      go (pos n) t = absurd (false≢true t)
      go (negsuc n) t = (zero-lt-suc n, neg_ℤ-+ℤ (pos (suc n * 2 ^ 50)) (pos (cut l)))

  pub above : lt_z (pos 4000) (word j) ≡ true → (4 < n) × (n ≤ 2 ^ 19) × (h < 2 ^ 52) × (pos (n * 2 ^ 50 - h) ≡ j *ℤ pos (2 ^ 50) -ℤ pos (cut l))
  above t = let g = go j (tested (lt_z (pos 4000)) true j k t) in (subst (λ (x : ℕ). 4 < x) (sym n_is) g.0, n_le, cut_lt l h a eh, ap₂ (λ (x y : ℕ). pos (x * 2 ^ 50 - y)) n_is eh ∙ g.1)
    where
      room : (n c : ℕ) → 4000 < n → c < 2 ^ 52 → (4 < n) × (c ≤ n * 2 ^ 50)
      room n c u v = (omega arith, omega arith)

      go : (j : ℤ) → lt_z (pos 4000) j ≡ true → (4 < nat_abs j) × (pos (nat_abs j * 2 ^ 50 - cut l) ≡ j *ℤ pos (2 ^ 50) -ℤ pos (cut l))
      go (pos n) t = let r = room n (cut l) (ltb-true 4000 n t) (subst (λ (x : ℕ). x < 2 ^ 52) eh (cut_lt l h a eh)) in (r.0, sym (minus (n * 2 ^ 50) (cut l) r.1))
      go (negsuc n) t = absurd (false≢true t)

-- ---- between, as the code computes it
pub record Near (j : ℤ) (h : ℕ) : Type 0 where
  pub first : SFits w64 (word j *ℤ pos (2 ^ 50))
  pub second : SFits w64 (pos h)
  pub whole : SFits w64 (word (word j *ℤ pos (2 ^ 50)) -ℤ to_z w64 h)
  pub is : word (word (word j *ℤ pos (2 ^ 50)) -ℤ to_z w64 h) ≡ j *ℤ pos (2 ^ 50) -ℤ pos h
  pub small : nat_abs (word (word (word j *ℤ pos (2 ^ 50)) -ℤ to_z w64 h)) < 2 ^ 62

few : (j : ℤ) → lt_z j (negsuc 3999) ≡ false → lt_z (pos 4000) j ≡ false → nat_abs j ≤ 4000
few (pos n) t u = ltb-false 4000 n u
few (negsuc n) t u = omega (arith, ltb-false 3999 n t)

pub near : (j : ℤ) (h : ℕ) → SFits w64 j → lt_z (word j) (negsuc 3999) ≡ false → lt_z (pos 4000) (word j) ≡ false → h < 2 ^ 52 → Near j h
near j h k t u b = record { first = first; second = record { sfits = lt_trans b (lit< tt) }; whole = whole; is = is; small = subst (λ (z : ℤ). nat_abs z < 2 ^ 62) (sym is) size }
  where
    room : (n h : ℕ) → n ≤ 4000 → h < 2 ^ 52 → (n * 2 ^ 50 < 2 ^ 63) × (n * 2 ^ 50 + h < 2 ^ 62)
    room n h a b = (omega arith, omega arith)

    r : (nat_abs j * 2 ^ 50 < 2 ^ 63) × (nat_abs j * 2 ^ 50 + h < 2 ^ 62)
    r = room (nat_abs j) h (few j (tested (λ (z : ℤ). lt_z z (negsuc 3999)) false j k t) (tested (lt_z (pos 4000)) false j k u)) b

    first : SFits w64 (word j *ℤ pos (2 ^ 50))
    first = subst (λ (z : ℤ). SFits w64 (z *ℤ pos (2 ^ 50))) (sym (to_z-of_z k)) (fits_size (j *ℤ pos (2 ^ 50)) (lt_of_le_of_lt (le_of_eq (nat_abs_mul j (pos (2 ^ 50)))) r.0))

    exact : word (word j *ℤ pos (2 ^ 50)) -ℤ to_z w64 h ≡ j *ℤ pos (2 ^ 50) -ℤ pos h
    exact = ap₂ ◌-ℤ◌ (to_z-of_z first ∙ ap (λ (z : ℤ). z *ℤ pos (2 ^ 50)) (to_z-of_z k)) (to_z_pos w64 (lt_trans b (lit< tt)))

    size : nat_abs (j *ℤ pos (2 ^ 50) -ℤ pos h) < 2 ^ 62
    size = lt_of_le_of_lt (nat_abs_less (j *ℤ pos (2 ^ 50)) h) (subst (λ (n : ℕ). n + h < 2 ^ 62) (sym (nat_abs_mul j (pos (2 ^ 50)))) r.1)

    whole : SFits w64 (word (word j *ℤ pos (2 ^ 50)) -ℤ to_z w64 h)
    whole = subst (SFits w64) (sym exact) (fits_size (j *ℤ pos (2 ^ 50) -ℤ pos h) (lt_trans size (lit< tt)))

    is : word (word (word j *ℤ pos (2 ^ 50)) -ℤ to_z w64 h) ≡ j *ℤ pos (2 ^ 50) -ℤ pos h
    is = to_z-of_z whole ∙ exact
