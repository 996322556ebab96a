-- The three answers of a power: by the parts of its argument, past the ends, and at 0. Assumes nothing.
use Rattle.std.proofs.Common.{◌≡◌, ℕ, zero, suc, ◌-◌, ◌*◌, ◌/◌, ◌^◌, ◌<◌, ◌≤◌, Bool, true, false, cond, ℤ, pos, negsuc, neg_ℤ, sym, refl, ap, ◌∙◌, subst, le_of_suc-le-suc, not-suc-le-zero, le-div_iff_mul-le, arith, pow_pos, to_z-of_z, w64, SFits, lt-ltb}
use lib.IntN.{sub_ℕ}
use lib.Signed.{lt_z, shr_z}
use lib.Ieee.{Float, inf, fin, Format, binary32, binary64, emax, round}
use Rattle.table.specs.Exact.{P, taylor, fact}
use Rattle.table.specs.Entry.{entry}
use Rattle.table.specs.Whole.{signed}
use Rattle.kernels.specs.Power.{hi, coef, single1, double1, double2, double3, double4, part, significand, finish, power}
use Rattle.kernels.specs.declared.parts.Parts.{Parts}
use Rattle.kernels.specs.inner.Power.{Split}
use Rattle.kernels.proofs.whole.Words.{word, shift_fits}

below : (f : Format) (z : ℤ) → lt_z (shr_z z (2 ^ 52)) (sub_ℕ 1 (emax f)) ≡ true → fin false 0 (pos 0) ≡ power f z
unfolding power finish
below f z h = rw h

above : (f : Format) (z : ℤ) → lt_z (shr_z z (2 ^ 52)) (sub_ℕ 1 (emax f)) ≡ false → lt_z (pos (emax f)) (shr_z z (2 ^ 52)) ≡ true → inf false ≡ power f z
unfolding power finish
above f z g h = rw (g, h)

module _ (f : Format) (z : ℤ) (r : Parts) (held : SFits w64 z) (s : Split (word z) r) where
  parts : Split z r
  parts = subst (λ (x : ℤ). Split x r) (to_z-of_z held) s

  k_is : word r.k ≡ shr_z z (2 ^ 52)
  k_is = ap word parts.k_is ∙ to_z-of_z (shift_fits z (2 ^ 52) held)

  pub none : lt_z (word r.k) (sub_ℕ 1 (emax f)) ≡ true → fin false 0 (pos 0) ≡ power f z
  none h = below f z (ap (λ (x : ℤ). lt_z x (sub_ℕ 1 (emax f))) (sym k_is) ∙ h)

  pub endless : lt_z (word r.k) (sub_ℕ 1 (emax f)) ≡ false → lt_z (pos (emax f)) (word r.k) ≡ true → inf false ≡ power f z
  endless g h = above f z (ap (λ (x : ℤ). lt_z x (sub_ℕ 1 (emax f))) (sym k_is) ∙ g) (ap (lt_z (pos (emax f))) (sym k_is) ∙ h)

  pub rounded : (m : ℕ) → m ≡ significand f r.i r.f → finish f (word r.k) m ≡ power f z
  unfolding power
  rounded m h = rw (k_is, h, parts.i_is, parts.f_is)

-- ---- past the ends
pub fallen : (f : Format) (a : ℕ) → (emax f - 1) * 2 ^ 52 < a → fin false 0 (pos 0) ≡ power f (neg_ℤ (pos a))
fallen f zero h = absurd (not-suc-le-zero h)
fallen f (suc a) h = below f (negsuc a) (go f (a / 2 ^ 52) ((le-div_iff_mul-le (pow_pos 52)).1 (le_of_suc-le-suc h)))
  where
    go : (f : Format) (q : ℕ) → emax f - 1 ≤ q → lt_z (negsuc q) (sub_ℕ 1 (emax f)) ≡ true
    go binary32 q h = lt-ltb 125 q h
    go binary64 q h = lt-ltb 1021 q h

pub risen : (f : Format) (a : ℕ) → suc (emax f) * 2 ^ 52 ≤ a → inf false ≡ power f (pos a)
risen f a h = above f (pos a) (go f) (lt-ltb (emax f) (a / 2 ^ 52) ((le-div_iff_mul-le (pow_pos 52)).1 h))
  where
    go : (f : Format) → lt_z (pos (a / 2 ^ 52)) (sub_ℕ 1 (emax f)) ≡ false
    go binary32 = refl
    go binary64 = refl

pub past : (f : Format) (s : Bool) (a : ℕ) → suc (emax f) * 2 ^ 52 ≤ a → cond s (fin false 0 (pos 0)) (inf false) ≡ power f (signed s a)
past f false a h = risen f a h
past binary32 true a h = fallen binary32 a (omega arith)
past binary64 true a h = fallen binary64 a (omega arith)

-- ---- at 0
abbrev pub one : Float
one = fin false 1 (pos 0)

pub at_zero : (f : Format) (s : Bool) → one ≡ power f (signed s 0)
unfolding power finish significand part single1 double1 double2 double3 double4 coef hi entry P taylor fact round
at_zero binary32 true = refl
at_zero binary32 false = refl
at_zero binary64 true = refl
at_zero binary64 false = refl
