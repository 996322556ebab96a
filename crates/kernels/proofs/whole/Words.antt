-- What the machine reads back from a signed word's bits. Assumes nothing.
use Rattle.std.proofs.Common.{◌≡◌, ℕ, zero, suc, ◌*◌, ◌^◌, ◌<◌, ◌≤◌, Bool, true, false, T, leb, ℤ, pos, negsuc, ◌-ℤ◌, ◌*ℤ◌, nat_abs, sym, ap, ◌∙◌, subst, lt_trans, le_refl, lt_of_lt_of_le, lt_of_le_of_lt, arith, lit<, leb→le, pow_mono, to_z-of_z, w64, Fits, SFits, to_z, of_z}
use lib.Signed.{mag, mag_shr, non_neg, shr_z}
use Rattle.table.specs.Whole.{signed, rest_z}
use Rattle.kernels.proofs.Definitions.Sizes.{rest_lt}
use Rattle.kernels.proofs.whole.Divide.{whole, part_lt}

abbrev pub word : ℤ → ℤ
word z = to_z w64 (of_z w64 z)

-- z has at most 63 digits
pub back : (z : ℤ) (n : ℕ) → T (leb n 63) → mag z < 2 ^ n → word z ≡ z
back z n t h = to_z-of_z {w = w64} (record { sfits = lt_of_lt_of_le h (pow_mono (leb→le n 63 t)) })

pub kept : (z : ℤ) (n : ℕ) → T (leb n 63) → mag z < 2 ^ n → mag (word z) < 2 ^ n
kept z n t h = subst (λ (x : ℤ). mag x < 2 ^ n) (sym (back z n t h)) h

pub fits_size : (z : ℤ) → nat_abs z < 2 ^ 63 → SFits w64 z
fits_size (pos n) h = record { sfits = h }
fits_size (negsuc n) h = record { sfits = lt_trans (le_refl (suc n)) h }

-- a test of a word is one of its number
pub tested : {X : Type 0} (t : ℤ → X) (b : X) (z : ℤ) → SFits w64 z → t (word z) ≡ b → t z ≡ b
tested t b z f e = ap t (sym (to_z-of_z f)) ∙ e

pub shift_fits : (z : ℤ) (m : ℕ) → SFits w64 z → SFits w64 (shr_z z m)
shift_fits z m f = record { sfits = lt_of_le_of_lt (mag_shr z m) f.sfits }

pub shifted : (z : ℤ) (m : ℕ) → SFits w64 z → word (shr_z (word z) m) ≡ shr_z z m
shifted z m f = ap (λ (y : ℤ). word (shr_z y m)) (to_z-of_z f) ∙ to_z-of_z (shift_fits z m f)

-- what a word that is no negative number asks of a cast
pub cast_of : {y : ℤ} {n : ℕ} → y ≡ pos n → n < 2 ^ 63 → T (non_neg y) × Fits w64 (nat_abs y)
cast_of e h = subst (λ (y : ℤ). T (non_neg y) × Fits w64 (nat_abs y)) (sym e) (tt, record { fits = lt_trans h (lit< tt) })

-- ---- x - y m, y the quotient by m: every step fits, and r is left
pub record Rests (x y : ℤ) (m r : ℕ) : Type 0 where
  pub part : SFits w64 (y *ℤ pos m)
  pub left : SFits w64 (x -ℤ word (y *ℤ pos m))
  pub cast : T (non_neg (word (x -ℤ word (y *ℤ pos m)))) × Fits w64 (nat_abs (word (x -ℤ word (y *ℤ pos m))))
  pub is : nat_abs (word (x -ℤ word (y *ℤ pos m))) ≡ r

-- m divides 2 ^ 63
pub rests : (z : ℤ) (m q : ℕ) → 0 < m → m < 2 ^ 63 → q * m ≡ 2 ^ 63 → SFits w64 z → (x y : ℤ) → x ≡ z → y ≡ shr_z z m → Rests x y m (rest_z z m)
rests z m q p s e f x y xe ye = record { part = part; left = left; cast = cast_of is small; is = ap nat_abs is }
  where
    part : SFits w64 (y *ℤ pos m)
    part = subst (λ (v : ℤ). SFits w64 (v *ℤ pos m)) (sym ye) (record { sfits = part_lt z m q (2 ^ 63) p e f.sfits })

    small : rest_z z m < 2 ^ 63
    small = lt_trans (rest_lt z m p) s

    exact : x -ℤ word (y *ℤ pos m) ≡ pos (rest_z z m)
    exact = ap (λ (v : ℤ). x -ℤ v) (to_z-of_z part) ∙ ap (λ (v : ℤ). v -ℤ y *ℤ pos m) xe ∙ ap (λ (v : ℤ). z -ℤ v *ℤ pos m) ye ∙ whole z m p

    left : SFits w64 (x -ℤ word (y *ℤ pos m))
    left = subst (SFits w64) (sym exact) (record { sfits = small })

    is : word (x -ℤ word (y *ℤ pos m)) ≡ pos (rest_z z m)
    is = to_z-of_z left ∙ exact

-- ---- a natural number with a sign
pub mag-le : (s : Bool) (n : ℕ) → mag (signed s n) ≤ n
mag-le false n = le_refl n
mag-le true zero = le_refl 0
mag-le true (suc n) = omega arith

signed-fits : (s : Bool) (n : ℕ) → n < 2 ^ 63 → SFits w64 (signed s n)
signed-fits s n h = record { sfits = lt_of_le_of_lt (mag-le s n) h }

pub signed_word : (s : Bool) (n : ℕ) (z : ℤ) → n < 2 ^ 63 → z ≡ signed s n → word z ≡ signed s n
signed_word s n z h e = ap word e ∙ to_z-of_z (signed-fits s n h)
