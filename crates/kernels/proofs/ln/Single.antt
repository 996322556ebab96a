-- ln of a single: the pattern of the nearest one to a / 2 ^ 56, by one rounding of 39 digits, then the sign. Assumes nothing.
use Rattle.std.proofs.Common.{◌≡◌, ℕ, zero, suc, ◌+◌, ◌-◌, ◌*◌, ◌/◌, ◌%◌, ◌^◌, ◌<◌, ◌≤◌, min, Bool, true, false, cond, ℤ, pos, negsuc, nat_abs, sym, refl, ap, ◌∙◌, subst, ap₂, lt_of_lt_of_le, mod-lt, mod-eq_of_lt, zero-lt-suc, mul_assoc, zero-add, arith, lit<, lit≤, pow_pos, pow-add, to_z-of_z, w64, SFits, to_z, of_z}
use lib.Dec.{leb-suc-zero}
use lib.Signed.{lt_z}
use lib.Ieee.{Float, fin, binary32, size, round, of_bits}
use lib.Ieee.Digits.{size-le}
use lib.Ieee.Nearest.{closest}
use lib.Ieee.Scale.{round_same}
use Rattle.table.specs.Whole.{below0}
use Rattle.soft.proofs.Rounding.Closest.{by_shift}
use Rattle.soft.proofs.Rounding.Place.{placed, normalised_lt, normalised_ge, round_none}
use Rattle.soft.proofs.Rounding.Exponent.{read}
use Rattle.soft.specs.inner.Pack.{normalised}
use Rattle.kernels.specs.Kernels.{nearest_of}

-- what the code shifts and adds: z the digits of a
abbrev shifted : (a z : ℕ) → ℕ
shifted a z = a * 2 ^ (63 - z) % 2 ^ 64

abbrev rounded : ℕ → ℕ
rounded n = (n + 0x3f_ffff_ffff + n / 2 ^ 39 % 2) / 2 ^ 39

abbrev pattern : (z n : ℕ) → ℕ
pattern z n = (z + 69) * 0x80_0000 + rounded n

-- what the code asks of them, and what they are
pub record Bits (a z : ℕ) : Type 0 where
  pub digits : z ≤ 63
  pub short : shifted a z < 2 ^ 63
  pub most : pattern z (shifted a z) ≤ 134 * 2 ^ 23
  pub plus : of_bits binary32 (pattern z (shifted a z)) ≡ round binary32 false a (2 ^ 56)
  pub minus : of_bits binary32 (2 ^ 31 + pattern z (shifted a z)) ≡ round binary32 true a (2 ^ 56)

module _ (a z : ℕ) (p : 0 < a) (h : a < 2 ^ 63) (e : z ≡ size a) where
  abbrev n : ℕ
  n = shifted a z

  digits_le : z ≤ 63
  digits_le = subst (λ (y : ℕ). y ≤ 63) (sym e) (size-le a 63 h)

  shifted_is : n ≡ normalised a
  shifted_is = ap (shifted a) e ∙ mod-eq_of_lt (lt_of_lt_of_le (normalised_lt a h) (lit≤ tt))

  n_lt : n < 2 ^ 63
  n_lt = subst (λ (y : ℕ). y < 2 ^ 63) (sym shifted_is) (normalised_lt a h)

  n_ge : 2 ^ 62 ≤ n
  n_ge = subst (λ (y : ℕ). 2 ^ 62 ≤ y) (sym shifted_is) (normalised_ge a p h)

  rounded_le : rounded n ≤ 2 ^ 24
  rounded_le = go n n_lt
    where
      go : (n : ℕ) → n < 2 ^ 63 → rounded n ≤ 2 ^ 24
      go n h = let r : n / 2 ^ 39 % 2 < 2 = mod-lt (n / 2 ^ 39) (lit< tt) in omega arith

  pattern_le : pattern z n ≤ 134 * 2 ^ 23
  pattern_le = omega (arith, digits_le, rounded_le)

  inside : min ((z + 69 - 0) * 2 ^ 23 + closest n (2 ^ (39 + (z + 69 - 0) - (z + 69)))) (255 * 2 ^ 23) ≡ pattern z n
  inside = ap (λ (d : ℕ). min ((z + 69 - 0) * 2 ^ 23 + closest n (2 ^ d)) (255 * 2 ^ 23)) (lost (z + 69)) ∙ ap (λ (q : ℕ). min ((z + 69 - 0) * 2 ^ 23 + q) (255 * 2 ^ 23)) (sym (by_shift n 0x40_0000_0000 (lit≤ tt))) ∙ go z (rounded n) pattern_le
    where
      lost : (x : ℕ) → 39 + (x - 0) - x ≡ 39
      lost x = omega arith

      go : (z q : ℕ) → (z + 69) * 0x80_0000 + q ≤ 134 * 2 ^ 23 → min ((z + 69 - 0) * 2 ^ 23 + q) (255 * 2 ^ 23) ≡ (z + 69) * 0x80_0000 + q
      go z q l = omega arith

  same : n * 2 ^ (z + 69) * 2 ^ 56 ≡ a * 2 ^ (149 + 39)
  same =
      ap (λ (y : ℕ). y * 2 ^ (z + 69) * 2 ^ 56) (shifted_is ∙ ap (λ (y : ℕ). a * 2 ^ (63 - y)) (sym e)) ∙ collect a (2 ^ (63 - z)) (2 ^ (z + 69)) (2 ^ 56)
      ∙ ap (λ (y : ℕ). a * y) (ap (λ (y : ℕ). y * 2 ^ 56) (sym (pow-add 2 (63 - z) (z + 69))) ∙ sym (pow-add 2 (63 - z + (z + 69)) 56) ∙ ap (λ (y : ℕ). 2 ^ y) (sum z digits_le))
    where
      collect : (a u v w : ℕ) → a * u * v * w ≡ a * (u * v * w)
      collect a u v w = simp mul_assoc

      sum : (z : ℕ) → z ≤ 63 → 63 - z + (z + 69) + 56 ≡ 149 + 39
      sum z h = omega arith

  signed : (s : Bool) → of_bits binary32 (cond s (2 ^ 31) 0 + pattern z n) ≡ round binary32 s a (2 ^ 56)
  signed s =
      ap (λ (y : ℕ). of_bits binary32 (cond s (2 ^ 31) 0 + y)) (sym inside)
      ∙ placed binary32 39 0 n (z + 69) (record { is = refl }) n_ge n_lt s
      ∙ round_same binary32 s (n * 2 ^ (z + 69)) (2 ^ (149 + 39)) a (2 ^ 56) (pow_pos (149 + 39)) (pow_pos 56) same

  pub bits : Bits a z
  bits = record { digits = digits_le; short = n_lt; most = pattern_le; plus = ap (of_bits binary32) (sym (zero-add (pattern z n))) ∙ signed false; minus = signed true }

-- ---- the sign of s, and its size a
sign_is : (s : ℤ) → lt_z s (pos 0) ≡ below0 s
sign_is (pos n) = leb-suc-zero n
sign_is (negsuc n) = refl

module _ (s : ℤ) (f : SFits w64 s) where
  pub none : of_z w64 s ≡ 0 → fin false 0 (pos 0) ≡ nearest_of binary32 s 56
  none e = sym (round_none binary32 false (2 ^ 56) (pow_pos 56)) ∙ ap (λ (z : ℤ). nearest_of binary32 z 56) (sym (sym (to_z-of_z f) ∙ ap (to_z w64) e))

  module _ (a : ℕ) (is : a ≡ nat_abs (read s)) where
    size_is : a ≡ nat_abs s
    size_is = is ∙ ap nat_abs (to_z-of_z f)

    pub some : nat_abs s < 2 ^ 63 → (of_z w64 s ≡ 0 → ⊥) → (0 < a) × (a < 2 ^ 63)
    some h n = subst (λ (y : ℕ). (0 < y) × (y < 2 ^ 63)) (sym size_is) (go s n, h)
      where
        go : (s : ℤ) → (of_z w64 s ≡ 0 → ⊥) → 0 < nat_abs s
        go (pos zero) n = absurd (n refl)
        go (pos (suc m)) n = zero-lt-suc m
        go (negsuc m) n = zero-lt-suc m

    pub answer : (t : Bool) (x : Float) → lt_z (read s) (pos 0) ≡ t → x ≡ round binary32 t a (2 ^ 56) → x ≡ nearest_of binary32 s 56
    answer t x g e = e ∙ ap₂ (λ (b : Bool) (n : ℕ). round binary32 b n (2 ^ 56)) (sym g ∙ ap (λ (z : ℤ). lt_z z (pos 0)) (to_z-of_z f) ∙ sign_is s) size_is
