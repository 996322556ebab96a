-- ln_f64's doubles: the two parts of j N64 - l, and their sum, rounded once. Assumes nothing.
use Rattle.std.proofs.Common.{◌≡◌, ℕ, ◌+◌, ◌*◌, ◌/◌, ◌^◌, ◌<◌, ◌≤◌, false, ℤ, pos, ◌+ℤ◌, ◌-ℤ◌, ◌*ℤ◌, neg_ℤ, nat_abs, sym, refl, ap, ◌∙◌, subst, ap₂, lt_of_lt_of_le, lt_of_le_of_lt, arith, lit<, lit≤, to_z-of_z, w64, SFits}
use lib.Count.{count_trailing_zeros}
use lib.IntN.{+ℤ_assoc}
use lib.Signed.{mag, shr_z, nat_abs-le}
use lib.Ieee.{Float, binary64, of_bits, of_fields, of_int, odd, add, mul}
use lib.Ieee.Exact.{HasValue}
use Rattle.soft.proofs.Rounding.Exponent.{read}
use Rattle.table.specs.Exact.{N}
use Rattle.table.specs.Whole.{rest_z}
use Rattle.kernels.specs.Kernels.{nearest_of}
use Rattle.kernels.proofs.Definitions.Sizes.{nat_abs_mul, nat_abs_add, rest_lt}
use Rattle.kernels.proofs.ln.Whole.{times_one, sum_times, times_sum, times_times, parts}
use Rattle.kernels.proofs.ln.Value.{Holds, finer, cast_holds, mul_holds, add_is, add_holds}

pub asked : (z : ℤ) (n m : ℕ) → SFits w64 z → mag z < n → n ≤ m → mag (read z) < m
asked z n m f h k = subst (λ (y : ℤ). mag y < m) (sym (to_z-of_z f)) (lt_of_lt_of_le h k)

-- ---- the sum of three doubles: C / 2 ^ 42, 1 / 2 ^ 32 and 1 / 2 ^ 64
step_value : HasValue (of_bits binary64 0x3f66_2e42_fef8_0000) false 11908177887 (2 ^ 42)
unfolding of_bits of_fields odd count_trailing_zeros
step_value = (refl, refl)

upper_value : HasValue (of_bits binary64 0x3df0_0000_0000_0000) false 1 (2 ^ 32)
unfolding of_bits of_fields odd count_trailing_zeros
upper_value = (refl, refl)

lower_value : HasValue (of_bits binary64 0x3bf0_0000_0000_0000) false 1 (2 ^ 64)
unfolding of_bits of_fields odd count_trailing_zeros
lower_value = (refl, refl)

product : (x : Float) (z : ℤ) (n u : ℕ) → HasValue x false n (2 ^ u) → 0 < n → 0 + u ≤ 1074 → nat_abs z * n < 2 ^ 53 → nat_abs z ≤ 2 ^ 53 → Holds (mul binary64 (of_int binary64 z) x) (z *ℤ pos n) (0 + u)
product x z n u v p l s t = mul_holds binary64 (of_int binary64 z) x z 0 n u p s l (cast_holds binary64 z t) v

few : (a b c : ℕ) → a ≤ 2 ^ 19 → b ≤ 2 ^ 26 → c ≤ 2 ^ 32 → (a * 11908177887 < 2 ^ 53) × (a ≤ 2 ^ 53) × (b * 1 < 2 ^ 53) × (b ≤ 2 ^ 53) × (c * 1 < 2 ^ 53) × (c ≤ 2 ^ 53) × (a * 11908177887 + b * 1 * 2 ^ 10 < 2 ^ 53)
few a b c h k l = (omega arith, omega arith, omega arith, omega arith, omega arith, omega arith, omega arith)

-- as the code adds them up
abbrev added : Float → Float → Float → Float
added a b c =
    add binary64 (add binary64 (mul binary64 a (of_bits binary64 0x3f66_2e42_fef8_0000)) (mul binary64 b (of_bits binary64 0x3df0_0000_0000_0000)))
    (mul binary64 c (of_bits binary64 0x3bf0_0000_0000_0000))

module _ (j h r : ℤ) (jf : SFits w64 j) (hf : SFits w64 h) (rf : SFits w64 r) (js : mag j < 2 ^ 19) (hs : mag h < 2 ^ 26) (rs : mag r < 2 ^ 32) where
  abbrev high : ℤ
  high = j *ℤ pos 11908177887 +ℤ h *ℤ pos 1 *ℤ pos (2 ^ 10)

  sum_is : added (of_int binary64 j) (of_int binary64 h) (of_int binary64 r) ≡ nearest_of binary64 (high *ℤ pos (2 ^ 22) +ℤ r *ℤ pos 1) 64
  sum_is =
      let f = few (nat_abs j) (nat_abs h) (nat_abs r) (nat_abs-le j js) (nat_abs-le h hs) (nat_abs-le r rs) in
      let a = mul binary64 (of_int binary64 j) (of_bits binary64 0x3f66_2e42_fef8_0000) in
      let b = mul binary64 (of_int binary64 h) (of_bits binary64 0x3df0_0000_0000_0000) in
      let c = mul binary64 (of_int binary64 r) (of_bits binary64 0x3bf0_0000_0000_0000) in
      let ah = product (of_bits binary64 0x3f66_2e42_fef8_0000) j 11908177887 42 step_value (lit< tt) (lit≤ tt) f.0 f.1 in
      let bh = finer b (h *ℤ pos 1) 32 10 (product (of_bits binary64 0x3df0_0000_0000_0000) h 1 32 upper_value (lit< tt) (lit≤ tt) f.2 f.3) in
      let ch = product (of_bits binary64 0x3bf0_0000_0000_0000) r 1 64 lower_value (lit< tt) (lit≤ tt) f.4 f.5 in
      let s = ap₂ ◌+◌ (nat_abs_mul j (pos 11908177887)) (nat_abs_mul (h *ℤ pos 1) (pos (2 ^ 10)) ∙ ap (λ (x : ℕ). x * 2 ^ 10) (nat_abs_mul h (pos 1))) in
      let l = lt_of_le_of_lt (nat_abs_add (j *ℤ pos 11908177887) (h *ℤ pos 1 *ℤ pos (2 ^ 10))) (subst (λ (z : ℕ). z < 2 ^ 53) (sym s) f.6) in
      add_is binary64 (add binary64 a b) c (high *ℤ pos (2 ^ 22)) (r *ℤ pos 1) 64
      (finer (add binary64 a b) high 42 22 (add_holds binary64 a b (j *ℤ pos 11908177887) (h *ℤ pos 1 *ℤ pos (2 ^ 10)) 42 l (lit≤ tt) ah bh)) ch

  pub joined : (a b c : Float) → a ≡ of_int binary64 (read j) → b ≡ of_int binary64 (read h) → c ≡ of_int binary64 (read r)
      → added a b c ≡ nearest_of binary64 ((j *ℤ pos 11908177887 +ℤ h *ℤ pos (2 ^ 10)) *ℤ pos (2 ^ 22) +ℤ r) 64
  joined a b c p q s =
      ap₂ (λ (x y : Float). added x y c) (p ∙ ap (of_int binary64) (to_z-of_z jf)) (q ∙ ap (of_int binary64) (to_z-of_z hf)) ∙ ap (added (of_int binary64 j) (of_int binary64 h)) (s ∙ ap (of_int binary64) (to_z-of_z rf))
      ∙ sum_is ∙ ap₂ (λ (y z : ℤ). nearest_of binary64 ((j *ℤ pos 11908177887 +ℤ y *ℤ pos (2 ^ 10)) *ℤ pos (2 ^ 22) +ℤ z) 64) (times_one h) (times_one r)

-- ---- and what it is the sum of
whole_is : (j v h r : ℤ) (l n c : ℕ) → v ≡ j *ℤ pos c -ℤ pos l → v ≡ h *ℤ pos (2 ^ 32) +ℤ r → (j *ℤ pos n +ℤ h *ℤ pos (2 ^ 10)) *ℤ pos (2 ^ 22) +ℤ r ≡ j *ℤ pos (n * 2 ^ 22 + c) -ℤ pos l
whole_is j v h r l n c p q =
    ap (λ (y : ℤ). y +ℤ r) (sum_times (j *ℤ pos n) (h *ℤ pos (2 ^ 10)) (2 ^ 22) ∙ ap₂ ◌+ℤ◌ (times_times j n (2 ^ 22)) (times_times h (2 ^ 10) (2 ^ 22)))
    ∙ +ℤ_assoc (j *ℤ pos (n * 2 ^ 22)) (h *ℤ pos (2 ^ 32)) r ∙ ap (λ (y : ℤ). j *ℤ pos (n * 2 ^ 22) +ℤ y) (sym q ∙ p)
    ∙ sym (+ℤ_assoc (j *ℤ pos (n * 2 ^ 22)) (j *ℤ pos c) (neg_ℤ (pos l))) ∙ ap (λ (y : ℤ). y -ℤ pos l) (sym (times_sum j (n * 2 ^ 22) c))

module _ (j v h r : ℤ) (l : ℕ) (jf : SFits w64 j) (js : mag j < 2 ^ 19) (p : v ≡ read j *ℤ pos 1167226 -ℤ pos l) (vs : mag v < 2 ^ 58) (q : h ≡ shr_z (read v) (2 ^ 32))
    (hs : mag h < 2 ^ 26) (s : r ≡ pos (rest_z (read v) (2 ^ 32))) where
  word : (z : ℤ) (n : ℕ) → mag z < n → n ≤ 2 ^ 63 → SFits w64 z
  word z n a b = record { sfits = lt_of_lt_of_le a b }

  rs : mag r < 2 ^ 32
  rs = subst (λ (y : ℤ). mag y < 2 ^ 32) (sym s) (rest_lt (read v) (2 ^ 32) (lit< tt))

  pub sum_asks : (mag (read j) < 2 ^ 19) × (mag (read h) < 2 ^ 26) × (mag (read r) < 2 ^ 32)
  sum_asks = (asked j (2 ^ 19) (2 ^ 19) jf js (lit≤ tt), asked h (2 ^ 26) (2 ^ 26) (word h (2 ^ 26) hs (lit≤ tt)) hs (lit≤ tt), asked r (2 ^ 32) (2 ^ 32) (word r (2 ^ 32) rs (lit≤ tt)) rs (lit≤ tt))

  pub nearest_given : (x : Float) → x ≡ nearest_of binary64 ((read j *ℤ pos 11908177887 +ℤ read h *ℤ pos (2 ^ 10)) *ℤ pos (2 ^ 22) +ℤ read r) 64
      → x ≡ nearest_of binary64 (j *ℤ pos ((N + 128) / 2 ^ 8) -ℤ pos l) 64
  nearest_given x e =
      let hr = ap₂ (λ (a b : ℤ). a *ℤ pos (2 ^ 32) +ℤ b) (to_z-of_z (word h (2 ^ 26) hs (lit≤ tt)) ∙ q) (to_z-of_z (word r (2 ^ 32) rs (lit≤ tt)) ∙ s) in
      e ∙ ap (λ (z : ℤ). nearest_of binary64 z 64) (whole_is (read j) (read v) (read h) (read r) l 11908177887 1167226 (to_z-of_z (word v (2 ^ 58) vs (lit≤ tt)) ∙ p) (parts (read v) (2 ^ 32) (lit< tt) ∙ sym hr))
      ∙ ap (λ (y : ℤ). nearest_of binary64 (y *ℤ pos ((N + 128) / 2 ^ 8) -ℤ pos l) 64) (to_z-of_z jf)
