-- `wide::negative` meets its contract: 0 less the sign is a mask of no bits or of all. Assumes nothing.
use Rattle.std.proofs.Common.{◌≡◌, ℕ, zero, suc, ◌+◌, ◌-◌, ◌*◌, ◌/◌, ◌^◌, ◌<◌, sym, ap, ◌∙◌, mod-eq_of_lt, one-mul, div-add-mod', zero-mul, arith, shr_lt}
use lib.Bits.{bit_and, and_zero_l, and_comm, and_mask}
use Rattle.soft.proofs.wide.negative.Goals as goal

masked : (q s m n : ℕ) → q * 2 ^ 64 + 0 ≡ m + s → s < 2 → m < 2 ^ 64 → n < 2 ^ 64 → bit_and m n ≡ s * n
masked q zero m n e h k l = ap (λ (x : ℕ). bit_and x n) (no_bits q m e k) ∙ and_zero_l n ∙ sym (zero-mul n)
  where
    no_bits : (q m : ℕ) → q * 2 ^ 64 + 0 ≡ m + 0 → m < 2 ^ 64 → m ≡ 0
    no_bits q m e k = omega arith
masked q (suc zero) m n e h k l =
    ap (λ (x : ℕ). bit_and x n) (all_bits q m e k) ∙ and_comm (2 ^ 64 - 1) n ∙ and_mask n 64 ∙ mod-eq_of_lt l ∙ sym (one-mul n)
  where
    all_bits : (q m : ℕ) → q * 2 ^ 64 + 0 ≡ m + 1 → m < 2 ^ 64 → m ≡ 2 ^ 64 - 1
    all_bits q m e k = omega arith
masked q (suc (suc s)) m n e h k l = absurd (omega arith)

pub returns : goal.returns
returns c =
    let m = c.wrapping_neg.result in
    let s = c.args.x / 2 ^ 63 in
    masked ((m + s) / 2 ^ 64) s m c.args.n
    (ap (λ (x : ℕ). (m + s) / 2 ^ 64 * 2 ^ 64 + x) (sym c.wrapping_neg.ensures) ∙ div-add-mod' (m + s) (2 ^ 64))
    (shr_lt 1 63 c.ranges.x.fits) (omega arith) c.ranges.n.fits
