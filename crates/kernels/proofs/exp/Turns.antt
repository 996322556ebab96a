-- exp's argument in units of a step: the same for equal fractions, nothing below 2 ^ -53, and past either end of the range from 128 and 1024 on. Assumes nothing.
use Rattle.std.proofs.Common.{◌≡◌, ℕ, suc, ◌+◌, ◌-◌, ◌*◌, ◌/◌, ◌^◌, ◌<◌, ◌≤◌, sym, refl, ap, ◌∙◌, le_trans, le_of_eq, lt_of_lt_of_le, lt_of_le_of_lt, mul-le-mul_right, mul_assoc, div-lt_iff_lt-mul, lt_of_mul-lt-mul_right, mul-le-mul_left, mul-lt-mul_of_pos_right, le-div_iff_mul-le, mul_right_comm, mul_left_comm, arith, lit≤, pow_pos, pow_mono, pow-add}
use native.Mathlib.Nat.{div-eq_of_lt}
use lib.Ieee.{Format, binary32, binary64, prec, emax, low, hid}
use lib.Ieee.Nearest.{div_same}
use Rattle.table.specs.Exact.{N}
use Rattle.kernels.specs.Power.{hi}
use Rattle.kernels.specs.Kernels.{turns}
use Rattle.kernels.specs.inner.Fields.{least, most}
use Rattle.kernels.proofs.Definitions.Hi.{hi_ge}

abbrev K31 : ℕ
K31 = 2 ^ 103 / N

abbrev K : ℕ
K = 2 ^ 127 / N

-- ---- by the fraction's value
pub turns_same : (f : Format) (s b t c : ℕ) → 0 < b → 0 < c → s * c ≡ t * b → turns f s b ≡ turns f t c
unfolding turns
turns_same binary32 s b t c p q e = div_same (s * (K31 * 2 ^ 13)) b (t * (K31 * 2 ^ 13)) c p q (mul_right_comm s (K31 * 2 ^ 13) c ∙ ap (λ (x : ℕ). x * (K31 * 2 ^ 13)) e ∙ mul_right_comm t b (K31 * 2 ^ 13))
turns_same binary64 s b t c p q e = ap (λ (x : ℕ). hi x K) (div_same (s * 2 ^ 53) b (t * 2 ^ 53) c p q (mul_right_comm s (2 ^ 53) c ∙ ap (λ (x : ℕ). x * 2 ^ 53) e ∙ mul_right_comm t b (2 ^ 53)))

pub nothing : (f : Format) (n : ℕ) → n < 2 ^ (prec f + (least f - 2)) → turns f n (2 ^ low f) ≡ 0
unfolding turns hi
nothing binary32 n h =
    div-eq_of_lt (lt_of_le_of_lt (mul-le-mul_left n (lit≤ tt)) (lt_of_lt_of_le (mul-lt-mul_of_pos_right h (pow_pos 53)) (le_of_eq (sym (pow-add 2 96 53)))))
nothing binary64 n h = ap (λ (x : ℕ). hi x K) (div-eq_of_lt (lt_of_lt_of_le (mul-lt-mul_of_pos_right h (pow_pos 53)) (le_of_eq (sym (pow-add 2 1021 53)))))

pub much : (f : Format) (n : ℕ) → hid f * 2 ^ most f ≤ n → suc (emax f) * 2 ^ 52 ≤ turns f n (2 ^ low f)
unfolding turns
much binary32 n h = (le-div_iff_mul-le (pow_pos 149)).1 (le_trans (lit≤ tt) (mul-le-mul_right (K31 * 2 ^ 13) h))
much binary64 n h = far (n * 2 ^ 53 / 2 ^ 1074) ((le-div_iff_mul-le (pow_pos 1074)).1 (le_trans (lit≤ tt) (mul-le-mul_right (2 ^ 53) h)))
  where
    far : (x : ℕ) → 2 ^ 63 ≤ x → 2 ^ 62 ≤ hi x K
    far x h = let l : 2 ^ 62 + 3 < hi x K + 3 = lt_of_mul-lt-mul_right (2 ^ 64) (lt_of_le_of_lt (le_trans (lit≤ tt) (mul-le-mul_right K h)) (hi_ge x K)) in omega arith

-- ---- as the code counts: one product and one shift
pub counted : (d c y u s w : ℕ) → y + u + s ≡ w → d * c / 2 ^ s ≡ d * 2 ^ y * (c * 2 ^ u) / 2 ^ w
counted d c y u s w e =
    div_same (d * c) (2 ^ s) (d * 2 ^ y * (c * 2 ^ u)) (2 ^ w) (pow_pos s) (pow_pos w)
    (ap (λ (x : ℕ). d * c * x) (ap (λ (x : ℕ). 2 ^ x) (sym e) ∙ pow-add 2 (y + u) s ∙ ap (λ (x : ℕ). x * 2 ^ s) (pow-add 2 y u)) ∙ join (2 ^ y) (2 ^ u) (2 ^ s))
  where
    join : (p q r : ℕ) → d * c * (p * q * r) ≡ d * p * (c * q) * r
    join p q r = simp (mul_assoc, mul_left_comm) refl

pub halved : (p s : ℕ) → p < 2 ^ 64 → 0 < s → p / 2 ^ s < 2 ^ 63
halved p s h k = (div-lt_iff_lt-mul (pow_pos s)).1 (lt_of_lt_of_le h (mul-le-mul_left (2 ^ 63) (pow_mono k)))
