-- Whole numbers of either sign: products with a natural number, their sign, and quotients. Assumes nothing.
use Rattle.std.proofs.Common.{◌≡◌, ℕ, zero, suc, ◌+◌, ◌*◌, ◌<◌, true, ℤ, pos, negsuc, ◌+ℤ◌, ◌*ℤ◌, neg_ℤ, sym, refl, ap, ◌∙◌, ap₂, not-suc-le-zero, add-zero, add-suc, zero-lt-suc, mul-pos, mul-zero, mul-suc}
use lib.IntN.{one, +ℤ_idr, +ℤ_assoc, +ℤ_comm, -ℤ-+ℤ_cancel, *ℤ_comm, *ℤ-zero, *ℤ-one, suc_ℤ-*ℤ}
use lib.Signed.{shr_z}
use Rattle.table.specs.Whole.{below0, rest_z}
use Rattle.kernels.proofs.whole.Divide.{whole}

times_suc : (z : ℤ) (n : ℕ) → z *ℤ pos (suc n) ≡ z *ℤ pos n +ℤ z
times_suc z n = *ℤ_comm z (pos (suc n)) ∙ suc_ℤ-*ℤ (pos n) z ∙ ap (λ (y : ℤ). y +ℤ z) (*ℤ_comm (pos n) z)

pub times_one : (z : ℤ) → z *ℤ pos 1 ≡ z
unfolding one
times_one z = *ℤ-one z

swap : (a b c d : ℤ) → a +ℤ b +ℤ (c +ℤ d) ≡ a +ℤ c +ℤ (b +ℤ d)
swap a b c d =
    +ℤ_assoc a b (c +ℤ d) ∙ ap (λ (y : ℤ). a +ℤ y) (sym (+ℤ_assoc b c d) ∙ ap (λ (y : ℤ). y +ℤ d) (+ℤ_comm b c) ∙ +ℤ_assoc c b d) ∙ sym (+ℤ_assoc a c (b +ℤ d))

pub sum_times : (a b : ℤ) (n : ℕ) → (a +ℤ b) *ℤ pos n ≡ a *ℤ pos n +ℤ b *ℤ pos n
sum_times a b zero = *ℤ-zero (a +ℤ b) ∙ sym (ap₂ ◌+ℤ◌ (*ℤ-zero a) (*ℤ-zero b))
sum_times a b (suc n) =
    times_suc (a +ℤ b) n ∙ ap (λ (y : ℤ). y +ℤ (a +ℤ b)) (sum_times a b n) ∙ swap (a *ℤ pos n) (b *ℤ pos n) a b
    ∙ sym (ap₂ ◌+ℤ◌ (times_suc a n) (times_suc b n))

pub times_sum : (z : ℤ) (m n : ℕ) → z *ℤ pos (m + n) ≡ z *ℤ pos m +ℤ z *ℤ pos n
times_sum z m zero = ap (λ (x : ℕ). z *ℤ pos x) (add-zero m) ∙ sym (ap (λ (y : ℤ). z *ℤ pos m +ℤ y) (*ℤ-zero z) ∙ +ℤ_idr (z *ℤ pos m))
times_sum z m (suc n) =
    ap (λ (x : ℕ). z *ℤ pos x) (add-suc m n) ∙ times_suc z (m + n) ∙ ap (λ (y : ℤ). y +ℤ z) (times_sum z m n) ∙ +ℤ_assoc (z *ℤ pos m) (z *ℤ pos n) z
    ∙ ap (λ (y : ℤ). z *ℤ pos m +ℤ y) (sym (times_suc z n))

pub times_times : (z : ℤ) (m n : ℕ) → z *ℤ pos m *ℤ pos n ≡ z *ℤ pos (m * n)
times_times z m zero = *ℤ-zero (z *ℤ pos m) ∙ sym (ap (λ (x : ℕ). z *ℤ pos x) (mul-zero m) ∙ *ℤ-zero z)
times_times z m (suc n) =
    times_suc (z *ℤ pos m) n ∙ ap (λ (y : ℤ). y +ℤ z *ℤ pos m) (times_times z m n) ∙ sym (times_sum z (m * n) m) ∙ ap (λ (x : ℕ). z *ℤ pos x) (sym (mul-suc m n))

pub sign_times : (z : ℤ) (n : ℕ) → 0 < n → below0 (z *ℤ pos n) ≡ below0 z
sign_times (pos a) n h = refl
sign_times (negsuc a) n h = negative (suc a * n) (mul-pos (zero-lt-suc a) h)
  where
    negative : (k : ℕ) → 0 < k → below0 (neg_ℤ (pos k)) ≡ true
    negative zero h = absurd (not-suc-le-zero h)
    negative (suc k) h = refl

-- ---- the quotient, rounded down, and the rest
pub parts : (z : ℤ) (m : ℕ) → 0 < m → z ≡ shr_z z m *ℤ pos m +ℤ pos (rest_z z m)
parts z m h =
    sym (-ℤ-+ℤ_cancel z (shr_z z m *ℤ pos m)) ∙ ap (λ (y : ℤ). y +ℤ shr_z z m *ℤ pos m) (whole z m h) ∙ +ℤ_comm (pos (rest_z z m)) (shr_z z m *ℤ pos m)
