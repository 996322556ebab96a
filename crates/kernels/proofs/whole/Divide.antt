-- Whole numbers of either sign: products by sign and size, and what is divided by m and rounded down, the quotient `shr_z`, what it leaves `rest_z`. Assumes nothing.
use Rattle.std.proofs.Common.{◌≡◌, ℕ, zero, suc, ◌+◌, ◌-◌, ◌*◌, ◌/◌, ◌%◌, ◌<◌, ◌≤◌, Bool, true, false, cond, ltb, ℤ, pos, negsuc, ◌+ℤ◌, ◌-ℤ◌, ◌*ℤ◌, neg_ℤ, nat_abs, sym, refl, ap, ◌∙◌, subst, ap₂, not-suc-le-zero, lt_of_le_of_lt, mul-le-mul_right, mod-lt, mul_comm, div-lt_iff_lt-mul, div-add-mod', zero-mul, div-mul-le_self, arith}
use native.Mathlib.Nat.{div-div-eq-div-mul, mul-div-mul_right}
use lib.Arith.{le→nltb, digits_div}
use lib.IntN.{sub_ℕ, *ℤ_comm}
use lib.Signed.{mag, shr_z}
use lib.Ieee.Bits.{is_false}
use lib.Ieee.{unlike}
use Rattle.table.specs.Whole.{rest_z, signed, below0}

pub neg_is : (x : ℕ) → 0 < x → neg_ℤ (pos x) ≡ negsuc (x - 1)
neg_is zero h = absurd (not-suc-le-zero h)
neg_is (suc x) h = ap negsuc (omega arith)

pub sub_is : (a b : ℕ) → b ≤ a → sub_ℕ a b ≡ pos (a - b)
sub_is a b h = ap (λ (t : Bool). cond t (negsuc (b - suc a)) (pos (a - b))) (is_false (ltb a b) (le→nltb a b h))

pub minus : (a b : ℕ) → b ≤ a → pos a +ℤ neg_ℤ (pos b) ≡ pos (a - b)
minus a zero h = ap pos (omega arith)
minus a (suc b) h = sub_is a (suc b) h

-- over variables: P the quotient's part, R the rest
less : (a P R : ℕ) → P + R ≡ a → (P ≤ a) × (a - P ≡ R)
less a P R e = (omega arith, omega arith)

more : (a Q m R : ℕ) → Q * m + R ≡ a → R < m → (suc a ≤ suc (suc Q * m - 1)) × (suc (suc Q * m - 1) - suc a ≡ m - suc R) × (0 < suc Q * m)
more a Q m R e h = (omega arith, omega arith, omega arith)

pub whole : (z : ℤ) (m : ℕ) → 0 < m → z -ℤ shr_z z m *ℤ pos m ≡ pos (rest_z z m)
whole (pos a) m h =
    let l = less a (a / m * m) (a % m) (div-add-mod' a m) in
    minus a (a / m * m) l.0 ∙ ap pos l.1
whole (negsuc a) m h =
    let u = more a (a / m) m (a % m) (div-add-mod' a m) (mod-lt a h) in
    ap (λ (y : ℤ). negsuc a +ℤ neg_ℤ y) (neg_is (suc (a / m) * m) u.2) ∙ sub_is (suc (suc (a / m) * m - 1)) (suc a) u.0 ∙ ap pos u.1

-- the quotient's part lies in a range that m divides
pub part_lt : (z : ℤ) (m q H : ℕ) → 0 < m → q * m ≡ H → mag z < H → mag (shr_z z m *ℤ pos m) < H
part_lt (pos a) m q H h e l = lt_of_le_of_lt (div-mul-le_self a m) l
part_lt (negsuc a) m q H h e l =
    subst (λ (y : ℤ). mag y < H) (sym (neg_is (suc (a / m) * m) p))
    (under (suc (a / m) * m) H p (subst (λ (y : ℕ). suc (a / m) * m ≤ y) e (mul-le-mul_right m ((div-lt_iff_lt-mul {k = m} {x = a} {y = q} h).1 (subst (λ (y : ℕ). a < y) (sym e) l)))))
  where
    p : 0 < suc (a / m) * m
    p = (more a (a / m) m (a % m) (div-add-mod' a m) (mod-lt a h)).2

    under : (x H : ℕ) → 0 < x → x ≤ H → x - 1 < H
    under x H a b = omega arith

pub shr_twice : (z : ℤ) (m n : ℕ) → shr_z (shr_z z m) n ≡ shr_z z (m * n)
shr_twice (pos a) m n = ap pos (div-div-eq-div-mul a m n)
shr_twice (negsuc a) m n = ap negsuc (div-div-eq-div-mul a m n)

-- ---- products
pub signed_times : (t : Bool) (x : ℕ) (l : ℤ) → signed t x *ℤ l ≡ signed (unlike (below0 l) t) (x * nat_abs l)
signed_times false x (pos a) = refl
signed_times false x (negsuc a) = refl
signed_times true zero (pos a) = ap pos (zero-mul a) ∙ sym (ap (signed true) (zero-mul a))
signed_times true zero (negsuc a) = ap (signed true) (zero-mul (suc a)) ∙ sym (ap pos (zero-mul (suc a)))
signed_times true (suc x) (pos a) = refl
signed_times true (suc x) (negsuc a) = refl

pub times_signed : (l : ℤ) (t : Bool) (x : ℕ) → l *ℤ signed t x ≡ signed (unlike (below0 l) t) (x * nat_abs l)
times_signed l t x = *ℤ_comm l (signed t x) ∙ signed_times t x l

same : (s : Bool) → unlike false s ≡ s
same true = refl
same false = refl

pub times_pos : (s : Bool) (a k : ℕ) → signed s a *ℤ pos k ≡ signed s (a * k)
times_pos s a k = signed_times s a (pos k) ∙ ap (λ (t : Bool). signed t (a * k)) (same s)

pub below_is : (s : Bool) (a : ℕ) → 0 < a → below0 (signed s a) ≡ s
below_is false a h = refl
below_is true zero h = absurd (not-suc-le-zero h)
below_is true (suc a) h = refl

-- ---- quotients, rounded down
shr_scale : (z : ℤ) (b c : ℕ) → 0 < c → shr_z (z *ℤ pos c) (b * c) ≡ shr_z z b
shr_scale (pos a) b c h = ap pos (mul-div-mul_right a b h)
shr_scale (negsuc a) b c h =
    ap (λ (y : ℤ). shr_z y (b * c)) (neg_is (suc a * c) (omega arith))
    ∙ ap negsuc (ap (λ (n : ℕ). (suc a * c - 1) / n) (mul_comm b c) ∙ sym (div-div-eq-div-mul (suc a * c - 1) c b) ∙ ap (λ (n : ℕ). n / b) (ap (λ (n : ℕ). n / c) (last a c h) ∙ digits_div a (short c h)))
  where
    last : (a c : ℕ) → 0 < c → suc a * c - 1 ≡ a * c + (c - 1)
    last a c h = omega arith

    short : (c : ℕ) → 0 < c → c - 1 < c
    short c h = omega arith

-- a / b and c / d are one fraction
pub shr_same : (s : Bool) (a b c d : ℕ) → 0 < b → 0 < d → a * d ≡ c * b → shr_z (signed s a) b ≡ shr_z (signed s c) d
shr_same s a b c d B D e =
    sym (shr_scale (signed s a) b d D)
    ∙ ap₂ shr_z (times_pos s a d ∙ ap (signed s) e ∙ sym (times_pos s c b)) (mul_comm b d)
    ∙ shr_scale (signed s c) d b B
