-- How large the whole numbers of the single kernels are: sums and products of either sign, the two logarithms by their exponent, and a significand,
-- which has 32 digits. Assumes nothing.
use Rattle.std.proofs.Common.{◌≡◌, ℕ, zero, suc, ◌+◌, ◌-◌, ◌*◌, ◌/◌, ◌^◌, ◌<◌, ◌≤◌, Bool, true, false, cond, T, eqb, ltb, leb, ℤ, pos, negsuc, ◌+ℤ◌, ◌-ℤ◌, ◌*ℤ◌, neg_ℤ, nat_abs, sym, refl, ap, le_trans, le_of_eq, le_refl, le_of_suc-le-suc, le-add_right, lt_of_le_of_lt, add-zero, add-le-add, mul-le-mul_right, mod-lt, mul_comm, div-lt_iff_lt-mul, mul-le-mul, add_comm, mul-le-mul_left, div-le_self, sub-le, le-add_left, arith, lit<, lit≤, ltb→lt, shr_lt}
use native.Mathlib.Nat.{div-le_of_le-mul}
use lib.IntN.{sub_ℕ}
use lib.Pow.{shr_mono, le_ones}
use lib.Signed.{shr_z}
use lib.Ieee.{binary32}
use lib.Ieee.Fits.{and_r}
use Rattle.table.specs.Exact.{N, P, taylor, fact}
use Rattle.table.specs.Entry.{entry, first_from}
use Rattle.table.specs.Whole.{signed, rest_z}
use Rattle.table.proofs.Entries.{entry_ge}
use Rattle.table.proofs.First.{ordered}
use Rattle.kernels.specs.Power.{coef, upper, single1, part, significand}
use Rattle.kernels.specs.Logarithm.{binade, moved, first24, steps, gap63, low63, low22, below24, next_to_one, cubic, logarithm, step_log_def}

-- ---- numbers of either sign
pub nat_abs_neg : (z : ℤ) → nat_abs (neg_ℤ z) ≡ nat_abs z
nat_abs_neg (pos zero) = refl
nat_abs_neg (pos (suc n)) = refl
nat_abs_neg (negsuc n) = refl

pub nat_abs_signed : (s : Bool) (n : ℕ) → nat_abs (signed s n) ≡ n
nat_abs_signed false n = refl
nat_abs_signed true n = nat_abs_neg (pos n)

pub nat_abs_mul : (a b : ℤ) → nat_abs (a *ℤ b) ≡ nat_abs a * nat_abs b
nat_abs_mul (pos a) (pos b) = refl
nat_abs_mul (pos a) (negsuc b) = nat_abs_neg (pos (a * suc b))
nat_abs_mul (negsuc a) (pos b) = nat_abs_neg (pos (suc a * b))
nat_abs_mul (negsuc a) (negsuc b) = refl

sub_most : (a b : ℕ) → nat_abs (sub_ℕ a b) ≤ a + b
sub_most a b = go (ltb a b) (ltb→lt a b)
  where
    go : (t : Bool) → (T t → a < b) → nat_abs (cond t (negsuc (b - suc a)) (pos (a - b))) ≤ a + b
    go true l = omega (arith, l tt)
    go false l = omega arith

pub nat_abs_add : (a b : ℤ) → nat_abs (a +ℤ b) ≤ nat_abs a + nat_abs b
nat_abs_add (pos a) (pos b) = le_refl (a + b)
nat_abs_add (pos a) (negsuc b) = sub_most a (suc b)
nat_abs_add (negsuc a) (pos b) = le_trans (sub_most b (suc a)) (le_of_eq (add_comm b (suc a)))
nat_abs_add (negsuc a) (negsuc b) = omega arith

pub nat_abs_less : (a : ℤ) (l : ℕ) → nat_abs (a -ℤ pos l) ≤ nat_abs a + l
nat_abs_less a l = le_trans (nat_abs_add a (neg_ℤ (pos l))) (le_of_eq (ap (λ (x : ℕ). nat_abs a + x) (nat_abs_neg (pos l))))

nat_abs_cond : (b : Bool) (x y : ℤ) (n : ℕ) → (T b → nat_abs x ≤ n) → nat_abs y ≤ n → nat_abs (cond b x y) ≤ n
nat_abs_cond true x y n h g = h tt
nat_abs_cond false x y n h g = g

-- a quotient rounded down is at most the whole number that its dividend does not pass
pub shr_most : (z : ℤ) (b c : ℕ) → 0 < b → nat_abs z ≤ b * c → nat_abs (shr_z z b) ≤ c
shr_most (pos a) b c p h = div-le_of_le-mul b h
shr_most (negsuc a) b c p h = (div-lt_iff_lt-mul p).1 (le_trans h (le_of_eq (mul_comm b c)))

pub rest_lt : (z : ℤ) (m : ℕ) → 0 < m → rest_z z m < m
rest_lt (pos a) m p = mod-lt a p
rest_lt (negsuc a) m p = omega arith

-- ---- the parts of a logarithm
first_most : (d i M : ℕ) → first_from d i M ≤ i + d
unfolding first_from
first_most zero i M = le_of_eq (sym (add-zero i))
first_most (suc d) i M = go (leb M (entry i)) (first_from d (suc i) M) (first_most d (suc i) M)
  where
    go : (b : Bool) (r : ℕ) → r ≤ suc i + d → cond b i r ≤ i + suc d
    go true r h = omega arith
    go false r h = omega arith

gap_most : (i m : ℕ) → gap63 i m ≤ 2 ^ 63
unfolding gap63
gap_most i m = sub-le (2 ^ 63) (m * (entry (256 - i) / 2 ^ 23))

low63_most : (g : ℕ) → g ≤ 2 ^ 63 → low63 g ≤ 2 ^ 65
unfolding low63
low63_most g h = le_trans (rise g (2 ^ 63) (g / 2 ^ 24) (2 ^ 39) h (shr_mono 24 h)) (lit≤ tt)
  where
    rise : (g G e E : ℕ) → g ≤ G → e ≤ E
        → g + e * e / 2 ^ 31 * (2 ^ 30 + e * (2 ^ 31 / 3 + e / 2 ^ 10) / 2 ^ 39) / 2 ^ 15 ≤ G + E * E / 2 ^ 31 * (2 ^ 30 + E * (2 ^ 31 / 3 + E / 2 ^ 10) / 2 ^ 39) / 2 ^ 15
    rise g G e E k l =
        add-le-add k (shr_mono 15 (mul-le-mul (shr_mono 31 (mul-le-mul l l))
        (add-le-add (le_refl (2 ^ 30)) (shr_mono 39 (mul-le-mul l (add-le-add (le_refl (2 ^ 31 / 3)) (shr_mono 10 l)))))))

low22_most : (g : ℕ) → g ≤ 2 ^ 63 → low22 g ≤ 2 ^ 32
unfolding low22
low22_most g h = le_trans (rise (2 ^ 95 / N) (2 ^ 94 / N) (2 ^ 88 / (3 * N)) (g / 2 ^ 24) (2 ^ 39) (shr_mono 24 h)) (lit≤ tt)
  where
    rise : (a b c e E : ℕ) → e ≤ E
        → (a * e + e * e / 2 ^ 31 * (b + e * c / 2 ^ 32) / 2 ^ 8) / 2 ^ 40 ≤ (a * E + E * E / 2 ^ 31 * (b + E * c / 2 ^ 32) / 2 ^ 8) / 2 ^ 40
    rise a b c e E l =
        shr_mono 40 (add-le-add (mul-le-mul_left a l)
        (shr_mono 8 (mul-le-mul (shr_mono 31 (mul-le-mul l l)) (add-le-add (le_refl b) (shr_mono 32 (mul-le-mul_right c l))))))

below_most : (low : ℕ → ℕ) (n : ℕ) → ((g : ℕ) → g ≤ 2 ^ 63 → low g ≤ n) → (m : ℕ) → below24 low m ≤ n
unfolding below24
below_most low n h m = h (gap63 (first24 m) (moved 24 m)) (gap_most (first24 m) (moved 24 m))

next_small : (k : ℤ) (m : ℕ) → T (next_to_one k m) → m - 2 ^ 23 ≤ 2 ^ 14
next_small (negsuc k) m t = absurd t
next_small (pos k) m t = omega (arith, ltb→lt m (2 ^ 23 + 2 ^ 14) (and_r (eqb k 0) (ltb m (2 ^ 23 + 2 ^ 14)) t))

cubic_most : (n : ℕ) → n ≤ 2 ^ 14 → nat_abs (cubic n) ≤ 2 ^ 58
cubic_most n h =
    le_trans (nat_abs_less (pos (2 ^ 33 * n + n * n * n / 24576)) (2 ^ 9 * (n * n)))
    (le_trans
    (add-le-add (add-le-add (mul-le-mul_left (2 ^ 33) h) (le_trans (div-le_self (n * n * n) 24576) (mul-le-mul (mul-le-mul h h) h))) (mul-le-mul_left (2 ^ 9) (mul-le-mul h h)))
    (lit≤ tt))

-- ---- the logarithms: J steps of n, less l
steps_most : (k : ℤ) (i : ℕ) → i ≤ 256 → nat_abs (steps k i) ≤ nat_abs k * 256 + 256
steps_most k i h = le_trans (nat_abs_add (k *ℤ pos 256) (pos i)) (add-le-add (le_of_eq (nat_abs_mul k (pos 256))) h)

line_most : (k : ℤ) (i n l : ℕ) → i ≤ 256 → nat_abs (steps k i *ℤ pos n -ℤ pos l) ≤ (nat_abs k * 256 + 256) * n + l
line_most k i n l h =
    le_trans (nat_abs_less (steps k i *ℤ pos n) l)
    (add-le-add (le_trans (le_of_eq (nat_abs_mul (steps k i) (pos n))) (mul-le-mul_right n (steps_most k i h))) (le_refl l))

pub log_most : (m : ℕ) (e : ℤ) → nat_abs (logarithm binary32 m e) ≤ (nat_abs (binade m e) * 256 + 256) * 2 ^ 48 + 2 ^ 58
unfolding logarithm
log_most m e =
    let k = binade m e in
    let n = moved 24 m in
    let l = below24 low63 m / 2 ^ 7 in
    let j = steps k (first24 m) in
    nat_abs_cond (next_to_one k n) (cubic (n - 2 ^ 23)) (j *ℤ pos (N / 2 ^ 16) -ℤ pos l) ((nat_abs k * 256 + 256) * 2 ^ 48 + 2 ^ 58)
    (λ (t : T (next_to_one k n)). le_trans (cubic_most (n - 2 ^ 23) (next_small k n t)) (le-add_left (2 ^ 58) ((nat_abs k * 256 + 256) * 2 ^ 48)))
    (le_trans (line_most k (first24 m) (N / 2 ^ 16) l (first_most 256 0 _))
    (add-le-add (mul-le-mul_left (nat_abs k * 256 + 256) (lit≤ tt)) (shr_mono 7 (below_most low63 (2 ^ 65) low63_most m))))

pub step_most : (m : ℕ) (e : ℤ) → nat_abs (step_log_def binary32 m e) ≤ (nat_abs (binade m e) * 256 + 256) * 2 ^ 22 + 2 ^ 32
unfolding step_log_def
step_most m e =
    le_trans (line_most (binade m e) (first24 m) (2 ^ 22) (below24 low22 m) (first_most 256 0 _))
    (add-le-add (le_refl ((nat_abs (binade m e) * 256 + 256) * 2 ^ 22)) (below_most low22 (2 ^ 32) low22_most m))

-- ---- a significand: the entries ascend and so do the parts, hence the last of each is the highest
highest : entry 255 / 2 ^ 31 + entry 255 / 2 ^ 31 * ((2 ^ 32 - 1) * (coef 40 1 + (2 ^ 32 - 1) * coef 40 2 / 2 ^ 32) / 2 ^ 32) / 2 ^ 40 < 2 ^ 32
unfolding coef entry P taylor fact
highest = lit< tt

pub significand_high : (i f : ℕ) → i < 256 → f < 2 ^ 44 → significand binary32 i f < 2 ^ 32
unfolding significand part single1
significand_high i f h l =
    lt_of_le_of_lt
    (rise (coef 40 1) (coef 40 2) (entry i / 2 ^ 31) (entry 255 / 2 ^ 31) (upper f) (2 ^ 32 - 1) (shr_mono 31 (ordered i 255 (le_of_suc-le-suc h) (lit≤ tt))) (le_ones 32 (shr_lt 32 12 l)))
    highest
  where
    rise : (a b x X u U : ℕ) → x ≤ X → u ≤ U → x + x * (u * (a + u * b / 2 ^ 32) / 2 ^ 32) / 2 ^ 40 ≤ X + X * (U * (a + U * b / 2 ^ 32) / 2 ^ 32) / 2 ^ 40
    rise a b x X u U h l = add-le-add h (shr_mono 40 (mul-le-mul h (shr_mono 32 (mul-le-mul l (add-le-add (le_refl a) (shr_mono 32 (mul-le-mul_right b l)))))))

pub significand_low : (i f : ℕ) → i < 256 → 2 ^ 31 ≤ significand binary32 i f
unfolding significand
significand_low i f h = le_trans (shr_mono 31 (entry_ge i h)) (le-add_right (entry i / 2 ^ 31) _)
