-- `wide::product` meets its contract: the columns with their carries, less what the signs count, are u * v. Assumes nothing.
use Rattle.std.proofs.Common.{◌≡◌, ℕ, ◌+◌, ◌-◌, ◌*◌, ◌/◌, ◌%◌, ◌^◌, ◌<◌, sym, ap, ◌∙◌, subst, le_trans, le_of_eq, lt_of_lt_of_le, lt_of_le_of_lt, le_of_lt, mul-le-mul_right, mod-lt, mod-eq_of_lt, add-zero, add_comm, mul-div_cancel, mul-le-mul_left, mul-suc, arith, pow_pos, pow-add, shl_lt, shr_lt, w64, Fits}
use native.Mathlib.Nat.{add-lt-add_of_lt_of_le, mul-mod_left}
use lib.Arith.{digits_lt, mod-mul}
use lib.Pow.{split, add-lt-pow}
use lib.Bits.{bit_and, and_mask, mask_lt}
use mir.Facts.{Fits-bits}
use Rattle.soft.proofs.wide.Columns.{signed, halves}
use Rattle.soft.proofs.wide.product.Goals as goal

-- what a shift to the left keeps
cut : (a N K : ℕ) → 0 < N → 0 < K → a * N % (K * N) ≡ a % K * N
cut a N K n k =
    mod-mul (a * N) k n ∙ (λ i. mul-div_cancel a n i % K * N + mul-mod_left a N i) ∙ add-zero (a % K * N)

-- the low 32 bits of a number, as the program takes them
abbrev low : ℕ → ℕ
low n = bit_and n 0xffff_ffff

-- the program's columns, its `g + e` and its `low`, with `lo` for how the low 32 bits of a number are taken
abbrev first_of : (lo : ℕ → ℕ) (u v : ℕ) → ℕ
first_of lo u v = lo u * lo v / 2 ^ 32 + u / 2 ^ 32 * (v / 2 ^ 32)

abbrev second_of : (lo : ℕ → ℕ) (u v : ℕ) → ℕ
second_of lo u v = lo (first_of lo u v) + lo u * lo v

abbrev third_of : (lo : ℕ → ℕ) (u v x y : ℕ) → ℕ
third_of lo u v x y = lo (second_of lo u v) + lo x * lo y

abbrev high_of : (lo : ℕ → ℕ) (u v x y : ℕ) → ℕ
high_of lo u v x y = first_of lo u v / 2 ^ 32 + u / 2 ^ 32 * (v / 2 ^ 32) + (second_of lo u v / 2 ^ 32 + third_of lo u v x y / 2 ^ 32)

abbrev low_of : (lo : ℕ → ℕ) (u v x y : ℕ) → ℕ
low_of lo u v x y = third_of lo u v x y * 2 ^ 32 % 2 ^ 64 + lo (lo u * lo v)

-- a number of s bits times one of t bits has at most s + t bits
mul-lt : {a b : ℕ} (s t : ℕ) → a < 2 ^ s → b < 2 ^ t → a * b < 2 ^ (s + t)
mul-lt {a} s t ha hb = lt_of_le_of_lt (mul-le-mul_left a (le_of_lt hb)) (shl_lt s t ha)

product_fits : {a b : ℕ} → a < 2 ^ 32 → b < 2 ^ 32 → Fits w64 (a * b)
product_fits ha hb = Fits-bits 64 tt (mul-lt 32 32 ha hb)

-- a column: a product, and 32 bits more
column_fits : {c a b : ℕ} → c < 2 ^ 32 → a < 2 ^ 32 → b < 2 ^ 32 → Fits w64 (c + a * b)
column_fits {c} {a} {b} hc ha hb =
    Fits-bits (32 + 32) tt
    (lt_of_lt_of_le (add-lt-add_of_lt_of_le hc (mul-le-mul_right b (le_of_lt ha)))
    (le_trans (le_of_eq (add_comm (2 ^ 32) (2 ^ 32 * b) ∙ sym (mul-suc (2 ^ 32) b))) (le_trans (mul-le-mul_left (2 ^ 32) hb) (le_of_eq (sym (pow-add 2 32 32))))))

-- a column moved up by 32 bits, and 32 bits more
low_fits : (n m : ℕ) → Fits w64 (n * 2 ^ 32 % 2 ^ 64 + low m)
low_fits n m =
    Fits-bits 64 tt
    (subst (λ (k : ℕ). k + low m < 2 ^ 64) (sym (cut n (2 ^ 32) (2 ^ 32) (pow_pos 32) (pow_pos 32)))
    (digits_lt {q = n % 2 ^ 32} {m = 2 ^ 32} {c = 2 ^ 32} (mod-lt n (pow_pos 32)) (mask_lt m 32)))

-- a - b modulo 2 ^ 64, and back
wrapped : (a b : ℕ) → b < 2 ^ 64 → ((a + (2 ^ 64 - b)) % 2 ^ 64 + b) % 2 ^ 64 ≡ a % 2 ^ 64
wrapped a b h = omega arith

-- the contract from what each call ensures
abbrev Meets : (lo : ℕ → ℕ) → Type 0
Meets lo =
    (u v x y k r : ℕ) → u < 2 ^ 64 → v < 2 ^ 64 → x < 2 ^ 64 → y < 2 ^ 64 → r < 2 ^ 64
    → (x + lo u) % 2 ^ 64 ≡ u / 2 ^ 32 → (y + v / 2 ^ 32) % 2 ^ 64 ≡ lo v
    → (k + x / 2 ^ 63 * lo y) % 2 ^ 64 ≡ high_of lo u v x y % 2 ^ 64 → (r + y / 2 ^ 63 * x) % 2 ^ 64 ≡ k
    → r * 2 ^ 64 + low_of lo u v x y ≡ u * v

by_rest : Meets (λ n. n % 2 ^ 32)
by_rest u v x y k r hu hv hx hy hr ex ey ek er =
    let sx = signed (u / 2 ^ 32) (u % 2 ^ 32) x ex (mod-lt u (pow_pos 32)) (shr_lt 32 32 hu) hx in
    let sy = signed (v % 2 ^ 32) (v / 2 ^ 32) y ey (shr_lt 32 32 hv) (mod-lt v (pow_pos 32)) hy in
    ap (λ (n : ℕ). r * 2 ^ 64 + (n + u % 2 ^ 32 * (v % 2 ^ 32) % 2 ^ 32)) (cut (third_of (λ n. n % 2 ^ 32) u v x y) (2 ^ 32) (2 ^ 32) (pow_pos 32) (pow_pos 32))
    ∙ halves (2 ^ 32) (u % 2 ^ 32) (u / 2 ^ 32) (v % 2 ^ 32) (v / 2 ^ 32) x (x % 2 ^ 32) (y % 2 ^ 32) (x / 2 ^ 63) (y / 2 ^ 63) k r (pow_pos 32) hr
    (subst (λ (n : ℕ). n / 2 ^ 64 < 2 ^ 64) (λ i. sym (split u 32) i * sym (split v 32) i) (shr_lt 64 64 (mul-lt 64 64 hu hv)))
    sx.0 sx.1 sy.0 ek er
    ∙ (λ i. split u 32 i * split v 32 i)

-- a mask of 32 ones takes the remainder by 2 ^ 32
by_mask : Meets low
by_mask = subst (λ (lo : ℕ → ℕ). Meets lo) (λ i n. sym (and_mask n 32) i) by_rest

pub overflow_mul-p0 : goal.overflow_mul-p0
overflow_mul-p0 c = product_fits (mask_lt c.args.u 32) (mask_lt c.args.v 32)

pub overflow_mul-p2 : goal.overflow_mul-p2
overflow_mul-p2 c = product_fits (shr_lt 32 32 c.ranges.u.fits) (shr_lt 32 32 c.ranges.v.fits)

-- the differences, as the program takes them
abbrev x_of : (u : ℕ) → ℕ
x_of u = (u / 2 ^ 32 + (2 ^ 64 - low u)) % 2 ^ 64

abbrev y_of : (v : ℕ) → ℕ
y_of v = (low v + (2 ^ 64 - v / 2 ^ 32)) % 2 ^ 64

word : (n : ℕ) → n % 2 ^ 64 < 2 ^ 64
word n = mod-lt n (pow_pos 64)

small : {n : ℕ} → n < 2 ^ 32 → n < 2 ^ 64
small h = omega arith

pub overflow_mul-d : goal.overflow_mul-d
overflow_mul-d c = product_fits (mask_lt (x_of c.args.u) 32) (mask_lt (y_of c.args.v) 32)

pub overflow_add-t : goal.overflow_add-t
overflow_add-t c =
    column_fits (shr_lt 32 32 (mul-lt 32 32 (mask_lt c.args.u 32) (mask_lt c.args.v 32))) (shr_lt 32 32 c.ranges.u.fits) (shr_lt 32 32 c.ranges.v.fits)

pub overflow_add-w : goal.overflow_add-w
overflow_add-w c =
    column_fits (mask_lt (first_of low c.args.u c.args.v) 32) (mask_lt c.args.u 32) (mask_lt c.args.v 32)

pub overflow_add-c : goal.overflow_add-c
overflow_add-c c =
    column_fits (mask_lt (second_of low c.args.u c.args.v) 32) (mask_lt (x_of c.args.u) 32) (mask_lt (y_of c.args.v) 32)

pub overflow_add-g : goal.overflow_add-g
overflow_add-g c =
    column_fits (shr_lt 32 32 (overflow_add-t c).fits) (shr_lt 32 32 c.ranges.u.fits) (shr_lt 32 32 c.ranges.v.fits)

pub overflow_add-e : goal.overflow_add-e
overflow_add-e c = Fits-bits 33 tt (add-lt-pow 32 (shr_lt 32 32 (overflow_add-w c).fits) (shr_lt 32 32 (overflow_add-c c).fits))

pub overflow_add-low : goal.overflow_add-low
overflow_add-low c =
    low_fits _ (low c.args.u * low c.args.v)

pub returns : goal.returns
returns c =
    let u = c.args.u in
    let v = c.args.v in
    let x = x_of u in
    let y = y_of v in
    let k = (high_of low u v x y % 2 ^ 64 + (2 ^ 64 - c.negative.result)) % 2 ^ 64 in
    let r = (k + (2 ^ 64 - c.negative-2.result)) % 2 ^ 64 in
    (λ i. c.from.ensures i * 2 ^ 64 + c.from-2.ensures i)
    ∙ by_mask u v x y k r
    c.ranges.u.fits c.ranges.v.fits (word _) (word _) (word _)
    (wrapped (u / 2 ^ 32) (low u) (small (mask_lt u 32)) ∙ mod-eq_of_lt (small (shr_lt 32 32 c.ranges.u.fits)))
    (wrapped (low v) (v / 2 ^ 32) (small (shr_lt 32 32 c.ranges.v.fits)) ∙ mod-eq_of_lt (small (mask_lt v 32)))
    (ap (λ (n : ℕ). (k + n) % 2 ^ 64) (sym c.negative.ensures) ∙ wrapped _ c.negative.result c.negative.type_inv ∙ mod-eq_of_lt (word _))
    (ap (λ (n : ℕ). (r + n) % 2 ^ 64) (sym c.negative-2.ensures) ∙ wrapped _ c.negative-2.result c.negative-2.type_inv ∙ mod-eq_of_lt (word _))
