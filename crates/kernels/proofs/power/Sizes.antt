-- The significand: every product and sum fits a word, and the whole stays below 2. Assumes nothing.
use Rattle.std.proofs.Common.{◌≡◌, ℕ, ◌+◌, ◌*◌, ◌/◌, ◌^◌, ◌<◌, ◌≤◌, sym, refl, ap, ◌∙◌, ap₂, le_trans, le_of_eq, le_of_suc-le-suc, le-add_right, lt_of_le_of_lt, mul-le-mul_right, mul-le-mul, lt_of_mul-lt-mul_right, mul-le-mul_left, arith, lit<, lit≤, shr_lt}
use lib.Ieee.{binary32, binary64}
use Rattle.table.specs.Exact.{fact, P, taylor}
use Rattle.table.specs.Entry.{entry}
use Rattle.table.proofs.Entries.{entry_ge, entry_lt}
use Rattle.table.proofs.First.{ordered}
use Rattle.kernels.specs.Power.{hi, coef, single1, double4, double3, double2, double1, part, significand}
use Rattle.kernels.proofs.Definitions.Hi.{hi_le}
use Rattle.kernels.proofs.high.Halves.{half_fits, hi_small}
use Rattle.kernels.proofs.Definitions.Sizes.{significand_low, significand_high}

-- a factor of 32 digits
scaled : (e y most : ℕ) → e < 2 ^ 32 → y ≤ most → e * y ≤ 0xffffffff * most
scaled e y most h k = mul-le-mul (le_of_suc-le-suc h) k

-- ---- e ^ s - 1, single
abbrev h1 : ℕ → ℕ
h1 e = 0xb17217f7 + e * 4030331 / 2 ^ 32

q_sizes : (q : ℕ) → q ≤ 0xffffffff * 0xb1af9771 → (q < 2 ^ 64) × (q / 2 ^ 32 ≤ 0xb1af9770)
q_sizes q h = (omega arith, omega arith)

pub single_sizes : (f : ℕ) → f < 2 ^ 44 → (f / 2 ^ 12 * h1 (f / 2 ^ 12) < 2 ^ 64) × (f / 2 ^ 12 * h1 (f / 2 ^ 12) / 2 ^ 32 ≤ 0xb1af9770)
single_sizes f h = let e : f / 2 ^ 12 < 2 ^ 32 = omega arith in q_sizes (f / 2 ^ 12 * h1 (f / 2 ^ 12)) (scaled (f / 2 ^ 12) (h1 (f / 2 ^ 12)) 0xb1af9771 e (omega arith))

pub single_is : (f : ℕ) → f / 2 ^ 12 * h1 (f / 2 ^ 12) / 2 ^ 32 ≡ part binary32 f
unfolding part single1 coef fact
single_is f = refl

-- ---- double: the upper terms
abbrev h4 : ℕ → ℕ
h4 e = 0x276556d + e * 0x5761 / 2 ^ 32

abbrev h3 : ℕ → ℕ
h3 e = 0xe35846b82 + e * h4 e / 2 ^ 32

abbrev h2 : ℕ → ℕ
h2 e = 0x3d7f7bff058b + e * (h3 e / 2 ^ 8) / 2 ^ 24

h3_sizes : (q : ℕ) → q ≤ 0xffffffff * 0x276accd → (q < 2 ^ 64) × ((0xe35846b82 + q / 2 ^ 32) / 2 ^ 8 ≤ 0xe37fb18) × (0xe35846b82 + q / 2 ^ 32 < 2 ^ 64)
h3_sizes q h = (omega arith, omega arith, omega arith)

h2_sizes : (r : ℕ) → r ≤ 0xffffffff * 0xe37fb18 → (r < 2 ^ 64) × (0x3d7f7bff058b + r / 2 ^ 24 ≤ 0x3d8db3fa1d7c)
h2_sizes r h = (omega arith, omega arith)

pub wide : {n : ℕ} → n ≤ 0xb1afa5abcbecf5 → n < 2 ^ 64
wide h = omega arith

pub record Chain (e : ℕ) : Type 0 where
  pub q_fits : e * h4 e < 2 ^ 64
  pub b_fits : h3 e < 2 ^ 64
  pub r_fits : e * (h3 e / 2 ^ 8) < 2 ^ 64
  pub c_le : h2 e ≤ 0x3d8db3fa1d7c

pub chain_sizes : (f : ℕ) → f < 2 ^ 44 → Chain (f / 2 ^ 12)
chain_sizes f h =
    let e = f / 2 ^ 12 in
    let s : e < 2 ^ 32 = omega arith in
    let q = h3_sizes (e * h4 e) (scaled e (h4 e) 0x276accd s (omega arith)) in
    let r = h2_sizes (e * (h3 e / 2 ^ 8)) (scaled e (h3 e / 2 ^ 8) 0xe37fb18 s q.1) in
    record { q_fits = q.0; b_fits = q.2; r_fits = r.0; c_le = r.1 }

pub chain_is : (f : ℕ) → h2 (f / 2 ^ 12) ≡ double2 f
unfolding double2 double3 double4 coef fact
chain_is f = refl

-- ---- the last two terms
pub h_le : (x y u : ℕ) → x < 2 ^ 64 → y ≤ 0x3d8db3fa1d7c → u ≡ hi x y → 0xb17217f7d1cf79 + u ≤ 0xb1afa5abcbecf5
h_le x y u h k e = sum u (le_trans (le_of_eq e) (le_trans (hi_small x y h) k))
  where
    sum : (n : ℕ) → n ≤ 0x3d8db3fa1d7c → 0xb17217f7d1cf79 + n ≤ 0xb1afa5abcbecf5
    sum n h = omega arith

pub double_is : (f y u : ℕ) → y ≡ double2 f → u ≡ hi (2 ^ 20 * f) y → hi (2 ^ 20 * f) (0xb17217f7d1cf79 + u) ≡ part binary64 f
unfolding part double1 coef fact
double_is f y u d e = ap (λ (z : ℕ). hi (2 ^ 20 * f) (0xb17217f7d1cf79 + z)) (e ∙ ap (hi (2 ^ 20 * f)) d)

-- ---- with the table: an entry and what is taken of it stay below 2 ^ 63, the last entry by a computed test
last : entry 255 * (2 ^ 64 + 0xb1afa5abcbecf5) < 2 ^ 63 * 2 ^ 64
unfolding entry P taylor fact
last = lit< tt

together : (t u P D : ℕ) → u * P ≤ t * D → (t + u) * P ≤ t * (P + D)
together t u P D h = omega arith

-- the code's steps, joined
pub double : (i f t d w : ℕ) → i < 256 → t ≡ entry i → d ≡ part binary64 f → d ≤ 0xb1afa5abcbecf5 → w ≡ hi t d
    → (t + w ≡ significand binary64 i f) × (2 ^ 62 ≤ t + w) × (t + w < 2 ^ 63)
unfolding significand
double i f t d w h te de k we =
    let e : t + w ≡ entry i + hi (entry i) d = ap (λ (x : ℕ). t + x) we ∙ ap (λ (x : ℕ). x + hi x d) te in
    (e ∙ ap (λ (x : ℕ). entry i + hi (entry i) x) de, le_trans (le_trans (entry_ge i h) (le_of_eq (sym te))) (le-add_right t w), lt_of_le_of_lt (le_of_eq e) below)
  where
    below : entry i + hi (entry i) d < 2 ^ 63
    below =
        lt_of_mul-lt-mul_right (2 ^ 64)
        (lt_of_le_of_lt
        (le_trans (together (entry i) (hi (entry i) d) (2 ^ 64) 0xb1afa5abcbecf5 (le_trans (hi_le (entry i) d) (mul-le-mul_left (entry i) k)))
        (mul-le-mul_right (2 ^ 64 + 0xb1afa5abcbecf5) (ordered i 255 (le_of_suc-le-suc h) (lit≤ tt))))
        last)

pub single_fits : (i x d : ℕ) → i < 256 → x ≡ entry i → d ≤ 0xb1af9770 → x / 2 ^ 31 * d < 2 ^ 64
single_fits i x d h e k = half_fits (x / 2 ^ 31) d (shr_lt 32 31 (lt_of_le_of_lt (le_of_eq e) (entry_lt i h))) (lt_of_le_of_lt k (lit< tt))

pub single : (i f x d : ℕ) → i < 256 → f < 2 ^ 44 → x ≡ entry i → d ≡ part binary32 f
    → (x / 2 ^ 31 + x / 2 ^ 31 * d / 2 ^ 40 ≡ significand binary32 i f) × (2 ^ 31 ≤ x / 2 ^ 31 + x / 2 ^ 31 * d / 2 ^ 40) × (x / 2 ^ 31 + x / 2 ^ 31 * d / 2 ^ 40 < 2 ^ 32)
unfolding significand
single i f x d h k xe de =
    let e = ap₂ (λ (a b : ℕ). a / 2 ^ 31 + a / 2 ^ 31 * b / 2 ^ 40) xe de in
    (e, le_trans (significand_low i f h) (le_of_eq (sym e)), lt_of_le_of_lt (le_of_eq e) (significand_high i f h k))
