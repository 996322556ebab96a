-- The single's power next to 0: 1 within 2 ^ -26 of a factor of 2, so that the logarithm of 1, which is one unit, still gives 1. Assumes nothing.
use mathlib.Core.Path.{◌≡◌, ap, ◌∙◌}
use mathlib.Core.Bool.{Bool, true, false}
use Prim.Native.Nat.{ℕ, zero, suc, ◌+◌, ◌-◌, ◌*◌, ◌/◌, ◌%◌, ◌^◌, ◌≤◌, ◌<◌, zero-le}
use native.Mathlib.Nat.{le_trans, lt_of_le_of_lt, mul-le-mul, mul-le-mul_left, mul-le-mul_right, lt_of_mul-lt-mul_right, le-div_iff_mul-le, div-mul-le_self}
use native.Mathlib.Omega.{arith}
use lib.Dec.{T, eqb, eqb→eq, lit<, lit≤}
use lib.IntN.{ℤ, pos, negsuc}
use lib.Ieee.{Float, nan, inf, fin, binary32, round}
use Rattle.table.specs.Exact.{P, taylor, fact}
use Rattle.table.specs.Entry.{entry}
use Rattle.table.specs.Whole.{signed}
use Rattle.table.proofs.Every.{all, all-at}
use Rattle.kernels.specs.Power.{coef, upper, single1, part, significand, finish, power}
use Rattle.laws.specs.Distances.{float_one}
use Rattle.laws.proofs.Distances.pow.Raised.{over, raised_n, over_lt}

-- ---- the significand grows with its argument
divided : (a b c : ℕ) → zero < c → a ≤ b → a / c ≤ b / c
divided a b c z h = (le-div_iff_mul-le z).1 (le_trans (div-mul-le_self a c) h)

more : (a b c : ℕ) → b ≤ c → a + b ≤ a + c
more a b c h = omega arith

single1_mono : (f g : ℕ) → f ≤ g → single1 f ≤ single1 g
unfolding single1
single1_mono f g h =
    more (coef 40 1) (upper f * coef 40 2 / 2 ^ 32) (upper g * coef 40 2 / 2 ^ 32)
    (divided (upper f * coef 40 2) (upper g * coef 40 2) (2 ^ 32) (lit< tt) (mul-le-mul_right (coef 40 2) (divided f g (2 ^ 12) (lit< tt) h)))

part_mono : (f g : ℕ) → f ≤ g → part binary32 f ≤ part binary32 g
unfolding part
part_mono f g h = divided (upper f * single1 f) (upper g * single1 g) (2 ^ 32) (lit< tt) (mul-le-mul (divided f g (2 ^ 12) (lit< tt) h) (single1_mono f g h))

significand_mono : (i f g : ℕ) → f ≤ g → significand binary32 i f ≤ significand binary32 i g
unfolding significand
significand_mono i f g h =
    let t : ℕ = entry i / 2 ^ 31 in
    more t (t * part binary32 f / 2 ^ 40) (t * part binary32 g / 2 ^ 40) (divided (t * part binary32 f) (t * part binary32 g) (2 ^ 40) (lit< tt) (mul-le-mul_left t (part_mono f g h)))

-- ---- which significands round to 1: a computed test
is_one_def : Float → Bool
is_one_def nan = false
is_one_def (inf s) = false
is_one_def (fin true m e) = false
is_one_def (fin false m (negsuc e)) = false
is_one_def (fin false m (pos zero)) = eqb m 1
is_one_def (fin false m (pos (suc e))) = false

is_one : (x : Float) → T (is_one_def x) → x ≡ float_one
unfolding is_one_def
is_one nan h = absurd h
is_one (inf s) h = absurd h
is_one (fin true m e) h = absurd h
is_one (fin false m (negsuc e)) h = absurd h
is_one (fin false m (pos zero)) h = ap (λ (n : ℕ). fin false n (pos 0)) (eqb→eq m 1 h)
is_one (fin false m (pos (suc e))) h = absurd h

-- those of M, M + 1, .. n of them
abbrev Ones : ℤ → (M n : ℕ) → Type 0
Ones k M n = T (all (λ (j : ℕ). is_one_def (finish binary32 k (M + j))) 0 n)

tested : (k : ℤ) (M n m : ℕ) → Ones k M n → M ≤ m → m < M + n → finish binary32 k m ≡ float_one
tested k M n m h l r =
    ap (finish binary32 k) (omega (arith, l)) ∙ is_one (finish binary32 k (M + (m - M))) (all-at (λ (j : ℕ). is_one_def (finish binary32 k (M + j))) n h (m - M) (omega (arith, l, r)))

-- from a to b
between : (k : ℤ) (i a b M n f : ℕ) → Ones k M n × (M ≤ significand binary32 i a) × (significand binary32 i b < M + n) → a ≤ f → f ≤ b
    → finish binary32 k (significand binary32 i f) ≡ float_one
between k i a b M n f t l r =
    tested k M n (significand binary32 i f) t.0 (le_trans t.1 (significand_mono i a f l)) (lt_of_le_of_lt (significand_mono i f b r) t.2)

ones_up : Ones (pos 0) (2 ^ 31) 23 × (2 ^ 31 ≤ significand binary32 0 0) × (significand binary32 0 (2 ^ 26) < 2 ^ 31 + 23)
unfolding is_one_def finish round significand part single1 coef entry P taylor fact
ones_up = (tt, lit≤ tt, lit< tt)

ones_down : Ones (negsuc 0) (2 ^ 32 - 59) 45 × (2 ^ 32 - 59 ≤ significand binary32 255 (2 ^ 44 - 2 ^ 26)) × (significand binary32 255 (2 ^ 44 - 1) < 2 ^ 32 - 59 + 45)
unfolding is_one_def finish round significand part single1 coef entry P taylor fact
ones_down = (tt, lit≤ tt, lit< tt)

-- ---- the power next to 0
above : (n : ℕ) → n ≤ 2 ^ 26 → power binary32 (pos n) ≡ float_one
unfolding power
above n h =
    ap (λ (k : ℕ). finish binary32 (pos k) (significand binary32 (n / 2 ^ 44 % 256) (n % 2 ^ 44))) (whole n h)
    ∙ ap (λ (i : ℕ). finish binary32 (pos 0) (significand binary32 i (n % 2 ^ 44))) (index n h)
    ∙ ap (λ (f : ℕ). finish binary32 (pos 0) (significand binary32 0 f)) (omega (arith, h))
    ∙ between (pos 0) 0 0 (2 ^ 26) (2 ^ 31) 23 n ones_up zero-le h
  where
    whole : (n : ℕ) → n ≤ 2 ^ 26 → n / 2 ^ 52 ≡ 0
    whole n h = omega arith

    index : (n : ℕ) → n ≤ 2 ^ 26 → n / 2 ^ 44 % 256 ≡ 0
    index n h = omega arith

below : (n : ℕ) → suc n ≤ 2 ^ 26 → power binary32 (negsuc n) ≡ float_one
unfolding power
below n h =
    ap (λ (k : ℕ). finish binary32 (negsuc k) (significand binary32 (256 - suc (n / 2 ^ 44 % 256)) (2 ^ 44 - suc (n % 2 ^ 44)))) (whole n h)
    ∙ ap (λ (i : ℕ). finish binary32 (negsuc 0) (significand binary32 i (2 ^ 44 - suc (n % 2 ^ 44)))) (index n h)
    ∙ ap (λ (f : ℕ). finish binary32 (negsuc 0) (significand binary32 255 f)) (omega (arith, h))
    ∙ between (negsuc 0) 255 (2 ^ 44 - 2 ^ 26) (2 ^ 44 - 1) (2 ^ 32 - 59) 45 (2 ^ 44 - suc n) ones_down (omega (arith, h)) (omega arith)
  where
    whole : (n : ℕ) → suc n ≤ 2 ^ 26 → n / 2 ^ 52 ≡ 0
    whole n h = omega arith

    index : (n : ℕ) → suc n ≤ 2 ^ 26 → 256 - suc (n / 2 ^ 44 % 256) ≡ 255
    index n h = omega arith

pub power_one : (s : Bool) (z : ℕ) → z ≤ 2 ^ 26 → power binary32 (signed s z) ≡ float_one
power_one false n h = above n h
power_one true zero h = above 0 h
power_one true (suc n) h = below n h

-- ---- one unit of logarithm
pub one_unit : (s : Bool) (x b : ℕ) → x ≤ 16 * b → zero < b → raised_n binary32 s b (x * 1) ≤ 2 ^ 26
unfolding raised_n
one_unit s x b h z =
    let o : ℕ = over binary32 s b in
    go ((x * 1 * 2 ^ 19 + o) / (b * 1)) x b o h (over_lt binary32 s b z) (div-mul-le_self (x * 1 * 2 ^ 19 + o) (b * 1))
  where
    last : (q : ℕ) → q < 2 ^ 23 + 1 → 8 * q ≤ 2 ^ 26
    last q l = omega arith

    go : (q x b o : ℕ) → x ≤ 16 * b → o < b * 1 → q * (b * 1) ≤ x * 1 * 2 ^ 19 + o → 8 * q ≤ 2 ^ 26
    go q x b o h k l = last q (lt_of_mul-lt-mul_right b (omega arith))
