-- The results of exp and pow: never negative, at most 2 ^ k for an argument below k ln 2, and exp at least 1 from 0 on; exp's size in either format. Assumes nothing.
use mathlib.Core.Path.{◌≡◌, sym, ap, ◌∙◌, subst}
use mathlib.Core.Bool.{Bool, true, false, cond}
use Prim.Native.Nat.{ℕ, zero, suc, ◌+◌, ◌*◌, ◌/◌, ◌^◌, ◌≤◌, ◌<◌, zero-le, suc-le-suc}
use native.Mathlib.Nat.{le_trans, le_of_eq, le_of_lt, lt_of_le_of_lt, lt_of_mul-lt-mul_right, mul-lt-mul_of_pos_left, mul-one, one-mul, mul-pos, mul-le-mul, mul-le-mul_left, mul-le-mul_right, div-lt_iff_lt-mul}
use native.Mathlib.Omega.{arith}
use lib.Dec.{T, ltb, ltb→lt, lit<}
use lib.IntN.{ℤ, pos, negsuc, nat_abs, sub_ℕ, ◌*ℤ◌}
use lib.Pow.{pow_pos, pow-add, pow_mono, shl_lt}
use lib.Signed.{lt_z, shr_z}
use lib.Ieee.{Float, nan, inf, fin, Format, binary32, binary64, emax, up, down, round, le}
use lib.Ieee.Fits.{down_pos}
use lib.Ieee.Order.{round_mono}
use Rattle.table.specs.Exact.{N}
use Rattle.table.specs.Whole.{signed, rest_z}
use Rattle.kernels.specs.Calls.{exp32, pow32}
use Rattle.kernels.specs.Power.{significand, places, finish, power}
use Rattle.kernels.specs.Logarithm.{step_log_def}
use Rattle.kernels.specs.Kernels.{turns, raised, powered, pow_at_def, exp_def, pow_def}
use Rattle.kernels.proofs.Definitions.Cases.{in_domain}
use Rattle.kernels.proofs.Definitions.Sizes.{nat_abs_signed, nat_abs_mul, shr_most, rest_lt, significand_low}
use Rattle.laws.proofs.Distances.power.Significand.{significand_high}
use Rattle.laws.proofs.Distances.Exp.{turns_hi}
use Rattle.laws.proofs.Values.Sizes.{Size, plus, plus_cond, plus_round, unit, one_round, round_size_in}

-- ---- never negative
plus_finish : (f : Format) (k : ℤ) (M : ℕ) → T (plus (finish f k M))
unfolding finish
plus_finish f k M =
    let r = round f false (M * up k) (2 ^ places f * down k) in
    plus_cond (lt_z k (sub_ℕ 1 (emax f))) (fin false 0 (pos 0)) (cond (lt_z (pos (emax f)) k) (inf false) r) tt
    (plus_cond (lt_z (pos (emax f)) k) (inf false) r tt (plus_round f (M * up k) (2 ^ places f * down k)))

plus_power : (f : Format) (Z : ℤ) → T (plus (power f Z))
unfolding power
plus_power f Z = plus_finish f (shr_z Z (2 ^ 52)) (significand f (rest_z (shr_z Z (2 ^ 44)) 256) (rest_z Z (2 ^ 44)))

pub plus_exp : (x : Float) → T (plus (exp32 x))
unfolding exp_def
plus_exp nan = tt
plus_exp (inf s) = tt
plus_exp (fin s m e) = plus_power binary32 (signed s (turns binary32 (m * up e) (down e)))

pub plus_pow : (x y : Float) → T (plus (pow32 x y))
unfolding pow_def
plus_pow nan y = tt
plus_pow (inf s) y = tt
plus_pow (fin s zero e) y = tt
plus_pow (fin true (suc m) e) y = tt
plus_pow (fin false (suc m) e) nan = plus_cond (powered nan) nan nan tt tt
plus_pow (fin false (suc m) e) (inf t) = plus_cond (powered (inf t)) nan nan tt tt
plus_pow (fin false (suc m) e) (fin t n d) =
    let l = step_log_def binary32 (suc m) e in
    plus_cond (powered (fin t n d)) (pow_at_def binary32 l (fin t n d)) nan (plus_power binary32 (raised binary32 t (n * up d) (down d) l)) tt

-- ---- at most 2 ^ k
size_cond : (k : ℕ) (b : Bool) (x y : Float) → (T b → Size k x) → Size k y → Size k (cond b x y)
size_cond k true x y h g = h tt
size_cond k false x y h g = g

not_over : (e : ℕ) (Z : ℤ) (k : ℕ) → k < suc e → nat_abs Z < k * 2 ^ 52 → T (lt_z (pos e) (shr_z Z (2 ^ 52))) → ⊥
not_over e (negsuc z) k l h t = t
not_over e (pos z) k l h t = less (z / 2 ^ 52) k e l ((div-lt_iff_lt-mul (pow_pos 52)).1 h) (ltb→lt e (z / 2 ^ 52) t)
  where
    less : (q k e : ℕ) → k < suc e → q < k → e < q → ⊥
    less q k e l h t = omega arith

under : (c : ℕ) (Z : ℤ) (M k : ℕ) → M < 2 ^ (c + 1) → nat_abs Z < k * 2 ^ 52 → M * up (shr_z Z (2 ^ 52)) ≤ 2 ^ k * (2 ^ c * down (shr_z Z (2 ^ 52)))
under c (negsuc z) M k a h =
    le_trans (le_of_eq (mul-one M)) (le_trans (le_of_lt a) (le_trans (le_of_eq (pow-add 2 c 1 ∙ sym (one-mul (2 ^ c * 2 ^ 1))))
    (mul-le-mul {n₁ = 1} {m₁ = 2 ^ c * 2 ^ 1} (pow_pos k) (mul-le-mul_left (2 ^ c) (pow_mono {i = 1} {j = suc (z / 2 ^ 52)} (suc-le-suc zero-le))))))
under c (pos z) M k a h =
    let q = z / 2 ^ 52 in
    le_trans (le_of_lt (shl_lt (c + 1) q a)) (le_trans (pow_mono (short c q k ((div-lt_iff_lt-mul (pow_pos 52)).1 h))) (le_of_eq (pow-add 2 k c ∙ ap (λ (x : ℕ). 2 ^ k * x) (sym (mul-one (2 ^ c))))))
  where
    short : (c q k : ℕ) → q < k → c + 1 + q ≤ k + c
    short c q k h = omega arith

digits : (f : Format) (i r : ℕ) → i < 256 → r < 2 ^ 44 → significand f i r < 2 ^ (places f + 1)
digits binary32 i r h l = significand_high binary32 i r h l
digits binary64 i r h l = significand_high binary64 i r h l

power_size : (f : Format) (Z : ℤ) (k : ℕ) → k < suc (emax f) → nat_abs Z < k * 2 ^ 52 → Size k (power f Z)
unfolding power finish
power_size f Z k l h =
    let K = shr_z Z (2 ^ 52) in
    let M = significand f (rest_z (shr_z Z (2 ^ 44)) 256) (rest_z Z (2 ^ 44)) in
    let r = round f false (M * up K) (2 ^ places f * down K) in
    size_cond k (lt_z K (sub_ℕ 1 (emax f))) (fin false 0 (pos 0)) (cond (lt_z (pos (emax f)) K) (inf false) r) (λ t. zero-le)
    (size_cond k (lt_z (pos (emax f)) K) (inf false) r (λ t. absurd (not_over (emax f) Z k l h t))
    (round_size_in f false (M * up K) (2 ^ places f * down K) k (mul-pos (pow_pos (places f)) (down_pos K)) l
    (under (places f) Z M k (digits f (rest_z (shr_z Z (2 ^ 44)) 256) (rest_z Z (2 ^ 44)) (rest_lt (shr_z Z (2 ^ 44)) 256 (lit< tt)) (rest_lt Z (2 ^ 44) (lit< tt))) h)))

-- an argument of at most 2 ^ j turns fewer than k factors of 2
pub turns_less : (f : Format) (j k s b : ℕ) → 0 < b → s ≤ 2 ^ j * b → 2 ^ j * 2 ^ 72 < k * 256 * N → turns f s b < k * 2 ^ 52
turns_less f j k s b z h l = go (turns f s b) k N b s (2 ^ j) z (turns_hi f s b) h l
  where
    go : (t k n b s p : ℕ) → 0 < b → t * (n * b) ≤ 2 ^ 116 * s → s ≤ p * b → p * 2 ^ 72 < k * 256 * n → t < k * 2 ^ 52
    go t k n b s p z h l m = lt_of_mul-lt-mul_right (n * b) (omega (arith, mul-le-mul_left (2 ^ 116) l, mul-lt-mul_of_pos_left {k = b * 2 ^ 44} m (mul-pos z (pow_pos 44))))

pub exp_size_in : (f : Format) (j k : ℕ) (x : Float) → k < suc (emax f) → 2 ^ j * 2 ^ 72 < k * 256 * N → Size j x → Size k (exp_def f x)
unfolding exp_def
exp_size_in f j k nan l b h = absurd h
exp_size_in f j k (inf s) l b h = absurd h
exp_size_in f j k (fin s m e) l b h =
    let t = turns f (m * up e) (down e) in
    power_size f (signed s t) k l (lt_of_le_of_lt (le_of_eq (nat_abs_signed s t)) (turns_less f j k (m * up e) (down e) (down_pos e) h b))

pub exp_size : (j k : ℕ) (x : Float) → k < 128 → 2 ^ j * 2 ^ 72 < k * 256 * N → Size j x → Size k (exp32 x)
exp_size = exp_size_in binary32

-- an exponent of at most 2 ^ a in size makes the logarithm at most so many times larger
raised_most : (t : Bool) (c x b : ℕ) (l : ℤ) → 0 < b → x ≤ c * b → nat_abs (raised binary32 t x b l) ≤ c * nat_abs l * 2 ^ 22
unfolding raised
raised_most t c x b l z h =
    let y = signed t x *ℤ l *ℤ pos (2 ^ 19) in
    let p : nat_abs y ≡ x * nat_abs l * 2 ^ 19 =
    nat_abs_mul (signed t x *ℤ l) (pos (2 ^ 19)) ∙ ap (λ (n : ℕ). n * 2 ^ 19) (nat_abs_mul (signed t x) l ∙ ap (λ (n : ℕ). n * nat_abs l) (nat_abs_signed t x)) in
    le_trans (le_of_eq (nat_abs_mul (shr_z y b) (pos 8)))
    (eight (nat_abs (shr_z y b)) (c * nat_abs l) (shr_most y b (c * nat_abs l * 2 ^ 19) z (le_trans (le_of_eq p) (times c x b (nat_abs l) h))))
  where
    eight : (q l : ℕ) → q ≤ l * 2 ^ 19 → q * 8 ≤ l * 2 ^ 22
    eight q l h = omega arith

    times : (c x b l : ℕ) → x ≤ c * b → x * l * 2 ^ 19 ≤ b * (c * l * 2 ^ 19)
    times c x b l h = omega (arith, mul-le-mul_right l h)

pub pow_size_by : (a k m : ℕ) (e : ℤ) (y : Float) → k < 128 → 2 ^ a * nat_abs (step_log_def binary32 (suc m) e) < k * 256 * 2 ^ 22
    → T (powered y) → Size a y → Size k (pow32 (fin false (suc m) e) y)
pow_size_by a k m e nan l b p h = absurd h
pow_size_by a k m e (inf t) l b p h = absurd h
pow_size_by a k m e (fin t n d) l b p h =
    let g = step_log_def binary32 (suc m) e in
    subst (Size k) (sym (in_domain binary32 m e (fin t n d) p))
    (power_size binary32 (raised binary32 t (n * up d) (down d) g) k l
    (lt_of_le_of_lt (raised_most t (2 ^ a) (n * up d) (down d) g (down_pos d) h) (more (2 ^ a * nat_abs g) k b)))
  where
    more : (g k : ℕ) → g < k * 256 * 2 ^ 22 → g * 2 ^ 22 < k * 2 ^ 52
    more g k h = omega arith

pub pow_size : (k m : ℕ) (e : ℤ) (y : Float) → k < 128 → nat_abs (step_log_def binary32 (suc m) e) < k * 256 * 2 ^ 22
    → T (powered y) → Size 0 y → Size k (pow32 (fin false (suc m) e) y)
pow_size k m e y l b p h = pow_size_by 0 k m e y l (lt_of_le_of_lt (le_of_eq (one-mul (nat_abs (step_log_def binary32 (suc m) e)))) b) p h

-- ---- at least 1
least_cond : (b : Bool) (x y : Float) → T (le unit x) → T (le unit y) → T (le unit (cond b x y))
least_cond true x y h g = h
least_cond false x y h g = g

top : T (le unit (inf false))
unfolding le
top = tt

round_least : (M q : ℕ) → 2 ^ 31 ≤ M → T (le unit (round binary32 false (M * 2 ^ q) (2 ^ 31)))
round_least M q h =
    subst (λ (x : Float). T (le x (round binary32 false (M * 2 ^ q) (2 ^ 31)))) one_round
    (round_mono binary32 1 1 (M * 2 ^ q) (2 ^ 31) (pow_pos 0) (pow_pos 31) (le_trans (mul-le-mul {m₁ = 1} h (pow_pos q)) (le_of_eq (sym (mul-one (M * 2 ^ q))))))

pub power_least : (z : ℕ) → T (le unit (power binary32 (pos z)))
unfolding power finish
power_least z =
    let q = z / 2 ^ 52 in
    let i = rest_z (shr_z (pos z) (2 ^ 44)) 256 in
    let M = significand binary32 i (rest_z (pos z) (2 ^ 44)) in
    least_cond (ltb 127 q) (inf false) (round binary32 false (M * 2 ^ q) (2 ^ 31)) top
    (round_least M q (significand_low i (rest_z (pos z) (2 ^ 44)) (rest_lt (shr_z (pos z) (2 ^ 44)) 256 (lit< tt))))

pub exp_least : (m : ℕ) (e : ℤ) → T (le unit (exp32 (fin false m e)))
unfolding exp_def
exp_least m e = power_least (turns binary32 (m * up e) (down e))
