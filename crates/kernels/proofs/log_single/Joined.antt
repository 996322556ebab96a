-- The logarithms of a single, by its digits and their place, and as words give them back. Assumes nothing.
use Rattle.std.proofs.Common.{◌≡◌, ℕ, ◌+◌, ◌-◌, ◌*◌, ◌/◌, ◌%◌, ◌^◌, ◌<◌, ◌≤◌, Bool, true, false, cond, T, ℤ, pos, ◌-ℤ◌, ◌*ℤ◌, nat_abs, sym, refl, ap, ◌∙◌, ap₂, lt_of_le_of_lt, le_of_lt, arith, lit<, to_z-of_z, w64, SFits, to_z}
use lib.Signed.{mag}
use lib.Ieee.{Float, binary32, fits, to_bits}
use lib.Ieee.Positive.{positive}
use Rattle.soft.proofs.Rounding.Exponent.{read}
use Rattle.table.specs.Exact.{N}
use Rattle.kernels.specs.Logarithm.{steps, gap63, below24, low63, low22, next_to_one, cubic, logarithm, step_log_def}
use Rattle.kernels.specs.inner.Logs.{log_of, step_log_of}
use Rattle.kernels.specs.inner.Single.{digits_of_def, place_of, index_of, step_log_at_def, log_at}
use Rattle.kernels.proofs.log_double.Pattern.{by_parts}
use Rattle.kernels.proofs.log_double.Words.{mag-le, fits_size, given, Line, line}
use Rattle.kernels.proofs.log_single.Pattern.{Known, near}

-- ---- from the parts that the code has: the steps j of the entry i, and l by which x lies below it
joined : (low : ℕ → ℕ) (c m : ℕ) (k j : ℤ) (i g l : ℕ) → SFits w64 k → i ≡ index_of m → g ≡ gap63 i m → l ≡ low g → j ≡ steps (read k) i → j *ℤ pos c -ℤ pos l ≡ steps k (index_of m) *ℤ pos c -ℤ pos (low (gap63 (index_of m) m))
joined low c m k j i g l f a b e q = ap₂ (λ (z : ℤ) (n : ℕ). z *ℤ pos c -ℤ pos n) (q ∙ ap₂ steps (to_z-of_z f) a) (e ∙ ap low (b ∙ ap (λ (x : ℕ). gap63 x m) a))

module _ (j : ℤ) (l : ℕ) (J : nat_abs j ≤ 38400) where
  few : (n l : ℕ) → n ≤ 38400 → l < 2 ^ 56 → (n < 2 ^ 63) × (n * 0xb172_17f7_d1cf + l / 2 ^ 7 < 2 ^ 63)
  few n l a b = (omega arith, omega arith)

  room : (n l : ℕ) → n ≤ 38400 → l < 2 ^ 23 → (n < 2 ^ 63) × (n * 0x40_0000 + l < 2 ^ 63) × (n * 0x40_0000 + l < 2 ^ 38)
  room n l a b = (omega arith, omega arith, omega arith)

  pub step_line : l < 2 ^ 23 → Line true j 0x40_0000 l
  step_line h = let r = room (nat_abs j) l J h in line true j 0x40_0000 l (fits_size j r.0) r.1

  pub log_line : l < 2 ^ 56 → Line true j 0xb172_17f7_d1cf (l / 2 ^ 7)
  log_line h = let r = few (nat_abs j) l J h in line true j 0xb172_17f7_d1cf (l / 2 ^ 7) (fits_size j r.0) r.1

  module _ (m : ℕ) (k : ℤ) (i g : ℕ) (f : SFits w64 k) (a : i ≡ index_of m) (b : g ≡ gap63 i m) (q : j ≡ steps (read k) i) where
    pub step_joined : l ≡ low22 g → (h : l < 2 ^ 23)
        → (read (read (read j *ℤ pos 0x40_0000) -ℤ to_z w64 l) ≡ step_log_at_def m k) × (mag (read (read (read j *ℤ pos 0x40_0000) -ℤ to_z w64 l)) < 2 ^ 38)
    unfolding step_log_at_def
    step_joined e h =
        let s = given (λ (z : ℤ). mag z < 2 ^ 38) _ _ (step_line h).sum.is (lt_of_le_of_lt (mag-le (j *ℤ pos 0x40_0000 -ℤ pos l)) (lt_of_le_of_lt (step_line h).size (room (nat_abs j) l J h).2)) in
        (s.0 ∙ joined low22 (2 ^ 22) m k j i g l f a b e q, s.1)

    pub log_joined : l ≡ low63 g → (h : l < 2 ^ 56)
        → (read (read (read j *ℤ pos 0xb172_17f7_d1cf) -ℤ to_z w64 (l / 2 ^ 7)) ≡ log_at m k) × (nat_abs (read (read (read j *ℤ pos 0xb172_17f7_d1cf) -ℤ to_z w64 (l / 2 ^ 7))) < 2 ^ 63)
    unfolding log_at
    log_joined e h =
        let s = given (λ (z : ℤ). nat_abs z < 2 ^ 63) _ _ (log_line h).sum.is (lt_of_le_of_lt (log_line h).size (few (nat_abs j) l J h).1) in
        (s.0 ∙ joined (λ (x : ℕ). low63 x / 2 ^ 7) (N / 2 ^ 16) m k j i g (l / 2 ^ 7) f a b (ap (λ (x : ℕ). x / 2 ^ 7) e) q, s.1)

-- ---- of x
step_log : (x : Float) → T (positive x) → step_log_at_def (digits_of_def x) (place_of x) ≡ step_log_of binary32 x
unfolding step_log_at_def step_log_of step_log_def below24
step_log x p = by_parts (λ (x : Float). step_log_at_def (digits_of_def x) (place_of x) ≡ step_log_of binary32 x) (λ (m : ℕ) (e : ℤ). refl) x p

abbrev picked : Bool → Float → ℤ
picked t x = cond t (cubic (digits_of_def x - 2 ^ 23)) (log_at (digits_of_def x) (place_of x))

log_is : (x : Float) → T (positive x) → (t : Bool) → next_to_one (place_of x) (digits_of_def x) ≡ t → picked t x ≡ log_of binary32 x
unfolding log_at log_of logarithm below24
log_is x p t e = ap (λ (b : Bool). picked b x) (sym e) ∙ by_parts (λ (x : Float). picked (next_to_one (place_of x) (digits_of_def x)) x ≡ log_of binary32 x) (λ (m : ℕ) (e : ℤ). refl) x p

module _ (x : Float) (p : T (positive x)) (r : ℤ) where
  pub step_given : (m : ℕ) (k : ℤ) → Known x m k → r ≡ step_log_at_def m k → mag r < 2 ^ 38 → (read r ≡ step_log_of binary32 x) × (mag (read r) < 2 ^ 38)
  step_given m k w e h =
      let s = given (λ (z : ℤ). mag z < 2 ^ 38) (read r) r (to_z-of_z {w = w64} (record { sfits = lt_of_le_of_lt (le_of_lt h) (lit< {m = 2 ^ 38} {n = 2 ^ 63} tt) })) h in
      (s.0 ∙ e ∙ ap₂ step_log_at_def w.digits w.place ∙ step_log x p, s.1)

  answer : nat_abs r < 2 ^ 63 → r ≡ log_of binary32 x → (read r ≡ log_of binary32 x) × (nat_abs (read r) < 2 ^ 63)
  answer h e = let s = given (λ (z : ℤ). nat_abs z < 2 ^ 63) (read r) r (to_z-of_z (fits_size r h)) h in (s.0 ∙ e, s.1)

  pub log_given : (m : ℕ) (k : ℤ) → Known x m k → r ≡ log_at m k → nat_abs r < 2 ^ 63 → next_to_one (place_of x) (digits_of_def x) ≡ false → (read r ≡ log_of binary32 x) × (nat_abs (read r) < 2 ^ 63)
  log_given m k w e h n = answer h (e ∙ ap₂ log_at w.digits w.place ∙ log_is x p false n)

  pub one_given : T (fits binary32 x) → to_bits binary32 x / 2 ^ 14 ≡ 0xfe00 → r ≡ cubic (to_bits binary32 x % 2 ^ 14) → nat_abs r < 2 ^ 63 → (read r ≡ log_of binary32 x) × (nat_abs (read r) < 2 ^ 63)
  one_given h u e l = let n = near x h p u in answer l (e ∙ ap cubic n.1 ∙ log_is x p true n.0)
