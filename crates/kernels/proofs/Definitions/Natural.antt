-- The power over natural numbers, for proofs: an argument ±z is counted from -2048 factors of 2 on, Y = 2 ^ 63 ± z and K = k + 2048, and a single's 32 digits
-- are moved up to a double's 63. What lies further below is +0 either way. Assumes nothing.
use Rattle.std.proofs.Common.{◌≡◌, ℕ, zero, suc, ◌+◌, ◌-◌, ◌*◌, ◌/◌, ◌%◌, ◌^◌, ◌<◌, ◌≤◌, Bool, true, false, cond, not, T, ltb, ◌⊎◌, pos, negsuc, sym, refl, ap, ◌∙◌, inl, inr, mul_comm, mul-pos, one-mul, mul-one, arith, lit<, ltb→lt, lt→ltb, nltb→le, pow_pos, pow-add, le-ltb, lt-ltb}
use lib.IntN.{sub_ℕ}
use lib.Signed.{lt_z}
use lib.Ieee.{Float, inf, fin, Format, binary32, binary64, emax, round}
use lib.Ieee.Scale.{round_same}
use Rattle.table.specs.Whole.{signed}
use Rattle.kernels.specs.Power.{places, significand, finish, power}

abbrev pub lift : Format → ℕ
lift binary32 = 2 ^ 31
lift binary64 = 1

abbrev pub biased : Bool → ℕ → ℕ
biased neg z = cond neg (2 ^ 63 - z) (2 ^ 63 + z)

abbrev pub whole : ℕ → ℕ
whole Y = Y / 2 ^ 44 / 256

abbrev pub index : ℕ → ℕ
index Y = Y / 2 ^ 44 % 256

-- M / 2 ^ 62 2 ^ (K - 2048)
unfoldable pub finish_n : Format → (K M : ℕ) → Float
finish_n f K M = cond (ltb (K + emax f) 2049) (fin false 0 (pos 0)) (cond (ltb (2048 + emax f) K) (inf false) (round f false (M * 2 ^ K) (2 ^ 2110)))

unfoldable pub power_n : Format → (neg : Bool) → (z : ℕ) → Float
unfolding finish_n significand
power_n f neg z = let Y = biased neg z in finish_n f (whole Y) (significand f (index Y) (Y % 2 ^ 44) * lift f)

-- ---- below the normal range, above it and within
module _ (f : Format) (K M : ℕ) where
  pub at_low : K + emax f < 2049 → finish_n f K M ≡ fin false 0 (pos 0)
  unfolding finish_n
  at_low h = rw (lt-ltb (K + emax f) 2049 h)

  pub at_high : 2048 + emax f < K → finish_n f K M ≡ inf false
  unfolding finish_n
  at_high h = rw (le-ltb (K + emax f) 2049 (omega arith), lt-ltb (2048 + emax f) K h)

  pub at_mid : 2049 ≤ K + emax f → K ≤ 2048 + emax f → finish_n f K M ≡ round f false (M * 2 ^ K) (2 ^ 2110)
  unfolding finish_n
  at_mid a h = rw (le-ltb (K + emax f) 2049 a, le-ltb (2048 + emax f) K h)

-- ---- `finish` is `finish_n`: the same tests, and the same fraction
same_test : (a b c d : ℕ) → (a < b → c < d) → (c < d → a < b) → ltb a b ≡ ltb c d
same_test a b c d h g = go (ltb a b) (ltb c d) (λ (t : T (ltb a b)). lt→ltb c d (h (ltb→lt a b t))) (λ (t : T (ltb c d)). lt→ltb a b (g (ltb→lt c d t)))
  where
    go : (x y : Bool) → (T x → T y) → (T y → T x) → x ≡ y
    go true true h g = refl
    go true false h g = absurd (h tt)
    go false true h g = absurd (g tt)
    go false false h g = refl

filled : (f : Format) → 2 ^ 2110 ≡ lift f * 2 ^ 2048 * 2 ^ places f
filled binary32 = refl
filled binary64 = refl

rounds : (f : Format) (M u d e : ℕ) → 0 < d → u * 2 ^ 2048 ≡ e * d → round f false (M * u) (2 ^ places f * d) ≡ round f false (M * lift f * e) (2 ^ 2110)
rounds f M u d e z h =
    round_same f false (M * u) (2 ^ places f * d) (M * lift f * e) (2 ^ 2110) (mul-pos (pow_pos (places f)) z) (pow_pos 2110)
    (go M u d e (lift f) (2 ^ 2048) (2 ^ places f) (2 ^ 2110) (filled f) h)
  where
    go : (M u d e l C p W : ℕ) → W ≡ l * C * p → u * C ≡ e * d → M * u * W ≡ M * l * e * (p * d)
    go M u d e l C p W i h = rw i (omega (arith, ap (λ (x : ℕ). M * l * p * x) h))

low_pos : (f : Format) (k : ℕ) → lt_z (pos k) (sub_ℕ 1 (emax f)) ≡ ltb (2048 + k + emax f) 2049
low_pos binary32 k = sym (le-ltb (2048 + k + 127) 2049 (omega arith))
low_pos binary64 k = sym (le-ltb (2048 + k + 1023) 2049 (omega arith))

high_pos : (e k : ℕ) → ltb e k ≡ ltb (2048 + e) (2048 + k)
high_pos e k = same_test e k (2048 + e) (2048 + k) (λ (h : e < k). omega arith) (λ (h : 2048 + e < 2048 + k). omega arith)

finish_pos : (f : Format) (k M : ℕ) → finish f (pos k) M ≡ finish_n f (2048 + k) (M * lift f)
unfolding finish finish_n
finish_pos f k M = rw (low_pos f k, high_pos (emax f) k, rounds f M (2 ^ k) 1 (2 ^ (2048 + k)) (lit< tt) (mul_comm (2 ^ k) (2 ^ 2048) ∙ sym (pow-add 2 2048 k) ∙ sym (mul-one (2 ^ (2048 + k)))))

low_neg : (f : Format) (K q : ℕ) → K + suc q ≡ 2048 → lt_z (negsuc q) (sub_ℕ 1 (emax f)) ≡ ltb (K + emax f) 2049
low_neg binary32 K q e = same_test 125 q (K + 127) 2049 (λ (h : 125 < q). omega arith) (λ (h : K + 127 < 2049). omega arith)
low_neg binary64 K q e = same_test 1021 q (K + 1023) 2049 (λ (h : 1021 < q). omega arith) (λ (h : K + 1023 < 2049). omega arith)

finish_neg : (f : Format) (K q M : ℕ) → K + suc q ≡ 2048 → finish f (negsuc q) M ≡ finish_n f K (M * lift f)
unfolding finish finish_n
finish_neg f K q M e =
    rw (
      low_neg f K q e,
      le-ltb (2048 + emax f) K (omega arith),
      rounds f M 1 (2 ^ suc q) (2 ^ K) (pow_pos (suc q)) (one-mul (2 ^ 2048) ∙ ap (λ (x : ℕ). 2 ^ x) (sym e) ∙ pow-add 2 K (suc q)),
    )

-- far below 0
low_far : (f : Format) (q : ℕ) → 2048 ≤ q → lt_z (negsuc q) (sub_ℕ 1 (emax f)) ≡ true
low_far binary32 q h = lt-ltb 125 q (omega arith)
low_far binary64 q h = lt-ltb 1021 q (omega arith)

finish_far : (f : Format) (q M : ℕ) → 2048 ≤ q → finish f (negsuc q) M ≡ fin false 0 (pos 0)
unfolding finish
finish_far f q M h = rw (low_far f q h)

-- ---- `power` is `power_n`
at : (f : Format) (K K' i i' r r' : ℕ) → K ≡ K' → i ≡ i' → r ≡ r' → finish_n f K (significand f i r * lift f) ≡ finish_n f K' (significand f i' r' * lift f)
at f K K' i i' r r' a b c = rw (a, b, c)

pub lt-or-ge : (a b : ℕ) → (a < b) ⊎ (b ≤ a)
lt-or-ge a b = go (ltb a b) (ltb→lt a b) (nltb→le a b)
  where
    go : (t : Bool) → (T t → a < b) → (T (not t) → b ≤ a) → (a < b) ⊎ (b ≤ a)
    go true l g = inl (l tt)
    go false l g = inr (g tt)

upward : (f : Format) (z : ℕ) → power f (pos z) ≡ power_n f false z
unfolding power power_n
upward f z =
    finish_pos f (z / 2 ^ 52) (significand f (z / 2 ^ 44 % 256) (z % 2 ^ 44))
    ∙ at f (2048 + z / 2 ^ 52) (whole (2 ^ 63 + z)) (z / 2 ^ 44 % 256) (index (2 ^ 63 + z)) (z % 2 ^ 44) ((2 ^ 63 + z) % 2 ^ 44) (omega arith) (omega arith) (omega arith)

pub power_is : (f : Format) (neg : Bool) (z : ℕ) → power f (signed neg z) ≡ power_n f neg z
unfolding power power_n
power_is f false z = upward f z
power_is f true zero = upward f zero
power_is f true (suc n) = elim (lt-or-ge n (2 ^ 63)) [
  | inl l ↦
      finish_neg f (whole (2 ^ 63 - suc n)) (n / 2 ^ 52) (significand f (256 - suc (n / 2 ^ 44 % 256)) (2 ^ 44 - suc (n % 2 ^ 44))) (omega arith)
      ∙ at f (whole (2 ^ 63 - suc n)) (whole (2 ^ 63 - suc n)) (256 - suc (n / 2 ^ 44 % 256)) (index (2 ^ 63 - suc n)) (2 ^ 44 - suc (n % 2 ^ 44))
      ((2 ^ 63 - suc n) % 2 ^ 44) refl (omega arith) (omega arith)
  | inr g ↦
      finish_far f (n / 2 ^ 52) (significand f (256 - suc (n / 2 ^ 44 % 256)) (2 ^ 44 - suc (n % 2 ^ 44))) (omega arith)
      ∙ sym (at_low f (whole (2 ^ 63 - suc n)) (significand f (index (2 ^ 63 - suc n)) ((2 ^ 63 - suc n) % 2 ^ 44) * lift f) (none f n g))
]
  where
    none : (f : Format) (n : ℕ) → 2 ^ 63 ≤ n → whole (2 ^ 63 - suc n) + emax f < 2049
    none binary32 n g = omega arith
    none binary64 n g = omega arith
