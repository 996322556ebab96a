-- How large a sum of doubles is, as a whole number: below 2 ^ 53 a bound is a double itself, and rounding does not pass it. Assumes nothing.
use mathlib.Core.Path.{◌≡◌, refl, sym, subst}
use mathlib.Core.Bool.{Bool, true, false}
use Prim.Native.Nat.{ℕ, zero, suc, ◌+◌, ◌*◌, ◌^◌, ◌≤◌, ◌<◌}
use native.Mathlib.Nat.{le_trans, le_of_eq, le-suc, lt_of_lt_of_le, lt_of_le_of_lt, lt-suc_self, mul-one, mul-pos, mul-le-mul_right, le_of_mul-le-mul_right, zero-mul}
use native.Mathlib.Omega.{arith}
use lib.Dec.{T, lit≤}
use lib.Pow.{pow_pos, pow_mono, shl_lt}
use lib.Ieee.{Float, nan, inf, fin, Format, binary32, binary64, prec, emax, low, up, down, round, neg, add, le, of_bits}
use lib.Ieee.Exact.{HasValue, round_exact}
use lib.Ieee.Fits.{down_pos}
use lib.Ieee.Order.{round_mono}
use lib.Ieee.Scale.{finite}
use Rattle.soft.proofs.Rounding.Sum.{sum_is}
use Rattle.soft.specs.inner.Cuts.{sum_sign, sum_size_def}
use Rattle.domain.specs.Doubles.{◌+ᵈ◌, zero64}
use Rattle.checks.specs.Columns.{total}
use Rattle.kernels.proofs.Definitions.Cases.{below_or}
use Rattle.laws.proofs.Values.Sizes.{Size, plus, plus_round, neg-round}
use Rattle.laws.proofs.Values.Operations.{sum_most}

-- a number, and at most A in size; `Size k` is `Most (2 ^ k)`
abbrev pub Most : ℕ → Float → Type 0
Most A nan = ⊥
Most A (inf s) = ⊥
Most A (fin s m e) = m * up e ≤ A * down e

pub most_finite : (A : ℕ) (x : Float) → Most A x → T (finite x)
most_finite A nan h = absurd h
most_finite A (inf s) h = absurd h
most_finite A (fin s m e) h = tt

pub most_wider : (A B : ℕ) (x : Float) → A ≤ B → Most A x → Most B x
most_wider A B nan l h = absurd h
most_wider A B (inf s) l h = absurd h
most_wider A B (fin s m e) l h = le_trans h (mul-le-mul_right (down e) l)

pub size_most : (k : ℕ) (x : Float) → Size k x → Most (2 ^ k) x
size_most k nan h = absurd h
size_most k (inf s) h = absurd h
size_most k (fin s m e) h = h

most_neg : (A : ℕ) (x : Float) → Most A x → Most A (neg x)
unfolding neg
most_neg A nan h = absurd h
most_neg A (inf s) h = absurd h
most_neg A (fin s m e) h = h

-- ---- rounding
reaches : (f : Format) → 2 ^ (prec f + low f) ≤ 2 ^ (low f + suc (emax f))
reaches binary32 = pow_mono {i = 173} {j = 277} (lit≤ tt)
reaches binary64 = pow_mono {i = 1127} {j = 2098} (lit≤ tt)

whole_value : (f : Format) (A : ℕ) → A < 2 ^ prec f → HasValue (round f false A 1) false A 1
whole_value f A h = round_exact f false A 1 A (low f) (pow_pos 0) h (lt_of_lt_of_le (shl_lt (prec f) (low f) h) (reaches f)) (sym (mul-one (A * 2 ^ low f)))

below_value : (A : ℕ) (y z : Float) → T (plus y) → T (le y z) → HasValue z false A 1 → Most A y
unfolding le
below_value A nan z p h v = absurd h
below_value A (inf true) z p h v = absurd p
below_value A (inf false) nan p h v = absurd h
below_value A (inf false) (inf t) p h v = absurd v
below_value A (inf false) (fin t n d) p h v = absurd h
below_value A (fin true m e) z p h v = absurd p
below_value A (fin false m e) nan p h v = absurd h
below_value A (fin false m e) (inf t) p h v = absurd v
below_value A (fin false m e) (fin true n d) p h v = absurd (no_sign v.0)
  where
    no_sign : true ≡ false → ⊥
    no_sign q = subst T q tt
below_value A (fin false m e) (fin false n d) p h v =
    le_of_mul-le-mul_right
    (le_trans (below_or (m * up e * down d) (n * up d * down e) true h) (le_of_eq (turn (n * up d) (down e) A (down d) v.1)))
    (down_pos d)
  where
    turn : (n e A d : ℕ) → n * 1 ≡ A * d → n * e ≡ A * e * d
    turn n e A d q = omega (arith, q, scaled n A d e q)
      where
        scaled : (n A d e : ℕ) → n * 1 ≡ A * d → n * e ≡ A * d * e
        scaled n A d e q = subst (λ (x : ℕ). x * e ≡ A * d * e) (mul-one n) (subst (λ (x : ℕ). x * e ≡ A * d * e) (sym q) refl)

plus_most : (f : Format) (a c A : ℕ) → 0 < c → A < 2 ^ prec f → a ≤ A * c → Most A (round f false a c)
plus_most f a c A z l h =
    below_value A (round f false a c) (round f false A 1) (plus_round f a c) (round_mono f a c A 1 z (pow_pos 0) (le_trans (le_of_eq (mul-one a)) h)) (whole_value f A l)

pub round_most : (f : Format) (s : Bool) (a c A : ℕ) → 0 < c → A < 2 ^ prec f → a ≤ A * c → Most A (round f s a c)
round_most f true a c A z l h = subst (Most A) (sym (neg-round f a c)) (most_neg A (round f false a c) (plus_most f a c A z l h))
round_most f false a c A z l h = plus_most f a c A z l h

-- ---- sums
both : (a b c A B d e z : ℕ) → z ≤ a + b → a ≤ A * e * d → b ≤ B * d * e → c ≡ e * d → z ≤ (A + B) * c
both a b c A B d e z h i j q = subst (λ (x : ℕ). z ≤ (A + B) * x) (sym q) (omega (arith, h, i, j))

pub add_most : (f : Format) (A B : ℕ) (x y : Float) → A + B < 2 ^ prec f → Most A x → Most B y → Most (A + B) (add f x y)
unfolding add
add_most f A B nan y l g h = absurd g
add_most f A B (inf s) y l g h = absurd g
add_most f A B (fin s m e) nan l g h = absurd h
add_most f A B (fin s m e) (inf t) l g h = absurd h
add_most f A B (fin s m e) (fin t n d) l g h =
    let a = m * up e * down d in
    let b = n * up d * down e in
    let c = down e * down d in
    subst (Most (A + B)) (sym (sum_is f s a t b c))
    (round_most f (sum_sign s a t b) (sum_size_def s a t b) c (A + B) (mul-pos (down_pos e) (down_pos d)) l
    (both a b c A B (down d) (down e) (sum_size_def s a t b) (sum_most s a t b) (mul-le-mul_right (down d) g) (mul-le-mul_right (down e) h) refl))

pub none_most : Most 0 zero64
unfolding of_bits
none_most = lit≤ tt

-- n numbers of at most A
pub total_most : (part : ℕ → Float) (n A : ℕ) → n * A < 2 ^ 53 → ((column : ℕ) → column < n → Most A (part column)) → Most (n * A) (total part n)
unfolding total
total_most part zero A l h = subst (λ (x : ℕ). Most x zero64) (sym (zero-mul A)) none_most
total_most part (suc n) A l h =
    subst (λ (x : ℕ). Most x (total part n +ᵈ part n)) (more n A)
    (add_most binary64 (n * A) A (total part n) (part n) (lt_of_le_of_lt (le_of_eq (more n A)) l)
    (total_most part n A (lt_of_le_of_lt (less n A) l) (λ i k. h i (lt_of_lt_of_le k (le-suc n)))) (h n (lt-suc_self n)))
  where
    more : (n A : ℕ) → n * A + A ≡ suc n * A
    more n A = omega arith

    less : (n A : ℕ) → n * A ≤ suc n * A
    less n A = omega arith
