-- The factor of model_v6's curve, 0.9 to the power 1/decay, less 1: above 0, and at most 16. Assumes nothing.
use mathlib.Core.Path.{◌≡◌, refl, sym, ap, subst}
use mathlib.Core.Bool.{Bool, true, false, cond}
use Prim.Native.Nat.{ℕ, zero, suc, ◌+◌, ◌-◌, ◌*◌, ◌/◌, ◌%◌, ◌^◌, ◌≤◌, ◌<◌, zero-le, suc-le-suc}
use native.Mathlib.Nat.{le_trans, le_of_eq, le_of_suc-le-suc, not-suc-le-zero, mul_comm, mul_assoc, mul-pos, mul-le-mul, mul-le-mul_right, zero-lt-suc, le-add_right, mod-lt, mod-eq_of_lt, div-lt_iff_lt-mul, le-div_iff_mul-le}
use native.Mathlib.Omega.{arith}
use borrow.Author.Tests.{le-ltb}
use lib.Dec.{T, ltb, leb, leb→le, eqb-suc-zero, lit<, lit≤}
use lib.IntN.{ℤ, pos, negsuc, nat_abs}
use lib.Pow.{pow_pos, pow_mono}
use lib.Ieee.{Float, nan, inf, fin, binary32, of_bits, size, up, down, round, neg, sum, add, sub, div, le}
use lib.Ieee.Fits.{up_pos, down_pos}
use lib.Ieee.Order.{round_mono}
use lib.Ieee.Positive.{positive, le→cross}
use lib.Ieee.Scale.{finite}
use Rattle.table.specs.Exact.{P, taylor, fact}
use Rattle.table.specs.Entry.{entry, first_from}
use Rattle.table.proofs.Every.{all, all-at}
use Rattle.kernels.specs.Calls.{pow32}
use Rattle.kernels.specs.Logarithm.{gap63, low22, below24, step_log_def}
use Rattle.kernels.specs.Kernels.{powered, pow_at_def, raised}
use Rattle.kernels.specs.Power.{significand, finish, power}
use Rattle.kernels.proofs.Definitions.Cases.{below_or, in_domain}
use Rattle.kernels.proofs.Definitions.Sizes.{significand_low}
use Rattle.domain.specs.Floats.{◌-ᶠ◌, ◌/ᶠ◌}
use Rattle.domain.specs.Limits.{decimal, one}
use Rattle.model_v6.specs.Curve.{factor_def}
use Rattle.laws.proofs.Values.Sizes.{Size, size_finite, plus, plus_round, neg-round, unit, one_round}
use Rattle.laws.proofs.Values.Operations.{sub_size, Least, div_size}
use Rattle.laws.proofs.Values.Between.{least_of}
use Rattle.laws.proofs.Values.Curve.{neg_least}
use Rattle.laws.proofs.Values.Imports.{nine_is}
use Rattle.laws.proofs.Values.Logs.{in_reach}
use Rattle.laws.proofs.Values.Powers.{pow_size_by}
use Rattle.laws.proofs.Values.Zeros.{one_is}
use Rattle.laws.proofs.Ranges.Low.{above_finite}

-- the logarithm of 0.9, about -38.9 steps
abbrev log : ℤ
log = step_log_def binary32 7549747 (negsuc 22)

log_neg : log ≡ negsuc (nat_abs log - 1)
unfolding step_log_def below24 first_from gap63 low22 entry P taylor fact size
log_neg = refl

log_low : 38 * 2 ^ 22 ≤ suc (nat_abs log - 1)
unfolding step_log_def below24 first_from gap63 low22 entry P taylor fact size
log_low = lit≤ tt

log_high : 2 ^ 4 * nat_abs log < 3 * 256 * 2 ^ 22
unfolding step_log_def below24 first_from gap63 low22 entry P taylor fact size
log_high = lit< tt

-- ---- a power of at least a step is more than 1
abbrev low : Float
low = fin false 1025 (negsuc 9)

low_round : round binary32 false 1025 1024 ≡ low
unfolding round
low_round = refl

grows : ℕ → Bool
grows i = leb (2 ^ 62 + 2 ^ 52) (entry (suc i))

passes : T (all grows 0 255)
unfolding grows entry P taylor fact
passes = tt

entry_more : (i : ℕ) → i < 255 → 2 ^ 62 + 2 ^ 52 ≤ entry (suc i)
unfolding grows
entry_more i h = leb→le (2 ^ 62 + 2 ^ 52) (entry (suc i)) (all-at grows 255 passes i h)

more_digits : (i r : ℕ) → 0 < i → i < 256 → 2 ^ 31 + 2 ^ 21 ≤ significand binary32 i r
unfolding significand
more_digits zero r z h = absurd (not-suc-le-zero z)
more_digits (suc i) r z h =
    le_trans ((le-div_iff_mul-le (pow_pos 31)).1 (le_trans (lit≤ tt) (entry_more i (le_of_suc-le-suc h)))) (le-add_right (entry (suc i) / 2 ^ 31) _)

-- below 2 by the table, and else at least 2
under_two : (x : ℕ) → 0 ≡ x → x < 1
under_two x e = omega (arith, e)

by_table : (M : ℕ) → 2 ^ 31 + 2 ^ 21 ≤ M → 1025 * 2 ^ 31 ≤ M * 2 ^ 0 * 1024
by_table M h = omega (arith, h)

from_two : (M p : ℕ) → 2 ^ 31 ≤ M → 2 ^ 1 ≤ p → 1025 * 2 ^ 31 ≤ M * p * 1024
from_two M p h g = omega (arith, mul-le-mul h g)

over : (b : Bool) (y : Float) → T (le low y) → T (le low (cond b (inf false) y))
unfolding le
over true y h = tt
over false y h = h

module _ (z : ℕ) (h : 38 * 2 ^ 44 ≤ z) where
  abbrev i : ℕ
  i = z / 2 ^ 44 % 256

  abbrev M : ℕ
  M = significand binary32 i (z % 2 ^ 44)

  enough : 1025 * 2 ^ 31 ≤ M * 2 ^ (z / 2 ^ 52) * 1024
  enough = go (z / 2 ^ 52) refl
    where
      go : (q : ℕ) → q ≡ z / 2 ^ 52 → 1025 * 2 ^ 31 ≤ M * 2 ^ q * 1024
      go zero e =
          let l : z < 1 * 2 ^ 52 = (div-lt_iff_lt-mul (pow_pos 52)).0 (under_two (z / 2 ^ 52) e) in
          let k : z / 2 ^ 44 < 256 = (div-lt_iff_lt-mul (pow_pos 44)).1 l in
          let d : 0 < i = subst (λ (x : ℕ). 0 < x) (sym (mod-eq_of_lt k)) (le_trans (lit≤ tt) ((le-div_iff_mul-le {k = 2 ^ 44} {x = 38} (pow_pos 44)).1 h)) in
          by_table M (more_digits i (z % 2 ^ 44) d (mod-lt (z / 2 ^ 44) (lit< tt)))
      go (suc q) e = from_two M (2 ^ suc q) (significand_low i (z % 2 ^ 44) (mod-lt (z / 2 ^ 44) (lit< tt))) (pow_mono {i = 1} {j = suc q} (suc-le-suc zero-le))

  power_more : T (le low (power binary32 (pos z)))
  unfolding power finish
  power_more =
      let q = z / 2 ^ 52 in
      let r = round binary32 false (M * 2 ^ q) (2 ^ 31) in
      over (ltb 127 q) r (subst (λ (x : Float). T (le x r)) low_round (round_mono binary32 1025 1024 (M * 2 ^ q) (2 ^ 31) (lit< tt) (pow_pos 31) enough))

-- ---- 0.9 to a power of -1 or below
lifted : (x b k : ℕ) → 0 < b → b ≤ x → 38 * 2 ^ 22 ≤ suc k → (z : ℕ) × ((raised binary32 true x b (negsuc k) ≡ pos z) × (38 * 2 ^ 44 ≤ z))
unfolding raised
lifted zero b k p h l = absurd (not-suc-le-zero (le_trans p h))
lifted (suc x) b k p h l =
    let y = suc x * suc k * 2 ^ 19 / b in
    let g : suc k * 2 ^ 19 ≤ y = (le-div_iff_mul-le p).1 (le_trans (le_of_eq (turn (suc k) b)) (le_trans (mul-le-mul_right (suc k * 2 ^ 19) h) (le_of_eq (back (suc x) (suc k))))) in
    (y * 8, (refl, eight (suc k) y l g))
  where
    turn : (k b : ℕ) → k * 2 ^ 19 * b ≡ b * (k * 2 ^ 19)
    turn k b = mul_comm (k * 2 ^ 19) b

    back : (x k : ℕ) → x * (k * 2 ^ 19) ≡ x * k * 2 ^ 19
    back x k = sym (mul_assoc x k (2 ^ 19))

    eight : (k y : ℕ) → 38 * 2 ^ 22 ≤ k → k * 2 ^ 19 ≤ y → 38 * 2 ^ 44 ≤ y * 8
    eight k y l g = omega (arith, l, g)

from_one : (m : ℕ) (e : ℤ) → T (le unit (fin false m e)) → down e ≤ m * up e
unfolding le
from_one m e h = plain (down e) (m * up e) (below_or (1 * 1 * down e) (m * up e * 1) true h)
  where
    plain : (d x : ℕ) → 1 * 1 * d ≤ x * 1 → d ≤ x
    plain d x h = omega (arith, h)

-- v is minus the exponent
pow_more : (v : Float) → T (powered (neg v)) → T (finite v) → T (plus v) → T (le unit v) → T (le low (pow32 (decimal 9 10) (neg v)))
unfolding le neg
pow_more v p a s h = rw (nine_is, in_domain binary32 7549746 (negsuc 22) (neg v) p) (at v a s h)
  where
    at : (v : Float) → T (finite v) → T (plus v) → T (le unit v) → T (le low (pow_at_def binary32 log (neg v)))
    at nan a s h = absurd a
    at (inf t) a s h = absurd a
    at (fin true m e) a s h = absurd s
    at (fin false m e) a s h =
        let r = lifted (m * up e) (down e) (nat_abs log - 1) (down_pos e) (from_one m e h) log_low in
        subst (λ (l : ℤ). T (le low (power binary32 (raised binary32 true (m * up e) (down e) l)))) (sym log_neg)
        (subst (λ (z : ℤ). T (le low (power binary32 z))) (sym r.1.0) (power_more r.0 r.1.1))

-- ---- less 1
less_low : (x : Float) → T (positive x) → T (le low x) → T (le (round binary32 false 1 1024) (x -ᶠ unit))
unfolding sub add neg sum
less_low nan p h = absurd p
less_low (inf s) p h = absurd p
less_low (fin true m e) p h = absurd p
less_low (fin false m e) p h =
    let x = m * up e * 1 in
    let y = 1 * 1 * down e in
    let c = le→cross low (fin false m e) tt p h in
    subst (λ (b : Bool). T (le (round binary32 false 1 1024) (cond b (round binary32 true (y - x) (down e * 1)) (round binary32 false (x - y) (down e * 1))))) (sym (le-ltb x y (above (m * up e) (down e) c)))
    (round_mono binary32 1 1024 (x - y) (down e * 1) (lit< tt) (mul-pos (down_pos e) (pow_pos 0)) (rest (m * up e) (down e) c))
  where
    above : (x d : ℕ) → 1025 * 1 * d ≤ x * 1024 → 1 * 1 * d ≤ x * 1
    above x d h = omega (arith, h)

    rest : (x d : ℕ) → 1025 * 1 * d ≤ x * 1024 → 1 * (d * 1) ≤ (x * 1 - 1 * 1 * d) * 1024
    rest x d h = omega (arith, h)

-- ---- the factor: y is minus the decay, from 1/16 to 1
inverse : (y : Float) → T (positive y) → Size 0 y → (v : Float) × ((one /ᶠ neg y ≡ neg v) × T (plus v) × T (le unit v))
unfolding div neg of_bits
inverse nan p u = absurd p
inverse (inf s) p u = absurd p
inverse (fin true m e) p u = absurd p
inverse (fin false zero e) p u = absurd p
inverse (fin false (suc m) e) p u =
    let a = 1 * 1 * down e in
    let c = suc m * up e * 1 in (
      round binary32 false a c,
      (
        rw (eqb-suc-zero m) (neg-round binary32 a c),
        plus_round binary32 a c,
        subst (λ (x : Float). T (le x (round binary32 false a c))) one_round
            (round_mono binary32 1 1 a c (pow_pos 0) (mul-pos (mul-pos (zero-lt-suc m) (up_pos e)) (pow_pos 0)) (less (suc m * up e) (down e) u)),
      ),
    )
  where
    less : (x d : ℕ) → x ≤ 1 * d → 1 * (x * 1) ≤ 1 * 1 * d * 1
    less x d h = omega (arith, h)

neg_neg_size : (k : ℕ) (v : Float) → Size k (neg v) → Size k v
unfolding neg
neg_neg_size k nan h = absurd h
neg_neg_size k (inf s) h = absurd h
neg_neg_size k (fin s m e) h = h

module _ (y : Float) (p : T (positive y)) (u : Size 0 y) (l : Least 4 y) where
  abbrev exponent : Float
  exponent = one /ᶠ neg y

  pub exponent_size : Size 4 exponent
  unfolding of_bits
  exponent_size = let n = neg_least 4 y p l in div_size 0 4 unit (neg y) (lit< tt) (lit≤ tt) n.0 n.1

  pub exponent_in : T (powered exponent)
  exponent_in = in_reach exponent exponent_size

  power_size : Size 3 (pow32 (decimal 9 10) exponent)
  power_size = subst (λ (x : Float). Size 3 (pow32 x exponent)) (sym nine_is) (pow_size_by 4 3 7549746 (negsuc 22) exponent (lit< tt) log_high exponent_in exponent_size)

  power_low : T (le low (pow32 (decimal 9 10) exponent))
  power_low =
      let v = inverse y p u in
      let n = neg_neg_size 4 v.0 (subst (Size 4) v.1.0 exponent_size) in
      subst (λ (x : Float). T (le low (pow32 (decimal 9 10) x))) (sym v.1.0)
      (pow_more v.0 (subst (λ (x : Float). T (powered x)) v.1.0 exponent_in) (size_finite 4 v.0 n) v.1.1 v.1.2)

  factor_is : factor_def (neg y) ≡ pow32 (decimal 9 10) exponent -ᶠ unit
  unfolding factor_def
  factor_is = ap (λ (x : Float). pow32 (decimal 9 10) exponent -ᶠ x) one_is

  pub factor_size : Size 4 (factor_def (neg y))
  factor_size = subst (Size 4) (sym factor_is) (sub_size 3 (pow32 (decimal 9 10) exponent) unit (lit< tt) power_size (lit≤ tt))

  factor_low : T (le (round binary32 false 1 1024) (factor_def (neg y)))
  factor_low =
      let x = pow32 (decimal 9 10) exponent in
      subst (λ (z : Float). T (le (round binary32 false 1 1024) z)) (sym factor_is)
      (less_low x (above_finite low x tt (size_finite 3 x power_size) power_low) power_low)

  pub factor_above : T (positive (factor_def (neg y)))
  unfolding round
  factor_above = above_finite (round binary32 false 1 1024) (factor_def (neg y)) tt (size_finite 4 (factor_def (neg y)) factor_size) factor_low

  pub factor_least : Least 10 (factor_def (neg y))
  unfolding round
  factor_least = least_of 10 (round binary32 false 1 1024) (factor_def (neg y)) tt factor_above factor_low (lit≤ tt)
