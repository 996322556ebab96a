-- How large a number is, |x| at most 2 ^ k, and whether it is negative; both of a rounded fraction, in either format. Assumes nothing.
use mathlib.Core.Path.{◌≡◌, refl, sym, ap, ◌∙◌, subst}
use mathlib.Core.Bool.{Bool, true, false, not, cond}
use Prim.Native.Nat.{ℕ, zero, suc, ◌+◌, ◌*◌, ◌^◌, ◌≤◌, ◌<◌}
use native.Mathlib.Nat.{le_trans, le_of_eq, lt_of_le_of_lt, lt_of_lt_of_le, mul-one, one-mul, mul-le-mul_right}
use lib.Dec.{T, ltb, lt→ltb}
use lib.IntN.{pos}
use lib.Pow.{pow_pos, pow-lt, pow_mono}
use lib.Ieee.{Float, nan, inf, fin, Format, binary32, binary64, prec, emax, low, odd, units, round, up, down, fits, neg, is_nan, le}
use lib.Ieee.Fits.{round_is}
use lib.Ieee.Order.{round_mono}
use lib.Ieee.Scale.{finite}
use Rattle.columns.proofs.scores.Settled.{settles}
use Rattle.kernels.proofs.Definitions.Cases.{below_or}

-- a number, and at most 2 ^ k in size
abbrev pub Size : ℕ → Float → Type 0
Size k nan = ⊥
Size k (inf s) = ⊥
Size k (fin s m e) = m * up e ≤ 2 ^ k * down e

pub size_finite : (k : ℕ) (x : Float) → Size k x → T (finite x)
size_finite k nan h = absurd h
size_finite k (inf s) h = absurd h
size_finite k (fin s m e) h = tt

pub wider : (j k : ℕ) (x : Float) → j ≤ k → Size j x → Size k x
wider j k nan l h = absurd h
wider j k (inf s) l h = absurd h
wider j k (fin s m e) l h = le_trans h (mul-le-mul_right (down e) (pow_mono l))

-- not negative: the sign +, or a NaN
abbrev pub plus : Float → Bool
plus nan = true
plus (inf s) = not s
plus (fin s m e) = not s

pub plus_cond : (b : Bool) (x y : Float) → T (plus x) → T (plus y) → T (plus (cond b x y))
plus_cond true x y h g = h
plus_cond false x y h g = g

-- ---- `round`, with the sign + and with -
plus_odd : (d q k l : ℕ) → T (plus (odd d false q k l))
unfolding odd
plus_odd d zero k l = tt
plus_odd d (suc q) k l = tt

plus_units : (f : Format) (q k : ℕ) → T (plus (units f false q k))
unfolding units
plus_units f q k = plus_cond (ltb (q * 2 ^ k) (2 ^ (low f + suc (emax f)))) (odd (suc (prec f)) false q k (low f)) (inf false) (plus_odd (suc (prec f)) q k (low f)) tt

pub plus_round : (f : Format) (a c : ℕ) → T (plus (round f false a c))
plus_round f a c = subst (λ (x : Float). T (plus x)) (sym (round_is f false a c)) (plus_units f _ _)

neg-odd : (d q k l : ℕ) → odd d true q k l ≡ neg (odd d false q k l)
unfolding odd neg
neg-odd d zero k l = refl
neg-odd d (suc q) k l = refl

neg-units : (f : Format) (q k : ℕ) → units f true q k ≡ neg (units f false q k)
unfolding units neg
neg-units f q k = go (ltb (q * 2 ^ k) (2 ^ (low f + suc (emax f))))
  where
    go : (b : Bool) → cond b (odd (suc (prec f)) true q k (low f)) (inf true) ≡ neg (cond b (odd (suc (prec f)) false q k (low f)) (inf false))
    go true = neg-odd (suc (prec f)) q k (low f)
    go false = refl

pub neg-round : (f : Format) (a c : ℕ) → round f true a c ≡ neg (round f false a c)
neg-round f a c = round_is f true a c ∙ neg-units f _ _ ∙ ap neg (sym (round_is f false a c))

pub neg_size : (k : ℕ) (x : Float) → Size k x → Size k (neg x)
unfolding neg
neg_size k nan h = absurd h
neg_size k (inf s) h = absurd h
neg_size k (fin s m e) h = h

pub most : (k : ℕ) (y : Float) → T (plus y) → T (le y (fin false 1 (pos k))) → Size k y
unfolding le
most k nan p h = absurd h
most k (inf true) p h = absurd p
most k (inf false) p h = absurd h
most k (fin true m e) p h = absurd p
most k (fin false m e) p h =
    le_trans (le_of_eq (sym (mul-one (m * up e)))) (le_trans (below_or (m * up e * 1) (1 * 2 ^ k * down e) true h) (le_of_eq (ap (λ (x : ℕ). x * down e) (one-mul (2 ^ k)))))

abbrev pub unit : Float
unit = fin false 1 (pos 0)

pub one_round : round binary32 false 1 1 ≡ unit
unfolding round
one_round = refl

-- ---- in a format, whose numbers lie below 2 ^ (emax + 1)
under : (k e : ℕ) → k < suc e → 1 * 2 ^ k < 2 ^ suc e * 1
under k e h = lt_of_le_of_lt (le_of_eq (one-mul (2 ^ k))) (lt_of_lt_of_le (pow-lt h) (le_of_eq (sym (mul-one (2 ^ suc e)))))

power_fits : (f : Format) (k : ℕ) → k < suc (emax f) → T (fits f (fin false 1 (pos k)))
unfolding fits
power_fits binary32 k h = lt→ltb (1 * 2 ^ k) (2 ^ 128 * 1) (under k 127 h)
power_fits binary64 k h = lt→ltb (1 * 2 ^ k) (2 ^ 1024 * 1) (under k 1023 h)

power_round : (f : Format) (k : ℕ) → k < suc (emax f) → round f false (2 ^ k) 1 ≡ fin false 1 (pos k)
power_round f k h = settles f false 1 (pos k) (2 ^ k) 1 (power_fits f k h) (pow_pos 0) (ap (λ (x : ℕ). x * 1) (sym (one-mul (2 ^ k))))

plus_size : (f : Format) (a c k : ℕ) → 0 < c → k < suc (emax f) → a ≤ 2 ^ k * c → Size k (round f false a c)
plus_size f a c k z l h =
    most k (round f false a c) (plus_round f a c)
    (subst (λ (x : Float). T (le (round f false a c) x)) (power_round f k l) (round_mono f a c (2 ^ k) 1 z (pow_pos 0) (le_trans (le_of_eq (mul-one a)) h)))

pub round_size_in : (f : Format) (s : Bool) (a c k : ℕ) → 0 < c → k < suc (emax f) → a ≤ 2 ^ k * c → Size k (round f s a c)
round_size_in f true a c k z l h = subst (Size k) (sym (neg-round f a c)) (neg_size k (round f false a c) (plus_size f a c k z l h))
round_size_in f false a c k z l h = plus_size f a c k z l h

pub round_size : (s : Bool) (a c k : ℕ) → 0 < c → k < 128 → a ≤ 2 ^ k * c → Size k (round binary32 s a c)
round_size = round_size_in binary32

-- a NaN is no number
pub size_number : (k : ℕ) (x : Float) → Size k x → is_nan x ≡ false
unfolding is_nan
size_number k nan h = absurd h
size_number k (inf s) h = absurd h
size_number k (fin s m e) h = refl
