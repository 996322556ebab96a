-- The order of floats is total but for the NaN, so that a clamp of any number lies between its ends; and two singles that are equal, and above 0, are one. Assumes nothing.
use mathlib.Core.Path.{◌≡◌, refl, sym, ◌∙◌}
use mathlib.Core.Bool.{Bool, true, false, ◌&&◌, ◌||◌, cond, true≢false}
use Prim.Native.Nat.{ℕ, zero, suc, ◌+◌, ◌*◌, ◌<◌}
use native.Mathlib.Nat.{mul-pos}
use native.Mathlib.Omega.{arith}
use borrow.Author.Tests.{ltb-false, lt-ltb}
use lib.Dec.{T, eqb, ltb, ltb→lt, lt→ltb, eqb→eq}
use lib.IntN.{ℤ}
use lib.Ieee.{Float, nan, inf, fin, Format, up, down, fits, is_nan, below, level, lt, eq, le}
use lib.Ieee.Exact.{HasValue}
use lib.Ieee.Fits.{and_i, and_l, and_r, cond-fits, up_pos, down_pos}
use lib.Ieee.Positive.{positive}
use Rattle.domain.specs.Floats.{clamp_def, within}
use Rattle.columns.proofs.scores.Settled.{unique}
use Rattle.laws.proofs.Values.Curve.{yes}
use Rattle.laws.proofs.Values.Logs.{of_below, below_of}

-- ---- what is not below is at or above
-- -a and b
minus_plus : (a b : ℕ) → T (ltb 0 (a + b) || (eqb a b && (false || eqb a 0)))
minus_plus zero zero = tt
minus_plus zero (suc b) = yes (ltb 0 (zero + suc b)) _ (lt→ltb 0 (zero + suc b) (omega arith))
minus_plus (suc a) b = yes (ltb 0 (suc a + b)) _ (lt→ltb 0 (suc a + b) (omega arith))

-- a and -b, not below: both are 0
both_zero : (a b : ℕ) → ltb 0 (a + b) ≡ false → T (eqb b a && (false || eqb b 0))
both_zero zero zero h = tt
both_zero zero (suc b) h = absurd (true≢false (sym (lt-ltb 0 (zero + suc b) (omega arith)) ∙ h))
both_zero (suc a) b h = absurd (true≢false (sym (lt-ltb 0 (suc a + b) (omega arith)) ∙ h))

turned : (s : Bool) (a : ℕ) (t : Bool) (b : ℕ) → below s a t b ≡ false → T (below t b s a || level t b s a)
turned false a false b h = of_below b a (ltb-false a b h)
turned false a true b h = minus_plus b a
turned true a false b h = both_zero a b h
turned true a true b h = below_of a b (ltb-false b a h)

pub not-below : (x y : Float) → is_nan x ≡ false → is_nan y ≡ false → lt x y ≡ false → T (le y x)
unfolding lt eq le is_nan
not-below nan y n k h = absurd (true≢false n)
not-below (inf s) nan n k h = absurd (true≢false k)
not-below (inf true) (inf true) n k h = tt
not-below (inf true) (inf false) n k h = absurd (true≢false h)
not-below (inf false) (inf true) n k h = tt
not-below (inf false) (inf false) n k h = tt
not-below (inf true) (fin t m e) n k h = absurd (true≢false h)
not-below (inf false) (fin t m e) n k h = tt
not-below (fin s m e) nan n k h = absurd (true≢false k)
not-below (fin s m e) (inf true) n k h = tt
not-below (fin s m e) (inf false) n k h = absurd (true≢false h)
not-below (fin s m e) (fin t p d) n k h = turned s (m * up e * down d) t (p * up d * down e) h

-- ---- a clamp
module _ (x low high : Float) where
  -- the ends, neither a NaN, lie between themselves
  pub clamp_within :
      is_nan low ≡ false → is_nan high ≡ false → T (within low low high) → T (within high low high) → is_nan x ≡ false → T (within (clamp_def x low high) low high)
  unfolding clamp_def
  clamp_within l h a b n = go (lt x low) (lt high x) refl refl
    where
      go : (p q : Bool) → p ≡ lt x low → q ≡ lt high x → T (within (cond p low (cond q high x)) low high)
      go true q e d = a
      go false true e d = b
      go false false e d = and_i (le low x) (le x high) (not-below x low n l (sym e)) (not-below high x h n (sym d))

  pub clamp_fits : (f : Format) → T (fits f low) → T (fits f high) → T (fits f x) → T (fits f (clamp_def x low high))
  unfolding clamp_def
  clamp_fits f l h k = cond-fits f (lt x low) low (cond (lt high x) high x) l (cond-fits f (lt high x) high x h k)

-- ---- equal singles
no_zero : (a b : ℕ) → 0 < b → a ≡ b → a ≡ 0 → ⊥
no_zero a b h p q = omega (arith, h, p, q)

value_of : (x : Float) (n : ℕ) (d : ℤ) → 0 < n → T (eq x (fin false n d)) → HasValue x false (n * up d) (down d)
unfolding eq
value_of nan n d p h = absurd h
value_of (inf s) n d p h = absurd h
value_of (fin false m e) n d p h = (refl, eqb→eq (m * up e * down d) (n * up d * down e) (and_l (eqb (m * up e * down d) (n * up d * down e)) true h))
value_of (fin true m e) n d p h =
    let a = m * up e * down d in
    let b = n * up d * down e in
    absurd (no_zero a b (mul-pos (mul-pos p (up_pos d)) (down_pos e)) (eqb→eq a b (and_l (eqb a b) (eqb a 0) h)) (eqb→eq a 0 (and_r (eqb a b) (eqb a 0) h)))

pub equal_is : (f : Format) (x y : Float) → T (fits f x) → T (fits f y) → T (positive y) → T (eq x y) → x ≡ y
equal_is f x nan k l p h = absurd p
equal_is f x (inf s) k l p h = absurd p
equal_is f x (fin true n d) k l p h = absurd p
equal_is f x (fin false n d) k l p h = unique f x (fin false n d) false (n * up d) (down d) k l (down_pos d) (value_of x n d (ltb→lt 0 n p) h) (refl, refl)
