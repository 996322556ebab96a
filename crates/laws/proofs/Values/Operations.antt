-- How large a product, a sum and a quotient are, in either format, and when a product is not negative. Assumes nothing.
use mathlib.Core.Path.{◌≡◌, sym, ap, ◌∙◌, subst}
use mathlib.Core.Bool.{Bool, true, false, beq, cond}
use Prim.Native.Nat.{ℕ, zero, suc, ◌+◌, ◌-◌, ◌*◌, ◌^◌, ◌≤◌, ◌<◌}
use native.Mathlib.Nat.{le_trans, le_of_eq, zero-mul, mul_assoc, mul_comm, mul-mul-mul_comm, mul-pos, mul-le-mul, mul-le-mul_left, mul-le-mul_right, not-suc-le-zero}
use native.Mathlib.Omega.{arith}
use lib.Dec.{T, eqb, ltb, eqb-suc-zero}
use lib.Pow.{pow-add, pow_mono}
use lib.Ieee.{Float, nan, inf, fin, Format, binary32, emax, unlike, up, down, neg, add, sub, mul, div}
use lib.Ieee.Fits.{down_pos}
use lib.Ieee.Positive.{num, den}
use lib.Ieee.Scale.{finite}
use Rattle.soft.proofs.Rounding.Sum.{sum_is}
use Rattle.soft.specs.inner.Cuts.{sum_sign, sum_size_def}
use Rattle.domain.specs.Floats.{◌+ᶠ◌, ◌-ᶠ◌, ◌*ᶠ◌, ◌/ᶠ◌}
use Rattle.laws.proofs.Values.Sizes.{Size, plus, plus_cond, plus_round, neg_size, round_size_in}

pub mul_size_in : (f : Format) (j k : ℕ) (x y : Float) → j + k < suc (emax f) → Size j x → Size k y → Size (j + k) (mul f x y)
unfolding mul
mul_size_in f j k nan y l g h = absurd g
mul_size_in f j k (inf s) y l g h = absurd g
mul_size_in f j k (fin s m e) nan l g h = absurd h
mul_size_in f j k (fin s m e) (inf t) l g h = absurd h
mul_size_in f j k (fin s m e) (fin t n d) l g h =
    round_size_in f (unlike s t) (m * up e * (n * up d)) (down e * down d) (j + k) (mul-pos (down_pos e) (down_pos d)) l
    (le_trans (mul-le-mul g h) (le_of_eq (mul-mul-mul_comm (2 ^ j) (down e) (2 ^ k) (down d) ∙ ap (λ (x : ℕ). x * (down e * down d)) (sym (pow-add 2 j k)))))

pub mul_size : (j k : ℕ) (x y : Float) → j + k < 128 → Size j x → Size k y → Size (j + k) (x *ᶠ y)
mul_size = mul_size_in binary32

pub plus_mul : (x y : Float) → T (plus x) → T (plus y) → T (plus (x *ᶠ y))
unfolding mul
plus_mul nan y g h = tt
plus_mul (inf true) y g h = absurd g
plus_mul (inf false) nan g h = tt
plus_mul (inf false) (inf true) g h = absurd h
plus_mul (inf false) (inf false) g h = tt
plus_mul (inf false) (fin true n d) g h = absurd h
plus_mul (inf false) (fin false n d) g h = plus_cond (eqb n 0) nan (inf false) tt tt
plus_mul (fin true m e) y g h = absurd g
plus_mul (fin false m e) nan g h = tt
plus_mul (fin false m e) (inf true) g h = absurd h
plus_mul (fin false m e) (inf false) g h = plus_cond (eqb m 0) nan (inf false) tt tt
plus_mul (fin false m e) (fin true n d) g h = absurd h
plus_mul (fin false m e) (fin false n d) g h = plus_round binary32 (m * up e * (n * up d)) (down e * down d)

pub sum_most : (s : Bool) (a : ℕ) (t : Bool) (b : ℕ) → sum_size_def s a t b ≤ a + b
unfolding sum_size_def
sum_most s a t b = go (beq s t) (ltb a b)
  where
    go : (p q : Bool) → cond p (a + b) (cond q (b - a) (a - b)) ≤ a + b
    go true q = omega arith
    go false true = omega arith
    go false false = omega arith

double : (p a b c z : ℕ) → z ≤ a + b → a ≤ p * c → b ≤ p * c → z ≤ p * 2 * c
double p a b c z h i j = omega arith

pub add_size_in : (f : Format) (k : ℕ) (x y : Float) → k + 1 < suc (emax f) → Size k x → Size k y → Size (k + 1) (add f x y)
unfolding add
add_size_in f k nan y l g h = absurd g
add_size_in f k (inf s) y l g h = absurd g
add_size_in f k (fin s m e) nan l g h = absurd h
add_size_in f k (fin s m e) (inf t) l g h = absurd h
add_size_in f k (fin s m e) (fin t n d) l g h =
    let a = m * up e * down d in
    let b = n * up d * down e in
    let c = down e * down d in
    subst (Size (k + 1)) (sym (sum_is f s a t b c))
    (round_size_in f (sum_sign s a t b) (sum_size_def s a t b) c (k + 1) (mul-pos (down_pos e) (down_pos d)) l
    (le_trans
    (double (2 ^ k) a b c (sum_size_def s a t b) (sum_most s a t b) (le_trans (mul-le-mul_right (down d) g) (le_of_eq (mul_assoc (2 ^ k) (down e) (down d))))
    (le_trans (mul-le-mul_right (down e) h) (le_of_eq (mul_assoc (2 ^ k) (down d) (down e) ∙ ap (λ (x : ℕ). 2 ^ k * x) (mul_comm (down d) (down e))))))
    (le_of_eq (ap (λ (x : ℕ). x * c) (sym (pow-add 2 k 1))))))

pub add_size : (k : ℕ) (x y : Float) → k + 1 < 128 → Size k x → Size k y → Size (k + 1) (x +ᶠ y)
add_size = add_size_in binary32

pub sub_size_in : (f : Format) (k : ℕ) (x y : Float) → k + 1 < suc (emax f) → Size k x → Size k y → Size (k + 1) (sub f x y)
unfolding sub
sub_size_in f k x y l g h = add_size_in f k x (neg y) l g (neg_size k y h)

pub sub_size : (k : ℕ) (x y : Float) → k + 1 < 128 → Size k x → Size k y → Size (k + 1) (x -ᶠ y)
sub_size = sub_size_in binary32

-- y is 2 ^ -j or more
abbrev pub Least : ℕ → Float → Type 0
Least j y = den y ≤ num y * 2 ^ j

pub least_wider : (j k : ℕ) (y : Float) → j ≤ k → Least j y → Least k y
least_wider j k y l h = le_trans h (mul-le-mul_left (num y) (pow_mono l))

pub div_size_in : (f : Format) (k j : ℕ) (x y : Float) → k + j < suc (emax f) → Size k x → T (finite y) → Least j y → Size (k + j) (div f x y)
unfolding div
div_size_in f k j nan y l g a h = absurd g
div_size_in f k j (inf s) y l g a h = absurd g
div_size_in f k j (fin s m e) nan l g a h = absurd a
div_size_in f k j (fin s m e) (inf t) l g a h = absurd a
div_size_in f k j (fin s m e) (fin t zero d) l g a h = absurd (not-suc-le-zero (le_trans (down_pos d) (le_trans h (le_of_eq (ap (λ (x : ℕ). x * 2 ^ j) (zero-mul (up d)) ∙ zero-mul (2 ^ j))))))
div_size_in f k j (fin s m e) (fin t (suc n) d) l g a h =
    rw (eqb-suc-zero n)
    (round_size_in f (unlike s t) (m * up e * down d) (suc n * up d * down e) (k + j) (above (suc n * up d) (down d) (2 ^ j) (down e) (down_pos d) (down_pos e) h) l
    (le_trans (mul-le-mul g h) (le_of_eq (turn (2 ^ k) (down e) (suc n * up d) (2 ^ j) ∙ ap (λ (x : ℕ). x * (suc n * up d * down e)) (sym (pow-add 2 k j))))))
  where
    turn : (p e n q : ℕ) → p * e * (n * q) ≡ p * q * (n * e)
    turn p e n q = mul-mul-mul_comm p e n q ∙ ap (λ (x : ℕ). p * n * x) (mul_comm e q) ∙ mul-mul-mul_comm p n q e

    above : (n d p e : ℕ) → 0 < d → 0 < e → d ≤ n * p → 0 < n * e
    above zero d p e z w h = absurd (not-suc-le-zero (le_trans z (le_trans h (le_of_eq (zero-mul p)))))
    above (suc n) d p e z w h = mul-pos {m = suc n} (omega arith) w

pub div_size : (k j : ℕ) (x y : Float) → k + j < 128 → Size k x → T (finite y) → Least j y → Size (k + j) (x /ᶠ y)
div_size = div_size_in binary32
