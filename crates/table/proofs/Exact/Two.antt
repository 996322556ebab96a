-- Polynomials in two arguments a / b and c / b: a list of rows, row k the coefficient of (c / b) ^ k, a polynomial in a / b.
use mathlib.Core.Path.{◌≡◌, refl}
use mathlib.Core.List.{List, [], ◌∷◌}
use Prim.Native.Nat.{ℕ, zero, suc, ◌+◌, ◌*◌, ◌^◌, ◌≤◌, ◌<◌}
use native.Mathlib.Nat.{zero-add, suc-add, mul-le-mul, mul-le-mul_left, mul-le-mul_right, pow-succ', one-le-pow, le_of_mul-le-mul_right}
use native.Mathlib.Omega.{arith}
use lib.Dec.{T}
use Rattle.table.proofs.Exact.Poly.{h, add, scale}
use Rattle.table.proofs.Exact.Laws.{fits, sub, h_nil, h_add, h_scale, h_lift, h_sub, h_mono}

-- b ^ K times the value
unfoldable pub h2 : ℕ → List (List ℕ) → ℕ → ℕ → ℕ → ℕ
h2 zero [] a c b = 0
h2 zero (p ∷ ps) a c b = h 0 p a b
h2 (suc K) [] a c b = 0
h2 (suc K) (p ∷ ps) a c b = h (suc K) p a b + c * h2 K ps a c b

pub h2_nil : (K a c b : ℕ) → h2 K [] a c b ≡ 0
unfolding h2
h2_nil zero a c b = refl
h2_nil (suc K) a c b = refl

-- ---- p(a / b) q(c / b)
unfoldable pub outer : List ℕ → List ℕ → List (List ℕ)
outer p [] = []
outer p (x ∷ q) = scale x p ∷ outer p q

pub h2_outer : (K L : ℕ) (p q : List ℕ) (a c b : ℕ) → T (fits K p) → T (fits L q) → h2 (L + K) (outer p q) a c b ≡ h K p a b * h L q c b
unfolding h2 outer h
h2_outer K zero p [] a c b t u = rw (h2_nil (0 + K) a c b) (omega arith)
h2_outer zero zero p (x ∷ []) a c b t u = rw (h_scale 0 x p a b) (omega arith)
h2_outer (suc K) zero p (x ∷ []) a c b t u = rw (zero-add (suc K), h_scale (suc K) x p a b, h2_nil K a c b) (omega arith)
h2_outer K zero p (x ∷ y ∷ q) a c b t u = absurd u
h2_outer K (suc L) p [] a c b t u = rw (h2_nil (suc L + K) a c b) (omega arith)
h2_outer K (suc L) p (x ∷ q) a c b t u =
    rw (suc-add L K, h_scale (suc (L + K)) x p a b, h2_outer K L p q a c b t u, rw (suc-add L K) at (h_lift (suc L) K p a b t)) (omega arith)

-- ---- p((a + c) / b)
unfoldable pub add2 : List (List ℕ) → List (List ℕ) → List (List ℕ)
add2 [] q = q
add2 (r ∷ p) [] = r ∷ p
add2 (r ∷ p) (s ∷ q) = add r s ∷ add2 p q

unfoldable pub shift2 : List (List ℕ) → List (List ℕ)
shift2 [] = []
shift2 (r ∷ p) = (0 ∷ r) ∷ shift2 p

unfoldable pub bin : ℕ → List ℕ → List (List ℕ)
bin zero [] = []
bin zero (x ∷ p) = (x ∷ []) ∷ []
bin (suc n) [] = []
bin (suc n) (x ∷ p) = add2 ((x ∷ []) ∷ []) (add2 (shift2 (bin n p)) ([] ∷ bin n p))

pub h2_add : (K : ℕ) (p q : List (List ℕ)) (a c b : ℕ) → h2 K (add2 p q) a c b ≡ h2 K p a c b + h2 K q a c b
unfolding h2 add2
h2_add K [] q a c b = rw (h2_nil K a c b) (omega arith)
h2_add K (r ∷ p) [] a c b = rw (h2_nil K a c b) (omega arith)
h2_add zero (r ∷ p) (s ∷ q) a c b = h_add 0 r s a b
h2_add (suc K) (r ∷ p) (s ∷ q) a c b = rw (h_add (suc K) r s a b, h2_add K p q a c b) (omega arith)

-- a row may not fill the last place: its shift would be lost
h2_shift : (K : ℕ) (p : List (List ℕ)) (a c b : ℕ) → h2 (suc K) (shift2 p) a c b ≡ a * h2 K p a c b
unfolding h2 shift2 h
h2_shift K [] a c b = rw (h2_nil K a c b) (omega arith)
h2_shift zero (r ∷ []) a c b = omega arith
h2_shift zero (r ∷ s ∷ p) a c b = omega arith
h2_shift (suc K) (r ∷ p) a c b = rw (h2_shift K p a c b) (omega arith)

pub h2_bin : (n : ℕ) (p : List ℕ) (a c b : ℕ) → h2 n (bin n p) a c b ≡ h n p (a + c) b
unfolding h2 bin h
h2_bin zero [] a c b = refl
h2_bin zero (x ∷ p) a c b = refl
h2_bin (suc n) [] a c b = refl
h2_bin (suc n) (x ∷ p) a c b =
    rw (
      h2_add (suc n) ((x ∷ []) ∷ []) (add2 (shift2 (bin n p)) ([] ∷ bin n p)) a c b,
      h2_add (suc n) (shift2 (bin n p)) ([] ∷ bin n p) a c b,
      h2_shift n (bin n p) a c b,
      h2_nil n a c b,
      h_nil n a b,
      h2_bin n p a c b,
    ) (omega arith)

-- ---- order
unfoldable pub sub2 : List (List ℕ) → List (List ℕ) → List (List ℕ)
sub2 [] p = []
sub2 (s ∷ q) [] = s ∷ q
sub2 (s ∷ q) (r ∷ p) = sub s r ∷ sub2 q p

pub h2_sub : (K : ℕ) (q p : List (List ℕ)) (a c b : ℕ) → h2 K q a c b ≤ h2 K p a c b + h2 K (sub2 q p) a c b
unfolding h2 sub2
h2_sub K [] p a c b = rw (h2_nil K a c b) (omega arith)
h2_sub K (s ∷ q) [] a c b = rw (h2_nil K a c b) (omega arith)
h2_sub zero (s ∷ q) (r ∷ p) a c b = h_sub 0 s r a b
h2_sub (suc K) (s ∷ q) (r ∷ p) a c b = omega (arith, h_sub (suc K) s r a b, mul-le-mul_left c (h2_sub K q p a c b))

-- a / b ≤ x / d and c / b ≤ y / d
pub h2_mono : (K : ℕ) (p : List (List ℕ)) (a c b x y d : ℕ) → a * d ≤ x * b → c * d ≤ y * b → h2 K p a c b * d ^ K ≤ h2 K p x y d * b ^ K
unfolding h2
h2_mono K [] a c b x y d l m = rw (h2_nil K a c b) (omega arith)
h2_mono zero (r ∷ p) a c b x y d l m = h_mono 0 r a b x d l
h2_mono (suc K) (r ∷ p) a c b x y d l m =
    rw (pow-succ' b K, pow-succ' d K)
    (omega (arith, (rw (pow-succ' b K, pow-succ' d K) at (h_mono (suc K) r a b x d l)), mul-le-mul m (h2_mono K p a c b x y d l m)))

pub near2 : (K : ℕ) (q p : List (List ℕ)) (a c b x y d t W : ℕ) → a * d ≤ x * b → c * d ≤ y * b → zero < d → h2 K (sub2 q p) x y d * t ≤ W * d ^ K
    → h2 K q a c b * t ≤ h2 K p a c b * t + W * b ^ K
near2 K q p a c b x y d t W l m z test = omega (arith, mul-le-mul_right t (h2_sub K q p a c b), small)
  where
    small : h2 K (sub2 q p) a c b * t ≤ W * b ^ K
    small =
        le_of_mul-le-mul_right {k = d ^ K}
        (omega (arith, mul-le-mul_right t (h2_mono K (sub2 q p) a c b x y d l m), mul-le-mul_right (b ^ K) test))
        (one-le-pow K d z)
