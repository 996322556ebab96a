-- The laws of h: sums, products, composition, order.
use mathlib.Core.Path.{◌≡◌, refl, ap}
use mathlib.Core.Bool.{Bool, true, false}
use mathlib.Core.List.{List, [], ◌∷◌}
use Prim.Native.Nat.{ℕ, zero, suc, ◌+◌, ◌-◌, ◌*◌, ◌^◌, ◌≤◌, ◌<◌}
use native.Mathlib.Nat.{zero-mul, add-zero, zero-add, add-suc, suc-add, mul-le-mul, mul-le-mul_left, mul-le-mul_right, add_comm, pow-succ', pow-zero, mul-one, suc-mul, one-le-pow, le_of_mul-le-mul_right}
use native.Mathlib.Numerals.{one-add}
use native.Mathlib.Omega.{arith}
use lib.Dec.{T}
use lib.Pow.{pow-add}
use Rattle.table.proofs.Exact.Poly.{h, add, scale, axpy, mul, comp}

-- the polynomial has degree at most K
abbrev pub fits : ℕ → List ℕ → Bool
fits zero [] = true
fits zero (c ∷ []) = true
fits zero (c ∷ d ∷ p) = false
fits (suc K) [] = true
fits (suc K) (c ∷ p) = fits K p

pub h_nil : (K a b : ℕ) → h K [] a b ≡ 0
unfolding h
h_nil zero a b = refl
h_nil (suc K) a b = refl

pub h_add : (K : ℕ) (p q : List ℕ) (a b : ℕ) → h K (add p q) a b ≡ h K p a b + h K q a b
unfolding h add
h_add K [] q a b = rw (h_nil K a b) (omega arith)
h_add K (x ∷ p) [] a b = rw (h_nil K a b) (omega arith)
h_add zero (x ∷ p) (y ∷ q) a b = refl
h_add (suc K) (x ∷ p) (y ∷ q) a b = rw (h_add K p q a b) (omega arith)

pub h_scale : (K c : ℕ) (p : List ℕ) (a b : ℕ) → h K (scale c p) a b ≡ c * h K p a b
unfolding h scale
h_scale K c [] a b = rw (h_nil K a b) (omega arith)
h_scale zero c (x ∷ p) a b = refl
h_scale (suc K) c (x ∷ p) a b = rw (h_scale K c p a b) (omega arith)

pub h_const : (M c a b : ℕ) → h M (c ∷ []) a b ≡ c * b ^ M
unfolding h
h_const zero c a b = rw (pow-zero b) (omega arith)
h_const (suc M) c a b = rw (h_nil M a b) (omega arith)

pub h_two : (M x y a b : ℕ) → h (suc M) (x ∷ y ∷ []) a b ≡ x * b ^ suc M + a * (y * b ^ M)
unfolding h
h_two M x y a b = rw (h_const M y a b)

pub pow-one : (b : ℕ) → b ^ 1 ≡ b
pow-one b = rw (pow-succ' b 0, pow-zero b, mul-one b)

pub h_shift : (K : ℕ) (p : List ℕ) (a b : ℕ) → h (suc K) (0 ∷ p) a b ≡ a * h K p a b
unfolding h
h_shift K p a b = omega arith

pub h_lift : (M K : ℕ) (p : List ℕ) (a b : ℕ) → T (fits K p) → h (M + K) p a b ≡ b ^ M * h K p a b
unfolding h
h_lift M zero [] a b t = rw (h_nil (M + 0) a b) (omega arith)
h_lift M zero (c ∷ []) a b t = rw (add-zero M, h_const M c a b) (omega arith)
h_lift M zero (c ∷ d ∷ p) a b t = absurd t
h_lift M (suc K) [] a b t = rw (h_nil (M + suc K) a b) (omega arith)
h_lift M (suc K) (c ∷ p) a b t = rw (add-suc M K, h_lift M K p a b t, pow-succ' b (M + K), pow-add b M K, pow-succ' b K) (omega arith)

-- one degree more, and r + x p
pub h_more : (K : ℕ) (p : List ℕ) (a b : ℕ) → T (fits K p) → h (suc K) p a b ≡ b * h K p a b
h_more K p a b f = rw (← one-add K, h_lift 1 K p a b f, pow-one b)

pub h_next : (K : ℕ) (r p : List ℕ) (a b : ℕ) → h (suc K) (add r (0 ∷ p)) a b ≡ h (suc K) r a b + a * h K p a b
h_next K r p a b = rw (h_add (suc K) r (0 ∷ p) a b, h_shift K p a b)

pub axpy_is : (c : ℕ) (p q : List ℕ) → axpy c p q ≡ add (scale c p) q
unfolding axpy add scale
axpy_is c [] q = refl
axpy_is c (a ∷ p) [] = rw (axpy_is c p []) (ap (◌∷◌ (c * a)) (add_nil (scale c p)))
  where
    add_nil : (p : List ℕ) → add p [] ≡ p
    add_nil [] = refl
    add_nil (x ∷ p) = refl
axpy_is c (a ∷ p) (b ∷ q) = rw (axpy_is c p q)

mul_cons : (K c : ℕ) (p q : List ℕ) (a b : ℕ) → h K (mul (c ∷ p) q) a b ≡ h K (add (scale c q) (0 ∷ mul p q)) a b
unfolding mul
mul_cons K zero p q a b = rw (h_add K (scale 0 q) (0 ∷ mul p q) a b, h_scale K 0 q a b) (omega arith)
mul_cons K (suc c) p q a b = rw (axpy_is (suc c) q (0 ∷ mul p q))

pub h_mul : (K L : ℕ) (p q : List ℕ) (a b : ℕ) → T (fits K p) → T (fits L q) → h (K + L) (mul p q) a b ≡ h K p a b * h L q a b
unfolding h mul
h_mul zero L [] q a b t u = rw (h_nil (0 + L) a b) (omega arith)
h_mul zero L (c ∷ []) q a b t u =
    rw (zero-add L, mul_cons L c [] q a b, h_add L (scale c q) (0 ∷ []) a b, h_scale L c q a b, h_const L 0 a b) (omega arith)
h_mul zero L (c ∷ d ∷ p) q a b t u = absurd t
h_mul (suc K) L [] q a b t u = rw (h_nil (suc K + L) a b) (omega arith)
h_mul (suc K) L (c ∷ p) q a b t u =
    rw (
      suc-add K L,
      mul_cons (suc (K + L)) c p q a b,
      h_add (suc (K + L)) (scale c q) (0 ∷ mul p q) a b,
      h_scale (suc (K + L)) c q a b,
      h_mul K L p q a b t u,
      rw (suc-add K L) at (h_lift (suc K) L q a b u),
    ) (omega arith)

-- the degrees
pub fits_lift : (K : ℕ) (p : List ℕ) → T (fits K p) → T (fits (suc K) p)
fits_lift zero [] t = tt
fits_lift zero (c ∷ []) t = tt
fits_lift zero (c ∷ d ∷ p) t = absurd t
fits_lift (suc K) [] t = tt
fits_lift (suc K) (c ∷ p) t = fits_lift K p t

pub fits_nil : (K : ℕ) → T (fits K [])
fits_nil zero = tt
fits_nil (suc K) = tt

pub fits_one : (K c : ℕ) → T (fits K (c ∷ []))
fits_one zero c = tt
fits_one (suc K) c = fits_nil K

pub fits_up : (M K : ℕ) (p : List ℕ) → T (fits K p) → T (fits (M + K) p)
fits_up zero K p t = rw (zero-add K) t
fits_up (suc M) K p t = rw (suc-add M K) (fits_lift (M + K) p (fits_up M K p t))

pub fits_add : (K : ℕ) (p q : List ℕ) → T (fits K p) → T (fits K q) → T (fits K (add p q))
unfolding add
fits_add K [] q t u = u
fits_add K (x ∷ p) [] t u = t
fits_add zero (x ∷ []) (y ∷ []) t u = tt
fits_add zero (x ∷ []) (y ∷ z ∷ q) t u = absurd u
fits_add zero (x ∷ z ∷ p) (y ∷ q) t u = absurd t
fits_add (suc K) (x ∷ p) (y ∷ q) t u = fits_add K p q t u

pub fits_scale : (K c : ℕ) (p : List ℕ) → T (fits K p) → T (fits K (scale c p))
unfolding scale
fits_scale K c [] t = t
fits_scale zero c (x ∷ []) t = tt
fits_scale zero c (x ∷ y ∷ p) t = absurd t
fits_scale (suc K) c (x ∷ p) t = fits_scale K c p t

pub fits_mul : (K L : ℕ) (p q : List ℕ) → T (fits K p) → T (fits L q) → T (fits (K + L) (mul p q))
unfolding mul
fits_mul K L [] q t u = fits_nil (K + L)
fits_mul zero L (zero ∷ []) q t u = rw (zero-add L) (fits_one L 0)
fits_mul zero L (suc c ∷ []) q t u = rw (zero-add L, axpy_is (suc c) q (0 ∷ [])) (fits_add L (scale (suc c) q) (0 ∷ []) (fits_scale L (suc c) q u) (fits_one L 0))
fits_mul zero L (c ∷ d ∷ p) q t u = absurd t
fits_mul (suc K) L (zero ∷ p) q t u = rw (suc-add K L) (fits_mul K L p q t u)
fits_mul (suc K) L (suc c ∷ p) q t u =
    rw (suc-add K L, axpy_is (suc c) q (0 ∷ mul p q)) (fits_add (suc (K + L)) (scale (suc c) q) (0 ∷ mul p q)
    (fits_scale (suc (K + L)) (suc c) q (rw (suc-add K L) at (fits_up (suc K) L q u))) (fits_mul K L p q t u))

-- ---- order
-- coefficient by coefficient, what q has more than p
unfoldable pub sub : List ℕ → List ℕ → List ℕ
sub [] p = []
sub (y ∷ q) [] = y ∷ q
sub (y ∷ q) (x ∷ p) = (y - x) ∷ sub q p

pub h_sub : (K : ℕ) (q p : List ℕ) (a b : ℕ) → h K q a b ≤ h K p a b + h K (sub q p) a b
unfolding h sub
h_sub K [] p a b = rw (h_nil K a b) (omega arith)
h_sub K (y ∷ q) [] a b = rw (h_nil K a b) (omega arith)
h_sub zero (y ∷ q) (x ∷ p) a b = omega arith
h_sub (suc K) (y ∷ q) (x ∷ p) a b =
    omega (arith, mul-le-mul_left a (h_sub K q p a b), mul-le-mul_right (b ^ suc K) (more y x))
  where
    more : (y x : ℕ) → y ≤ x + (y - x)
    more y x = omega arith

-- in the argument: a / b ≤ c / d
pub h_mono : (K : ℕ) (p : List ℕ) (a b c d : ℕ) → a * d ≤ c * b → h K p a b * d ^ K ≤ h K p c d * b ^ K
unfolding h
h_mono zero [] a b c d l = omega arith
h_mono zero (x ∷ p) a b c d l = rw (pow-zero b, pow-zero d) (omega arith)
h_mono (suc K) [] a b c d l = omega arith
h_mono (suc K) (x ∷ p) a b c d l =
    rw (pow-succ' b K, pow-succ' d K) (omega (arith, mul-le-mul l (h_mono K p a b c d l)))

-- e is at most W / t on [0, c / d], so q exceeds p by no more there
pub near : (K : ℕ) (q p : List ℕ) (a b c d t W : ℕ) → a * d ≤ c * b → zero < d → h K (sub q p) c d * t ≤ W * d ^ K
    → h K q a b * t ≤ h K p a b * t + W * b ^ K
near K q p a b c d t W l z test =
    omega (arith, mul-le-mul_right t (h_sub K q p a b), small)
  where
    small : h K (sub q p) a b * t ≤ W * b ^ K
    small =
        le_of_mul-le-mul_right {k = d ^ K}
        (omega (arith, mul-le-mul_right t (h_mono K (sub q p) a b c d l), mul-le-mul_right (b ^ K) test))
        (one-le-pow K d z)

-- ---- composition
pub pow-mul : (x y n : ℕ) → (x * y) ^ n ≡ x ^ n * y ^ n
pow-mul x y zero = rw (pow-zero (x * y), pow-zero x, pow-zero y)
pow-mul x y (suc n) = rw (pow-succ' (x * y) n, pow-succ' x n, pow-succ' y n, pow-mul x y n) (omega arith)

pub pow-pow : (x m n : ℕ) → (x ^ m) ^ n ≡ x ^ (n * m)
pow-pow x m zero = rw (zero-mul m, pow-zero x, pow-zero (x ^ m))
pow-pow x m (suc n) = rw (suc-mul n m, pow-succ' (x ^ m) n, pow-pow x m n, pow-add x (n * m) m) (omega arith)

pub fits_comp : (n m : ℕ) (p : List ℕ) (U : ℕ) (s : List ℕ) → T (fits m s) → T (fits (n * m) (comp n p U s))
unfolding comp
fits_comp zero m [] U s t = fits_nil (0 * m)
fits_comp zero m (c ∷ p) U s t = fits_one (0 * m) c
fits_comp (suc n) m [] U s t = fits_nil (suc n * m)
fits_comp (suc n) m (c ∷ p) U s t =
    rw (suc-mul n m, add_comm (n * m) m)
    (fits_add (m + n * m) (c * U ^ suc n ∷ []) (mul s (comp n p U s)) (fits_one (m + n * m) (c * U ^ suc n))
    (fits_mul m (n * m) s (comp n p U s) t (fits_comp n m p U s t)))

pub h_comp : (n m : ℕ) (p : List ℕ) (U : ℕ) (s : List ℕ) (a b : ℕ) → T (fits m s)
    → h n p (h m s a b) (U * b ^ m) ≡ h (n * m) (comp n p U s) a b
unfolding h comp
h_comp zero m [] U s a b t = rw (zero-mul m)
h_comp zero m (c ∷ p) U s a b t = rw (zero-mul m)
h_comp (suc n) m [] U s a b t = rw (h_nil (suc n * m) a b)
h_comp (suc n) m (c ∷ p) U s a b t =
    rw (
      suc-mul n m,
      add_comm (n * m) m,
      h_add (m + n * m) (c * U ^ suc n ∷ []) (mul s (comp n p U s)) a b,
      h_const (m + n * m) (c * U ^ suc n) a b,
      h_mul m (n * m) s (comp n p U s) a b t (fits_comp n m p U s t),
      h_comp n m p U s a b t,
      pow-mul U (b ^ m) (suc n),
      pow-pow b m (suc n),
      suc-mul n m,
      add_comm (n * m) m,
    ) (omega arith)
