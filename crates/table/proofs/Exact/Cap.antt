-- Composition cut to degree K: from below by leaving terms out, from above, on [0, 1/3], by folding them into the last coefficient.
use mathlib.Core.Path.{◌≡◌}
use mathlib.Core.List.{List, [], ◌∷◌}
use Prim.Native.Nat.{ℕ, zero, suc, ◌+◌, ◌*◌, ◌/◌, ◌^◌, ◌≤◌}
use native.Mathlib.Nat.{le_trans, zero-mul, add-zero, add-suc, suc-mul, mul-le-mul_left, mul-le-mul_right, pow-succ', pow-zero, mul-one}
use native.Mathlib.Omega.{arith}
use lib.Dec.{T}
use lib.Pow.{pow-add}
use Rattle.table.proofs.Exact.Poly.{h, add, mul}
use Rattle.table.proofs.Exact.Laws.{fits, h_nil, h_const, h_add, h_mul, fits_nil, fits_one, fits_add, fits_mul, pow-mul, pow-pow}

-- ---- from below
unfoldable pub cut : ℕ → List ℕ → List ℕ
cut zero [] = []
cut zero (c ∷ p) = c ∷ []
cut (suc K) [] = []
cut (suc K) (c ∷ p) = c ∷ cut K p

pub fits_cut : (K : ℕ) (p : List ℕ) → T (fits K (cut K p))
unfolding cut
fits_cut zero [] = tt
fits_cut zero (c ∷ p) = tt
fits_cut (suc K) [] = tt
fits_cut (suc K) (c ∷ p) = fits_cut K p

pub h_cut : (M K : ℕ) (p : List ℕ) (a b : ℕ) → h K (cut K p) a b * b ^ M ≤ h (M + K) p a b
unfolding h cut
h_cut M zero [] a b = omega arith
h_cut zero zero (c ∷ p) a b = rw (pow-zero b) (omega arith)
h_cut (suc M) zero (c ∷ p) a b = rw (add-zero (suc M)) (omega arith)
h_cut M (suc K) [] a b = omega arith
h_cut M (suc K) (c ∷ p) a b =
    rw (add-suc M K, pow-succ' b (M + K), pow-add b M K, pow-succ' b K) (omega (arith, mul-le-mul_left a (h_cut M K p a b)))

-- ---- from above
unfoldable pub up : List ℕ → ℕ
up [] = 0
up (c ∷ p) = suc ((c + up p) / 3)

unfoldable pub cap : ℕ → List ℕ → List ℕ
cap zero [] = []
cap zero (c ∷ p) = (c + up p) ∷ []
cap (suc K) [] = []
cap (suc K) (c ∷ p) = c ∷ cap K p

pub fits_cap : (K : ℕ) (p : List ℕ) → T (fits K (cap K p))
unfolding cap
fits_cap zero [] = tt
fits_cap zero (c ∷ p) = tt
fits_cap (suc K) [] = tt
fits_cap (suc K) (c ∷ p) = fits_cap K p

third : (a b x : ℕ) → a * 3 ≤ b → a * x ≤ suc (x / 3) * b
third a b x l = le_trans {m = a * (3 * suc (x / 3))} (mul-le-mul_left a (omega arith)) (omega (arith, mul-le-mul_right (suc (x / 3)) l))

h_up : (M : ℕ) (p : List ℕ) (a b : ℕ) → a * 3 ≤ b → T (fits M p) → a * h M p a b ≤ up p * b ^ suc M
unfolding h up
h_up zero [] a b l t = omega arith
h_up zero (c ∷ []) a b l t = rw (pow-succ' b 0, pow-zero b, add-zero c, mul-one b) (third a b c l)
h_up zero (c ∷ d ∷ p) a b l t = absurd t
h_up (suc M) [] a b l t = omega arith
h_up (suc M) (c ∷ p) a b l t =
    rw (pow-succ' b (suc M))
    (omega (arith, mul-le-mul_left a (h_up M p a b l t), mul-le-mul_right (b ^ suc M) (third a b (c + up p) l)))

pub h_cap : (M K : ℕ) (p : List ℕ) (a b : ℕ) → a * 3 ≤ b → T (fits (M + K) p) → h (M + K) p a b ≤ h K (cap K p) a b * b ^ M
unfolding h cap
h_cap M zero [] a b l t = rw (h_nil (M + 0) a b) (omega arith)
h_cap zero zero (c ∷ p) a b l t = rw (pow-zero b) (omega arith)
h_cap (suc M) zero (c ∷ p) a b l t = rw (add-zero (suc M)) (omega (arith, h_up M p a b l (rw (add-zero (suc M)) at t)))
h_cap M (suc K) [] a b l t = rw (h_nil (M + suc K) a b) (omega arith)
h_cap M (suc K) (c ∷ p) a b l t =
    rw (add-suc M K, pow-succ' b (M + K), pow-add b M K, pow-succ' b K) (omega (arith, mul-le-mul_left a (h_cap M K p a b l (rw (add-suc M K) at t))))

-- ---- compositions
-- the composition, each step cut by k
unfoldable pub comp_by : (List ℕ → List ℕ) → ℕ → List ℕ → ℕ → List ℕ → List ℕ
comp_by k zero [] U s = []
comp_by k zero (c ∷ p) U s = c ∷ []
comp_by k (suc n) [] U s = []
comp_by k (suc n) (c ∷ p) U s = k (add (c * U ^ suc n ∷ []) (mul s (comp_by k n p U s)))

pub fits_by : (K : ℕ) (k : List ℕ → List ℕ) → ((p : List ℕ) → T (fits K (k p))) → (n : ℕ) (p : List ℕ) (U : ℕ) (s : List ℕ) → T (fits K (comp_by k n p U s))
unfolding comp_by
fits_by K k f zero [] U s = fits_nil K
fits_by K k f zero (c ∷ p) U s = fits_one K c
fits_by K k f (suc n) [] U s = fits_nil K
fits_by K k f (suc n) (c ∷ p) U s = f (add (c * U ^ suc n ∷ []) (mul s (comp_by k n p U s)))

-- k + s r, at degree m + K
h_step : (m K k : ℕ) (s r : List ℕ) (a b : ℕ) → T (fits m s) → T (fits K r) → h (m + K) (add (k ∷ []) (mul s r)) a b ≡ k * (b ^ m * b ^ K) + h m s a b * h K r a b
h_step m K k s r a b t u = rw (h_add (m + K) (k ∷ []) (mul s r) a b, h_const (m + K) k a b, h_mul m K s r a b t u, pow-add b m K)

low : (L y bm bK bn hr hp c un : ℕ) → L * bm ≤ c * un * (bm * bK) + y * hr → hr * bn ≤ hp * bK → L * (bn * bm) ≤ (c * (un * (bn * bm)) + y * hp) * bK
low L y bm bK bn hr hp c un l m = omega (arith, mul-le-mul_right bn l, mul-le-mul_left y m)

high : (L y bm bK bn hr hp c un : ℕ) → c * un * (bm * bK) + y * hr ≤ L * bm → hp * bK ≤ hr * bn → (c * (un * (bn * bm)) + y * hp) * bK ≤ L * (bn * bm)
high L y bm bK bn hr hp c un l m = omega (arith, mul-le-mul_right bn l, mul-le-mul_left y m)

pub lo_le : (K n m : ℕ) (p : List ℕ) (U : ℕ) (s : List ℕ) (a b : ℕ) → T (fits m s)
    → h K (comp_by (cut K) n p U s) a b * b ^ (n * m) ≤ h n p (h m s a b) (U * b ^ m) * b ^ K
unfolding h comp_by
lo_le K zero m [] U s a b t = rw (h_nil K a b) (omega arith)
lo_le K zero m (c ∷ p) U s a b t = rw (zero-mul m, pow-zero b, h_const K c a b) (omega arith)
lo_le K (suc n) m [] U s a b t = rw (h_nil K a b) (omega arith)
lo_le K (suc n) m (c ∷ p) U s a b t =
    rw (pow-mul U (b ^ m) (suc n), pow-pow b m (suc n), suc-mul n m, pow-add b (n * m) m)
    (low (h K (cut K (add (c * U ^ suc n ∷ []) (mul s (comp_by (cut K) n p U s)))) a b) (h m s a b) (b ^ m) (b ^ K) (b ^ (n * m)) (h K (comp_by (cut K) n p U s) a b)
    (h n p (h m s a b) (U * b ^ m)) c (U ^ suc n)
    (rw (h_step m K (c * U ^ suc n) s (comp_by (cut K) n p U s) a b t (fits_by K (cut K) (fits_cut K) n p U s)) at (h_cut m K (add (c * U ^ suc n ∷ []) (mul s (comp_by (cut K) n p U s))) a b))
    (lo_le K n m p U s a b t))

pub le_up : (K n m : ℕ) (p : List ℕ) (U : ℕ) (s : List ℕ) (a b : ℕ) → a * 3 ≤ b → T (fits m s)
    → h n p (h m s a b) (U * b ^ m) * b ^ K ≤ h K (comp_by (cap K) n p U s) a b * b ^ (n * m)
unfolding h comp_by
le_up K zero m [] U s a b l t = rw (h_nil K a b) (omega arith)
le_up K zero m (c ∷ p) U s a b l t = rw (zero-mul m, pow-zero b, h_const K c a b) (omega arith)
le_up K (suc n) m [] U s a b l t = rw (h_nil K a b) (omega arith)
le_up K (suc n) m (c ∷ p) U s a b l t =
    rw (pow-mul U (b ^ m) (suc n), pow-pow b m (suc n), suc-mul n m, pow-add b (n * m) m)
    (high (h K (cap K (add (c * U ^ suc n ∷ []) (mul s (comp_by (cap K) n p U s)))) a b) (h m s a b) (b ^ m) (b ^ K) (b ^ (n * m)) (h K (comp_by (cap K) n p U s) a b)
    (h n p (h m s a b) (U * b ^ m)) c (U ^ suc n)
    (rw (h_step m K (c * U ^ suc n) s (comp_by (cap K) n p U s) a b t (fits_by K (cap K) (fits_cap K) n p U s)) at
    (h_cap m K (add (c * U ^ suc n ∷ []) (mul s (comp_by (cap K) n p U s))) a b l
    (fits_add (m + K) (c * U ^ suc n ∷ []) (mul s (comp_by (cap K) n p U s)) (fits_one (m + K) (c * U ^ suc n)) (fits_mul m K s (comp_by (cap K) n p U s) t (fits_by K (cap K) (fits_cap K) n p U s)))))
    (le_up K n m p U s a b l t))
