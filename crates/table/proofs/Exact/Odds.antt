-- L's series, as document 01's sum of odd powers states it, is the polynomial scoef of Series; and it stands for the same number at k a / k b.
-- Assumes nothing.
use mathlib.Core.Path.{◌≡◌, refl, sym, ap, ◌∙◌}
use mathlib.Core.List.{List, [], ◌∷◌}
use Prim.Native.Nat.{ℕ, zero, suc, ◌+◌, ◌*◌, ◌^◌, ◌<◌}
use native.Mathlib.Nat.{pow-zero, pow-succ'}
use native.Mathlib.Omega.{arith}
use lib.Dec.{T, lit<}
use Rattle.table.specs.Exact.{odds, odd_fact}
use Rattle.table.proofs.Exact.Poly.{h, add, scale}
use Rattle.table.proofs.Exact.Laws.{fits, h_add, h_scale, h_lift, fits_add, fits_scale, fits_up}
use Rattle.table.proofs.Exact.Series.{scoef, d_s}

-- c x ^ n
mono : (n c : ℕ) → List ℕ
mono zero c = c ∷ []
mono (suc n) c = 0 ∷ mono n c

h_mono_is : (n c a b : ℕ) → h n (mono n c) a b ≡ c * a ^ n
unfolding h mono
h_mono_is zero c a b = rw (pow-zero a) (omega arith)
h_mono_is (suc n) c a b = rw (h_mono_is n c a b, pow-succ' a n) (omega arith)

fits_mono : (n c : ℕ) → T (fits n (mono n c))
unfolding mono
fits_mono zero c = tt
fits_mono (suc n) c = fits_mono n c

-- 2 n + 1
deg : ℕ → ℕ
deg zero = 1
deg (suc n) = 2 + deg n

deg_is : (n : ℕ) → 2 * n + 3 ≡ 2 + deg n
unfolding deg
deg_is zero = refl
deg_is (suc n) = rw (← deg_is n) (omega arith)

-- the polynomial of odds n
series : ℕ → List ℕ
unfolding deg
series zero = 0 ∷ 1 ∷ []
series (suc n) = add (scale (2 * n + 3) (series n)) (mono (2 + deg n) (odd_fact n))

fits_series : (n : ℕ) → T (fits (deg n) (series n))
unfolding series deg
fits_series zero = tt
fits_series (suc n) =
    fits_add (2 + deg n) (scale (2 * n + 3) (series n)) (mono (2 + deg n) (odd_fact n))
    (fits_up 2 (deg n) (scale (2 * n + 3) (series n)) (fits_scale (deg n) (2 * n + 3) (series n) (fits_series n)))
    (fits_mono (2 + deg n) (odd_fact n))

odds_is : (n a b : ℕ) → odds n a b ≡ h (deg n) (series n) a b
unfolding odds series deg h
odds_is zero a b = omega arith
odds_is (suc n) a b =
    rw (
      h_add (2 + deg n) (scale (2 * n + 3) (series n)) (mono (2 + deg n) (odd_fact n)) a b,
      h_mono_is (2 + deg n) (odd_fact n) a b,
      h_scale
          (2 + deg n) (2 * n + 3) (series n) a b,
      h_lift 2 (deg n) (series n) a b (fits_series n),
      ← odds_is n a b,
      deg_is n,
    )
    (omega arith)

same : scale (2 * d_s) (series 23) ≡ scale (odd_fact 23) scoef
unfolding scale series mono add deg odd_fact scoef d_s
same = refl

pub odds_series : (a b : ℕ) → 2 * d_s * odds 23 a b ≡ odd_fact 23 * h 47 scoef a b
unfolding deg
odds_series a b =
    ap (λ (x : ℕ). 2 * d_s * x) (odds_is 23 a b)
    ∙ sym (h_scale 47 (2 * d_s) (series 23) a b)
    ∙ ap (λ (p : List ℕ). h 47 p a b) same
    ∙ h_scale 47 (odd_fact 23) scoef a b

pub odd_fact_pos : zero < odd_fact 23
unfolding odd_fact
odd_fact_pos = lit< tt
