-- What the box says of the size of each weight. Assumes nothing.
use mathlib.Core.Path.{◌≡◌, refl, sym, ◌∙◌}
use mathlib.Core.Bool.{Bool, true, false, ◌&&◌, true≢false}
use mathlib.Core.List.{List, [], ◌∷◌}
use Prim.Native.Nat.{ℕ, ◌*◌, ◌^◌, ◌<◌}
use lib.Dec.{T, leb, leb→le, lit≤, lit<}
use lib.ListN.{get_or}
use lib.Ieee.{Float, nan, inf, fin, up, down, neg}
use lib.Ieee.Fits.{and_l, and_r}
use lib.Ieee.Positive.{positive}
use Rattle.soft.proofs.units.Value.{holds}
use Rattle.table.proofs.Every.{all as all_from, all-at}
use Rattle.domain.specs.Limits.{decimal, s_min_def, s_max_def}
use Rattle.domain.specs.Weights.{◌!◌, low_def, high_def, in_box, all, weights_refusal_def}
use Rattle.domain.proofs.weights.Accepted.{accepted_box}
use Rattle.domain.proofs.weights.All.{miss}
use Rattle.laws.proofs.Values.Sizes.{Size}
use Rattle.laws.proofs.Values.Operations.{Least}
use Rattle.laws.proofs.Values.Between.{within_size, above, least}

-- at most 2 ^ k in size
fits_in_def : ℕ → Float → Bool
fits_in_def k nan = false
fits_in_def k (inf s) = false
fits_in_def k (fin s m e) = leb (m * up e) (2 ^ k * down e)

sized : (k : ℕ) (x : Float) → T (fits_in_def k x) → Size k x
unfolding fits_in_def
sized k nan h = absurd h
sized k (inf s) h = absurd h
sized k (fin s m e) h = leb→le (m * up e) (2 ^ k * down e) h

-- for each weight the k of its two ends
abbrev pub sizes : List ℕ
sizes = 16 ∷ 16 ∷ 16 ∷ 16 ∷ 5 ∷ 2 ∷ 3 ∷ 0 ∷ 3 ∷ 0 ∷ 3 ∷ 4 ∷ 0 ∷ 0 ∷ 3 ∷ 0 ∷ 4 ∷ 2 ∷ 2 ∷ 0 ∷ 0 ∷ []

ends : ℕ → Bool
ends k = fits_in_def (get_or sizes k 0) (low_def ! k) && fits_in_def (get_or sizes k 0) (high_def ! k)

passes : T (all_from ends 0 21)
unfolding ends fits_in_def low_def high_def decimal s_min_def s_max_def neg
passes = tt

every : (test : ℕ → Float → Bool) (n k : ℕ) (w : List Float) → k < n → all test n w ≡ true → test k (w ! k) ≡ true
every test n k w h e = go (test k (w ! k)) refl
  where
    go : (b : Bool) → test k (w ! k) ≡ b → test k (w ! k) ≡ true
    go true q = q
    go false q = absurd (true≢false (sym e ∙ miss test n k w h q))

module _ (w : List Float) (h : weights_refusal_def w ≡ 0) where
  pub inside : (k : ℕ) → k < 21 → T (in_box k (w ! k))
  inside k l = holds (every in_box 21 k w l (accepted_box w h))

  pub weight_size : (k : ℕ) → k < 21 → Size (get_or sizes k 0) (w ! k)
  unfolding ends
  weight_size k l =
      let j = get_or sizes k 0 in
      let t : T (fits_in_def j (low_def ! k) && fits_in_def j (high_def ! k)) = all-at ends 21 passes k l in
      within_size j (low_def ! k) (w ! k) (high_def ! k) (sized j (low_def ! k) (and_l (fits_in_def j (low_def ! k)) (fits_in_def j (high_def ! k)) t)) (sized j (high_def ! k) (and_r (fits_in_def j (low_def ! k)) (fits_in_def j (high_def ! k)) t)) (inside k l)

  -- weights 11 and 20 are above 0
  pub above_11 : T (positive (w ! 11))
  unfolding low_def high_def decimal s_min_def s_max_def neg
  above_11 = above (low_def ! 11) (w ! 11) (high_def ! 11) tt tt (inside 11 (lit< tt))

  pub above_20 : T (positive (w ! 20))
  unfolding low_def high_def decimal s_min_def s_max_def neg
  above_20 = above (low_def ! 20) (w ! 20) (high_def ! 20) tt tt (inside 20 (lit< tt))

  pub least_20 : Least 4 (w ! 20)
  unfolding low_def high_def decimal s_min_def s_max_def neg
  least_20 = least (low_def ! 20) (w ! 20) (high_def ! 20) tt tt (inside 20 (lit< tt)) 4 (lit≤ tt)
