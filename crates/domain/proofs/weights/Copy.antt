-- Weights that are copied into an array of zeros. Assumes nothing.
use Rattle.std.proofs.Common.{◌≡◌, ℕ, ◌-◌, ◌≤◌, List, ◌++◌, length, take, drop, replicate, min, Bool, true, false, leb, leb-true, leb-false, sym, refl, ap, ◌∙◌, append-nil, arith, take_all}
use Rattle.std.proofs.lemmas.List.{drop-replicate}
use lib.Ieee.{Float}
use Rattle.domain.specs.Limits.{zero32}
use Rattle.domain.specs.Weights.{copy_def}

same : (w : List Float) (n : ℕ) (b : Bool) → b ≡ leb (length w) 21 → n ≡ min (length w) 21 → take n w ≡ take 21 w
same w n true l e = let h = leb-true _ 21 (sym l) in take_all n w (omega (arith, e, h)) ∙ sym (take_all 21 w h)
same w n false l e = let h : n ≡ 21 = omega (arith, e, leb-false _ 21 (sym l)) in ap (λ m. take m w) h

-- the first n of a set stand before the zeros that are left, where n is its length, or 21 if that is less
pub first_copied :
    (w : List Float) (n : ℕ) (v : List Float) → n ≡ min (length w) 21 → v ≡ take n w → v ++ drop n (replicate 21 zero32) ≡ copy_def w
unfolding copy_def
first_copied w n v e h =
    let left : 21 - n ≡ 21 - length w = omega (arith, e) in
    λ i. (h ∙ same w n _ refl e) i ++ (drop-replicate n 21 zero32 ∙ ap (λ m. replicate m zero32) left) i

-- 21 weights are copied as they are
pub copy_whole : (p : List Float) → length p ≡ 21 → copy_def p ≡ p
unfolding copy_def
copy_whole p l = rw (take_all 21 p (omega arith), l) (append-nil p)

-- and a shorter set with zeros after it
pub copy_short : (p : List Float) → length p ≤ 21 → copy_def p ≡ p ++ replicate (21 - length p) zero32
unfolding copy_def
copy_short p l = rw (take_all 21 p l)
