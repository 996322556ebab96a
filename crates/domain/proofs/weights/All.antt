-- `all` by one entry that fails, and of all entries at once. Assumes nothing.
use Rattle.std.proofs.Common.{◌≡◌, ℕ, zero, suc, ◌<◌, ◌≤◌, Bool, true, false, ◌&&◌, List, length, take, get_or, refl, sym, ap, ◌∙◌, ⊎_elim, le_of_suc-le-suc, not-suc-le-zero, eq-or-lt_of_le, add-one, take_all, arith}
use Rattle.std.proofs.lemmas.List.Folds.{list_all_more}
use Rattle.std.specs.List.{list_all}
use lib.Ieee.{Float}
use Rattle.domain.specs.Weights.{◌!◌, all}

pub and-false : (a : Bool) → a && false ≡ false
and-false true = refl
and-false false = refl

not_left : (a b : Bool) → a ≡ false → a && b ≡ false
not_left true b h = cc
not_left false b h = refl

pub miss : (test : ℕ → Float → Bool) (n k : ℕ) (w : List Float) → k < n → test k (w ! k) ≡ false → all test n w ≡ false
unfolding all
miss test zero k w h e = absurd (not-suc-le-zero h)
miss test (suc n) k w h e =
    ⊎_elim
    (λ (q : k ≡ n). rw (← q, e, and-false))
    (λ (l : k < n). not_left _ _ (miss test n k w l e))
    (eq-or-lt_of_le (le_of_suc-le-suc h))

-- a test of a list's elements, one by one, is a test of as many entries
upto :
    {X : Type 0} (p : X → Bool) (test : ℕ → Float → Bool) (xs : List X) (w : List Float) (d : X)
    → ((k : ℕ) → k < length xs → p (get_or xs k d) ≡ test k (w ! k)) → (n : ℕ) → n ≤ length xs
    → list_all p (take n xs) ≡ all test n w
unfolding all
upto p test xs w d e zero h = refl
upto p test xs w d e (suc n) h =
    ap (λ m. list_all p (take m xs)) (sym (add-one n)) ∙ list_all_more p xs n d (omega (arith, h)) ∙
    (λ i. upto p test xs w d e n (omega (arith, h)) i && e n (omega (arith, h)) i)

pub every :
    {X : Type 0} (p : X → Bool) (test : ℕ → Float → Bool) (xs : List X) (w : List Float) (d : X) (n : ℕ)
    → ((k : ℕ) → k < length xs → p (get_or xs k d) ≡ test k (w ! k)) → length xs ≡ n
    → list_all p xs ≡ all test n w
every p test xs w d n e l =
    ap (list_all p) (sym (take_all n xs (omega (arith, l)))) ∙ upto p test xs w d e n (omega (arith, l))
