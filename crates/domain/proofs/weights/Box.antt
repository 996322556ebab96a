-- The code's table of bounds is the box, so what holds of each pair holds of each weight. Assumes nothing.
use Rattle.std.proofs.Common.{◌≡◌, ℕ, ◌<◌, Bool, List, length, map, get_or, true, false, eq-eqb, sym, ap, ◌∙◌, arith}
use Rattle.std.proofs.lemmas.List.{get_or-map}
use Rattle.std.proofs.lemmas.Slice.Zip.{length-zip, get_or-zip}
use Rattle.std.specs.List.{list_all, zip}
use lib.Ieee.{Float, nan}
use Rattle.domain.specs.Floats.{within}
use Rattle.domain.specs.Weights.{low_def, high_def, ◌!◌, boxed, in_box, weights_refusal_def}
use Rattle.domain.specs.declared.weights.TheConstants.{BOX}
use Rattle.domain.proofs.weights.All.{every}
use Rattle.domain.proofs.weights.Tables.{low, high}

abbrev pub in_bounds : Float × (Float × Float) → Bool
in_bounds p = within p.0 p.1.0 p.1.1

none : Float × Float
none = (nan, nan)

lows : map (λ b. b.0) BOX ≡ low_def
lows = sym low

highs : map (λ b. b.1) BOX ≡ high_def
highs = sym high

low_at : (k : ℕ) → k < 21 → (get_or BOX k none).0 ≡ low_def ! k
low_at k h = sym (get_or-map (λ b. b.0) BOX k none nan h) ∙ ap (λ l. get_or l k nan) lows

high_at : (k : ℕ) → k < 21 → (get_or BOX k none).1 ≡ high_def ! k
high_at k h = sym (get_or-map (λ b. b.1) BOX k none nan h) ∙ ap (λ l. get_or l k nan) highs

pair : (w : List Float) → length w ≡ 21 → (k : ℕ) → k < 21 → in_bounds (get_or (zip w BOX) k (nan, none)) ≡ in_box k (w ! k)
pair w l k h =
    ap in_bounds (get_or-zip w BOX k (nan, none) (omega (arith, h, l)) h) ∙ (λ i. within (w ! k) (low_at k h i) (high_at k h i))

pairs : (w : List Float) → length w ≡ 21 → length (zip w BOX) ≡ 21
pairs w l = rw (length-zip w BOX, l)

all_held : (w : List Float) → length w ≡ 21 → list_all in_bounds (zip w BOX) ≡ boxed w
all_held w l = every in_bounds in_box (zip w BOX) w (nan, none) 21 (λ k h. pair w l k (omega (arith, h, pairs w l))) (pairs w l)

pub within_all : (w : List Float) (r : Bool) → length w ≡ 21 → r ≡ true → r ≡ list_all in_bounds (zip w BOX) → 0 ≡ weights_refusal_def w
unfolding weights_refusal_def
within_all w r l t e = rw (eq-eqb _ 21 l, ← all_held w l, ← e, t)

pub outside_one : (w : List Float) (r : Bool) → length w ≡ 21 → r ≡ false → r ≡ list_all in_bounds (zip w BOX) → 2 ≡ weights_refusal_def w
unfolding weights_refusal_def
outside_one w r l t e = rw (eq-eqb _ 21 l, ← all_held w l, ← e, t)
