-- The difficulty before its clamp, after a first review and after a later one: at most 2 ^ 26 and 2 ^ 28. Assumes nothing.
use mathlib.Core.Bool.{Bool, true, false, cond}
use Prim.Native.Nat.{◌-◌}
use mathlib.Core.List.{List}
use mathlib.Core.Path.{◌≡◌}
use lib.Dec.{T, lit<, lit≤}
use lib.Ieee.{Float, of_bits, of_int, neg, eq}
use lib.Ieee.Scale.{finite}
use Rattle.domain.specs.Floats.{◌+ᶠ◌, ◌-ᶠ◌, ◌*ᶠ◌, ◌/ᶠ◌}
use Rattle.domain.specs.Limits.{one, two, three, nine, ten, rating_offset_def}
use Rattle.domain.specs.Weights.{◌!◌, weights_refusal_def}
use Rattle.forward.specs.Step.{rating_number_def, difficulty_def}
use Rattle.laws.proofs.Values.Sizes.{Size, wider, neg_size}
use Rattle.laws.proofs.Values.Operations.{mul_size, add_size, sub_size, Least, div_size}
use Rattle.laws.proofs.Values.Difficulty.{ten_size}
use Rattle.laws.proofs.Values.Box.{weight_size}

-- ---- a first review: the number of its rating is 1 to 4
pub offsets : Size 2 (rating_offset_def 1) × Size 2 (rating_offset_def 2) × Size 2 (rating_offset_def 3) × Size 2 (rating_offset_def 4)
unfolding of_int
offsets = (lit≤ tt, lit≤ tt, lit≤ tt, lit≤ tt)

pub number_offset : (rating : Float) → Size 2 (rating_offset_def (rating_number_def rating))
unfolding rating_number_def
number_offset rating = go (eq rating one) (eq rating two) (eq rating three)
  where
    go : (a b c : Bool) → Size 2 (rating_offset_def (cond a 1 (cond b 2 (cond c 3 4))))
    go true b c = offsets.0
    go false true c = offsets.1
    go false false true = offsets.2
    go false false false = offsets.3

-- its weight is one of the first four
pub first_weight : (w : List Float) → weights_refusal_def w ≡ 0 → (rating : Float) → Size 16 (w ! (rating_number_def rating - 1))
unfolding rating_number_def
first_weight w h rating = go (eq rating one) (eq rating two) (eq rating three)
  where
    go : (a b c : Bool) → Size 16 (w ! (cond a 1 (cond b 2 (cond c 3 4)) - 1))
    go true b c = weight_size w h 0 (lit< tt)
    go false true c = weight_size w h 1 (lit< tt)
    go false false true = weight_size w h 2 (lit< tt)
    go false false false = weight_size w h 3 (lit< tt)

-- ---- a later one
pub nine_least : T (finite nine) × Least 0 nine
unfolding of_bits
nine_least = (tt, lit≤ tt)

module _ (w6 w7 easy d rating : Float) (a : Size 3 w6) (b : Size 0 w7) (c : Size 26 easy) (u : Size 4 d) (o : Size 1 (rating -ᶠ three)) where
  pub mean_size : Size 28 (difficulty_def w6 w7 easy d rating)
  unfolding difficulty_def
  mean_size =
      let delta = neg w6 *ᶠ (rating -ᶠ three) in
      let step = (ten -ᶠ d) *ᶠ delta in
      let next = d +ᶠ step /ᶠ nine in
      let step-size : Size 9 step = mul_size 5 4 (ten -ᶠ d) delta (lit< tt) (sub_size 4 ten d (lit< tt) ten_size u) (mul_size 3 1 (neg w6) (rating -ᶠ three) (lit< tt) (neg_size 3 w6 a) o) in
      let next-size : Size 10 next = add_size 9 d (step /ᶠ nine) (lit< tt) (wider 4 9 d (lit≤ tt) u) (div_size 9 0 step nine (lit< tt) step-size nine_least.0 nine_least.1) in
      add_size 27 (w7 *ᶠ (easy -ᶠ next)) next (lit< tt) (mul_size 0 27 w7 (easy -ᶠ next) (lit< tt) b (sub_size 26 easy next (lit< tt) c (wider 10 26 next (lit≤ tt) next-size))) (wider 10 27 next (lit≤ tt) next-size)
