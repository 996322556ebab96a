-- How large a first difficulty is, and the difficulty of a rating of 3 with weight 7 zero: unchanged. Assumes nothing.
use mathlib.Core.Path.{◌≡◌, ap, ◌∙◌}
use mathlib.Core.Bool.{true, false}
use Prim.Native.Nat.{ℕ}
use lib.Dec.{T, lit<, lit≤}
use lib.IntN.{pos}
use lib.Ieee.{Float, nan, inf, fin, binary32, of_bits, of_int, fits, neg}
use lib.Ieee.Positive.{positive}
use Rattle.kernels.specs.Calls.{exp32}
use Rattle.domain.specs.Floats.{◌+ᶠ◌, ◌-ᶠ◌, ◌*ᶠ◌, ◌/ᶠ◌}
use Rattle.domain.specs.Limits.{one, three, nine, ten, rating_offset_def}
use Rattle.forward.specs.Params.{init_difficulty_of}
use Rattle.forward.specs.Step.{difficulty_def}
use Rattle.columns.proofs.scores.Zeros.{plain, plus_zero, zero_plus}
use Rattle.laws.proofs.Values.Sizes.{Size, size_finite, wider, neg_size}
use Rattle.laws.proofs.Values.Operations.{mul_size, add_size, sub_size}
use Rattle.laws.proofs.Values.Powers.{exp_size}
use Rattle.laws.proofs.Values.Zeros.{Zero, times_zero, zero_times, zero_over}
use Rattle.laws.proofs.Values.Ones.{three_less}

pub offset_size : Size 2 (rating_offset_def 4)
unfolding of_int
offset_size = lit≤ tt

one_size : Size 25 one
unfolding of_bits
one_size = lit≤ tt

-- that of a first rating: w4 - exp(offset w5) + 1
pub init_exp_size : (w5 : Float) (rating : ℕ) → Size 2 (rating_offset_def rating) → Size 2 w5 → Size 24 (exp32 (w5 *ᶠ rating_offset_def rating))
init_exp_size w5 rating o b =
    let x = w5 *ᶠ rating_offset_def rating in
    exp_size 4 24 x (lit< tt) (lit< tt) (mul_size 2 2 w5 (rating_offset_def rating) (lit< tt) b o)

pub init_size : (w4 w5 : Float) (rating : ℕ) → Size 2 (rating_offset_def rating) → Size 5 w4 → Size 2 w5 → Size 26 (init_difficulty_of w4 w5 rating)
unfolding init_difficulty_of
init_size w4 w5 rating o a b =
    let x = w5 *ᶠ rating_offset_def rating in
    add_size 25 (w4 -ᶠ exp32 x) one (lit< tt)
    (sub_size 24 w4 (exp32 x) (lit< tt) (wider 5 24 w4 (lit≤ tt) a) (init_exp_size w5 rating o b)) one_size

pub easy_size : (w4 w5 : Float) → Size 5 w4 → Size 2 w5 → Size 26 (init_difficulty_of w4 w5 4)
easy_size w4 w5 a b = init_size w4 w5 4 offset_size a b

pub ten_size : Size 4 ten
unfolding of_bits
ten_size = lit≤ tt

nine_above : T (positive nine)
unfolding of_bits
nine_above = tt

plain_of : (x : Float) → T (positive x) → T (plain x)
plain_of nan h = absurd h
plain_of (inf s) h = absurd h
plain_of (fin true m e) h = absurd h
plain_of (fin false m e) h = tt

module _ (w6 w7 easy d : Float) (a : Size 3 w6) (b : Zero w7) (c : Size 26 easy) (p : T (positive d)) (k : T (fits binary32 d)) (u : Size 4 d) where
  delta : Zero (neg w6 *ᶠ (three -ᶠ three))
  delta = times_zero (neg w6) (three -ᶠ three) (size_finite 3 (neg w6) (neg_size 3 w6 a)) (false, three_less)

  step : Zero ((ten -ᶠ d) *ᶠ (neg w6 *ᶠ (three -ᶠ three)) /ᶠ nine)
  step =
      let x = ten -ᶠ d in
      let y = neg w6 *ᶠ (three -ᶠ three) in
      zero_over (x *ᶠ y) nine (times_zero x y (size_finite 5 x (sub_size 4 ten d (lit< tt) ten_size u)) delta) nine_above

  next : d +ᶠ (ten -ᶠ d) *ᶠ (neg w6 *ᶠ (three -ᶠ three)) /ᶠ nine ≡ d
  next = ap (λ (x : Float). d +ᶠ x) step.1 ∙ plus_zero binary32 d step.0 (pos 0) k (plain_of d p)

  pub unchanged : difficulty_def w6 w7 easy d three ≡ d
  unfolding difficulty_def
  unchanged =
      let z = zero_times w7 (easy -ᶠ d) b (size_finite 27 (easy -ᶠ d) (sub_size 26 easy d (lit< tt) c (wider 4 26 d (lit≤ tt) u))) in
      ap (λ (x : Float). w7 *ᶠ (easy -ᶠ x) +ᶠ x) next ∙ ap (λ (x : Float). x +ᶠ d) z.1 ∙ zero_plus binary32 z.0 (pos 0) d k (plain_of d p)
