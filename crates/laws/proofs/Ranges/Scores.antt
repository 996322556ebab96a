-- A scored review: its probability lies from 1e-7 to 1 - 1e-7, so that both logarithms are numbers, and its loss is at most 2 ^ 27. Assumes nothing.
use mathlib.Core.Path.{◌≡◌, refl}
use mathlib.Core.Bool.{Bool, true, false, cond}
use Prim.Native.Nat.{zero-le}
use lib.Dec.{T, lit<, lit≤}
use lib.Ieee.{Float, binary32, of_bits, neg, is_nan, lt, le, eq, sub}
use lib.Ieee.Fits.{and_r}
use lib.Ieee.Positive.{positive, sub_anti}
use Rattle.kernels.specs.Calls.{ln32}
use Rattle.domain.specs.Floats.{◌+ᶠ◌, ◌-ᶠ◌, ◌*ᶠ◌, within}
use Rattle.domain.specs.Limits.{decimal, zero32, one}
use Rattle.checks.specs.Reads.{weight_max_def, weight_good_def, label_good_def, non_zero}
use Rattle.columns.specs.declared.scores.Score.{Score}
use Rattle.columns.specs.Scores.{min_prob_def, max_prob_def, probability, bce_loss_def, no_score_def, score_def}
use Rattle.laws.specs.KernelCalls.{NoneRefused, score_calls}
use Rattle.laws.proofs.Values.Sizes.{Size, size_finite, wider, neg_size}
use Rattle.laws.proofs.Values.Operations.{mul_size, add_size, sub_size, Least}
use Rattle.laws.proofs.Values.Between.{within_size, above, least, least_of}
use Rattle.laws.proofs.Values.Logs.{ln_size}
use Rattle.laws.proofs.Ranges.Order.{clamp_within}
use Rattle.laws.proofs.Ranges.Low.{above_finite}
use Rattle.laws.proofs.Ranges.Accepted.{accepted}

-- ---- the ends
ends : T (positive min_prob_def) × T (positive max_prob_def) × T (le max_prob_def one) × T (positive one)
unfolding min_prob_def max_prob_def decimal of_bits sub le
ends = (tt, tt, tt, tt)

least_prob : Least 24 min_prob_def
unfolding min_prob_def decimal
least_prob = lit≤ tt

sizes : Size 0 min_prob_def × Size 0 max_prob_def × Size 0 one × Size 0 zero32 × Size 20 zero32
unfolding min_prob_def max_prob_def decimal of_bits sub
sizes = (lit≤ tt, lit≤ tt, lit≤ tt, lit≤ tt, lit≤ tt)

heaviest : Size 20 weight_max_def
unfolding weight_max_def decimal
heaviest = lit≤ tt

-- 1 - MAX_PROB is 2 ^ -23
rest_low : T (positive (one -ᶠ max_prob_def)) × Least 24 (one -ᶠ max_prob_def)
unfolding min_prob_def max_prob_def decimal of_bits sub
rest_low = (tt, lit≤ tt)

pub unless_zero : (b : Bool) (x : Score) → (b ≡ false → Size 27 x.loss) → Size 27 (cond b no_score_def x).loss
unfolding no_score_def of_bits
unless_zero true x h = zero-le
unless_zero false x h = h refl

module _ (r-raw : Float) (n : is_nan r-raw ≡ false) where
  abbrev r : Float
  r = probability r-raw

  between : T (within r min_prob_def max_prob_def)
  unfolding probability min_prob_def max_prob_def decimal of_bits sub is_nan le lt eq
  between = clamp_within r-raw min_prob_def max_prob_def refl refl tt tt n

  r_above : T (positive r)
  r_above = above min_prob_def r max_prob_def ends.0 ends.1 between

  r_size : Size 0 r
  r_size = within_size 0 min_prob_def r max_prob_def sizes.0 sizes.1 between

  rest_size : Size 1 (one -ᶠ r)
  rest_size = sub_size 0 one r (lit< tt) sizes.2 r_size

  rest_least : T (le (one -ᶠ max_prob_def) (one -ᶠ r))
  rest_least = sub_anti binary32 one r max_prob_def ends.3 r_above ends.1 (and_r (le min_prob_def r) (le r max_prob_def) between) ends.2

  rest_above : T (positive (one -ᶠ r))
  rest_above = above_finite (one -ᶠ max_prob_def) (one -ᶠ r) rest_low.0 (size_finite 1 (one -ᶠ r) rest_size) rest_least

  first_log : Size 5 (ln32 r)
  first_log = ln_size 24 5 r r_above (lit< tt) (lit≤ tt) (wider 0 24 r (lit≤ tt) r_size) (least min_prob_def r max_prob_def ends.0 ends.1 between 24 least_prob)

  second_log : Size 5 (ln32 (one -ᶠ r))
  second_log =
      ln_size 24 5 (one -ᶠ r) rest_above (lit< tt) (lit≤ tt) (wider 1 24 (one -ᶠ r) (lit≤ tt) rest_size)
      (least_of 24 (one -ᶠ max_prob_def) (one -ᶠ r) rest_low.0 rest_above rest_least rest_low.1)

  pub score_called : NoneRefused (score_calls (probability r-raw))
  unfolding score_calls
  score_called = (accepted 5 (ln32 r) first_log, (accepted 5 (ln32 (one -ᶠ r)) second_log, tt))

  loss_size : (label weight : Float) → T (label_good_def label) → T (weight_good_def weight) → Size 27 (bce_loss_def r label weight)
  unfolding bce_loss_def
  loss_size label weight l g =
      let a = label *ᶠ ln32 r in
      let b = (one -ᶠ label) *ᶠ ln32 (one -ᶠ r) in
      let label-size : Size 0 label = within_size 0 zero32 label one sizes.3 sizes.2 l in
      mul_size 7 20 (neg (a +ᶠ b)) weight (lit< tt)
      (neg_size 7 (a +ᶠ b)
      (add_size 6 a b (lit< tt) (wider 5 6 a (lit≤ tt) (mul_size 0 5 label (ln32 r) (lit< tt) label-size first_log))
      (mul_size 1 5 (one -ᶠ label) (ln32 (one -ᶠ r)) (lit< tt) (sub_size 0 one label (lit< tt) sizes.2 label-size) second_log)))
      (within_size 20 zero32 weight weight_max_def sizes.4 heaviest g)

  -- a label is read where its weight is not 0
  pub score_size : (label weight : Float) → T (weight_good_def weight) → (non_zero weight ≡ true → T (label_good_def label)) → Size 27 (score_def r-raw label weight).loss
  unfolding score_def non_zero
  score_size label weight g l = unless_zero (eq weight zero32) _ (λ e. loss_size label weight (l (rw e)) g)
