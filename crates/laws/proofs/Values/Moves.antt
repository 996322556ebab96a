-- Where a review leaves the stability as it is: on the same day with a multiplier of 1, and after a success that was certain. Assumes nothing.
use mathlib.Core.Path.{◌≡◌, refl, sym, ap, ap₂, ◌∙◌, subst}
use mathlib.Core.Bool.{Bool, true, false, not}
use lib.Dec.{T, lit<, lit≤}
use lib.IntN.{pos}
use lib.Ieee.{Float, fin, binary32, of_bits, fits, neg, is_nan, le, eq}
use lib.Ieee.Positive.{positive}
use Rattle.kernels.specs.Calls.{exp32, pow32}
use Rattle.domain.specs.Floats.{◌+ᶠ◌, ◌-ᶠ◌, ◌*ᶠ◌, max_def}
use Rattle.domain.specs.Limits.{one, two, three, four, eleven}
use Rattle.forward.specs.Stability.{short_raw_def, is_floored_def, short_value_def, short_def, success_def}
use Rattle.forward.specs.declared.state.Branch.TheVariants.{SameDay, Success}
use Rattle.forward.specs.declared.state.Move.{Move}
use Rattle.forward.specs.declared.state.State.{State}
use Rattle.laws.proofs.Values.Sizes.{Size, size_finite, neg_size, unit}
use Rattle.laws.proofs.Values.Operations.{mul_size, add_size, sub_size}
use Rattle.laws.proofs.Values.Zeros.{Zero, one_is, one_less_one, unit_fits, zero_plus_one, times_zero, zero_times, times_one}
use Rattle.laws.proofs.Values.States.{Held}
use Rattle.laws.proofs.Values.Ones.{exp_at, pow_at, neg-zero, three_less, pow_of}

-- ---- on the same day
module _ (w17 w18 w19 s : Float) (a : Zero w17) (b : Size 2 w18) (c : Zero w19) (p : T (positive s)) (k : T (fits binary32 s)) where
  raw_is : short_raw_def w17 w18 w19 s three ≡ unit
  unfolding short_raw_def
  raw_is =
      let x = three -ᶠ three +ᶠ w18 in
      let h : Size 3 x = subst (λ (y : Float). Size 3 (y +ᶠ w18)) (sym three_less) (add_size 2 (fin false 0 (pos 0)) w18 (lit< tt) (lit≤ tt) b) in
      ap₂ (λ (y z : Float). y *ᶠ z) (exp_at (w17 *ᶠ x) (zero_times w17 x a (size_finite 3 x h))) (pow_at s (neg w19) p (neg-zero w19 c)) ∙ times_one unit unit_fits

  value-is : short_value_def three unit ≡ unit
  unfolding short_value_def max_def is_nan le of_bits
  value-is = refl

  raw_counts : is_floored_def three unit ≡ false
  unfolding is_floored_def le of_bits
  raw_counts = refl

  moved : (raw value : Float) (floored : Bool) → Move
  moved raw value floored = record { s = s *ᶠ value; branch = SameDay raw value (not floored) }

  pub same_day : short_def w17 w18 w19 s three ≡ record { s = s; branch = SameDay one one true }
  unfolding short_def moved
  same_day =
      ap (λ (raw : Float). moved raw (short_value_def three raw) (is_floored_def three raw)) raw_is
      ∙ ap₂ (λ (v : Float) (f : Bool). moved unit v f) value-is raw_counts
      ∙ ap₂ (λ (t v : Float). record { s = t; branch = SameDay v v true }) (times_one s k) (sym one_is)

-- ---- after a success with a retrievability of 1
not_two : eq three two ≡ false
unfolding eq of_bits
not_two = refl

not_four : eq three four ≡ false
unfolding eq of_bits
not_four = refl

eleven_size : Size 4 eleven
unfolding of_bits
eleven_size = lit≤ tt

module _ (exp_w8 w9 w10 w15 w16 : Float) (last : State) (a : Size 12 exp_w8) (b : Size 0 w9) (c : Size 3 w10) (q : Held last) where
  abbrev grown : Float
  grown = exp_w8 *ᶠ (eleven -ᶠ last.d) *ᶠ pow32 last.s (neg w9)

  grown_size : Size 39 grown
  grown_size =
      mul_size 17 22 (exp_w8 *ᶠ (eleven -ᶠ last.d)) (pow32 last.s (neg w9)) (lit< tt)
      (mul_size 12 5 exp_w8 (eleven -ᶠ last.d) (lit< tt) a (sub_size 4 eleven last.d (lit< tt) eleven_size q.size_d)) (pow_of last.s (neg w9) q.above_s q.size_s q.least_s (neg_size 0 w9 b))

  unurged : exp32 ((one -ᶠ unit) *ᶠ w10) -ᶠ one ≡ fin false 0 (pos 0)
  unurged =
      rw one_is
      (ap (λ (x : Float). x -ᶠ unit) (exp_at ((unit -ᶠ unit) *ᶠ w10) (zero_times (unit -ᶠ unit) w10 (false, one_less_one) (size_finite 3 w10 c))) ∙ one_less_one)

  increase : (inc : Float) → Move
  increase inc = record { s = last.s *ᶠ (inc +ᶠ one); branch = Success }

  pub success : success_def exp_w8 w9 w10 w15 w16 last three unit ≡ record { s = last.s; branch = Success }
  unfolding success_def increase
  success =
      let z = fin false 0 (pos 0) in
      let t : Zero (grown *ᶠ z *ᶠ unit *ᶠ unit) = zero_times (grown *ᶠ z *ᶠ unit) unit (zero_times (grown *ᶠ z) unit (times_zero grown z (size_finite 39 grown grown_size) (false, refl)) tt) tt in
      rw (not_two, not_four, unurged, one_is, zero_plus_one (grown *ᶠ z *ᶠ unit *ᶠ unit) t, times_one last.s q.single_s)
