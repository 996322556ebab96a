-- The three branches of a review from a state inside the ranges: their numbers are finite, and no kernel call is refused. Sizes are powers of 2. Assumes nothing.
use mathlib.Core.Path.{sym, subst}
use mathlib.Core.Bool.{Bool, true, false, cond}
use Prim.Native.Nat.{ℕ, zero-le}
use lib.Dec.{T, lit<, lit≤}
use lib.Ieee.{Float, binary32, of_bits, fits, neg, is_nan, le, lt, eq}
use lib.Ieee.Fits.{mul-fits, div-fits, cond-fits}
use lib.Ieee.Positive.{positive, positive-finite}
use lib.Ieee.Scale.{finite}
use Rattle.kernels.specs.Calls.{exp32, pow32}
use Rattle.domain.specs.Floats.{◌+ᶠ◌, ◌-ᶠ◌, ◌*ᶠ◌, ◌/ᶠ◌, max_def}
use Rattle.domain.specs.Limits.{one, two, three, four, eleven}
use Rattle.forward.specs.Stability.{short_raw_def, short_value_def, short_def, lapse_raw_def, lapse_move_def, lapse_def, success_def}
use Rattle.forward.specs.declared.state.Move.{Move}
use Rattle.forward.specs.declared.state.State.{State}
use Rattle.laws.specs.KernelCalls.{NoneRefused, short_calls, lapse_calls, success_calls}
use Rattle.laws.specs.Numbers.{FiniteBranch}
use Rattle.laws.proofs.Values.Sizes.{Size, size_finite, wider, neg_size, unit}
use Rattle.laws.proofs.Values.Operations.{mul_size, add_size, sub_size, Least, least_wider, div_size}
use Rattle.laws.proofs.Values.Between.{least_of}
use Rattle.laws.proofs.Values.Signs.{plus_of, one_more}
use Rattle.laws.proofs.Values.Powers.{exp_size}
use Rattle.laws.proofs.Values.Zeros.{one_is}
use Rattle.laws.proofs.Values.States.{Held}
use Rattle.laws.proofs.Values.Ones.{pow_of, pow_within}
use Rattle.laws.proofs.Ranges.Low.{above_finite}
use Rattle.laws.proofs.Ranges.Accepted.{accepted}

-- what is asked of a move: its stability before the clamp, and its branch's numbers
pub record Moved (m : Move) : Type 0 where
  pub size : Size 85 m.s
  pub single : T (fits binary32 m.s)
  pub branch : FiniteBranch m.branch

pub one_size : (k : ℕ) → Size 0 one → Size k one
one_size k h = wider 0 k one zero-le h

pub unit_size : Size 0 one
unfolding of_bits
unit_size = lit≤ tt

pub size_cond : (k : ℕ) (b : Bool) (x y : Float) → Size k x → Size k y → Size k (cond b x y)
size_cond k true x y h g = h
size_cond k false x y h g = g

-- exp of (1 - r) w, for a retrievability of at most 1 and a weight of at most 5
pub urged : (r w : Float) → Size 0 r → Size 3 w → Size 24 (exp32 ((one -ᶠ r) *ᶠ w))
urged r w h g = exp_size 4 24 ((one -ᶠ r) *ᶠ w) (lit< tt) (lit< tt) (mul_size 1 3 (one -ᶠ r) w (lit< tt) (sub_size 0 one r (lit< tt) unit_size h) g)

-- ---- on the same day
module _ (w17 w18 w19 s rating : Float) (a : Size 2 w17) (b : Size 2 w18) (c : Size 0 w19) (p : T (positive s)) (u : Size 16 s) (l : Least 14 s) (o : Size 1 (rating -ᶠ three)) where
  abbrev shift : Float
  shift = rating -ᶠ three +ᶠ w18

  -- 32 is below 47 ln 2
  push_size : Size 47 (exp32 (w17 *ᶠ shift))
  push_size = exp_size 5 47 (w17 *ᶠ shift) (lit< tt) (lit< tt) (mul_size 2 3 w17 shift (lit< tt) a (add_size 2 (rating -ᶠ three) w18 (lit< tt) (wider 1 2 (rating -ᶠ three) (lit≤ tt) o) b))

  share_size : Size 22 (pow32 s (neg w19))
  share_size = pow_of s (neg w19) p u l (neg_size 0 w19 c)

  pub short_raw_size : Size 69 (short_raw_def w17 w18 w19 s rating)
  unfolding short_raw_def
  short_raw_size = mul_size 47 22 (exp32 (w17 *ᶠ shift)) (pow32 s (neg w19)) (lit< tt) push_size share_size

  short_value_size : Size 69 (short_value_def rating (short_raw_def w17 w18 w19 s rating))
  unfolding short_value_def max_def
  short_value_size =
      let raw = short_raw_def w17 w18 w19 s rating in
      let h = short_raw_size in
      size_cond 69 (le two rating) (max_def raw one) raw (size_cond 69 (is_nan one) raw (cond (lt one raw) raw one) h (size_cond 69 (lt one raw) raw one h (one_size 69 unit_size))) h

  pub short_moved : Moved (short_def w17 w18 w19 s rating)
  unfolding short_def
  short_moved =
      let raw = short_raw_def w17 w18 w19 s rating in
      record {
        size = mul_size 16 69 s (short_value_def rating raw) (lit< tt) u short_value_size;
        single = mul-fits binary32 s (short_value_def rating raw);
        branch = (size_finite 69 raw short_raw_size, size_finite 69 (short_value_def rating raw) short_value_size);
      }

  pub short_called : NoneRefused (short_calls w17 w18 w19 s rating)
  unfolding short_calls
  short_called = (accepted 47 (exp32 (w17 *ᶠ shift)) push_size, (accepted 22 (pow32 s (neg w19)) share_size, tt))

-- ---- a lapse
module _ (w11 w12 w13 w14 divisor : Float) (last : State) (r : Float) (a : Size 4 w11) (b : Size 0 w12) (c : Size 0 w13) (e : Size 3 w14) (v : T (finite divisor)) (low : Least 24 divisor)
    (q : Held last) (hr : Size 0 r) where
  ease_size : Size 22 (pow32 last.d (neg w12))
  ease_size = pow_of last.d (neg w12) q.above_d (wider 4 16 last.d (lit≤ tt) q.size_d) q.least_d (neg_size 0 w12 b)

  more_size : Size 17 (last.s +ᶠ unit)
  more_size = add_size 16 last.s unit (lit< tt) q.size_s (lit≤ tt)

  more_least : T (le unit (last.s +ᶠ unit))
  more_least = one_more last.s (positive-finite last.s q.above_s) (plus_of last.s q.above_s)

  more_above : T (positive (last.s +ᶠ unit))
  more_above = above_finite unit (last.s +ᶠ unit) tt (size_finite 17 (last.s +ᶠ unit) more_size) more_least

  grown_size : Size 23 (pow32 (last.s +ᶠ one) w13)
  grown_size =
      subst (λ (x : Float). Size 23 (pow32 (last.s +ᶠ x) w13)) (sym one_is)
      (pow_within 17 (last.s +ᶠ unit) w13 more_above (lit< tt) more_size
      (least_wider 0 17 (last.s +ᶠ unit) (lit≤ tt) (least_of 0 unit (last.s +ᶠ unit) tt more_above more_least (lit≤ tt))) c)

  pub lapse_raw_size : Size 74 (lapse_raw_def w11 w12 w13 w14 last.s last.d r)
  unfolding lapse_raw_def
  lapse_raw_size =
      let ease = pow32 last.d (neg w12) in
      let grown = pow32 (last.s +ᶠ one) w13 in
      let urge = exp32 ((one -ᶠ r) *ᶠ w14) in
      mul_size 50 24 (w11 *ᶠ ease *ᶠ (grown -ᶠ one)) urge (lit< tt)
      (mul_size 26 24 (w11 *ᶠ ease) (grown -ᶠ one) (lit< tt) (mul_size 4 22 w11 ease (lit< tt) a ease_size) (sub_size 23 grown one (lit< tt) grown_size (one_size 23 unit_size)))
      (urged r w14 hr e)

  pub floor_size : Size 40 (last.s /ᶠ divisor)
  floor_size = div_size 16 24 last.s divisor (lit< tt) q.size_s v low

  pub lapse_moved : Moved (lapse_def w11 w12 w13 w14 divisor last r)
  unfolding lapse_def lapse_move_def lapse_raw_def
  lapse_moved =
      let raw = lapse_raw_def w11 w12 w13 w14 last.s last.d r in
      let floor = last.s /ᶠ divisor in
      record {
        size = size_cond 85 (lt floor raw) floor raw (wider 40 85 floor (lit≤ tt) floor_size) (wider 74 85 raw (lit≤ tt) lapse_raw_size);
        single = cond-fits binary32 (lt floor raw) floor raw (div-fits binary32 last.s divisor) (mul-fits binary32 _ _);
        branch = (size_finite 74 raw lapse_raw_size, size_finite 40 floor floor_size);
      }

  pub lapse_called : NoneRefused (lapse_calls w12 w13 w14 last.s last.d r)
  unfolding lapse_calls
  lapse_called = (accepted 22 _ ease_size, (accepted 23 _ grown_size, (accepted 24 _ (urged r w14 hr e), tt)))

-- ---- a success
eleven_size : Size 4 eleven
unfolding of_bits
eleven_size = lit≤ tt

module _ (exp_w8 w9 w10 s d r : Float) (a : Size 12 exp_w8) (b : Size 0 w9) (c : Size 3 w10) (p : T (positive s)) (u : Size 16 s) (l : Least 14 s) (v : Size 4 d) (hr : Size 0 r) where
  pull_size : Size 22 (pow32 s (neg w9))
  pull_size = pow_of s (neg w9) p u l (neg_size 0 w9 b)

  pub success_size :
      (hard easy : Float) → Size 0 hard → Size 4 easy →
      Size 85 (s *ᶠ (exp_w8 *ᶠ (eleven -ᶠ d) *ᶠ pow32 s (neg w9) *ᶠ (exp32 ((one -ᶠ r) *ᶠ w10) -ᶠ one) *ᶠ hard *ᶠ easy +ᶠ one))
  success_size hard easy e g =
      let room = exp_w8 *ᶠ (eleven -ᶠ d) in
      let pull = pow32 s (neg w9) in
      let urge = exp32 ((one -ᶠ r) *ᶠ w10) -ᶠ one in
      let inc = room *ᶠ pull *ᶠ urge *ᶠ hard *ᶠ easy in
      let room-size : Size 17 room = mul_size 12 5 exp_w8 (eleven -ᶠ d) (lit< tt) a (sub_size 4 eleven d (lit< tt) eleven_size v) in
      let urge_size : Size 25 urge = sub_size 24 (exp32 ((one -ᶠ r) *ᶠ w10)) one (lit< tt) (urged r w10 hr c) (one_size 24 unit_size) in
      let inc-size : Size 68 inc =
      mul_size 64 4 (room *ᶠ pull *ᶠ urge *ᶠ hard) easy (lit< tt)
      (mul_size 64 0 (room *ᶠ pull *ᶠ urge) hard (lit< tt) (mul_size 39 25 (room *ᶠ pull) urge (lit< tt) (mul_size 17 22 room pull (lit< tt) room-size pull_size) urge_size) e) g in
      mul_size 16 69 s (inc +ᶠ one) (lit< tt) u (add_size 68 inc one (lit< tt) inc-size (one_size 68 unit_size))

  pub success_called : NoneRefused (success_calls w9 w10 s r)
  unfolding success_calls
  success_called = (accepted 22 _ pull_size, (accepted 24 _ (urged r w10 hr c), tt))

pub success_moved : (exp_w8 w9 w10 w15 w16 : Float) (last : State) (rating r : Float) → Size 12 exp_w8 → Size 0 w9 → Size 3 w10 → Size 0 w15 → Size 4 w16 → Held last → Size 0 r
    → Moved (success_def exp_w8 w9 w10 w15 w16 last rating r)
unfolding success_def
success_moved exp_w8 w9 w10 w15 w16 last rating r a b c e g q hr = record {
  size =
      success_size exp_w8 w9 w10 last.s last.d r a b c q.above_s q.size_s q.least_s q.size_d hr (cond (eq rating two) w15 one) (cond (eq rating four) w16 one)
      (size_cond 0 (eq rating two) w15 one e unit_size) (size_cond 4 (eq rating four) w16 one g (one_size 4 unit_size));
  single = mul-fits binary32 last.s _;
  branch = tt;
}
