-- After a lapse with weight 13 zero the raw value is 0, and the floor is not below it. Assumes nothing.
use mathlib.Core.Path.{◌≡◌, refl, sym, ap, ◌∙◌, subst}
use mathlib.Core.Bool.{Bool, true, false, not, cond}
use Prim.Native.Nat.{ℕ, ◌*◌, ◌≤◌, zero-le}
use native.Mathlib.Nat.{zero-mul}
use borrow.Author.Tests.{le-ltb}
use lib.Dec.{T, lit<, lit≤}
use lib.IntN.{pos}
use lib.Ieee.{Float, nan, inf, fin, up, down, neg, lt, le}
use lib.Ieee.Positive.{positive, positive-finite, above, above_of_le}
use lib.Ieee.Scale.{finite}
use Rattle.kernels.specs.Calls.{exp32, pow32}
use Rattle.domain.specs.Floats.{◌+ᶠ◌, ◌-ᶠ◌, ◌*ᶠ◌, ◌/ᶠ◌}
use Rattle.domain.specs.Limits.{one}
use Rattle.forward.specs.Stability.{lapse_raw_def, lapse_move_def, lapse_def}
use Rattle.forward.specs.declared.state.Branch.TheVariants.{Lapse}
use Rattle.forward.specs.declared.state.State.{State}
use Rattle.laws.proofs.Values.Sizes.{Size, size_finite, wider, plus, neg_size, unit}
use Rattle.laws.proofs.Values.Operations.{plus_mul, mul_size, add_size, sub_size}
use Rattle.laws.proofs.Values.Signs.{plus_of, plus_div, one_more}
use Rattle.laws.proofs.Values.Powers.{plus_exp, plus_pow, exp_size}
use Rattle.laws.proofs.Values.Zeros.{Zero, one_is, one_less_one, times_zero, zero_times}
use Rattle.laws.proofs.Values.States.{Held}
use Rattle.laws.proofs.Values.Ones.{pow_at, pow_of}

-- ---- zeros and numbers from 1 on
not_under : (x : Float) → T (plus x) → lt x (fin false 0 (pos 0)) ≡ false
unfolding lt
not_under nan h = refl
not_under (inf true) h = absurd h
not_under (inf false) h = refl
not_under (fin true m e) h = absurd h
not_under (fin false m e) h = le-ltb (m * up e * 1) (0 * down e) (subst (λ (n : ℕ). n ≤ m * up e * 1) (sym (zero-mul (down e))) zero-le)

plus_zero : (x : Float) → Zero x → T (plus x) → x ≡ fin false 0 (pos 0)
plus_zero x z h = z.1 ∙ ap (λ (t : Bool). fin t 0 (pos 0)) (sign z.0 (subst (λ (y : Float). T (plus y)) z.1 h))
  where
    sign : (t : Bool) → T (not t) → t ≡ false
    sign true h = absurd h
    sign false h = refl

above_one : (x : Float) → T (finite x) → T (le unit x) → T (positive x)
above_one x a h = go x a (above_of_le unit x tt h)
  where
    go : (x : Float) → T (finite x) → T (above x) → T (positive x)
    go nan a h = absurd a
    go (inf s) a h = absurd a
    go (fin true m e) a h = absurd h
    go (fin false m e) a h = h

-- ---- the lapse
module _ (w11 w12 w13 w14 divisor : Float) (last : State) (r : Float) (a : Size 4 w11) (a+ : T (positive w11)) (b : Size 0 w12) (c : Zero w13) (e : Size 3 w14) (v : T (plus divisor)) (q : Held last) (hr : Size 0 r) where
  abbrev share : Float
  share = pow32 last.d (neg w12)

  share_size : Size 22 share
  share_size = pow_of last.d (neg w12) q.above_d (wider 4 16 last.d (lit≤ tt) q.size_d) q.least_d (neg_size 0 w12 b)

  begun_size : Size 26 (w11 *ᶠ share)
  begun_size = mul_size 4 22 w11 share (lit< tt) a share_size

  begun_plus : T (plus (w11 *ᶠ share))
  begun_plus = plus_mul w11 share (plus_of w11 a+) (plus_pow last.d (neg w12))

  more : T (positive (last.s +ᶠ unit))
  more =
      let x = last.s +ᶠ unit in
      above_one x (size_finite 17 x (add_size 16 last.s unit (lit< tt) q.size_s (lit≤ tt))) (one_more last.s (positive-finite last.s q.above_s) (plus_of last.s q.above_s))

  gained : pow32 (last.s +ᶠ one) w13 -ᶠ one ≡ fin false 0 (pos 0)
  gained = rw one_is (ap (λ (x : Float). x -ᶠ unit) (pow_at (last.s +ᶠ unit) w13 more c) ∙ one_less_one)

  abbrev urge : Float
  urge = exp32 ((one -ᶠ r) *ᶠ w14)

  urge_size : Size 24 urge
  urge_size = rw one_is (exp_size 4 24 ((unit -ᶠ r) *ᶠ w14) (lit< tt) (lit< tt) (mul_size 1 3 (unit -ᶠ r) w14 (lit< tt) (sub_size 0 unit r (lit< tt) (lit≤ tt) hr) e))

  lapse_raw : lapse_raw_def w11 w12 w13 w14 last.s last.d r ≡ fin false 0 (pos 0)
  unfolding lapse_raw_def
  lapse_raw =
      let z = fin false 0 (pos 0) in
      let f = w11 *ᶠ share in
      let t = times_zero f z (size_finite 26 f begun_size) (false, refl) in
      ap (λ (x : Float). f *ᶠ x *ᶠ urge) gained
      ∙ plus_zero (f *ᶠ z *ᶠ urge) (zero_times (f *ᶠ z) urge t (size_finite 24 urge urge_size))
      (plus_mul (f *ᶠ z) urge (plus_mul f z begun_plus tt) (plus_exp ((one -ᶠ r) *ᶠ w14)))

  pub lapse : lapse_def w11 w12 w13 w14 divisor last r ≡ record { s = fin false 0 (pos 0); branch = Lapse (fin false 0 (pos 0)) (last.s /ᶠ divisor) false }
  unfolding lapse_def lapse_move_def
  lapse =
      let floor = last.s /ᶠ divisor in
      ap (λ (raw : Float). lapse_move_def raw floor) lapse_raw
      ∙ ap (λ (t : Bool). record { s = cond t floor (fin false 0 (pos 0)); branch = Lapse (fin false 0 (pos 0)) floor t })
      (not_under floor (plus_div last.s divisor q.above_s v))
