-- A state inside the ranges: its numbers are above 0 and of a known size, and a clamp leaves them. Assumes nothing.
use mathlib.Core.Path.{◌≡◌, refl, ap₂}
use mathlib.Core.Bool.{false}
use lib.Dec.{T, lit≤}
use lib.IntN.{pos}
use lib.Ieee.{Float, fin, of_bits, binary32, fits, lt}
use lib.Ieee.Positive.{positive}
use Rattle.domain.specs.Limits.{decimal, s_min_def, s_max_def, d_min, d_max, stability_good, difficulty_good_def}
use Rattle.domain.specs.Floats.{clamp_def}
use Rattle.forward.specs.declared.state.State.{State}
use Rattle.forward.specs.Step.{clamp_state_def}
use Rattle.laws.proofs.Values.Sizes.{Size}
use Rattle.laws.proofs.Values.Operations.{Least}
use Rattle.laws.proofs.Values.Between.{within_size, above, least, stays}

pub record Held (q : State) : Type 0 where
  pub above_s : T (positive q.s)
  pub single_s : T (fits binary32 q.s)
  pub size_s : Size 16 q.s
  pub least_s : Least 14 q.s
  pub above_d : T (positive q.d)
  pub single_d : T (fits binary32 q.d)
  pub size_d : Size 4 q.d
  pub least_d : Least 14 q.d

pub held : (q : State) → T (fits binary32 q.s) → T (fits binary32 q.d) → T (stability_good q.s) → T (difficulty_good_def q.d) → Held q
unfolding s_min_def s_max_def decimal of_bits
held q ks kd hs hd = record {
  above_s = above s_min_def q.s s_max_def tt tt hs;
  single_s = ks;
  size_s = within_size 16 s_min_def q.s s_max_def (lit≤ tt) (lit≤ tt) hs;
  least_s = least s_min_def q.s s_max_def tt tt hs 14 (lit≤ tt);
  above_d = above d_min q.d d_max tt tt hd;
  single_d = kd;
  size_d = within_size 4 d_min q.d d_max (lit≤ tt) (lit≤ tt) hd;
  least_d = least d_min q.d d_max tt tt hd 14 (lit≤ tt);
}

-- ---- the clamp
pub stays_s : (s : Float) → T (stability_good s) → clamp_def s s_min_def s_max_def ≡ s
unfolding s_min_def s_max_def decimal
stays_s s h = stays s_min_def s s_max_def tt tt h

pub stays_d : (d : Float) → T (difficulty_good_def d) → clamp_def d d_min d_max ≡ d
unfolding of_bits
stays_d d h = stays d_min d d_max tt tt h

pub stays_state : (q : State) → T (stability_good q.s) → T (difficulty_good_def q.d) → clamp_state_def q ≡ q
unfolding clamp_state_def
stays_state q hs hd = ap₂ (λ (s d : Float). record { s = s; d = d }) (stays_s q.s hs) (stays_d q.d hd)

-- 0 is clamped to 0.0001
pub rises : clamp_def (fin false 0 (pos 0)) s_min_def s_max_def ≡ s_min_def
unfolding clamp_def s_min_def s_max_def decimal lt
rises = refl
