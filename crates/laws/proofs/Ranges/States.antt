-- States in numbers, and inside the ranges: a clamp takes the first to the second. Assumes nothing.
use mathlib.Core.Path.{◌≡◌, refl}
use mathlib.Core.Bool.{false}
use lib.Dec.{T}
use lib.Ieee.{Float, nan, inf, fin, binary32, of_bits, fits, is_nan, le, eq, lt}
use lib.Ieee.Scale.{finite}
use Rattle.domain.specs.Floats.{clamp_def}
use Rattle.domain.specs.Limits.{decimal, s_min_def, s_max_def, d_min, d_max, stability_good, difficulty_good_def}
use Rattle.forward.specs.Step.{no_state_def, clamp_state_def}
use Rattle.forward.specs.declared.state.State.{State}
use Rattle.laws.proofs.Values.Sizes.{size_finite}
use Rattle.laws.proofs.Values.States.{Held, held}
use Rattle.laws.proofs.Ranges.Order.{clamp_within, clamp_fits}

-- two singles, neither a NaN nor an infinity
pub record Plain (q : State) : Type 0 where
  pub single_s : T (fits binary32 q.s)
  pub single_d : T (fits binary32 q.d)
  pub finite_s : T (finite q.s)
  pub finite_d : T (finite q.d)

-- two singles, the stability from 0.0001 to 36500 and the difficulty from 1 to 10
pub record Inside (q : State) : Type 0 where
  pub single_s : T (fits binary32 q.s)
  pub single_d : T (fits binary32 q.d)
  pub stability : T (stability_good q.s)
  pub difficulty : T (difficulty_good_def q.d)

pub inside_held : (q : State) → Inside q → Held q
inside_held q i = held q i.single_s i.single_d i.stability i.difficulty

pub inside_plain : (q : State) → Inside q → Plain q
inside_plain q i = record {
  single_s = i.single_s;
  single_d = i.single_d;
  finite_s = size_finite 16 q.s (inside_held q i).size_s;
  finite_d = size_finite 4 q.d (inside_held q i).size_d;
}

pub none_plain : Plain no_state_def
unfolding no_state_def of_bits fits
none_plain = record { single_s = tt; single_d = tt; finite_s = tt; finite_d = tt }

pub number : (x : Float) → T (finite x) → is_nan x ≡ false
unfolding is_nan
number nan h = absurd h
number (inf s) h = absurd h
number (fin s m e) h = refl

-- ---- the clamps
module _ (x : Float) (n : is_nan x ≡ false) where
  pub stability_clamped : T (stability_good (clamp_def x s_min_def s_max_def))
  unfolding s_min_def s_max_def decimal is_nan le lt eq
  stability_clamped = clamp_within x s_min_def s_max_def refl refl tt tt n

  pub difficulty_clamped : T (difficulty_good_def (clamp_def x d_min d_max))
  unfolding of_bits is_nan le lt eq
  difficulty_clamped = clamp_within x d_min d_max refl refl tt tt n

stability_fits : (x : Float) → T (fits binary32 x) → T (fits binary32 (clamp_def x s_min_def s_max_def))
unfolding s_min_def s_max_def decimal fits
stability_fits x k = clamp_fits x s_min_def s_max_def binary32 tt tt k

difficulty_fits : (x : Float) → T (fits binary32 x) → T (fits binary32 (clamp_def x d_min d_max))
unfolding of_bits fits
difficulty_fits x k = clamp_fits x d_min d_max binary32 tt tt k

pub clamped : (q : State) → T (fits binary32 q.s) → T (fits binary32 q.d) → is_nan q.s ≡ false → is_nan q.d ≡ false → Inside (clamp_state_def q)
unfolding clamp_state_def
clamped q ks kd ns nd = record {
  single_s = stability_fits q.s ks;
  single_d = difficulty_fits q.d kd;
  stability = stability_clamped q.s ns;
  difficulty = difficulty_clamped q.d nd;
}

pub plain_clamped : (q : State) → Plain q → Inside (clamp_state_def q)
plain_clamped q i = clamped q i.single_s i.single_d (number q.s i.finite_s) (number q.d i.finite_d)
