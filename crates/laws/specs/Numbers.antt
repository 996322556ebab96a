-- Every number of a step's record, and of what is worked out of the weights, is finite: neither a NaN nor an infinity. Assumes nothing.
use Rattle.std.specs.Prelude.{ℕ, ◌<◌, T, Float}
use Rattle.std.specs.Float.Ieee.Scale.{finite}
use Rattle.domain.specs.Weights.{◌!◌}
use Rattle.forward.specs.declared.parameters.RuntimeParams.{RuntimeParams}
use Rattle.forward.specs.declared.state.Branch.{Branch}
use Rattle.forward.specs.declared.state.Branch.TheVariants.{Padding, First, SameDay, Lapse, Success}
use Rattle.forward.specs.declared.state.State.{State}
use Rattle.forward.specs.declared.state.StepRecord.{StepRecord}

-- a double or a single
abbrev pub Finite : Float → Type 0
Finite x = T (finite x)

pub record FiniteState (q : State) : Type 0 where
  pub s : Finite q.s
  pub d : Finite q.d

-- 'the numbers that branch needs'
abbrev pub FiniteBranch : Branch → Type 0
FiniteBranch Padding = Unit {0}
FiniteBranch (First rating) = Unit {0}
FiniteBranch (SameDay raw value active) = Finite raw × Finite value
FiniteBranch (Lapse raw floor floored) = Finite raw × Finite floor
FiniteBranch Success = Unit {0}

pub record FiniteRecord (c : StepRecord) : Type 0 where
  pub state : FiniteState c.state
  pub last : FiniteState c.last
  pub day : Finite c.day
  pub rating : Finite c.rating
  pub retrievability : Finite c.retrievability
  pub pre_s : Finite c.pre_s
  pub pre_d : Finite c.pre_d
  pub branch : FiniteBranch c.branch

pub record FiniteParams (p : RuntimeParams) : Type 0 where
  pub w : (k : ℕ) → k < 21 → Finite (p.w ! k)
  pub curve_decay : Finite p.curve_decay
  pub curve_factor : Finite p.curve_factor
  pub curve_slope : Finite p.curve_dfactor_ddecay
  pub exp_w8 : Finite p.exp_w8
  pub exp_w8_f64 : Finite p.exp_w8_f64
  pub floor_divisor : Finite p.failure_floor_divisor
  pub easy_d : Finite p.easy_d
  pub easy_d_f64 : Finite p.easy_d_f64
  pub exp_3w5_f64 : Finite p.exp_3w5_f64
