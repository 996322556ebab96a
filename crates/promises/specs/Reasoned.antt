-- Why a card moved, change request K7: 'It is proved that this reason, and no other of the list, holds of the step's own values', and whether each output 'was held
-- at an end of its range, and which end'. Said of `explain_def`, which the entry is proved to equal (explain/specs/Step.antt). What a reason says is written here from
-- document 01's step rules and the step's numbers; the branch that the step names is not asked. Assumes nothing.
use Rattle.std.specs.Prelude.{ℕ, Bool, true, not, ◌&&◌, cond, List, ◌≡◌, T, Float}
use Rattle.std.specs.Float.{binary32}
use Rattle.std.specs.Float.Ieee.{fits, lt, le, eq}
use Rattle.domain.specs.Floats.{◌*ᶠ◌, ◌/ᶠ◌}
use Rattle.domain.specs.Limits.{decimal, zero32, one, two, three, four, s_min_def, s_max_def, d_min, d_max}
use Rattle.domain.specs.Weights.{◌!◌}
use Rattle.checks.specs.Reads.{non_zero}
use Rattle.checks.specs.Tables.{least}
use Rattle.forward.specs.Curve.{curve_forward_def}
use Rattle.forward.specs.Params.{params_def}
use Rattle.forward.specs.Stability.{short_raw_def, lapse_raw_def}
use Rattle.forward.specs.Step.{clamp_state_def, is_first_def}
use Rattle.forward.specs.declared.parameters.RuntimeParams.{RuntimeParams}
use Rattle.forward.specs.declared.state.Branch.{Branch}
use Rattle.forward.specs.declared.state.State.{State}
use Rattle.columns.specs.Records.{branch_cells_def}
use Rattle.analytic_v6.specs.Step.{step_refusal_def, stepped, training_step_def}
use Rattle.explain.specs.Reasons.{reason_number_def, reason_of_def}
use Rattle.explain.specs.Step.{explain_def}
use Rattle.explain.specs.declared.reasons.Held.{Held}
use Rattle.explain.specs.declared.reasons.Held.TheVariants.{Free, Low, High}
use Rattle.explain.specs.declared.reasons.Reason.{Reason}
use Rattle.explain.specs.declared.reasons.Reason.TheVariants.{
  Padding,
  First,
  SameDayRaw,
  SameDayOne,
  LapseRaw,
  LapseFloor,
  Success,
  SuccessHard,
  SuccessEasy,
}
use Rattle.explain.specs.Results.{Explained}

-- ---- what each reason says of a step
module _ (p : RuntimeParams) (q : State) (day rating : Float) (row : ℕ) where
  -- 'Clamp first'
  abbrev pub last : State
  last = clamp_state_def q

  -- the raw same-day multiplier, and a lapse's raw value and floor
  abbrev pub multiplier : Float
  multiplier = short_raw_def (p.w ! 17) (p.w ! 18) (p.w ! 19) last.s rating

  abbrev pub recall : Float
  recall = (curve_forward_def p.curve_decay p.curve_factor day last.s).retrievability

  abbrev pub raw : Float
  raw = lapse_raw_def (p.w ! 11) (p.w ! 12) (p.w ! 13) (p.w ! 14) last.s last.d recall

  abbrev pub floor : Float
  floor = last.s /ᶠ p.failure_floor_divisor

  -- 'it is a first step if the row and the stability are 0 and the rating is not'
  abbrev pub review : Bool
  review = non_zero rating && not (is_first_def row q.s)

  -- 'Day -0.0 is same-day. A negative day is not'
  abbrev pub same_day_def : Bool
  same_day_def = review && eq day zero32

  abbrev pub later_day : Bool
  later_day = review && not (eq day zero32)

  -- 'For ratings 2-4 the raw same-day multiplier below 1 becomes 1; exactly 1 counts as raw'; 'A lapse takes the floor only if floor < raw; equality takes raw'
  abbrev pub holds : Reason → Bool
  holds Padding = eq rating zero32
  holds First = non_zero rating && is_first_def row q.s
  holds SameDayRaw = same_day_def && not (le two rating && lt multiplier one)
  holds SameDayOne = same_day_def && (le two rating && lt multiplier one)
  holds LapseRaw = later_day && (eq rating one && not (lt floor raw))
  holds LapseFloor = later_day && (eq rating one && lt floor raw)
  holds Success = later_day && eq rating three
  holds SuccessHard = later_day && eq rating two
  holds SuccessEasy = later_day && eq rating four

-- ---- 'held at an end of its range, and which end': exactly if x 'lay outside', beyond that end; then `after` is that end, and else x itself
pub record HeldRight (x low high after : Float) (held : Held) : Type 0 where
  pub low_if : lt x low ≡ true → held ≡ Low
  pub low_only : held ≡ Low → lt x low ≡ true
  pub high_if : lt high x ≡ true → held ≡ High
  pub high_only : held ≡ High → lt high x ≡ true
  pub at_low : held ≡ Low → after ≡ low
  pub at_high : held ≡ High → after ≡ high
  pub at_none : held ≡ Free → after ≡ x

-- ---- an accepted step; its rating is a single, as all that is lent as `f32` is
module _ (w : List Float) (q : State) (day rating : Float) (row : ℕ) where
  abbrev pub answer : Explained
  answer = explain_def w q day rating row

  -- 'the value before the last clamp (in padding, the given one)': the step's answer is what its clamp makes of it (`clamped`)
  abbrev pub before : State
  before = let c = (stepped w q day rating row).step in cond (eq rating zero32) q (record { s = c.pre_s; d = c.pre_d })

  abbrev pub after : State
  after = (training_step_def w q day rating row).state

  pub record ReasonedStep : Type 0 where
    pub accepted : answer.refusal ≡ 0
    -- 'this reason'
    pub reason_holds : holds (params_def w) q day rating row answer.reason ≡ true
    -- 'and no other of the list'
    pub no_other : (reason : Reason) → holds (params_def w) q day rating row reason ≡ true → reason ≡ answer.reason
    pub clamped : after ≡ clamp_state_def before
    pub stability_held : HeldRight before.s s_min_def s_max_def after.s answer.stability
    pub difficulty_held : HeldRight before.d d_min d_max after.d answer.difficulty
    -- the value that the reason names is the one that was taken
    pub one_taken : answer.reason ≡ SameDayOne → before.s ≡ (last (params_def w) q day rating row).s *ᶠ one
    pub raw_taken : answer.reason ≡ LapseRaw → before.s ≡ raw (params_def w) q day rating row
    pub floor_taken : answer.reason ≡ LapseFloor → before.s ≡ floor (params_def w) q day rating row

pub record Reasoned : Type 0 where
  pub steps :
      (w : List Float) (q : State) (day rating : Float) (row : ℕ)
      → T (fits binary32 rating) → step_refusal_def w true q day rating row ≡ 0 → ReasonedStep w q day rating row
  -- 'Refusals: those of the step': the same number, whatever the step
  pub refusals :
      (w : List Float) (q : State) (day rating : Float) (row : ℕ)
      → (explain_def w q day rating row).refusal ≡ (training_step_def w q day rating row).refusal
  -- 'a definition tells you this paper's number': 0 to 6 as in a record's column of branches, where a success is 6 whatever its rating
  pub numbers : (branch : Branch) (rating : Float) → (branch_cells_def branch).number ≡ decimal (least (reason_number_def (reason_of_def branch rating)) 6) 1
