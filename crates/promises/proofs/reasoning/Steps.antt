-- A step's branch says the reason that its tests pick, and its record what stood before the last clamp. Assumes nothing.
use Prim.Native.Nat.{ℕ, ◌-◌}
use mathlib.Core.Bool.{Bool, true, false, not, cond}
use mathlib.Core.Path.{◌≡◌, refl, sym, ap, ◌∙◌}
use lib.Ieee.{Float, lt, eq, le, is_nan, of_bits}
use Rattle.std.proofs.lemmas.Bool.{and_parts}
use Rattle.domain.specs.Floats.{◌*ᶠ◌, max_def}
use Rattle.domain.specs.Limits.{zero32, one, two, three, four}
use Rattle.domain.specs.Weights.{◌!◌}
use Rattle.checks.specs.Reads.{non_zero}
use Rattle.forward.specs.Stability.{is_floored_def, short_value_def, short_def, lapse_move_def, lapse_def, success_def}
use Rattle.forward.specs.Step.{clamp_state_def, rating_number_def, is_first_def, move_def, padding_def, first_def, review_def, step_def}
use Rattle.forward.specs.declared.parameters.RuntimeParams.{RuntimeParams}
use Rattle.forward.specs.declared.state.Move.{Move}
use Rattle.forward.specs.declared.state.State.{State}
use Rattle.forward.specs.declared.state.Stepped.{Stepped}
use Rattle.explain.proofs.Cases.{padding_given}
use Rattle.explain.specs.Reasons.{success_reason_def, reason_of_def}
use Rattle.explain.specs.Step.{is_padding_def, before_clamp_def}
use Rattle.explain.specs.declared.reasons.Reason.{Reason}
use Rattle.explain.specs.declared.reasons.Reason.TheVariants.{Padding, First, SameDayRaw, SameDayOne, LapseRaw, LapseFloor, Success, SuccessHard, SuccessEasy}
use Rattle.promises.specs.Reasoned.{multiplier, recall, raw, floor, holds}
use Rattle.promises.proofs.reasoning.Ends.{one_ends}
use Rattle.promises.proofs.reasoning.Tests.{picked, holding}

abbrev pub told : Stepped → Reason
told x = reason_of_def x.step.branch x.step.rating

told_of : (b : Bool) (x y : Stepped) → told (cond b x y) ≡ cond b (told x) (told y)
told_of true x y = refl
told_of false x y = refl

moved_of : (b : Bool) (x y : Move) (rating : Float) → reason_of_def (cond b x y).branch rating ≡ cond b (reason_of_def x.branch rating) (reason_of_def y.branch rating)
moved_of true x y rating = refl
moved_of false x y rating = refl

padding_of : (b : Bool) (x y : Move) → is_padding_def x.branch ≡ false → is_padding_def y.branch ≡ false → is_padding_def (cond b x y).branch ≡ false
padding_of true x y h k = h
padding_of false x y h k = k

not_above : (x : Float) → lt x one ≡ true → lt one x ≡ false
not_above x h = go (lt one x) refl
  where
    go : (t : Bool) → t ≡ lt one x → t ≡ false
    go true e = absurd (one_ends x h (sym e))
    go false e = refl

module _ (p : RuntimeParams) (q : State) (day rating : Float) (row : ℕ) where
  abbrev short : Move
  short = short_def (p.w ! 17) (p.w ! 18) (p.w ! 19) (clamp_state_def q).s rating

  abbrev again : Move
  again = lapse_def (p.w ! 11) (p.w ! 12) (p.w ! 13) (p.w ! 14) p.failure_floor_divisor (clamp_state_def q) (recall p q day rating row)

  abbrev known : Move
  known = success_def p.exp_w8 (p.w ! 9) (p.w ! 10) (p.w ! 15) (p.w ! 16) (clamp_state_def q) rating (recall p q day rating row)

  abbrev begun : Stepped
  begun = first_def (p.w ! (rating_number_def rating - 1)) (p.w ! 4) (p.w ! 5) q rating

  abbrev move : Move
  move = cond (eq day zero32) short (cond (eq rating one) again known)

  abbrev reviewed : Reason
  reviewed =
      cond (eq day zero32) (cond (not (is_floored_def rating (multiplier p q day rating row))) SameDayRaw SameDayOne)
      (cond (eq rating one) (cond (lt (floor p q day rating row) (raw p q day rating row)) LapseFloor LapseRaw) (success_reason_def rating))

  move_told : reason_of_def move.branch rating ≡ reviewed
  unfolding short_def lapse_def lapse_move_def success_def reason_of_def
  move_told =
      moved_of (eq day zero32) short (cond (eq rating one) again known) rating ∙
      ap (λ (r : Reason). cond (eq day zero32) (cond (not (is_floored_def rating (multiplier p q day rating row))) SameDayRaw SameDayOne) r)
      (moved_of (eq rating one) again known rating)

  pub reason_is :
      told (step_def p q day rating row) ≡
      picked (eq rating zero32) (is_first_def row q.s) (eq day zero32) (is_floored_def rating (multiplier p q day rating row)) (eq rating one)
      (lt (floor p q day rating row) (raw p q day rating row)) (eq rating two) (eq rating four)
  unfolding step_def padding_def first_def review_def move_def reason_of_def success_reason_def
  reason_is =
      told_of (eq rating zero32) (padding_def q rating) (cond (is_first_def row q.s) begun (review_def p q day rating)) ∙
      ap (λ (r : Reason). cond (eq rating zero32) Padding r)
      (told_of (is_first_def row q.s) begun (review_def p q day rating) ∙ ap (λ (r : Reason). cond (is_first_def row q.s) First r) move_told)

  -- what a reason says, by the tests
  pub holds_is :
      (reason : Reason) →
      holds p q day rating row reason ≡
      holding (eq rating zero32) (is_first_def row q.s) (eq day zero32) (is_floored_def rating (multiplier p q day rating row)) (eq rating one)
      (lt (floor p q day rating row) (raw p q day rating row)) (eq rating two) (eq rating four) (eq rating three) reason
  unfolding non_zero is_floored_def
  holds_is Padding = refl
  holds_is First = refl
  holds_is SameDayRaw = refl
  holds_is SameDayOne = refl
  holds_is LapseRaw = refl
  holds_is LapseFloor = refl
  holds_is Success = refl
  holds_is SuccessHard = refl
  holds_is SuccessEasy = refl

  -- ---- what stood before the last clamp
  abbrev pub pre_clamp : State
  pre_clamp = let c = (step_def p q day rating row).step in cond (eq rating zero32) q (record { s = c.pre_s; d = c.pre_d })

  move_padding : is_padding_def move.branch ≡ false
  unfolding short_def lapse_def lapse_move_def success_def is_padding_def
  move_padding = padding_of (eq day zero32) short (cond (eq rating one) again known) refl (padding_of (eq rating one) again known refl refl)

  review_before : before_clamp_def (review_def p q day rating).step ≡ record { s = (review_def p q day rating).step.pre_s; d = (review_def p q day rating).step.pre_d }
  unfolding before_clamp_def review_def move_def
  review_before = rw move_padding

  first_before : before_clamp_def begun.step ≡ record { s = begun.step.pre_s; d = begun.step.pre_d }
  unfolding before_clamp_def first_def is_padding_def
  first_before = refl

  pub before_is : before_clamp_def (step_def p q day rating row).step ≡ pre_clamp
  unfolding step_def
  before_is = go (eq rating zero32) (is_first_def row q.s)
    where
      go : (z f : Bool) →
          let x = cond z (padding_def q rating) (cond f begun (review_def p q day rating)) in
          before_clamp_def x.step ≡ cond z q (record { s = x.step.pre_s; d = x.step.pre_d })
      go true f = padding_given q rating
      go false true = first_before
      go false false = review_before

  -- the answer is what its clamp makes of that
  pub clamp_is : (step_def p q day rating row).state ≡ clamp_state_def pre_clamp
  unfolding step_def padding_def first_def review_def
  clamp_is = go (eq rating zero32) (is_first_def row q.s)
    where
      go : (z f : Bool) →
          let x = cond z (padding_def q rating) (cond f begun (review_def p q day rating)) in
          x.state ≡ clamp_state_def (cond z q (record { s = x.step.pre_s; d = x.step.pre_d }))
      go true f = refl
      go false true = refl
      go false false = refl

  -- ---- the value that was taken
  module _ (z : eq rating zero32 ≡ false) (f : is_first_def row q.s ≡ false) where
    taken : pre_clamp.s ≡ move.s
    unfolding step_def review_def move_def
    taken = rw (z, f)

    pub one_is : eq day zero32 ≡ true → is_floored_def rating (multiplier p q day rating row) ≡ true → pre_clamp.s ≡ (clamp_state_def q).s *ᶠ one
    unfolding short_def short_value_def is_floored_def max_def is_nan of_bits
    one_is s m = let b = and_parts (le two rating) (lt (multiplier p q day rating row) one) m in taken ∙ rw (s, b.0, not_above (multiplier p q day rating row) b.1)

    pub raw_is : eq day zero32 ≡ false → eq rating one ≡ true → lt (floor p q day rating row) (raw p q day rating row) ≡ false → pre_clamp.s ≡ raw p q day rating row
    unfolding lapse_def lapse_move_def
    raw_is s o l = taken ∙ rw (s, o, l)

    pub floor_is : eq day zero32 ≡ false → eq rating one ≡ true → lt (floor p q day rating row) (raw p q day rating row) ≡ true → pre_clamp.s ≡ floor p q day rating row
    unfolding lapse_def lapse_move_def
    floor_is s o l = taken ∙ rw (s, o, l)
