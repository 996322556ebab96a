-- Document 01, 'Values to prove (one theorem over the list)': the twelve values, each under its words there. A float is a NaN, an
-- infinity, or `fin s m e`, the number m * 2 ^ e, negative
-- where s is true; `minus 0 k` is the exponent -k. `fits f x` says that x is a value of the format f, and `eq` is IEEE 754's
-- equality. `decimal n d` is the single nearest to n / d, and
-- `zero32`, `one`, `three` are the singles 0, 1, 3. The proofs are in laws/proofs/Values, and in proofs/Weightless.antt and Twelve.antt. Assumes nothing.
use Rattle.std.specs.Prelude.{◌≡◌, Bool, true, false, List, [], ◌∷◌, ℕ, ◌+◌, ◌-◌, ◌*◌, ◌^◌, ◌<◌, pos, length, Float}
use Rattle.std.specs.Float.{fin, Format, binary32}
use Rattle.std.specs.Float.Ieee.{minus, fits, neg, eq, of_bits, to_bits}
use Rattle.domain.specs.Floats.{◌-ᶠ◌}
use Rattle.domain.specs.Limits.{decimal, zero32, one, three, stability_good, difficulty_good_def, day_good_def}
use Rattle.domain.specs.Doubles.{zero64}
use Rattle.soft.specs.Fma.{fma_def}
use Rattle.soft.specs.HalfAway.{round_def}
use Rattle.kernels.specs.Kernels.{exp_def}
use Rattle.domain.specs.Weights.{◌!◌, weights_refusal_def, FSRS6_DEFAULT_PARAMETERS}
use Rattle.forward.specs.Params.{params_def}
use Rattle.forward.specs.declared.parameters.RuntimeParams.{RuntimeParams}
use Rattle.forward.specs.declared.state.State.{State}
use Rattle.forward.specs.declared.state.Branch.TheVariants.{SameDay, Lapse}
use Rattle.forward.specs.Step.{step_def}
use Rattle.forward.specs.declared.state.Stepped.{Stepped}
use Rattle.columns.specs.Scores.{max_prob_def, score_def}
use Rattle.checks.specs.Reads.{rating_good_def, weight_good_def, label_good_def, non_zero, prefix_day, card_day_def, card_rating, check, prefix_row_def, card_score_def, card_row_def, target_def}
use Rattle.checks.specs.Batch.{Table, Prefixes, Cards, length_at, history, weight_at_def}
use Rattle.columns.specs.LastReview.{target_loss_def, target_grad, target_slots}
use Rattle.columns.specs.ForwardPass.{record_at}
use Rattle.columns.specs.BackwardPass.{start_grad, back_def}
use Rattle.analytic_v6.specs.Prefixes.{prefix_loss_def, prefix_slots_def, prefixes_total}
use Rattle.analytic_v6.specs.Cards.{card_loss_def, card_slots_def, card_grads_def, cards_total}

-- ---- what the cases share
-- 'A zero of either sign is zero.'
abbrev pub IsZero : Float → Type 0
IsZero x = eq x zero32 ≡ true

-- 'weights inside the box': 21 singles, each within the table's ends
pub record Weights (w : List Float) : Type 0 where
  pub singles : (k : ℕ) → fits binary32 (w ! k) ≡ true
  pub boxed : weights_refusal_def w ≡ 0

-- 'any state inside the ranges': two singles, the stability from 0.0001 to 36500 and the difficulty from 1 to 10
pub record InRange (q : State) : Type 0 where
  pub single_s : fits binary32 q.s ≡ true
  pub single_d : fits binary32 q.d ≡ true
  pub stability : stability_good q.s ≡ true
  pub difficulty : difficulty_good_def q.d ≡ true

-- 'from (0,0)'
abbrev pub origin : State
origin = record { s = zero32; d = zero32 }

-- a step of analytic_v6.rs: the next state, and the record with the taken branch
abbrev pub step : (w : List Float) (q : State) (day rating : Float) (row : ℕ) → Stepped
step w q day rating row = step_def (params_def w) q day rating row

-- the value of the format just below x, for an x above 0: its bits less 1; and just above
abbrev pub just_below : Format → Float → Float
just_below f x = of_bits f (to_bits f x - 1)

abbrev pub just_above : Format → Float → Float
just_above f x = of_bits f (to_bits f x + 1)

-- ---- the values
-- '1. 1 - 1e-7 in single is 3F7FFFFE.' It is the upper end of a probability.
abbrev pub Value1 : Type 0
Value1 = (to_bits binary32 (one -ᶠ decimal 1 10000000) ≡ 0x3f7f_fffe) × (max_prob_def ≡ one -ᶠ decimal 1 10000000)

-- '2. Fused (1+2^-12)² - 1 = 2^-11 + 2^-24.' 1 + 2^-12 is (2^12 + 1) 2^-12. In double too.
abbrev pub Value2 : Type 0
Value2 = (f : Format) → let x = fin false (2 ^ 12 + 1) (minus 0 12) in fma_def f x x (fin true 1 (pos 0)) ≡ fin false (2 ^ 13 + 1) (minus 0 24)

-- '3. 2.5 rounds to 3; the single below 0.5 to 0.' The double too.
abbrev pub Value3 : Type 0
Value3 =
    (f : Format) → (round_def f (fin false 5 (minus 0 1)) ≡ fin false 3 (pos 0))
    × (round_def f (just_below f (fin false 1 (minus 0 1))) ≡ fin false 0 (pos 0))

-- '4. exp(-0) = 1.' In single and in double.
abbrev pub Value4 : Type 0
Value4 = (f : Format) → exp_def f (fin true 0 (pos 0)) ≡ fin false 1 (pos 0)

-- 'Cases 5 to 10 are `analytic_v6.rs` steps with weights inside the box; 5 and 6 are at row 0'
-- '5. From (0,0), rating 0: (0.0001, 1).' With any weights, on any day.
abbrev pub Value5 : Type 0
Value5 = (w : List Float) (day rating : Float) → IsZero rating → (step w origin day rating 0).state ≡ record { s = decimal 1 10000; d = one }

-- '6. Default weights, first rating 1: (weight 0, weight 4).' On any day. The default weights are inside the box.
abbrev pub Value6 : Type 0
Value6 = let w = FSRS6_DEFAULT_PARAMETERS in Weights w × ((day : Float) → (step w origin day one 0).state ≡ record { s = w ! 0; d = w ! 4 })

-- '7 to 10 at row 1 from any state inside the ranges'
abbrev pub AtRow1 : ((w : List Float) (q : State) → Type 0) → Type 0
AtRow1 P = (w : List Float) → Weights w → (q : State) → InRange q → P w q

-- '7. Weights 17 and 19 zero, day 0, rating 3: stability unchanged, raw counts.' `SameDay raw value active`: the raw multiplier is 1 and counts.
abbrev pub Value7 : Type 0
Value7 =
    AtRow1 (λ w q. IsZero (w ! 17) → IsZero (w ! 19) → (day : Float) → IsZero day →
    ((step w q day three 1).state.s ≡ q.s) × ((step w q day three 1).step.branch ≡ SameDay one one true))

-- '8. Weight 13 zero, day 1, rating 1: 0.0001, not floored.' `Lapse raw floor floored`: the raw value is 0 and is taken, and the
-- clamp makes it 0.0001.
abbrev pub Value8 : Type 0
Value8 =
    AtRow1 (λ w q. IsZero (w ! 13) →
    (floor : Float) × ((step w q one one 1).state.s ≡ decimal 1 10000) × ((step w q one one 1).step.branch ≡ Lapse zero32 floor false))

-- '9. Day -1, rating 3: stability unchanged.'
abbrev pub Value9 : Type 0
Value9 = AtRow1 (λ w q. (step w q (neg one) three 1).state.s ≡ q.s)

-- '10. Weight 7 zero, rating 3: difficulty unchanged.' On any day.
abbrev pub Value10 : Type 0
Value10 = AtRow1 (λ w q. IsZero (w ! 7) → (day : Float) → (step w q day three 1).state.d ≡ q.d)

-- '11. Review weight 0: loss and gradient 0.' Those of a score, and those of a scored review at the end of a column, which moves no slot.
abbrev pub OfReview : Type 0
OfReview =
    (p : RuntimeParams) (r s day label weight : Float) (slots : List Float) → IsZero weight
    → (score_def r label weight ≡ record { loss = zero64; g_r = zero64 })
    × (target_loss_def p s day label weight ≡ zero64)
    × (target_grad p s day label weight ≡ zero64)
    × (target_slots p s day label weight slots ≡ slots)

-- what n steps of a column make of the slots where no score adds a gradient: what goes back begins at 0
abbrev pub unscored : (p : RuntimeParams) (t : Table) (column n : ℕ) (slots : List Float) → List Float
unscored p t column n slots = back_def p (record_at p (history t column)) (λ row. zero64) n (start_grad zero64) slots

-- Those of a prefix, and the total of a call of such prefixes.
abbrev pub OfPrefix : Type 0
OfPrefix =
    (p : RuntimeParams) (x : Prefixes) (column : ℕ) (slots : List Float) → IsZero (x.weights ! column)
    → (prefix_loss_def p x column ≡ zero64) × (prefix_slots_def p x column slots ≡ unscored p x.table column (length_at x.table column) slots)

abbrev pub OfPrefixes : Type 0
OfPrefixes =
    (w : List Float) (x : Prefixes) → ((column : ℕ) → column < x.table.columns → IsZero (x.weights ! column)) → prefixes_total w x ≡ zero64

-- Those of a card, all of whose review weights are 0 or do not count, and the total of a call of such cards. Row 0 is not scored, and the
-- last row is no step.
abbrev pub Weightless : (x : Cards) (column : ℕ) → Type 0
Weightless x column = (row : ℕ) → 0 < row → row < length_at x.table column → IsZero (weight_at_def x column row)

abbrev pub OfCard : Type 0
OfCard =
    (p : RuntimeParams) (x : Cards) (column : ℕ) (slots step_grads : List Float) → Weightless x column
    → (card_loss_def p x column ≡ zero64)
    × ((row : ℕ) → row < length_at x.table column → row < length step_grads → card_grads_def p x column step_grads ! row ≡ zero64)
    × (card_slots_def p x column slots ≡ unscored p x.table column (length_at x.table column - 1) slots)

abbrev pub OfCards : Type 0
OfCards = (w : List Float) (x : Cards) → ((column : ℕ) → column < x.table.columns → Weightless x column) → cards_total w x ≡ zero64

abbrev pub Value11 : Type 0
Value11 = OfReview × OfPrefix × OfPrefixes × OfCard × OfCards

-- '12. Day 100000 passes; 100000.0078125 is 7.' That is the next single, 100000 + 2^-7.
abbrev pub last : Float
last = decimal 100000 1

abbrev pub next : Float
next = decimal 1000000078125 10000000

abbrev pub NextDay : Type 0
NextDay = (next ≡ fin false (100000 * 2 ^ 7 + 1) (minus 0 7)) × (next ≡ just_above binary32 last)

-- a row of a prefix whose day is read, with a valid rating
abbrev pub InPrefix : Type 0
InPrefix =
    (row : ℕ) (rating : Float) → prefix_day row rating ≡ true → rating_good_def rating ≡ true
    → (prefix_row_def row last rating ≡ 0) × (prefix_row_def row next rating ≡ 7)

-- a row of a card whose day is read, with a rating that is valid or not read: after a valid day come the weight and the label
abbrev pub InCard : Type 0
InCard =
    (end is_last : Bool) (row : ℕ) (rating weight label : Float) → card_day_def is_last row rating weight ≡ true → check (card_rating end is_last) (rating_good_def rating) 6 ≡ 0
    → (card_row_def end is_last row last rating weight label ≡ card_score_def row weight label) × (card_row_def end is_last row next rating weight label ≡ 7)

-- a prefix's target with a valid weight that is not 0 and a valid label
abbrev pub InTarget : Type 0
InTarget =
    (weight label : Float) → non_zero weight ≡ true → weight_good_def weight ≡ true → label_good_def label ≡ true
    → (target_def weight label last ≡ 0) × (target_def weight label next ≡ 7)

abbrev pub Value12 : Type 0
Value12 = (day_good_def last ≡ true) × (day_good_def next ≡ false) × NextDay × InPrefix × InCard × InTarget

-- ---- one theorem over the list
abbrev pub values : List (Type 0)
values = Value1 ∷ Value2 ∷ Value3 ∷ Value4 ∷ Value5 ∷ Value6 ∷ Value7 ∷ Value8 ∷ Value9 ∷ Value10 ∷ Value11 ∷ Value12 ∷ []

abbrev pub Each : List (Type 0) → Type 0
Each [] = Unit {0}
Each (P ∷ Ps) = P × Each Ps

abbrev pub Twelve : Type 0
Twelve = Each values
