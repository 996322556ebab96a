-- Document 01's twelve values. Assumes nothing.
use mathlib.Core.Path.{◌≡◌, refl}
use mathlib.Core.Bool.{true, false}
use mathlib.Core.List.{List}
use lib.Ieee.{Float, binary32, binary64, neg, lt, le, round, sub, sum, of_bits, to_bits}
use Rattle.soft.proofs.units.Value.{holds}
use Rattle.domain.specs.Floats.{◌*ᶠ◌, ◌/ᶠ◌, clamp_def}
use Rattle.domain.specs.Limits.{decimal, s_min_def, s_max_def, day_max_def, day_good_def}
use Rattle.soft.specs.Fma.{fma_def, times, plus}
use Rattle.soft.specs.HalfAway.{round_def}
use Rattle.kernels.specs.Calls.{exp32}
use Rattle.domain.specs.Weights.{◌!◌}
use Rattle.forward.specs.Params.{params_def}
use Rattle.forward.specs.declared.state.State.{State}
use Rattle.forward.specs.Step.{clamp_state_def, padding_def, step_def}
use Rattle.columns.specs.Scores.{min_prob_def, max_prob_def, no_score_def, score_def}
use Rattle.checks.specs.Reads.{check, first, prefix_row_def, card_row_def, target_def}
use Rattle.columns.specs.LastReview.{target_loss_def, target_grad, target_slots}
use Rattle.laws.proofs.Values.Defaults.{single, boxed, first_state}
use Rattle.laws.proofs.Values.Steps.{Ready, same_stability, same_branch, lapse_stability, lapse_branch, early_stability, same_difficulty}
use Rattle.promises.specs.Twelve.{Weights, InRange, Value1, Value2, Value3, Value4, Value5, Value6, Value7, Value8, Value9, Value10, Value11, OfReview, OfPrefix, OfPrefixes, OfCard, OfCards, Value12, NextDay, InPrefix, InCard, InTarget, last, next, Twelve}
use Rattle.promises.proofs.Weightless.{total-zero, prefix_loss, prefix_slots, card_loss, card_grads, card_slots}
use Rattle.laws.proofs.Distances.Ends.{exp_zero}

-- ---- the kernels
value_1 : Value1
unfolding max_prob_def min_prob_def decimal sub of_bits to_bits
value_1 = (refl, refl)

value_2 : Value2
unfolding fma_def times plus sum
value_2 binary32 = refl
value_2 binary64 = refl

value_3 : Value3
unfolding round_def round of_bits to_bits
value_3 binary32 = (refl, refl)
value_3 binary64 = (refl, refl)

value_4 : Value4
value_4 f = exp_zero f true

-- ---- the steps
value_5 : Value5
unfolding step_def padding_def clamp_state_def clamp_def s_min_def s_max_def decimal lt of_bits
value_5 w day rating e = rw e

value_6 : Value6
value_6 = (record { singles = single; boxed = boxed }, λ day. first_state day)

ready : (w : List Float) (q : State) → Weights w → InRange q → Ready w q
ready w q h g = record {
  singles = λ k. holds (h.singles k);
  box = h.boxed;
  ks = holds g.single_s;
  kd = holds g.single_d;
  hs = holds g.stability;
  hd = holds g.difficulty;
}

value_7 : Value7
value_7 w h q g a b day e = (same_stability w q (ready w q h g) day a b e, same_branch w q (ready w q h g) day a b e)

value_8 : Value8
unfolding s_min_def of_bits
value_8 w h q g a = (q.s /ᶠ exp32 (w ! 17 *ᶠ w ! 18), lapse_stability w q (ready w q h g) a, lapse_branch w q (ready w q h g) a)

value_9 : Value9
value_9 w h q g = early_stability w q (ready w q h g)

value_10 : Value10
value_10 w h q g a day = same_difficulty w q (ready w q h g) day a

-- ---- the scores
of_review : OfReview
unfolding score_def no_score_def target_loss_def target_grad target_slots
of_review p r s day label weight slots e = (rw e, rw e, rw e, rw e)

of_prefix : OfPrefix
of_prefix p x column slots e = (prefix_loss p x column e, prefix_slots p x column e slots)

of_prefixes : OfPrefixes
of_prefixes w x e = total-zero _ _ (λ column l. prefix_loss (params_def w) x column (e column l))

of_card : OfCard
of_card p x column slots step_grads e = (card_loss p x column e, card_grads p x column e step_grads, card_slots p x column e slots)

of_cards : OfCards
of_cards w x e = total-zero _ _ (λ column l. card_loss (params_def w) x column (e column l))

value_11 : Value11
value_11 = (of_review, of_prefix, of_prefixes, of_card, of_cards)

-- ---- the days
day_passes : day_good_def last ≡ true
unfolding day_max_def decimal le neg
day_passes = refl

day_fails : day_good_def next ≡ false
unfolding day_max_def decimal le neg
day_fails = refl

next_day : NextDay
unfolding decimal of_bits to_bits
next_day = (refl, refl)

in_prefix : InPrefix
unfolding prefix_row_def check first
in_prefix row rating e g = (rw (e, g, day_passes), rw (e, g, day_fails))

good : check true true 7 ≡ 0
unfolding check
good = refl

bad : check true false 7 ≡ 7
unfolding check
bad = refl

in_card : InCard
unfolding card_row_def first
in_card end is_last row rating weight label e g = (rw (g, e, day_passes, good), rw (g, e, day_fails, bad))

in_target : InTarget
unfolding target_def check first
in_target weight label e g l = (rw (e, g, l, day_passes), rw (e, g, l, day_fails))

value_12 : Value12
value_12 = (day_passes, day_fails, next_day, in_prefix, in_card, in_target)

pub twelve : Twelve
twelve = (value_1, (value_2, (value_3, (value_4, (value_5, (value_6, (value_7, (value_8, (value_9, (value_10, (value_11, (value_12, tt))))))))))))
