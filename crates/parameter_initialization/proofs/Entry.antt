-- The entry's answer: refused, or accepted; what an accepted one lies between; and what no rows give. Assumes nothing.
use Rattle.std.proofs.Common.{◌≡◌, Bool, true, false, T, List, [], length, sym, refl, ap, ◌∙◌, subst, arith, ne_eqb}
use lib.Ieee.{Float, binary32, lt, le, eq, neg, of_bits}
use Rattle.soft.specs.Narrow.{narrow_def}
use Rattle.domain.specs.Floats.{within}
use Rattle.domain.specs.Limits.{zero32, s_min_def}
use Rattle.checks.specs.Columns.{total}
use Rattle.parameter_initialization.specs.Derivatives.{derivatives_of_def, derivatives_def}
use Rattle.domain.specs.Refusals.{number}
use Rattle.domain.specs.declared.refusal.Refusal.{Refusal}
use Rattle.domain.proofs.Refusals.{never_0}
use Rattle.parameter_initialization.specs.Search.{init_s_max_def, flat, sought_def}
use Rattle.parameter_initialization.specs.Start.{Start, sized, default_good, first_number, rows_number_def, start_refusal_def, start_def, start_answer}
use Rattle.parameter_initialization.proofs.Range.{found_inside}
use Rattle.parameter_initialization.proofs.Rounds.{takes_default}

module _ (days shares counts : List Float) (default : Float) where
  pub answer_refused :
      (e : Refusal) → number e ≡ start_refusal_def days shares counts default
      → record { refusal = number e; value = zero32 } ≡ start_answer days shares counts default
  unfolding start_answer
  answer_refused e h = rw (← h, ne_eqb _ 0 (never_0 e))

  pub answer_accepted :
      0 ≡ start_refusal_def days shares counts default
      → record { refusal = 0; value = narrow_def binary32 (sought_def (derivatives_def days shares counts) default) } ≡ start_answer days shares counts default
  unfolding start_answer start_def
  answer_accepted z = rw (← z)

  taken : start_refusal_def days shares counts default ≡ 0 → record { refusal = 0; value = start_def days shares counts default } ≡ start_answer days shares counts default
  unfolding start_def
  taken z = answer_accepted (sym z)

pub ruleset entry = (answer_refused, answer_accepted)

-- ---- an accepted default passed its test
module _ (days shares counts : List Float) (default : Float) where
  number_is : (start_answer days shares counts default).refusal ≡ start_refusal_def days shares counts default
  unfolding start_answer
  number_is = refl

  -- by what the two tests say, so that it rests on no order of the numbers
  passed :
      (a b : Bool) → sized (length days) (length shares) (length counts) ≡ a → default_good default ≡ b
      → start_refusal_def days shares counts default ≡ 0 → T b
  unfolding start_refusal_def
  passed a true e f h = tt
  passed true false e f h = absurd (omega (arith, simp (e, f) at h))
  passed false false e f h = absurd (omega (arith, simp (e, f) at h))

  accepted_default : start_refusal_def days shares counts default ≡ 0 → T (default_good default)
  accepted_default h = passed (sized (length days) (length shares) (length counts)) (default_good default) refl refl h

  def_inside : T (default_good default) → T (within (start_def days shares counts default) s_min_def init_s_max_def)
  unfolding start_def
  def_inside h = found_inside (derivatives_def days shares counts) default h

  -- 'the answer is shown to lie between 0.0001 and 100'
  pub answer_inside :
      (start_answer days shares counts default).refusal ≡ 0 → T (within (start_answer days shares counts default).value s_min_def init_s_max_def)
  answer_inside h =
      let z = sym number_is ∙ h in
      subst (λ (a : Start). T (within a.value s_min_def init_s_max_def)) (taken days shares counts default z)
      (def_inside (accepted_default z))

-- ---- no rows: the slope is 0
level : (default : Float) → flat (derivatives_def [] [] [] default).slope ≡ true
unfolding flat derivatives_def derivatives_of_def total lt le eq neg of_bits
level default = refl

is_true : (b : Bool) → T b → b ≡ true
is_true true t = refl
is_true false t = absurd t

unrefused : (default : Float) → T (default_good default) → start_refusal_def [] [] [] default ≡ 0
unfolding start_refusal_def rows_number_def first_number
unrefused default h = rw (is_true (default_good default) h)

pub no_rows :
    (default : Float) → T (default_good default) → start_answer [] [] [] default ≡ record { refusal = 0; value = narrow_def binary32 default }
unfolding start_def
no_rows default h =
    sym (taken [] [] [] default (unrefused default h))
    ∙ ap (λ (x : Float). record { refusal = 0; value = narrow_def binary32 x })
    (sym (takes_default (derivatives_def [] [] []) default _ refl true (sym (level default)) refl))
