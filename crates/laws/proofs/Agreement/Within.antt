-- What a record's reverse reads is within what its step reads, weight 20 besides, and so are the slots that it may move. Assumes nothing.
use Prim.Native.Nat.{ℕ, ◌-◌}
use mathlib.Core.Bool.{Bool, true, false, ◌||◌, ◌&&◌, not, cond}
use mathlib.Core.List.{List, [], ◌∷◌, ◌++◌}
use mathlib.Core.Path.{◌≡◌, refl, sym, subst}
use lib.Dec.{eqb}
use lib.Ieee.{Float, eq, lt, of_bits}
use borrow.Author.Tests.{eqb-true}
use Rattle.domain.specs.Doubles.{zero64}
use Rattle.domain.specs.Limits.{decimal, zero32, two, four}
use Rattle.domain.specs.Weights.{◌!◌}
use Rattle.domain.proofs.weights.All.{and-false}
use Rattle.columns.specs.declared.scores.Score.{Score}
use Rattle.columns.specs.Scores.{min_prob_def, is_inside_def, no_score_def, score_def}
use Rattle.forward.specs.declared.parameters.RuntimeParams.{RuntimeParams}
use Rattle.forward.specs.declared.state.Branch.{Branch}
use Rattle.forward.specs.declared.state.State.{State}
use Rattle.forward.specs.WeightsRead.{among, common, success_weights, step_reads, Agree}
use Rattle.forward.specs.Step.{rating_number_def, step_def}
use Rattle.forward.proofs.Agreement.{among_append, after}
use Rattle.backward.specs.Moves.{slots_of, reverse_reads}
use Rattle.backward.proofs.Keeps.{head, tail, out_after}
use Rattle.laws.proofs.Agreement.Steps.{Branches, every_step}

or-false : (a : Bool) → a || false ≡ true → a ≡ true
or-false true e = refl
or-false false e = e

by_or : (a b : Bool) {P : Type 0} → a || b ≡ true → (a ≡ true → P) → (b ≡ true → P) → P
by_or true b e f g = f refl
by_or false b e f g = g e

module _ (w v : List Float) (twenty : w ! 20 ≡ v ! 20) where
  only_20 : Agree (20 ∷ []) w v
  unfolding among
  only_20 k m = subst (λ (i : ℕ). w ! i ≡ v ! i) (sym (eqb-true k 20 (or-false (eqb k 20) m))) twenty

  and_20 : (ks : List ℕ) → Agree ks w v → Agree (ks ++ (20 ∷ [])) w v
  and_20 ks h k m = by_or (among k ks) (among k (20 ∷ [])) (rw (among_append k ks (20 ∷ [])) at m) (h k) (only_20 k)

  abbrev Reversed : Branch → Float → Float → List ℕ → Type 0
  Reversed b rating r ks = Agree ks w v → Agree (reverse_reads b rating) w v

  reversed : (rating : Float) → Branches Reversed rating
  unfolding reverse_reads
  reversed rating =
      record {
        padding = λ h. only_20;
        first = λ h. and_20 (4 ∷ 5 ∷ []) (after w v ((rating_number_def rating - 1) ∷ []) (4 ∷ 5 ∷ []) h);
        same_day = λ raw value active r h. h;
        lapse = λ raw floor floored r h. h;
        success = λ r h. h;
      }

  -- the record's reverse reads no weight but the step's, and 20
  pub reverse_within :
      (p : RuntimeParams) (q : State) (day rating : Float) (row : ℕ) → Agree (step_reads q day rating row) w v →
      Agree (reverse_reads (step_def p q day rating row).step.branch (step_def p q day rating row).step.rating) w v
  reverse_within p q day rating row = every_step Reversed rating (reversed rating) p q day row

-- 'scored at retrievability 0': below 1e-7 the gradient is 0
none_inside : is_inside_def zero32 ≡ false
unfolding is_inside_def min_prob_def decimal lt of_bits
none_inside = refl

either : (b : Bool) (x : Score) → x.g_r ≡ zero64 → (cond b no_score_def x).g_r ≡ zero64
unfolding no_score_def
either true x e = refl
either false x e = e

unmoved : (label weight : Float) → (score_def zero32 label weight).g_r ≡ zero64
unfolding score_def
unmoved label weight = either (eq weight zero32) _ (rw none_inside)

module _ (k : ℕ) where
  -- k ∉ ks
  abbrev Out : List ℕ → Type 0
  Out ks = among k ks ≡ false

  abbrev Moves : Branch → Float → Float → List ℕ → Type 0
  Moves b rating r ks = Out ks → Out (slots_of b rating)

  short_out : (active : Bool) → Out (17 ∷ 18 ∷ 19 ∷ common) → Out (cond active (17 ∷ 18 ∷ 19 ∷ common) common)
  short_out true o = o
  short_out false o = out_after k (17 ∷ 18 ∷ 19 ∷ []) common o

  without : (a b c d : ℕ) (xs ys : List ℕ) → Out (a ∷ b ∷ c ∷ d ∷ (xs ++ ys)) → Out (a ∷ b ∷ c ∷ d ∷ ys)
  unfolding among
  without a b c d xs ys o =
      let ob = tail k a (b ∷ c ∷ d ∷ (xs ++ ys)) o in
      let oc = tail k b (c ∷ d ∷ (xs ++ ys)) ob in
      let od = tail k c (d ∷ (xs ++ ys)) oc in
      rw (head k a (b ∷ c ∷ d ∷ (xs ++ ys)) o, head k b (c ∷ d ∷ (xs ++ ys)) ob, head k c (d ∷ (xs ++ ys)) oc, head k d (xs ++ ys) od)
      (out_after k xs ys (tail k d (xs ++ ys) od))

  lapse_out : (floored : Bool) → Out (11 ∷ 12 ∷ 13 ∷ 14 ∷ 17 ∷ 18 ∷ common) → Out (cond floored (17 ∷ 18 ∷ common) (11 ∷ 12 ∷ 13 ∷ 14 ∷ common))
  lapse_out true o = out_after k (11 ∷ 12 ∷ 13 ∷ 14 ∷ []) (17 ∷ 18 ∷ common) o
  lapse_out false o = without 11 12 13 14 (17 ∷ 18 ∷ []) common o

  moves : (rating : Float) → Branches Moves rating
  unfolding slots_of among
  moves rating =
      record {
        padding = λ o. refl;
        first = λ o. o;
        same_day = λ raw value active r. short_out active;
        lapse = λ raw floor floored r. lapse_out floored;
        success = λ r o. o;
      }

  -- a step moves no slot but of a weight that it reads
  pub moves_within :
      (p : RuntimeParams) (q : State) (day rating : Float) (row : ℕ) → Out (step_reads q day rating row) →
      Out (slots_of (step_def p q day rating row).step.branch (step_def p q day rating row).step.rating)
  moves_within p q day rating row = every_step Moves rating (moves rating) p q day row

  -- its own score moves no slot besides
  abbrev Scored : Branch → Float → Float → List ℕ → Type 0
  Scored b rating r ks = Out (slots_of b rating) → (label weight : Float) → eqb k 20 && not (eq (score_def r label weight).g_r zero64) ≡ false

  nothing : (label weight : Float) → eqb k 20 && not (eq (score_def zero32 label weight).g_r zero64) ≡ false
  unfolding eq of_bits
  nothing label weight = rw (unmoved label weight) (and-false (eqb k 20))

  not_20 : Out common → (b : Bool) → eqb k 20 && b ≡ false
  not_20 o b = rw (head k 20 [] (out_after k (4 ∷ 5 ∷ 6 ∷ 7 ∷ []) (20 ∷ []) o))

  scored : (rating : Float) → Branches Scored rating
  unfolding slots_of
  scored rating =
      record {
        padding = λ o. nothing;
        first = λ o. nothing;
        same_day = λ raw value active r o label weight. not_20 (short_common active o) _;
        lapse = λ raw floor floored r o label weight. not_20 (lapse_common floored o) _;
        success = λ r o label weight. not_20 (success_common rating o) _;
      }
    where
      short_common : (active : Bool) → Out (cond active (17 ∷ 18 ∷ 19 ∷ common) common) → Out common
      short_common true o = out_after k (17 ∷ 18 ∷ 19 ∷ []) common o
      short_common false o = o

      lapse_common : (floored : Bool) → Out (cond floored (17 ∷ 18 ∷ common) (11 ∷ 12 ∷ 13 ∷ 14 ∷ common)) → Out common
      lapse_common true o = out_after k (17 ∷ 18 ∷ []) common o
      lapse_common false o = out_after k (11 ∷ 12 ∷ 13 ∷ 14 ∷ []) common o

      success_common : (rating : Float) → Out (success_weights rating) → Out common
      success_common rating o =
          out_after k (8 ∷ 9 ∷ 10 ∷ []) common (out_after k (cond (eq rating four) (16 ∷ []) []) _ (out_after k (cond (eq rating two) (15 ∷ []) []) _ o))

  pub scored_within :
      (p : RuntimeParams) (q : State) (day rating : Float) (row : ℕ) (label weight : Float) → Out (slots_of (step_def p q day rating row).step.branch (step_def p q day rating row).step.rating) →
      eqb k 20 && not (eq (score_def (step_def p q day rating row).step.retrievability label weight).g_r zero64) ≡ false
  scored_within p q day rating row label weight o = every_step Scored rating (scored rating) p q day row o label weight
