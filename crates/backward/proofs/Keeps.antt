-- A step's reverse changes no slot but those that its branch may move. Assumes nothing.
use Rattle.std.proofs.Common.{◌≡◌, ℕ, ◌-◌, Bool, true, false, cond, not, ◌&&◌, ◌||◌, T, eqb, List, [], ◌∷◌, ◌++◌, sym, refl, ◌∙◌, subst, get_or-set_other}
use lib.Ieee.{Float, eq, ne, nan}
use borrow.Author.Tests.{eqb-false}
use Rattle.domain.specs.Doubles.{zero64}
use Rattle.domain.specs.Limits.{two, four}
use Rattle.domain.specs.Weights.{◌!◌}
use Rattle.forward.specs.Params.{init_difficulty_of}
use Rattle.forward.specs.WeightsRead.{among, first_weights, common, success_weights}
use Rattle.forward.specs.declared.curve.CurveCache.{CurveCache}
use Rattle.forward.specs.declared.parameters.RuntimeParams.{RuntimeParams}
use Rattle.forward.specs.declared.state.Branch.{Branch}
use Rattle.forward.specs.declared.state.Branch.TheVariants.{Padding, First, SameDay, Lapse, Success}
use Rattle.forward.specs.declared.state.StepRecord.{StepRecord}
use Rattle.backward.specs.Curve.{curve_slots}
use Rattle.backward.specs.Difficulty.{mean_grad_def, parts_of, difficulty_slots_def, difficulty_moved, init_slots_def, init_moved}
use Rattle.backward.specs.Moves.{slots_of, step_may_move}
use Rattle.backward.specs.Slots.{bump, bump_if}
use Rattle.backward.specs.Short.{short_slots_def, short_moved_def}
use Rattle.backward.specs.Failure.{floor_slots, lapse_slots_def, failure_moved}
use Rattle.backward.specs.Success.{success_slots_def, success_moved_def}
use Rattle.backward.specs.Step.{carried, first_flow_def, flow_def, pre_grad, first_moved, short_all, lapse_all, success_all, flow_moved, step_moved}
use Rattle.backward.specs.declared.difficulty.DifficultyParts.{DifficultyParts}
use Rattle.backward.specs.declared.failure.LapseParts.{LapseParts}
use Rattle.backward.specs.declared.success.SuccessParts.{SuccessParts}

-- Stays: std has this one and the next as the halves of one lemma, or_parts; each use by that name is no plainer.
pub or_left : (a b : Bool) → a || b ≡ false → a ≡ false
or_left false b e = refl
or_left true b e = e

pub or_right : (a b : Bool) → a || b ≡ false → b ≡ false
or_right false b e = e
or_right true b e = absurd (subst T e tt)

not_20 : (a b : Bool) → b ≡ false → a && not b ≡ false → a ≡ false
not_20 false b e o = refl
not_20 true b e o = absurd (subst T (rw e at o) tt)

module _ (k : ℕ) where
  abbrev pub Out : List ℕ → Type 0
  Out ks = among k ks ≡ false

  pub head : (i : ℕ) (ks : List ℕ) → Out (i ∷ ks) → eqb k i ≡ false
  unfolding among
  head i ks o = or_left (eqb k i) (among k ks) o

  pub tail : (i : ℕ) (ks : List ℕ) → Out (i ∷ ks) → Out ks
  unfolding among
  tail i ks o = or_right (eqb k i) (among k ks) o

  bump_keeps : (gw : List Float) (i : ℕ) (v : Float) → eqb k i ≡ false → bump gw i v ! k ≡ gw ! k
  unfolding bump
  bump_keeps gw i v e = get_or-set_other gw i k _ nan (eqb-false k i e)

  cond_keeps : (b : Bool) (x y gw : List Float) → (b ≡ true → x ! k ≡ gw ! k) → (b ≡ false → y ! k ≡ gw ! k) → cond b x y ! k ≡ gw ! k
  cond_keeps true x y gw f g = f refl
  cond_keeps false x y gw f g = g refl

  bump_if_keeps : (b : Bool) (gw : List Float) (i : ℕ) (v : Float) → (b ≡ true → eqb k i ≡ false) → bump_if b gw i v ! k ≡ gw ! k
  unfolding bump_if
  bump_if_keeps b gw i v h = cond_keeps b (bump gw i v) gw gw (λ e. bump_keeps gw i v (h e)) (λ e. refl)

  pub out_after : (xs ys : List ℕ) → Out (xs ++ ys) → Out ys
  out_after [] ys o = o
  out_after (x ∷ xs) ys o = out_after xs ys (tail x (xs ++ ys) o)

  out_first : (b : Bool) (i : ℕ) (ys : List ℕ) → Out (cond b (i ∷ []) [] ++ ys) → b ≡ true → eqb k i ≡ false
  out_first true i ys o e = head i ys o
  out_first false i ys o e = absurd (subst T (sym e) tt)

  short_keeps : (w17 w18 s rating raw g : Float) (gw : List Float) → Out (17 ∷ 18 ∷ 19 ∷ common) → short_slots_def w17 w18 s rating raw g gw ! k ≡ gw ! k
  unfolding short_slots_def
  short_keeps w17 w18 s rating raw g gw o =
      let o18 = tail 17 (18 ∷ 19 ∷ common) o in
      let o19 = tail 18 (19 ∷ common) o18 in
      bump_keeps _ 19 _ (head 19 common o19) ∙ bump_keeps _ 18 _ (head 18 (19 ∷ common) o18) ∙ bump_keeps gw 17 _ (head 17 (18 ∷ 19 ∷ common) o)

  floor_keeps : (w17 w18 floor g : Float) (gw : List Float) → Out (17 ∷ 18 ∷ common) → floor_slots w17 w18 floor g gw ! k ≡ gw ! k
  unfolding floor_slots
  floor_keeps w17 w18 floor g gw o =
      bump_keeps _ 18 _ (head 18 common (tail 17 (18 ∷ common) o)) ∙ bump_keeps gw 17 _ (head 17 (18 ∷ common) o)

  lapse_keeps : (c : LapseParts) (g : Float) (gw : List Float) → Out (11 ∷ 12 ∷ 13 ∷ 14 ∷ common) → lapse_slots_def c g gw ! k ≡ gw ! k
  unfolding lapse_slots_def
  lapse_keeps c g gw o =
      let o12 = tail 11 (12 ∷ 13 ∷ 14 ∷ common) o in
      let o13 = tail 12 (13 ∷ 14 ∷ common) o12 in
      let o14 = tail 13 (14 ∷ common) o13 in
      bump_keeps _ 14 _ (head 14 common o14) ∙ bump_keeps _ 13 _ (head 13 (14 ∷ common) o13) ∙ bump_keeps _ 12 _ (head 12 (13 ∷ 14 ∷ common) o12) ∙
      bump_keeps gw 11 _ (head 11 (12 ∷ 13 ∷ 14 ∷ common) o)

  success_keeps : (c : SuccessParts) (rating : Float) (gw : List Float) → Out (success_weights rating) → success_slots_def c rating gw ! k ≡ gw ! k
  unfolding success_slots_def
  success_keeps c rating gw o =
      let o16 = out_after (cond (eq rating two) (15 ∷ []) []) _ o in
      let o8 = out_after (cond (eq rating four) (16 ∷ []) []) (8 ∷ 9 ∷ 10 ∷ common) o16 in
      let o9 = tail 8 (9 ∷ 10 ∷ common) o8 in
      let o10 = tail 9 (10 ∷ common) o9 in
      bump_if_keeps (eq rating four) _ 16 _ (out_first (eq rating four) 16 (8 ∷ 9 ∷ 10 ∷ common) o16) ∙
      bump_if_keeps (eq rating two) _ 15 _ (out_first (eq rating two) 15 _ o) ∙
      bump_keeps _ 10 _ (head 10 common o10) ∙ bump_keeps _ 9 _ (head 9 (10 ∷ common) o9) ∙ bump_keeps gw 8 _ (head 8 (9 ∷ 10 ∷ common) o8)

  difficulty_keeps : (c : DifficultyParts) (easy_d exp-3w5 g : Float) (gw : List Float) → Out common → difficulty_slots_def c easy_d exp-3w5 g gw ! k ≡ gw ! k
  unfolding difficulty_slots_def
  difficulty_keeps c easy_d exp-3w5 g gw o =
      let o5 = tail 4 (5 ∷ 6 ∷ 7 ∷ 20 ∷ []) o in
      let o6 = tail 5 (6 ∷ 7 ∷ 20 ∷ []) o5 in
      let o7 = tail 6 (7 ∷ 20 ∷ []) o6 in
      bump_keeps _ 6 _ (head 6 (7 ∷ 20 ∷ []) o6) ∙ bump_keeps _ 5 _ (head 5 (6 ∷ 7 ∷ 20 ∷ []) o5) ∙
      bump_keeps _ 4 _ (head 4 (5 ∷ 6 ∷ 7 ∷ 20 ∷ []) o) ∙ bump_keeps gw 7 _ (head 7 (20 ∷ []) o7)

  then_keeps : (p : RuntimeParams) (d rating pre_d g-out : Float) (gw : List Float) → Out common → difficulty_moved p d rating pre_d g-out gw ! k ≡ gw ! k
  unfolding difficulty_moved
  then_keeps p d rating pre_d g-out gw o =
      let g = mean_grad_def pre_d g-out in
      let moved = difficulty_slots_def (parts_of p d rating) p.easy_d_f64 p.exp_3w5_f64 g gw in
      cond_keeps (eq g-out zero64) gw (cond (eq g zero64) gw moved) gw
      (λ e. refl)
      (λ e. cond_keeps (eq g zero64) gw moved gw (λ d. refl) (λ d. difficulty_keeps _ _ _ g gw o))

  first_keeps : (w4 w5 : Float) (n : ℕ) (g-s g-d : Float) (gw : List Float) → Out (first_weights n) → init_moved w4 w5 n g-s g-d gw ! k ≡ gw ! k
  unfolding init_moved init_slots_def
  first_keeps w4 w5 n g-s g-d gw o =
      let own = bump_keeps gw (n - 1) g-s (head (n - 1) (4 ∷ 5 ∷ []) o) in
      let o4 = tail (n - 1) (4 ∷ 5 ∷ []) o in
      let g = mean_grad_def (init_difficulty_of w4 w5 n) g-d in
      let base = bump gw (n - 1) g-s in
      cond_keeps (ne g zero64) (init_slots_def w5 n g base) base gw
      (λ e. bump_keeps _ 5 _ (head 5 [] (tail 4 (5 ∷ []) o4)) ∙ bump_keeps _ 4 _ (head 4 (5 ∷ []) o4) ∙ own)
      (λ e. own)

  pub curve_keeps :
      (slope : Float) (c : CurveCache) (g : Float) (gw : List Float) → eqb k 20 && not (eq g zero64) ≡ false → curve_slots slope c g gw ! k ≡ gw ! k
  unfolding curve_slots
  curve_keeps slope c g gw o = cond_keeps (eq g zero64) _ _ gw (λ e. refl) (λ e. bump_keeps gw 20 _ (not_20 (eqb k 20) (eq g zero64) e o))

  flow_keeps :
      (p : RuntimeParams) (c : StepRecord) (b : Branch) (g-s g-d : Float) (gw : List Float) → Out (slots_of b c.rating) →
      flow_moved p c b g-s g-d gw ! k ≡ gw ! k
  unfolding flow_moved slots_of first_moved short_all lapse_all success_all short_moved_def failure_moved success_moved_def
  flow_keeps p c Padding g-s g-d gw o = refl
  flow_keeps p c (First n) g-s g-d gw o = first_keeps (p.w ! 4) (p.w ! 5) n g-s g-d gw o
  flow_keeps p c (SameDay raw value true) g-s g-d gw o =
      then_keeps p _ _ _ g-d _ (out_after (17 ∷ 18 ∷ 19 ∷ []) common o) ∙
      cond_keeps (eq g-s zero64) gw (short_slots_def _ _ _ _ raw g-s gw) gw (λ e. refl) (λ e. short_keeps _ _ _ _ raw g-s gw o)
  flow_keeps p c (SameDay raw value false) g-s g-d gw o =
      then_keeps p _ _ _ g-d _ o ∙ cond_keeps (eq g-s zero64) gw gw gw (λ e. refl) (λ e. refl)
  flow_keeps p c (Lapse raw floor true) g-s g-d gw o =
      then_keeps p _ _ _ g-d _ (out_after (17 ∷ 18 ∷ []) common o) ∙
      cond_keeps (eq g-s zero64) gw (floor_slots _ _ floor g-s gw) gw (λ e. refl) (λ e. floor_keeps _ _ floor g-s gw o)
  flow_keeps p c (Lapse raw floor false) g-s g-d gw o =
      then_keeps p _ _ _ g-d _ (out_after (11 ∷ 12 ∷ 13 ∷ 14 ∷ []) common o) ∙
      cond_keeps (eq g-s zero64) gw (lapse_slots_def _ g-s gw) gw (λ e. refl) (λ e. lapse_keeps _ g-s gw o)
  flow_keeps p c Success g-s g-d gw o =
      let o16 = out_after (cond (eq c.rating two) (15 ∷ []) []) _ o in
      let long = out_after (cond (eq c.rating four) (16 ∷ []) []) (8 ∷ 9 ∷ 10 ∷ common) o16 in
      then_keeps p _ _ _ g-d _ (out_after (8 ∷ 9 ∷ 10 ∷ []) common long) ∙
      cond_keeps (eq g-s zero64) gw (success_slots_def _ c.rating gw) gw (λ e. refl) (λ e. success_keeps _ c.rating gw o)

  not_twenty : Out common → (t : Bool) → eqb k 20 && t ≡ false
  not_twenty o t = rw (head 20 [] (out_after (4 ∷ 5 ∷ 6 ∷ 7 ∷ []) (20 ∷ []) o))

  common_out :
      (b : Branch) (rating : Float) → Out (slots_of b rating) → (g-r g : Float) → eqb k 20 && not (eq g-r zero64) ≡ false →
      (b ≡ Padding → g ≡ g-r) → ((n : ℕ) → b ≡ First n → g ≡ g-r) → eqb k 20 && not (eq g zero64) ≡ false
  unfolding slots_of
  common_out Padding rating o g-r g e same own = rw (same refl) e
  common_out (First n) rating o g-r g e same own = rw (own n refl) e
  common_out (SameDay raw value true) rating o g-r g e same own = not_twenty (out_after (17 ∷ 18 ∷ 19 ∷ []) common o) _
  common_out (SameDay raw value false) rating o g-r g e same own = not_twenty o _
  common_out (Lapse raw floor true) rating o g-r g e same own = not_twenty (out_after (17 ∷ 18 ∷ []) common o) _
  common_out (Lapse raw floor false) rating o g-r g e same own = not_twenty (out_after (11 ∷ 12 ∷ 13 ∷ 14 ∷ []) common o) _
  common_out Success rating o g-r g e same own =
      not_twenty
      (out_after (8 ∷ 9 ∷ 10 ∷ []) common (out_after (cond (eq rating four) (16 ∷ []) []) _ (out_after (cond (eq rating two) (15 ∷ []) []) _ o)))
      _

  same_padding : (p : RuntimeParams) (c : StepRecord) (b : Branch) (g-s g-d g-r : Float) → b ≡ Padding → (flow_def p c b g-s g-d g-r).r ≡ g-r
  unfolding flow_def carried
  same_padding p c b g-s g-d g-r e = rw e

  same_first : (p : RuntimeParams) (c : StepRecord) (b : Branch) (g-s g-d g-r : Float) (n : ℕ) → b ≡ First n → (flow_def p c b g-s g-d g-r).r ≡ g-r
  unfolding flow_def first_flow_def
  same_first p c b g-s g-d g-r n e = rw e

  -- the law
  pub step_keeps :
      (p : RuntimeParams) (c : StepRecord) (g-out-s g-out-d g-r : Float) (gw : List Float) → step_may_move c g-r k ≡ false →
      step_moved p c g-out-s g-out-d g-r gw ! k ≡ gw ! k
  unfolding step_moved step_may_move
  step_keeps p c g-out-s g-out-d g-r gw o =
      let b = c.branch in
      let out = or_left (among k (slots_of b c.rating)) (eqb k 20 && not (eq g-r zero64)) o in
      let scored = or_right (among k (slots_of b c.rating)) (eqb k 20 && not (eq g-r zero64)) o in
      let g-s = pre_grad c g-out-s in
      curve_keeps _ _ _ _
      (common_out b c.rating out g-r _ scored (same_padding p c b g-s g-out-d g-r) (same_first p c b g-s g-out-d g-r)) ∙
      flow_keeps p c b g-s g-out-d gw out
