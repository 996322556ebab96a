-- A step's outcome depends on no weight but those that it reads. Assumes nothing.
use Rattle.std.proofs.Common.{◌≡◌, ℕ, ◌-◌, Bool, true, false, cond, ◌||◌, eqb, List, [], ◌∷◌, ◌++◌, refl, subst, eq-eqb}
use Rattle.std.proofs.lemmas.Bool.{or_left, or_right}
use mathlib.Core.Bool.{or_assoc}
use lib.Ieee.{Float, neg, eq}
use Rattle.domain.specs.Limits.{zero32, one, two, four}
use Rattle.domain.specs.Weights.{◌!◌}
use Rattle.forward.specs.Curve.{curve_forward_def}
use Rattle.forward.specs.Params.{curve_factor_def, params_def}
use Rattle.forward.specs.WeightsRead.{among, first_weights, common, success_weights, review_reads, step_reads, Agree}
use Rattle.forward.specs.Stability.{success_def}
use Rattle.forward.specs.Step.{clamp_state_def, rating_number_def, is_first_def, move_def, first_def, review_def, step_def}
use Rattle.forward.specs.declared.state.State.{State}

-- a choice between equal things, each under its test
pub by_cases : {A : Type 0} (b : Bool) (x y x' y' : A) → (b ≡ true → x ≡ x') → (b ≡ false → y ≡ y') → cond b x y ≡ cond b x' y'
by_cases true x y x' y' f g = f refl
by_cases false x y x' y' f g = g refl

pub among_append : (k : ℕ) (xs ys : List ℕ) → among k (xs ++ ys) ≡ among k xs || among k ys
unfolding among
among_append k [] ys = refl
among_append k (x ∷ xs) ys = rw (among_append k xs ys, or_assoc (eqb k x))

module _ (w v : List Float) where
  pub before : (xs ys : List ℕ) → Agree (xs ++ ys) w v → Agree xs w v
  before xs ys h k e = h k (rw (among_append k xs ys) (or_left _ (among k ys) e))

  pub after : (xs ys : List ℕ) → Agree (xs ++ ys) w v → Agree ys w v
  after xs ys h k e = h k (rw (among_append k xs ys) (or_right (among k xs) _ e))

  pub yes : (b : Bool) (ks js : List ℕ) → b ≡ true → Agree (cond b ks js) w v → Agree ks w v
  yes b ks js e h = subst (λ (t : Bool). Agree (cond t ks js) w v) e h

  pub no : (b : Bool) (ks js : List ℕ) → b ≡ false → Agree (cond b ks js) w v → Agree js w v
  no b ks js e h = subst (λ (t : Bool). Agree (cond t ks js) w v) e h

  pub one_of : (b : Bool) (i : ℕ) → Agree (cond b (i ∷ []) []) w v → (x : Float) → cond b (w ! i) x ≡ cond b (v ! i) x
  unfolding among
  one_of b i h x = by_cases b _ _ _ _ (λ e. yes b (i ∷ []) [] e h i (rw (eq-eqb i i refl))) (λ e. refl)

  either_way : (b : Bool) (ks js : List ℕ) {P : Type 0} → Agree (cond b ks js) w v → (Agree ks w v → P) → (Agree js w v → P) → P
  either_way true ks js h f g = f h
  either_way false ks js h f g = g h

  -- 8-10 are read in every success
  pub long_of : (rating : Float) → Agree (success_weights rating) w v → Agree (8 ∷ 9 ∷ 10 ∷ common) w v
  long_of rating h = after (cond (eq rating four) (16 ∷ []) []) _ (after (cond (eq rating two) (15 ∷ []) []) _ h)

  -- 4-7 and 20 are read in every review
  pub common_of : (day rating : Float) → Agree (review_reads day rating) w v → Agree common w v
  unfolding review_reads
  common_of day rating h =
      either_way (eq day zero32) _ _ h
      (λ s. after (17 ∷ 18 ∷ 19 ∷ []) common s)
      (λ s. either_way (eq rating one) _ _ s (after (11 ∷ 12 ∷ 13 ∷ 14 ∷ 17 ∷ 18 ∷ []) common) (λ t. after (8 ∷ 9 ∷ 10 ∷ []) common (long_of rating t)))

  same_success :
      (last : State) (rating r : Float) → Agree (success_weights rating) w v →
      success_def (params_def w).exp_w8 (w ! 9) (w ! 10) (w ! 15) (w ! 16) last rating r ≡
      success_def (params_def v).exp_w8 (v ! 9) (v ! 10) (v ! 15) (v ! 16) last rating r
  unfolding success_def params_def among
  same_success last rating r h =
      let l = long_of rating h in
      let two-of = before (cond (eq rating two) (15 ∷ []) []) _ h in
      let four-of = before (cond (eq rating four) (16 ∷ []) []) _ (after (cond (eq rating two) (15 ∷ []) []) _ h) in
      rw (l 8 refl, l 9 refl, l 10 refl, one_of _ 15 two-of one, one_of _ 16 four-of one)

  pub same_move :
      (last : State) (day rating r : Float) → Agree (review_reads day rating) w v →
      move_def (params_def w) last day rating r ≡ move_def (params_def v) last day rating r
  unfolding move_def params_def review_reads among
  same_move last day rating r h =
      by_cases (eq day zero32) _ _ _ _
      (λ e. let s = yes (eq day zero32) (17 ∷ 18 ∷ 19 ∷ common) _ e h in rw (s 17 refl, s 18 refl, s 19 refl))
      (λ e. let s = no (eq day zero32) (17 ∷ 18 ∷ 19 ∷ common) _ e h in
      by_cases (eq rating one) _ _ _ _
      (λ d. let t = yes (eq rating one) (11 ∷ 12 ∷ 13 ∷ 14 ∷ 17 ∷ 18 ∷ common) _ d s in
      rw (t 11 refl, t 12 refl, t 13 refl, t 14 refl, t 17 refl, t 18 refl))
      (λ d. same_success last rating r (no (eq rating one) (11 ∷ 12 ∷ 13 ∷ 14 ∷ 17 ∷ 18 ∷ common) _ d s)))

  same_review :
      (q : State) (day rating : Float) → Agree (review_reads day rating) w v →
      review_def (params_def w) q day rating ≡ review_def (params_def v) q day rating
  unfolding review_def params_def among
  same_review q day rating h =
      let c = common_of day rating h in
      let r = (curve_forward_def (neg (w ! 20)) (curve_factor_def (neg (w ! 20))) day (clamp_state_def q).s).retrievability in
      rw (same_move (clamp_state_def q) day rating r h, c 20 refl, c 4 refl, c 5 refl, c 6 refl, c 7 refl)

  same_first :
      (q : State) (rating : Float) → Agree (first_weights (rating_number_def rating)) w v →
      first_def (w ! (rating_number_def rating - 1)) (w ! 4) (w ! 5) q rating ≡ first_def (v ! (rating_number_def rating - 1)) (v ! 4) (v ! 5) q rating
  unfolding among
  same_first q rating h =
      let n = rating_number_def rating - 1 in
      let own : w ! n ≡ v ! n = h n (rw (eq-eqb n n refl)) in
      let four-th : w ! 4 ≡ v ! 4 = h 4 (or_right (eqb 4 n) true refl) in
      let five-th : w ! 5 ≡ v ! 5 = h 5 (or_right (eqb 5 n) true refl) in
      rw (own, four-th, five-th)

  -- the law
  pub same_step :
      (q : State) (day rating : Float) (row : ℕ) → Agree (step_reads q day rating row) w v →
      step_def (params_def w) q day rating row ≡ step_def (params_def v) q day rating row
  unfolding step_def step_reads params_def
  same_step q day rating row h =
      by_cases (eq rating zero32) _ _ _ _
      (λ e. refl)
      (λ e. let s = no (eq rating zero32) [] _ e h in
      by_cases (is_first_def row q.s) _ _ _ _
      (λ d. same_first q rating (yes (is_first_def row q.s) (first_weights (rating_number_def rating)) _ d s))
      (λ d. same_review q day rating (no (is_first_def row q.s) (first_weights (rating_number_def rating)) _ d s)))
