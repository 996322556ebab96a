-- A column's last scored review depends on no cell but those that it reads, and on weight 20. Assumes nothing.
use Prim.Native.Nat.{ℕ}
use mathlib.Core.Bool.{Bool, true, false, not, ◌&&◌, cond}
use mathlib.Core.List.{List}
use mathlib.Core.Path.{◌≡◌, refl, sym, ap, ◌∙◌}
use lib.Dec.{eqb}
use lib.Ieee.{Float, eq}
use Rattle.domain.specs.Floats.{clamp_def}
use Rattle.domain.specs.Limits.{zero32, s_min_def, s_max_def}
use Rattle.domain.specs.Weights.{◌!◌}
use Rattle.checks.specs.Reads.{later, non_zero, card_label}
use Rattle.columns.specs.Scores.{score_def}
use Rattle.forward.specs.Params.{params_def}
use Rattle.columns.specs.LastReview.{target_loss_def, target_grad, target_slots, last_loss_def, last_grad, last_slots}
use Rattle.columns.specs.ForwardPass.{row_score_def}
use Rattle.forward.proofs.Agreement.{by_cases}
use Rattle.forward.specs.declared.parameters.RuntimeParams.{RuntimeParams}
use Rattle.backward.proofs.Keeps.{curve_keeps}

-- the label and the day count where the weight is not 0
module _ (w v : List Float) (twenty : w ! 20 ≡ v ! 20) (s day day' label label' weight : Float)
    (d : non_zero weight ≡ true → day ≡ day') (l : non_zero weight ≡ true → label ≡ label') where
  counts : eq weight zero32 ≡ false → non_zero weight ≡ true
  unfolding non_zero
  counts e = rw e

  pub loss_same : target_loss_def (params_def w) s day label weight ≡ target_loss_def (params_def v) s day' label' weight
  unfolding target_loss_def params_def
  loss_same = by_cases (eq weight zero32) _ _ _ _ (λ e. refl) (λ e. rw (d (counts e), l (counts e), twenty))

  pub grad_same : target_grad (params_def w) s day label weight ≡ target_grad (params_def v) s day' label' weight
  unfolding target_grad params_def
  grad_same = by_cases (eq weight zero32) _ _ _ _ (λ e. refl) (λ e. rw (d (counts e), l (counts e), twenty))

  pub slots_same : (gw : List Float) → target_slots (params_def w) s day label weight gw ≡ target_slots (params_def v) s day' label' weight gw
  unfolding target_slots params_def
  slots_same gw = by_cases (eq weight zero32) _ _ _ _ (λ e. refl) (λ e. rw (d (counts e), l (counts e), twenty))

-- a row's own score
module _ (row : ℕ) (r label label' weight weight' : Float) (e : later row ≡ true → weight ≡ weight') (l : card_label row weight ≡ true → label ≡ label') where
  is_later : eqb row 0 ≡ false → later row ≡ true
  unfolding later
  is_later z = rw z

  is_read : eqb row 0 ≡ false → eq weight zero32 ≡ false → card_label row weight ≡ true
  unfolding card_label non_zero
  is_read z d = rw (is_later z, d)

  weighted : eqb row 0 ≡ false → score_def r label weight ≡ score_def r label' weight
  unfolding score_def
  weighted z = by_cases (eq weight zero32) _ _ _ _ (λ d. refl) (λ d. rw (l (is_read z d)))

  pub row_score_same : row_score_def row r label weight ≡ row_score_def row r label' weight'
  unfolding row_score_def
  row_score_same = by_cases (eqb row 0) _ _ _ _ (λ z. refl) (λ z. weighted z ∙ ap (λ (u : Float). score_def r label' u) (e (is_later z)))

-- a card's last row
module _ (w v : List Float) (twenty : w ! 20 ≡ v ! 20) (row : ℕ) (s day day' label label' weight weight' : Float)
    (e : later row ≡ true → weight ≡ weight') (d : card_label row weight ≡ true → day ≡ day') (l : card_label row weight ≡ true → label ≡ label') where
  none_read : later row ≡ false → (u : Float) → card_label row u ≡ false
  unfolding card_label
  none_read z u = rw z

  open_label : later row ≡ true → non_zero weight ≡ true → card_label row weight ≡ true
  unfolding card_label
  open_label a b = rw (a, b)

  module _ (a : later row ≡ true) where
    pub later_loss : (loss : Float) → last_loss_def (params_def w) row s day label weight loss ≡ last_loss_def (params_def v) row s day' label' weight loss
    unfolding last_loss_def
    later_loss loss = rw (loss_same w v twenty (clamp_def s s_min_def s_max_def) day day' label label' weight (λ b. d (open_label a b)) (λ b. l (open_label a b)))

    later_grad : last_grad (params_def w) row s day label weight ≡ last_grad (params_def v) row s day' label' weight
    unfolding last_grad
    later_grad = rw (grad_same w v twenty (clamp_def s s_min_def s_max_def) day day' label label' weight (λ b. d (open_label a b)) (λ b. l (open_label a b)))

    later_slots : (gw : List Float) → last_slots (params_def w) row s day label weight gw ≡ last_slots (params_def v) row s day' label' weight gw
    unfolding last_slots
    later_slots gw = rw (slots_same w v twenty (clamp_def s s_min_def s_max_def) day day' label label' weight (λ b. d (open_label a b)) (λ b. l (open_label a b)) gw)

  first_loss : later row ≡ false → (loss : Float) → last_loss_def (params_def w) row s day label weight loss ≡ last_loss_def (params_def v) row s day' label' weight' loss
  unfolding last_loss_def
  first_loss z loss = rw (none_read z weight, none_read z weight')

  first_grad : later row ≡ false → last_grad (params_def w) row s day label weight ≡ last_grad (params_def v) row s day' label' weight'
  unfolding last_grad
  first_grad z = rw (none_read z weight, none_read z weight')

  first_slots : later row ≡ false → (gw : List Float) → last_slots (params_def w) row s day label weight gw ≡ last_slots (params_def v) row s day' label' weight' gw
  unfolding last_slots
  first_slots z gw = rw (none_read z weight, none_read z weight')

  cases : (b : Bool) → b ≡ later row → {A : Type 0} (x y : A) → (later row ≡ true → x ≡ y) → (later row ≡ false → x ≡ y) → x ≡ y
  cases true b x y f g = f (sym b)
  cases false b x y f g = g (sym b)

  pub last_loss_same : (loss : Float) → last_loss_def (params_def w) row s day label weight loss ≡ last_loss_def (params_def v) row s day' label' weight' loss
  last_loss_same loss =
      cases (later row) refl _ _ (λ a. later_loss a loss ∙ ap (λ (u : Float). last_loss_def (params_def v) row s day' label' u loss) (e a)) (λ z. first_loss z loss)

  pub last_grad_same : last_grad (params_def w) row s day label weight ≡ last_grad (params_def v) row s day' label' weight'
  last_grad_same = cases (later row) refl _ _ (λ a. later_grad a ∙ ap (λ (u : Float). last_grad (params_def v) row s day' label' u) (e a)) first_grad

  pub last_slots_same : (gw : List Float) → last_slots (params_def w) row s day label weight gw ≡ last_slots (params_def v) row s day' label' weight' gw
  last_slots_same gw =
      cases (later row) refl _ _ (λ a. later_slots a gw ∙ ap (λ (u : Float). last_slots (params_def v) row s day' label' u gw) (e a)) (λ z. first_slots z gw)

-- 'A scored curve may move slot 20', and no other
module _ (k : ℕ) (p : RuntimeParams) where
  not_20 : (b : Bool) (g : Float) → eqb k 20 && true ≡ false → eqb k 20 && b ≡ false
  not_20 b g o = rw (out (eqb k 20) o)
    where
      out : (a : Bool) → a && true ≡ false → a ≡ false
      out true e = e
      out false e = refl

  pub target_keeps : (s day label weight : Float) (gw : List Float) → eqb k 20 && non_zero weight ≡ false → target_slots p s day label weight gw ! k ≡ gw ! k
  unfolding target_slots non_zero
  target_keeps s day label weight gw o = kept (eq weight zero32) _ o (λ e. curve_keeps k _ _ _ gw (not_20 _ weight e))
    where
      kept : (b : Bool) (xs : List Float) → eqb k 20 && not b ≡ false → (eqb k 20 && true ≡ false → xs ! k ≡ gw ! k) → cond b gw xs ! k ≡ gw ! k
      kept true xs e h = refl
      kept false xs e h = h e

  pub last_keeps : (row : ℕ) (s day label weight : Float) (gw : List Float) → eqb k 20 && card_label row weight ≡ false → last_slots p row s day label weight gw ! k ≡ gw ! k
  unfolding last_slots card_label
  last_keeps row s day label weight gw o = kept (later row && non_zero weight) (later row) refl o
    where
      kept : (b a : Bool) → b ≡ a && non_zero weight → eqb k 20 && b ≡ false → cond b (target_slots p (clamp_def s s_min_def s_max_def) day label weight gw) gw ! k ≡ gw ! k
      kept true a e h = target_keeps (clamp_def s s_min_def s_max_def) day label weight gw (not_20 _ weight h)
      kept false a e h = refl
