-- How a loss call goes on: refused as its checks say, or every column worked. Assumes nothing.
use Rattle.std.proofs.Common.{◌≡◌, ℕ, false, ◌+◌, ◌<◌, ◌≤◌, eqb, List, length, refl, ◌∙◌, add-one, le_trans, ne_eqb, Ok, Err}
use lib.Ieee.{Float}
use Rattle.domain.specs.Refusals.{number}
use Rattle.domain.specs.Weights.{copy_def, weights_refusal_def}
use Rattle.domain.specs.declared.refusal.Refusal.{Refusal}
use Rattle.domain.proofs.Refusals.{never_0}
use Rattle.domain.proofs.weights.Accepted.{accepted_length}
use Rattle.domain.proofs.weights.Copy.{copy_whole}
use Rattle.forward.specs.Params.{params_def}
use Rattle.forward.specs.declared.state.StepRecord.{StepRecord}
use Rattle.checks.specs.Batch.{Prefixes, Cards, length_at}
use Rattle.checks.specs.Columns.{total, through}
use Rattle.checks.specs.Refusals.{prefix_loss_refusal_def, prefix_grad_refusal_def, card_loss_refusal_def, card_grad_refusal_def}
use Rattle.checks.proofs.Longer.{under_longest}
use Rattle.checks.proofs.tables.Columns.{next_total, no_total}
use Rattle.columns.specs.Layouts.{LayoutLaws}
use Rattle.analytic_v6.specs.Answers.{answer}
use Rattle.analytic_v6.specs.Cards.{card_loss_def, card_grads_def, card_left, cards_loss, cards_loss_and_grad, cards_slots, cards_left, cards_grads}
use Rattle.analytic_v6.specs.Prefixes.{prefix_loss_def, prefix_left, batch_loss_def, batch_loss_and_grad_def, batch_slots, batch_left}
use Rattle.analytic_v6.specs.Results.{answered}
use Rattle.analytic_v6.specs.inner.Over.{slots_over_in, card_slots_over_in}
use Rattle.analytic_v6.proofs.cards.Entry as CE
use Rattle.analytic_v6.proofs.cards.Over as CO
use Rattle.analytic_v6.proofs.prefixes.Entry as PE
use Rattle.analytic_v6.proofs.prefixes.Over as PO

pub never : (e : Refusal) → eqb (number e) 0 ≡ false
never e = ne_eqb _ 0 (never_0 e)

-- ---- one column more
module _ {E : Type 0} (change : ℕ → List E → List E) (start : List E) where
  pub through_none : through change 0 start ≡ start
  unfolding through
  through_none = refl

  pub through_next : (k : ℕ) (xs zs : List E) → xs ≡ through change k start → zs ≡ change k xs → zs ≡ through change (k + 1) start
  unfolding through
  through_next k xs zs e h = rw add-one (h ∙ rw e)

pub ruleset turns = (no_total, next_total, through_none, through_next)

-- the copy of accepted weights is the weights themselves
whole : (w : List Float) → weights_refusal_def w ≡ 0 → copy_def w ≡ w
whole w z = copy_whole w (accepted_length w z)

module _ (w : List Float) (x : Prefixes) where
  pub batch_no : (e : Refusal) → number e ≡ prefix_loss_refusal_def w x → answered (Err e) ≡ batch_loss_def w x
  unfolding batch_loss_def answer
  batch_no e h = rw (← h, ne_eqb _ 0 (never_0 e))

  pub batch_yes :
      (loss : Float) → 0 ≡ prefix_loss_refusal_def w x → loss ≡ total (prefix_loss_def (params_def (copy_def w)) x) x.table.columns → answered (Ok loss) ≡ batch_loss_def w x
  unfolding batch_loss_def answer
  batch_yes loss z h = rw (← z, h, whole w (PE.loss_weights w x 0 refl z))

  module _ (room : ℕ) where
    pub grad_no : (gw : ℕ) (e : Refusal) → number e ≡ prefix_grad_refusal_def w x gw room → answered (Err e) ≡ batch_loss_and_grad_def w x gw room
    unfolding batch_loss_and_grad_def answer
    grad_no gw e h = rw (← h, ne_eqb _ 0 (never_0 e))

    pub grad_yes :
        (gw : ℕ) (loss : Float) → 0 ≡ prefix_grad_refusal_def w x gw room → loss ≡ total (prefix_loss_def (params_def (copy_def w)) x) x.table.columns →
        answered (Ok loss) ≡ batch_loss_and_grad_def w x gw room
    unfolding batch_loss_and_grad_def answer
    grad_yes gw loss z h = rw (← z, h, whole w (PE.grad_weights w x 0 refl gw room z))

    pub slots_no : (gw : List Float) → eqb (prefix_grad_refusal_def w x (length gw) room) 0 ≡ false → gw ≡ batch_slots w x gw room
    unfolding batch_slots
    slots_no gw n = rw n

  module _ {A : Type 0} (room : ℕ → ℕ) (store : List A → ℕ → StepRecord → List A) (gw : ℕ) (xs : List A) where
    pub left_no : eqb (prefix_grad_refusal_def w x gw (room (length xs))) 0 ≡ false → xs ≡ batch_left room store w x gw xs
    unfolding batch_left
    left_no n = rw n

    pub left_yes :
        (zs : List A) → 0 ≡ prefix_grad_refusal_def w x gw (room (length xs)) → zs ≡ through (λ column. prefix_left (params_def (copy_def w)) x column store) x.table.columns xs →
        zs ≡ batch_left room store w x gw xs
    unfolding batch_left
    left_yes zs z h = rw (← z) (h ∙ rw (whole w (PE.grad_weights w x 0 refl gw _ z)))

  prefix_fits : (gw room : ℕ) → 0 ≡ prefix_grad_refusal_def w x gw room → (column : ℕ) → column < x.table.columns → length_at x.table column ≤ room
  prefix_fits gw room z column h = le_trans (under_longest _ _ _ column h) (PE.grad_room w x 0 refl gw room z)

  -- refusal 4 was not given: the slots over the lent records are the columns' own
  module _ {A : Type 0} (room : ℕ → ℕ) (store : List A → ℕ → StepRecord → List A) (load : List A → ℕ → StepRecord) (laws : LayoutLaws room store load) (xs : List A) where
    pub slots_yes :
        (gw zs : List Float) → 0 ≡ prefix_grad_refusal_def w x (length gw) (room (length xs)) → zs ≡ slots_over_in (params_def (copy_def w)) x store load x.table.columns xs gw →
        zs ≡ batch_slots w x gw (room (length xs))
    unfolding batch_slots
    slots_yes gw zs z h =
        rw (← z) (h ∙ PO.over_own_in (params_def (copy_def w)) x room store load laws x.table.columns xs gw (prefix_fits (length gw) (room (length xs)) z) ∙
        rw (whole w (PE.grad_weights w x 0 refl _ _ z)))

pub ruleset prefixes_alone = (batch_no, batch_yes, turns)

pub ruleset prefixes_with_grad = (grad_no, grad_yes, slots_no, left_no, left_yes, PO.over_none, PO.over_next, never, turns)

module _ (w : List Float) (x : Cards) where
  pub cards_no : (e : Refusal) → number e ≡ card_loss_refusal_def w x → answered (Err e) ≡ cards_loss w x
  unfolding cards_loss answer
  cards_no e h = rw (← h, ne_eqb _ 0 (never_0 e))

  pub cards_yes :
      (loss : Float) → 0 ≡ card_loss_refusal_def w x → loss ≡ total (card_loss_def (params_def (copy_def w)) x) x.table.columns → answered (Ok loss) ≡ cards_loss w x
  unfolding cards_loss answer
  cards_yes loss z h = rw (← z, h, whole w (CE.loss_weights w x 0 refl z))

  module _ (room : ℕ) where
    pub cards_grad_no : (gw grads : ℕ) (e : Refusal) → number e ≡ card_grad_refusal_def w x gw room grads → answered (Err e) ≡ cards_loss_and_grad w x gw room grads
    unfolding cards_loss_and_grad answer
    cards_grad_no gw grads e h = rw (← h, ne_eqb _ 0 (never_0 e))

    pub cards_grad_yes :
        (gw grads : ℕ) (loss : Float) → 0 ≡ card_grad_refusal_def w x gw room grads → loss ≡ total (card_loss_def (params_def (copy_def w)) x) x.table.columns →
        answered (Ok loss) ≡ cards_loss_and_grad w x gw room grads
    unfolding cards_loss_and_grad answer
    cards_grad_yes gw grads loss z h = rw (← z, h, whole w (CE.grad_weights w x 0 refl gw room grads z))

    pub cards_slots_no : (gw : List Float) (grads : ℕ) → eqb (card_grad_refusal_def w x (length gw) room grads) 0 ≡ false → gw ≡ cards_slots w x gw room grads
    unfolding cards_slots
    cards_slots_no gw grads n = rw n

    pub cards_grads_no : (gw : ℕ) (grads : List Float) → eqb (card_grad_refusal_def w x gw room (length grads)) 0 ≡ false → grads ≡ cards_grads w x gw room grads
    unfolding cards_grads
    cards_grads_no gw grads n = rw n

    pub cards_grads_yes :
        (gw : ℕ) (grads zs : List Float) → 0 ≡ card_grad_refusal_def w x gw room (length grads) →
        zs ≡ through (card_grads_def (params_def (copy_def w)) x) x.table.columns grads → zs ≡ cards_grads w x gw room grads
    unfolding cards_grads
    cards_grads_yes gw grads zs z h = rw (← z) (h ∙ rw (whole w (CE.grad_weights w x 0 refl gw room _ z)))

  module _ {A : Type 0} (room : ℕ → ℕ) (store : List A → ℕ → StepRecord → List A) (gw grads : ℕ) (xs : List A) where
    pub cards_left_no : eqb (card_grad_refusal_def w x gw (room (length xs)) grads) 0 ≡ false → xs ≡ cards_left room store w x gw xs grads
    unfolding cards_left
    cards_left_no n = rw n

    pub cards_left_yes :
        (zs : List A) → 0 ≡ card_grad_refusal_def w x gw (room (length xs)) grads →
        zs ≡ through (λ column. card_left (params_def (copy_def w)) x column store) x.table.columns xs → zs ≡ cards_left room store w x gw xs grads
    unfolding cards_left
    cards_left_yes zs z h = rw (← z) (h ∙ rw (whole w (CE.grad_weights w x 0 refl gw _ grads z)))

  card_fits :
      (gw room grads : ℕ) → 0 ≡ card_grad_refusal_def w x gw room grads → (column : ℕ) → column < x.table.columns → (length_at x.table column ≤ room) × (length_at x.table column ≤ grads)
  card_fits gw room grads z column h =
      let u = under_longest _ _ _ column h in let r = CE.grad_room w x 0 refl gw room grads z in (le_trans u r.0, le_trans u r.1)

  -- refusal 4 was not given: the slots over the lent records and step gradients are the cards' own
  module _ {A : Type 0} (room : ℕ → ℕ) (store : List A → ℕ → StepRecord → List A) (load : List A → ℕ → StepRecord) (laws : LayoutLaws room store load) (xs : List A) where
    pub cards_slots_yes :
        (gw grads zs : List Float) → 0 ≡ card_grad_refusal_def w x (length gw) (room (length xs)) (length grads) →
        zs ≡ card_slots_over_in (params_def (copy_def w)) x store load x.table.columns xs grads gw → zs ≡ cards_slots w x gw (room (length xs)) (length grads)
    unfolding cards_slots
    cards_slots_yes gw grads zs z h =
        let fits = card_fits (length gw) (room (length xs)) (length grads) z in
        rw (← z) (h ∙ CO.over_own_in (params_def (copy_def w)) x room store load laws x.table.columns xs grads gw (λ c k. (fits c k).0) (λ c k. (fits c k).1) ∙
        rw (whole w (CE.grad_weights w x 0 refl _ _ _ z)))

pub ruleset cards_alone = (cards_no, cards_yes, turns)

pub ruleset cards_with_grad = (cards_grad_no, cards_grad_yes, cards_slots_no, cards_grads_no, cards_grads_yes, cards_left_no, cards_left_yes, CO.over_none, CO.over_next, never, turns)
