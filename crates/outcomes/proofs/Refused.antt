-- Where the number of a call is not 0, each definition of a final content is what was there. Assumes nothing.
use Prim.Native.Nat.{ℕ}
use mathlib.Core.Bool.{Bool, true, false, cond}
use mathlib.Core.List.{List}
use mathlib.Core.Path.{◌≡◌, refl, sym}
use borrow.Author.Tests.{eq-eqb, ne_eqb}
use lib.Dec.{eqb}
use lib.Ieee.{Float}
use lib.ListN.{length}
use Rattle.fsrs6.specs.Places.{written}
use Rattle.fsrs6.specs.Numbers.{recorded}
use Rattle.forward.specs.declared.state.StepRecord.{StepRecord}
use Rattle.forward.specs.declared.state.State.{State}
use Rattle.analytic_v6.specs.Step.{reverse_refusal, training_reverse, reverse_slots_def}
use Rattle.analytic_v6.proofs.Entry.{slots_refused}
use Rattle.analytic_v6.specs.Answers.{answer}
use Rattle.analytic_v6.specs.Results.{Loss}
use Rattle.checks.specs.Batch.{Prefixes, Cards}
use Rattle.columns.specs.Records.{room_def}
use Rattle.analytic_v6.specs.Prefixes.{batch_loss_and_grad_def, batch_slots, batch_left, batch_records}
use Rattle.analytic_v6.specs.Cards.{cards_loss_and_grad, cards_slots, cards_left, cards_records, cards_grads}
use Rattle.training_v7.specs.Penalty.{penalty_answer, penalty_slots_def}
use Rattle.batch.specs.Header.{Header, sections_of, well_formed_def}
use Rattle.batch.specs.File.{prefix_loss_in, prefix_slots_in, card_loss_in_def, card_slots_in, call_loss, call_slots, cells_of, lengths_of, file_loss, file_slots_def}

-- ---- a lent place, and the ten numbers of a record
pub place : {A : Type 0} (n : ℕ) (x was : A) → (n ≡ 0 → ⊥) → written n x was ≡ was
unfolding written
place n x was h = rw (ne_eqb n 0 h)

pub numbers : (n : ℕ) (step : StepRecord) (was : List Float) → (n ≡ 0 → ⊥) → recorded n step was ≡ was
unfolding recorded
numbers n step was h = place n _ was h

-- ---- one reverse step
module _ (w : List Float) (q : State) (day rating : Float) (row : ℕ) (g-s g-d g-r : Float) where
  accepted : (slots : ℕ) → reverse_refusal w q day rating row slots ≡ 0 → (training_reverse w q day rating row g-s g-d g-r slots).refusal ≡ 0
  unfolding training_reverse
  accepted slots z = rw (eq-eqb _ 0 z)

  pub reverse_slots : (gw : List Float) → ((training_reverse w q day rating row g-s g-d g-r (length gw)).refusal ≡ 0 → ⊥) → reverse_slots_def w q day rating row g-s g-d g-r gw ≡ gw
  reverse_slots gw h = sym (slots_refused w q day rating row g-s g-d g-r gw _ refl (λ z. h (accepted (length gw) z)))

-- ---- the loss of a batch of prefixes
module _ (w : List Float) (x : Prefixes) where
  pub prefix_slots :
      (gw : List Float) (room : ℕ) → ((batch_loss_and_grad_def w x (length gw) room).refusal ≡ 0 → ⊥) → batch_slots w x gw room ≡ gw
  unfolding batch_loss_and_grad_def batch_slots answer
  prefix_slots gw room h = rw (ne_eqb _ 0 h)

  pub prefix_records :
      (gw : ℕ) (records : List Float) → ((batch_loss_and_grad_def w x gw (room_def (length records))).refusal ≡ 0 → ⊥) → batch_records w x gw records ≡ records
  unfolding batch_loss_and_grad_def batch_records answer
  prefix_records gw records h = rw (ne_eqb _ 0 h)

  -- in whichever layout: how many rows there is room for, and how a row is stored
  pub prefix_left :
      {A : Type 0} (room : ℕ → ℕ) (store : List A → ℕ → StepRecord → List A) (gw : ℕ) (records : List A) →
      ((batch_loss_and_grad_def w x gw (room (length records))).refusal ≡ 0 → ⊥) → batch_left room store w x gw records ≡ records
  unfolding batch_loss_and_grad_def batch_left answer
  prefix_left room store gw records h = rw (ne_eqb _ 0 h)

-- ---- the loss of a batch of cards
module _ (w : List Float) (x : Cards) where
  pub card_slots :
      (gw : List Float) (records grads : ℕ) → ((cards_loss_and_grad w x (length gw) records grads).refusal ≡ 0 → ⊥) →
      cards_slots w x gw records grads ≡ gw
  unfolding cards_loss_and_grad cards_slots answer
  card_slots gw records grads h = rw (ne_eqb _ 0 h)

  pub card_records :
      (gw : ℕ) (records : List Float) (grads : ℕ) → ((cards_loss_and_grad w x gw (room_def (length records)) grads).refusal ≡ 0 → ⊥) →
      cards_records w x gw records grads ≡ records
  unfolding cards_loss_and_grad cards_records answer
  card_records gw records grads h = rw (ne_eqb _ 0 h)

  pub card_left :
      {A : Type 0} (room : ℕ → ℕ) (store : List A → ℕ → StepRecord → List A) (gw : ℕ) (records : List A) (grads : ℕ) →
      ((cards_loss_and_grad w x gw (room (length records)) grads).refusal ≡ 0 → ⊥) → cards_left room store w x gw records grads ≡ records
  unfolding cards_loss_and_grad cards_left answer
  card_left room store gw records grads h = rw (ne_eqb _ 0 h)

  pub card_grads :
      (gw records : ℕ) (grads : List Float) → ((cards_loss_and_grad w x gw records (length grads)).refusal ≡ 0 → ⊥) →
      cards_grads w x gw records grads ≡ grads
  unfolding cards_loss_and_grad cards_grads answer
  card_grads gw records grads h = rw (ne_eqb _ 0 h)

-- ---- the pull toward the old weights
pub penalty_slots :
    (w v : List Float) (batch-size total_size : ℕ) (l2-weight : Float) (s slots : List Float)
    → ((penalty_answer w v batch-size total_size l2-weight s (length slots)).refusal ≡ 0 → ⊥)
    → penalty_slots_def w v batch-size total_size l2-weight s slots ≡ slots
unfolding penalty_answer penalty_slots_def
penalty_slots w v batch-size total_size l2-weight s slots h = rw (ne_eqb _ 0 h)

-- ---- a batch file
module _ (h : Header) (cells : List Float) (lens : List ℕ) (gw : List Float) where
  prefix_in : ((prefix_loss_in h cells lens (length gw)).refusal ≡ 0 → ⊥) → prefix_slots_in h cells lens gw ≡ gw
  unfolding prefix_loss_in prefix_slots_in
  prefix_in k = prefix_slots _ _ gw _ k

  card_in : ((card_loss_in_def h cells lens (length gw)).refusal ≡ 0 → ⊥) → card_slots_in h cells lens gw ≡ gw
  unfolding card_loss_in_def card_slots_in
  card_in k = card_slots _ _ gw _ _ k

  of_kind :
      (prefix : Bool) → ((cond prefix (prefix_loss_in h cells lens (length gw)) (card_loss_in_def h cells lens (length gw))).refusal ≡ 0 → ⊥)
      → cond prefix (prefix_slots_in h cells lens gw) (card_slots_in h cells lens gw) ≡ gw
  of_kind true k = prefix_in k
  of_kind false k = card_in k

  call_in : ((call_loss h cells lens (length gw)).refusal ≡ 0 → ⊥) → call_slots h cells lens gw ≡ gw
  unfolding call_loss call_slots
  call_in k = of_kind (eqb h.kind 1) k

  of_form : (formed : Bool) (malformed : Loss) → ((cond formed (call_loss h cells lens (length gw)) malformed).refusal ≡ 0 → ⊥) → cond formed (call_slots h cells lens gw) gw ≡ gw
  of_form true malformed k = call_in k
  of_form false malformed k = refl

pub file_slots : (file : List ℕ) (gw : List Float) → ((file_loss file (length gw)).refusal ≡ 0 → ⊥) → file_slots_def file gw ≡ gw
unfolding file_loss file_slots_def
file_slots file gw k = of_form (sections_of file) (cells_of file) (lengths_of file) gw (well_formed_def file) _ k

pub ruleset refused = (place, numbers, reverse_slots, prefix_slots, prefix_left, prefix_records, card_slots, card_left, card_records, card_grads, penalty_slots, file_slots)
