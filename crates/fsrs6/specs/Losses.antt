-- What the functions for a loss give, each for both of its modes: x is what the call is lent to read. Assumes nothing.
use Rattle.std.specs.Prelude.{ℕ, ◌≡◌, List, Float, length}
use Rattle.checks.specs.Batch.{Prefixes, Cards}
use Rattle.columns.specs.Records.{room_def}
use Rattle.analytic_v6.specs.Prefixes.{batch_loss_def, batch_loss_and_grad_def, BatchColumnsLeave}
use Rattle.analytic_v6.specs.Cards.{cards_loss, cards_loss_and_grad, CardsColumnsLeave}
use Rattle.training_v7.specs.Penalty.{penalty_answer, PenaltyLeaves}
use Rattle.batch.specs.File.{file_loss, file_slots_def}
use Rattle.fsrs6.specs.Places.{written, Answered}

abbrev pub GivesBatchLoss : (w : List Float) (x : Prefixes) (n : ℕ) (loss loss-exit : Float) → Type 0
GivesBatchLoss w x n loss loss-exit = Answered (batch_loss_def w x) n loss loss-exit

abbrev pub GivesBatchGrad : (w : List Float) (x : Prefixes) (n : ℕ) (gw gw-exit records records-exit : List Float) (loss loss-exit : Float) → Type 0
GivesBatchGrad w x n gw gw-exit records records-exit loss loss-exit =
    Answered (batch_loss_and_grad_def w x (length gw) (room_def (length records))) n loss loss-exit ×
    BatchColumnsLeave w x gw records gw-exit records-exit

abbrev pub GivesCardLoss : (w : List Float) (x : Cards) (n : ℕ) (loss loss-exit : Float) → Type 0
GivesCardLoss w x n loss loss-exit = Answered (cards_loss w x) n loss loss-exit

abbrev pub GivesCardGrad :
    (w : List Float) (x : Cards) (n : ℕ) (gw gw-exit records records-exit step_grads step_grads-exit : List Float) (loss loss-exit : Float) → Type 0
GivesCardGrad w x n gw gw-exit records records-exit step_grads step_grads-exit loss loss-exit =
    Answered (cards_loss_and_grad w x (length gw) (room_def (length records)) (length step_grads)) n loss loss-exit ×
    CardsColumnsLeave w x gw records step_grads gw-exit records-exit step_grads-exit

-- the slots are written, and not added to
abbrev pub GivesPenalty :
    (w init_w : List Float) (batch-size total_size : ℕ) (l2-weight : Float) (spreads : List Float) (n : ℕ) (slots slots-exit : List Float) (penalty penalty-exit : Float) → Type 0
GivesPenalty w init_w batch-size total_size l2-weight spreads n slots slots-exit penalty penalty-exit =
    let a = penalty_answer w init_w batch-size total_size l2-weight spreads (length slots) in
    (n ≡ a.refusal) × (penalty-exit ≡ written a.refusal a.penalty penalty) × PenaltyLeaves w init_w batch-size total_size l2-weight spreads slots slots-exit

abbrev pub GivesFile : (file : List ℕ) (n : ℕ) (gw gw-exit : List Float) (loss loss-exit : Float) → Type 0
GivesFile file n gw gw-exit loss loss-exit = Answered (file_loss file (length gw)) n loss loss-exit × (gw-exit ≡ file_slots_def file gw)
