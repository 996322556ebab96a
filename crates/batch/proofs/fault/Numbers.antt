-- The number of a file's fault is the one that the file is refused with. Assumes nothing.
use Prim.Native.Nat.{ℕ}
use mathlib.Core.Path.{◌≡◌, refl}
use mathlib.Core.Bool.{Bool, true, false, cond}
use mathlib.Core.List.{List}
use lib.Dec.{eqb}
use lib.Ieee.{Float}
use Rattle.domain.specs.Doubles.{zero64}
use Rattle.checks.proofs.Placed.{prefix_grad_number, card_grad_number}
use Rattle.analytic_v6.specs.Answers.{answer}
use Rattle.analytic_v6.specs.Prefixes.{batch_loss_and_grad_def}
use Rattle.analytic_v6.specs.Cards.{cards_loss_and_grad}
use Rattle.analytic_v6.specs.Results.{Loss}
use Rattle.batch.specs.Header.{Header, sections_of, well_formed_def}
use Rattle.batch.specs.File.{rows_of, cells_of, lengths_of, prefix_loss_in, card_loss_in_def, call_loss, file_loss, prefix_fault_in, card_fault_in, call_fault_def, file_fault_def}
use Rattle.checks.specs.Faults.{Fault, unplaced}

either_way : (b : Bool) (f g : Fault) (x y : Loss) → f.refusal ≡ x.refusal → g.refusal ≡ y.refusal → (cond b f g).refusal ≡ (cond b x y).refusal
either_way true f g x y p q = p
either_way false f g x y p q = q

module _ (h : Header) (cells : List Float) (lens : List ℕ) where
  prefix_number : (prefix_fault_in h cells lens).refusal ≡ (prefix_loss_in h cells lens 21).refusal
  unfolding prefix_fault_in prefix_loss_in batch_loss_and_grad_def answer
  prefix_number = prefix_grad_number _ _ 21 rows_of

  card_number : (card_fault_in h cells lens).refusal ≡ (card_loss_in_def h cells lens 21).refusal
  unfolding card_fault_in card_loss_in_def cards_loss_and_grad answer
  card_number = card_grad_number _ _ 21 rows_of rows_of

  call_number : (call_fault_def h cells lens).refusal ≡ (call_loss h cells lens 21).refusal
  unfolding call_fault_def call_loss
  call_number =
      either_way (eqb h.kind 1) (prefix_fault_in h cells lens) (card_fault_in h cells lens) (prefix_loss_in h cells lens 21) (card_loss_in_def h cells lens 21)
      prefix_number card_number

module _ (file : List ℕ) where
  malformed_number : (unplaced 11).refusal ≡ (answer 11 zero64).refusal
  unfolding unplaced answer
  malformed_number = refl

  pub file_number : (file_fault_def file).refusal ≡ (file_loss file 21).refusal
  unfolding file_fault_def file_loss
  file_number =
      let h = sections_of file in
      either_way (well_formed_def file) (call_fault_def h (cells_of file) (lengths_of file)) (unplaced 11) (call_loss h (cells_of file) (lengths_of file) 21) (answer 11 zero64)
      (call_number h (cells_of file) (lengths_of file)) malformed_number
