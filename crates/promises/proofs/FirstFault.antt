-- The first fault is where the entries' faults say. Assumes nothing.
use Prim.Native.Nat.{ℕ}
use mathlib.Core.Bool.{Bool, true, false, cond, true≢false}
use mathlib.Core.List.{List}
use mathlib.Core.Path.{◌≡◌, refl, sym, ap, ◌∙◌, subst}
use borrow.Author.Tests.{eqb-true, eqb-false}
use lib.Dec.{eqb}
use lib.Ieee.{Float}
use Rattle.checks.proofs.Placed.{prefix_loss_number, prefix_grad_number, card_loss_number, card_grad_number}
use Rattle.checks.specs.Batch.{Prefixes, Cards}
use Rattle.checks.specs.Faults.{Fault, no_fault_def, unplaced, or_else, prefix_fault_def, card_fault_def}
use Rattle.checks.specs.Refusals.{prefix_loss_fault, prefix_grad_fault, card_loss_fault_def, card_grad_fault}
use Rattle.analytic_v6.specs.Answers.{answer}
use Rattle.analytic_v6.specs.Prefixes.{batch_loss_def, batch_loss_and_grad_def}
use Rattle.analytic_v6.specs.Cards.{cards_loss, cards_loss_and_grad}
use Rattle.promises.specs.FirstFault.{prefix_bad, card_bad, of_cell, Explains, FirstFault}
use Rattle.promises.proofs.placing.Columns.{prefix_in, card_in}
use Rattle.promises.proofs.placing.Numbers.{OfCell, Early, prefix_number, card_number, loss_early, grad_early, early_none}
use Rattle.promises.proofs.placing.Search.{InTable, first_in_table}

prefixes_in : (x : Prefixes) → InTable (prefix_bad x) x.table.columns (prefix_fault_def x)
unfolding prefix_fault_def
prefixes_in x = first_in_table (prefix_bad x) _ (prefix_in x) x.table.columns

cards_in : (x : Cards) → InTable (card_bad x) x.table.columns (card_fault_def x)
unfolding card_fault_def
cards_in x = first_in_table (card_bad x) _ (card_in x) x.table.columns

-- m: the number before the cells; g: the first fault of the cells
module _ (bad : (column row : ℕ) → ℕ) (columns : ℕ) (numbers : (column row : ℕ) → OfCell (bad column row)) (refusal m : ℕ) (early : Early m) (g : Fault) (i : InTable bad columns g) where
  bad_there : of_cell g.refusal ≡ true → g.refusal ≡ 0 → ⊥
  bad_there t z = true≢false (sym t ∙ ap of_cell z)

  good_there : of_cell g.refusal ≡ false → g ≡ no_fault_def
  good_there f = go (eqb g.refusal 0) refl
    where
      go : (t : Bool) → t ≡ eqb g.refusal 0 → g ≡ no_fault_def
      go true e = i.blank (eqb-true _ 0 (sym e))
      go false e =
          let h = eqb-false _ 0 (sym e) in
          let b = i.is_bad h in
          absurd (true≢false (sym (subst (λ (n : ℕ). of_cell n ≡ true) b (numbers g.column g.row (λ z. h (sym b ∙ z)))) ∙ f))

  of_cells : g.refusal ≡ refusal → Explains refusal bad columns g
  unfolding no_fault_def
  of_cells e =
      record {
        number = e;
        placed = λ t. (i.inside (bad_there t), i.is_bad (bad_there t));
        first = λ t. i.none_before (bad_there t);
        unplaced = λ f. (ap (λ (x : Fault). x.column) (good_there f), ap (λ (x : Fault). x.row) (good_there f));
        none_bad = λ z. i.none (e ∙ z);
      }

  before_cells : (m ≡ 0 → ⊥) → m ≡ refusal → Explains refusal bad columns (unplaced m)
  unfolding unplaced
  before_cells h e =
      record {
        number = e;
        placed = λ t. absurd (true≢false (sym t ∙ early_none m early));
        first = λ t. absurd (true≢false (sym t ∙ early_none m early));
        unplaced = λ f. (refl, refl);
        none_bad = λ z. absurd (h (e ∙ z));
      }

  explains : (or_else (unplaced m) g).refusal ≡ refusal → Explains refusal bad columns (or_else (unplaced m) g)
  unfolding or_else unplaced
  explains = go (eqb m 0) refl
    where
      go : (t : Bool) → t ≡ eqb m 0 → (cond t g (unplaced m)).refusal ≡ refusal → Explains refusal bad columns (cond t g (unplaced m))
      go true d e = of_cells e
      go false d e = before_cells (eqb-false m 0 (sym d)) e

batch_loss : (w : List Float) (x : Prefixes) → Explains (batch_loss_def w x).refusal (prefix_bad x) x.table.columns (prefix_loss_fault w x)
unfolding batch_loss_def answer prefix_loss_fault
batch_loss w x = explains _ _ (prefix_number x) _ _ (loss_early w _) _ (prefixes_in x) (prefix_loss_number w x)

batch_loss_and_grad :
    (w : List Float) (x : Prefixes) (slots records : ℕ)
    → Explains (batch_loss_and_grad_def w x slots records).refusal (prefix_bad x) x.table.columns (prefix_grad_fault w x slots records)
unfolding batch_loss_and_grad_def answer prefix_grad_fault
batch_loss_and_grad w x slots records =
    explains _ _ (prefix_number x) _ _ (grad_early w _ _ _) _ (prefixes_in x) (prefix_grad_number w x slots records)

card_loss : (w : List Float) (x : Cards) → Explains (cards_loss w x).refusal (card_bad x) x.table.columns (card_loss_fault_def w x)
unfolding cards_loss answer card_loss_fault_def
card_loss w x = explains _ _ (card_number x) _ _ (loss_early w _) _ (cards_in x) (card_loss_number w x)

card_loss_and_grad :
    (w : List Float) (x : Cards) (slots records step_grads : ℕ)
    → Explains (cards_loss_and_grad w x slots records step_grads).refusal (card_bad x) x.table.columns (card_grad_fault w x slots records step_grads)
unfolding cards_loss_and_grad answer card_grad_fault
card_loss_and_grad w x slots records step_grads =
    explains _ _ (card_number x) _ _ (grad_early w _ _ _) _ (cards_in x) (card_grad_number w x slots records step_grads)

pub first_fault : FirstFault
first_fault = record { batch_loss = batch_loss; batch_loss_and_grad = batch_loss_and_grad; card_loss = card_loss; card_loss_and_grad = card_loss_and_grad }
