-- Which numbers a call can be refused with: those before its cells are at most 5, those of its cells 6 to 9. Assumes nothing.
use Prim.Native.Nat.{ℕ, ◌≤◌}
use mathlib.Core.Bool.{Bool, true, false, not, ◌&&◌, cond}
use mathlib.Core.List.{List}
use mathlib.Core.Path.{◌≡◌, refl, sym}
use native.Mathlib.Omega.{arith}
use borrow.Author.Tests.{leb-true}
use lib.Dec.{eqb, ltb, leb}
use lib.Ieee.{Float}
use lib.ListN.{length}
use Rattle.domain.specs.Weights.{boxed, weights_refusal_def}
use Rattle.checks.specs.Batch.{Prefixes, Cards, length_at, target_read_at}
use Rattle.checks.specs.Reads.{check, first, prefix_row_def, card_score_def, card_row_def, target_def}
use Rattle.checks.specs.Refusals.{loss_refusal_def, grad_refusal_def}
use Rattle.promises.specs.FirstFault.{of_cell, prefix_bad, card_bad}

-- ---- a cell's number
abbrev pub OfCell : ℕ → Type 0
OfCell n = (n ≡ 0 → ⊥) → of_cell n ≡ true

pub none : OfCell 0
none h = absurd (h refl)

pick : (t : Bool) (a b : ℕ) → OfCell a → OfCell b → OfCell (cond t a b)
pick true a b h k = h
pick false a b h k = k

check_cell : (read good : Bool) (n : ℕ) → of_cell n ≡ true → OfCell (check read good n)
unfolding check
check_cell read good n e = pick (read && not good) n 0 (λ h. e) none

first_cell : (a b : ℕ) → OfCell a → OfCell b → OfCell (first a b)
unfolding first
first_cell a b h k = pick (eqb a 0) b a k h

prefix_row : (row : ℕ) (day rating : Float) → OfCell (prefix_row_def row day rating)
unfolding prefix_row_def
prefix_row row day rating = first_cell _ _ (check_cell true _ 6 refl) (check_cell _ _ 7 refl)

target : (weight label day : Float) → OfCell (target_def weight label day)
unfolding target_def
target weight label day = first_cell _ _ (check_cell true _ 8 refl) (first_cell _ _ (check_cell _ _ 8 refl) (check_cell _ _ 7 refl))

card_row : (end last : Bool) (row : ℕ) (day rating weight label : Float) → OfCell (card_row_def end last row day rating weight label)
unfolding card_row_def card_score_def
card_row end last row day rating weight label =
    first_cell _ _ (check_cell _ _ 6 refl) (first_cell _ _ (check_cell _ _ 7 refl) (first_cell _ _ (check_cell _ _ 8 refl) (check_cell _ _ 8 refl)))

pub prefix_number : (x : Prefixes) (column row : ℕ) → OfCell (prefix_bad x column row)
unfolding prefix_bad
prefix_number x column row =
    pick (eqb (length_at x.table column) 0) _ _ (pick (eqb row 0) 9 0 (λ h. refl) none)
    (pick (ltb row (length_at x.table column)) _ _ (prefix_row _ _ _) (pick (eqb row (length_at x.table column) && target_read_at x column) _ 0 (target _ _ _) none))

pub card_number : (x : Cards) (column row : ℕ) → OfCell (card_bad x column row)
unfolding card_bad
card_number x column row = pick (ltb row (length_at x.table column)) _ 0 (card_row _ _ _ _ _ _ _) none

-- ---- a number before the cells
abbrev pub Early : ℕ → Type 0
Early n = leb n 5 ≡ true

pick_early : (t : Bool) (a b : ℕ) → Early a → Early b → Early (cond t a b)
pick_early true a b h k = h
pick_early false a b h k = k

check_early : (good : Bool) (n : ℕ) → Early n → Early (check true good n)
unfolding check
check_early good n h = pick_early (not good) n 0 h refl

first_early : (a b : ℕ) → Early a → Early b → Early (first a b)
unfolding first
first_early a b h k = pick_early (eqb a 0) b a k h

weights_early : (w : List Float) → Early (weights_refusal_def w)
unfolding weights_refusal_def
weights_early w = pick_early (eqb (length w) 21) _ 1 (pick_early (boxed w) 0 2 refl refl) refl

pub loss_early : (w : List Float) (sized : Bool) → Early (loss_refusal_def w sized 0)
unfolding loss_refusal_def
loss_early w sized = first_early _ _ (weights_early w) (first_early _ 0 (check_early sized 3 refl) refl)

pub grad_early : (w : List Float) (slots sized room : Bool) → Early (grad_refusal_def w slots sized room 0)
unfolding grad_refusal_def
grad_early w slots sized room =
    first_early _ _ (weights_early w)
    (first_early _ _ (check_early slots 5 refl) (first_early _ _ (check_early sized 3 refl) (first_early _ 0 (check_early room 4 refl) refl)))

apart : (n : ℕ) → n ≤ 5 → 6 ≤ n → ⊥
apart n a b = omega (arith, a, b)

pub early_none : (n : ℕ) → Early n → of_cell n ≡ false
early_none n e = go (leb 6 n) refl
  where
    go : (t : Bool) → t ≡ leb 6 n → t && leb n 9 ≡ false
    go true d = absurd (apart n (leb-true n 5 e) (leb-true 6 n (sym d)))
    go false d = refl
