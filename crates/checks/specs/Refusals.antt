-- The number that a loss call is refused with, 0 where it is accepted: 1, 2, 5, 3, 4, then the first fault's. Assumes nothing.
use Rattle.std.specs.Prelude.{ℕ, Bool, true, ◌&&◌, List, eqb, leb, Float, length}
use Rattle.checks.specs.Reads.{check, first}
use Rattle.domain.specs.Weights.{weights_refusal_def}
use Rattle.checks.specs.Batch.{Table, Prefixes, Cards}
use Rattle.checks.specs.Faults.{Fault, unplaced, or_else, prefix_fault_def, card_fault_def}
use Rattle.checks.specs.Sizes.{longest_def, prefix_sized_def, card_sized_def}

-- 'a loss-only entry .. lends no records, step gradients or slots, so it never gives 4 or 5'
unfoldable pub loss_refusal_def : (w : List Float) (sized : Bool) (fault : ℕ) → ℕ
loss_refusal_def w sized fault = first (weights_refusal_def w) (first (check true sized 3) fault)

unfoldable pub grad_refusal_def : (w : List Float) (slots sized room : Bool) (fault : ℕ) → ℕ
grad_refusal_def w slots sized room fault =
    first (weights_refusal_def w) (first (check true slots 5) (first (check true sized 3) (first (check true room 4) fault)))

abbrev pub longest_of : Table → ℕ
longest_of t = longest_def t.lengths t.rows t.columns

abbrev pub prefixes_sized : Prefixes → Bool
prefixes_sized x =
    let t = x.table in
    prefix_sized_def (length t.days) (length t.ratings) t.rows t.columns (length t.lengths)
    (length x.days) (length x.labels) (length x.weights)

unfoldable pub prefix_loss_refusal_def : (w : List Float) (x : Prefixes) → ℕ
prefix_loss_refusal_def w x = loss_refusal_def w (prefixes_sized x) (prefix_fault_def x).refusal

-- slots, records, step_grads: how many are lent
unfoldable pub prefix_grad_refusal_def : (w : List Float) (x : Prefixes) (slots records : ℕ) → ℕ
prefix_grad_refusal_def w x slots records =
    grad_refusal_def w (eqb slots 21) (prefixes_sized x) (leb (longest_of x.table) records) (prefix_fault_def x).refusal

abbrev pub cards_sized : Cards → Bool
cards_sized x =
    let t = x.table in
    card_sized_def (length t.days) (length t.ratings) t.rows t.columns (length t.lengths) (length x.labels) (length x.weights)

unfoldable pub card_loss_refusal_def : (w : List Float) (x : Cards) → ℕ
card_loss_refusal_def w x = loss_refusal_def w (cards_sized x) (card_fault_def x).refusal

unfoldable pub card_grad_refusal_def : (w : List Float) (x : Cards) (slots records step_grads : ℕ) → ℕ
card_grad_refusal_def w x slots records step_grads =
    grad_refusal_def w (eqb slots 21) (cards_sized x) (leb (longest_of x.table) records && leb (longest_of x.table) step_grads) (card_fault_def x).refusal

-- whether the call reads its cells: it does where the numbers before the first fault's are all passed
abbrev pub prefix_loss_reads : (w : List Float) (x : Prefixes) → Bool
prefix_loss_reads w x = eqb (loss_refusal_def w (prefixes_sized x) 0) 0

abbrev pub prefix_grad_reads : (w : List Float) (x : Prefixes) (slots records : ℕ) → Bool
prefix_grad_reads w x slots records = eqb (grad_refusal_def w (eqb slots 21) (prefixes_sized x) (leb (longest_of x.table) records) 0) 0

abbrev pub card_loss_reads : (w : List Float) (x : Cards) → Bool
card_loss_reads w x = eqb (loss_refusal_def w (cards_sized x) 0) 0

abbrev pub card_grad_reads : (w : List Float) (x : Cards) (slots records step_grads : ℕ) → Bool
card_grad_reads w x slots records step_grads =
    eqb (grad_refusal_def w (eqb slots 21) (cards_sized x) (leb (longest_of x.table) records && leb (longest_of x.table) step_grads) 0) 0

-- ---- change request K7: the same call's refusal with its place. It 'names the first offending column and row in 01's order' where a cell is what it is
-- refused for; the numbers 1 to 5, which come before any cell's, have no place
unfoldable pub prefix_loss_fault : (w : List Float) (x : Prefixes) → Fault
prefix_loss_fault w x = or_else (unplaced (loss_refusal_def w (prefixes_sized x) 0)) (prefix_fault_def x)

unfoldable pub prefix_grad_fault : (w : List Float) (x : Prefixes) (slots records : ℕ) → Fault
prefix_grad_fault w x slots records =
    or_else (unplaced (grad_refusal_def w (eqb slots 21) (prefixes_sized x) (leb (longest_of x.table) records) 0)) (prefix_fault_def x)

unfoldable pub card_loss_fault_def : (w : List Float) (x : Cards) → Fault
card_loss_fault_def w x = or_else (unplaced (loss_refusal_def w (cards_sized x) 0)) (card_fault_def x)

unfoldable pub card_grad_fault : (w : List Float) (x : Cards) (slots records step_grads : ℕ) → Fault
card_grad_fault w x slots records step_grads =
    let room = leb (longest_of x.table) records && leb (longest_of x.table) step_grads in
    or_else (unplaced (grad_refusal_def w (eqb slots 21) (cards_sized x) room 0)) (card_fault_def x)
