-- Both layouts of the step records of cards. Assumes nothing.
use Prim.Native.Nat.{ℕ, ◌-◌, ◌≤◌, ◌<◌}
use mathlib.Core.Bool.{◌&&◌}
use mathlib.Core.List.{List}
use mathlib.Core.Path.{◌≡◌, refl, sym, ap, ◌∙◌}
use native.Mathlib.Nat.{le_trans}
use native.Mathlib.Omega.{arith}
use lib.Dec.{leb, eqb}
use lib.Ieee.{Float}
use lib.ListN.{length, get_or}
use Rattle.forward.specs.Params.{params_def}
use Rattle.forward.specs.declared.parameters.RuntimeParams.{RuntimeParams}
use Rattle.forward.specs.declared.state.StepRecord.{StepRecord}
use Rattle.checks.specs.Batch.{History, Cards, history, length_at}
use Rattle.checks.specs.Columns.{through}
use Rattle.checks.specs.Refusals.{longest_of, card_grad_refusal_def}
use Rattle.checks.proofs.Longer.{under_longest}
use Rattle.columns.specs.Records.{number_of, room_def}
use Rattle.columns.specs.StepRecords.{no_step_def}
use Rattle.analytic_v6.specs.Cards.{card_steps_def, card_records_def, cards_loss_and_grad, cards_slots, cards_steps, cards_records, cards_grads}
use Rattle.analytic_v6.proofs.cards.Entry as CE
use Rattle.promises.specs.LossCalls.{Call}
use Rattle.promises.specs.Layouts.{cards_lent, Layouts}
use Rattle.promises.proofs.stepping.Columns.{Steps, Cells, last_of, record_kept, record_whose, cell_kept, cell_whose, load_whose, went, either}

module _ (c : Call Cards) where
  abbrev p : RuntimeParams
  p = params_def c.w

  abbrev h : ℕ → History
  h column = history c.x.table column

  abbrev n : ℕ → ℕ
  n column = length_at c.x.table column - 1

  columns_went : (cells : List Float) → card_grad_refusal_def c.w c.x (length c.gw) (room_def (length cells)) c.step_grads ≡ 0 → cards_records c.w c.x (length c.gw) cells c.step_grads ≡ through (Cells p h n) c.x.table.columns cells
  unfolding cards_records card_records_def
  columns_went cells z = went _ cells _ z

  records_went : (steps : List StepRecord) → card_grad_refusal_def c.w c.x (length c.gw) (length steps) c.step_grads ≡ 0 → cards_steps c.w c.x (length c.gw) steps c.step_grads ≡ through (Steps p h n) c.x.table.columns steps
  unfolding cards_steps card_steps_def
  records_went steps z = went _ steps _ z

  room_of : (rows : ℕ) → card_grad_refusal_def c.w c.x (length c.gw) rows c.step_grads ≡ 0 → (k : ℕ) → k < c.x.table.columns → n k ≤ rows
  room_of rows z k l = le_trans less (le_trans (under_longest _ _ _ k l) (CE.grad_room c.w c.x 0 refl _ rows _ (sym z)).0)
    where
      less : length_at c.x.table k - 1 ≤ length_at c.x.table k
      less = omega arith

  -- the number looks at room only in one test
  module _ (a b : ℕ) (e : leb (longest_of c.x.table) a && leb (longest_of c.x.table) c.step_grads ≡ leb (longest_of c.x.table) b && leb (longest_of c.x.table) c.step_grads) where
    same_refusal : card_grad_refusal_def c.w c.x (length c.gw) a c.step_grads ≡ card_grad_refusal_def c.w c.x (length c.gw) b c.step_grads
    unfolding card_grad_refusal_def
    same_refusal = rw e

    same_answer : cards_loss_and_grad c.w c.x (length c.gw) a c.step_grads ≡ cards_loss_and_grad c.w c.x (length c.gw) b c.step_grads
    unfolding cards_loss_and_grad
    same_answer = rw same_refusal

    same_slots : cards_slots c.w c.x c.gw a c.step_grads ≡ cards_slots c.w c.x c.gw b c.step_grads
    unfolding cards_slots
    same_slots = rw same_refusal

    same_grads : (grads : List Float) → length grads ≡ c.step_grads → cards_grads c.w c.x (length c.gw) a grads ≡ cards_grads c.w c.x (length c.gw) b grads
    unfolding cards_grads
    same_grads grads l = rw (l, same_refusal)

  card_untouched :
      (steps : List StepRecord) (row : ℕ) → ((column : ℕ) → column < c.x.table.columns → n column ≤ row) → get_or (cards_steps c.w c.x (length c.gw) steps c.step_grads) row no_step_def ≡ get_or steps row no_step_def
  unfolding cards_steps card_steps_def
  card_untouched steps row k =
      either (λ (xs : List StepRecord). get_or xs row no_step_def ≡ get_or steps row no_step_def) (eqb (card_grad_refusal_def c.w c.x (length c.gw) (length steps) c.step_grads) 0) steps _ refl
      (record_kept p h n steps c.x.table.columns row k)

pub card_layouts : Layouts cards_lent
card_layouts =
    record {
      same = λ c cells steps e. (same_refusal c _ _ e, same_answer c _ _ e, same_slots c _ _ e, same_grads c _ _ e);
      whose = λ c steps z column row l k later.
          rw (records_went c steps z) (record_whose (p c) (h c) (n c) steps c.x.table.columns column row l k later (room_of c _ z));
      numbers = λ c cells steps y z column row l k f.
          let last = last_of (p c) (h c) (n c) c.x.table.columns column row l k in
          rw (columns_went c cells y, records_went c steps z)
          (cell_whose (p c) (h c) (n c) cells c.x.table.columns last.column row f last.inside last.steps last.later (room_of c _ y) ∙
          ap (λ (r : StepRecord). number_of f r) (sym (record_whose (p c) (h c) (n c) steps c.x.table.columns last.column row last.inside last.steps last.later (room_of c _ z))));
      read_back = λ c cells steps y z column row l k.
          let last = last_of (p c) (h c) (n c) c.x.table.columns column row l k in
          rw (columns_went c cells y, records_went c steps z)
          (load_whose (p c) (h c) (n c) cells c.x.table.columns last.column row last.inside last.steps last.later (room_of c _ y) ∙
          sym (record_whose (p c) (h c) (n c) steps c.x.table.columns last.column row last.inside last.steps last.later (room_of c _ z)));
      untouched_columns = λ c cells z row r k field. rw (columns_went c cells z) (cell_kept (p c) (h c) (n c) cells c.x.table.columns row field r k);
      untouched_records = λ c steps row k. card_untouched c steps row k;
    }
