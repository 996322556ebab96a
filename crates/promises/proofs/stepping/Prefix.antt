-- Both layouts of the step records of prefixes. Assumes nothing.
use Prim.Native.Nat.{ℕ, ◌≤◌, ◌<◌}
use mathlib.Core.List.{List}
use mathlib.Core.Path.{◌≡◌, refl, sym, ap, ◌∙◌}
use native.Mathlib.Nat.{le_trans}
use lib.Dec.{leb, eqb}
use lib.Ieee.{Float}
use lib.ListN.{length, get_or}
use Rattle.forward.specs.Params.{params_def}
use Rattle.forward.specs.declared.parameters.RuntimeParams.{RuntimeParams}
use Rattle.forward.specs.declared.state.StepRecord.{StepRecord}
use Rattle.checks.specs.Batch.{History, Prefixes, history, length_at}
use Rattle.checks.specs.Columns.{through}
use Rattle.checks.specs.Refusals.{longest_of, prefix_grad_refusal_def}
use Rattle.checks.proofs.Longer.{under_longest}
use Rattle.columns.specs.Records.{number_of, room_def}
use Rattle.columns.specs.StepRecords.{no_step_def}
use Rattle.analytic_v6.specs.Prefixes.{prefix_steps_def, prefix_records_def, batch_loss_and_grad_def, batch_slots, batch_steps, batch_records}
use Rattle.analytic_v6.proofs.prefixes.Entry as PE
use Rattle.promises.specs.LossCalls.{Call}
use Rattle.promises.specs.Layouts.{prefixes_lent, Layouts}
use Rattle.promises.proofs.stepping.Columns.{Steps, Cells, last_of, record_kept, record_whose, cell_kept, cell_whose, load_whose, went, either}

module _ (c : Call Prefixes) where
  abbrev p : RuntimeParams
  p = params_def c.w

  abbrev h : ℕ → History
  h column = history c.x.table column

  abbrev n : ℕ → ℕ
  n column = length_at c.x.table column

  columns_went : (cells : List Float) → prefix_grad_refusal_def c.w c.x (length c.gw) (room_def (length cells)) ≡ 0 → batch_records c.w c.x (length c.gw) cells ≡ through (Cells p h n) c.x.table.columns cells
  unfolding batch_records prefix_records_def
  columns_went cells z = went _ cells _ z

  records_went : (steps : List StepRecord) → prefix_grad_refusal_def c.w c.x (length c.gw) (length steps) ≡ 0 → batch_steps c.w c.x (length c.gw) steps ≡ through (Steps p h n) c.x.table.columns steps
  unfolding batch_steps prefix_steps_def
  records_went steps z = went _ steps _ z

  room_of : (rows : ℕ) → prefix_grad_refusal_def c.w c.x (length c.gw) rows ≡ 0 → (k : ℕ) → k < c.x.table.columns → n k ≤ rows
  room_of rows z k l = le_trans (under_longest _ _ _ k l) (PE.grad_room c.w c.x 0 refl _ rows (sym z))

  -- the number looks at room only in one test
  module _ (a b : ℕ) (e : leb (longest_of c.x.table) a ≡ leb (longest_of c.x.table) b) where
    same_refusal : prefix_grad_refusal_def c.w c.x (length c.gw) a ≡ prefix_grad_refusal_def c.w c.x (length c.gw) b
    unfolding prefix_grad_refusal_def
    same_refusal = rw e

    same_answer : batch_loss_and_grad_def c.w c.x (length c.gw) a ≡ batch_loss_and_grad_def c.w c.x (length c.gw) b
    unfolding batch_loss_and_grad_def
    same_answer = rw same_refusal

    same_slots : batch_slots c.w c.x c.gw a ≡ batch_slots c.w c.x c.gw b
    unfolding batch_slots
    same_slots = rw same_refusal

  prefix_untouched :
      (steps : List StepRecord) (row : ℕ) → ((column : ℕ) → column < c.x.table.columns → n column ≤ row) → get_or (batch_steps c.w c.x (length c.gw) steps) row no_step_def ≡ get_or steps row no_step_def
  unfolding batch_steps prefix_steps_def
  prefix_untouched steps row k =
      either (λ (xs : List StepRecord). get_or xs row no_step_def ≡ get_or steps row no_step_def) (eqb (prefix_grad_refusal_def c.w c.x (length c.gw) (length steps)) 0) steps _ refl
      (record_kept p h n steps c.x.table.columns row k)

pub prefix_layouts : Layouts prefixes_lent
prefix_layouts =
    record {
      same = λ c cells steps e. (same_refusal c _ _ e, same_answer c _ _ e, same_slots c _ _ e, λ grads l. refl);
      whose = λ c steps z column row l k later.
          rw (records_went c steps z) (record_whose (p c) (h c) (n c) steps c.x.table.columns column row l k later (room_of c _ z));
      numbers = λ c cells steps y z column row l k f.
          let last = last_of (p c) (h c) (n c) c.x.table.columns column row l k in
          rw (columns_went c cells y, records_went c steps z)
          (cell_whose (p c) (h c) (n c) cells c.x.table.columns last.column row f last.inside last.steps last.later (room_of c _ y) ∙
          ap (λ (r : StepRecord). number_of f r) (sym (record_whose (p c) (h c) (n c) steps c.x.table.columns last.column row last.inside last.steps last.later (room_of c _ z))));
      read_back = λ c cells steps y z column row l k.
          let last = last_of (p c) (h c) (n c) c.x.table.columns column row l k in
          rw (columns_went c cells y, records_went c steps z)
          (load_whose (p c) (h c) (n c) cells c.x.table.columns last.column row last.inside last.steps last.later (room_of c _ y) ∙
          sym (record_whose (p c) (h c) (n c) steps c.x.table.columns last.column row last.inside last.steps last.later (room_of c _ z)));
      untouched_columns = λ c cells z row r k field. rw (columns_went c cells z) (cell_kept (p c) (h c) (n c) cells c.x.table.columns row field r k);
      untouched_records = λ c steps row k. prefix_untouched c steps row k;
    }
