use Rattle.std.proofs.Common.{rules}
use Rattle.training_v7.proofs.Entry.{refused, slots_21, answer_accepted, slots_moved}
use Rattle.training_v7.proofs.penalty.l2_penalty_value_and_grad.Goals as goal

pub returns-in_err-check_penalty : goal.returns-in_err-check_penalty
returns-in_err-check_penalty c =
    refused _ _ _ _ _ _ c.args.slots.now c.from_residual.result c.in_err-check_penalty.field-0.0 (search rules) (search rules)

pub store-requires : goal.store-requires
store-requires c =
    slots_21 c.args.w.now c.args.init_w.now c.args.batch_size c.args.total_size c.args.l2_weight c.args.params_stddev.now c.args.slots.now (search rules)

pub returns-then-counted : goal.returns-then-counted
returns-then-counted c =
    let slots = c.args.slots.now in
    let scale = c.scale_of-scale.ensures in
    let counts = c.counts-counted.ensures in (
      answer_accepted _ _ _ _ _ _ slots (search rules) _ _ _ c.copy_weights.ensures c.copy_weights-2.ensures c.copy_weights-3.ensures _ _ _ scale c.sum.ensures counts _ (rw c.if-counted.true),
      slots_moved _ _ _ _ _ _ slots (search rules) _ _ _ c.copy_weights.ensures c.copy_weights-2.ensures c.copy_weights-3.ensures _ _ _ scale c.sum.ensures counts _ c.store.ensures,
    )

pub returns-else-counted : goal.returns-else-counted
returns-else-counted c =
    let slots = c.args.slots.now in
    let scale = c.scale_of-scale.ensures in
    let counts = c.counts-counted.ensures in (
      answer_accepted _ _ _ _ _ _ slots (search rules) _ _ _ c.copy_weights.ensures c.copy_weights-2.ensures c.copy_weights-3.ensures _ _ _ scale c.sum.ensures counts _ (rw c.if-counted.false),
      slots_moved _ _ _ _ _ _ slots (search rules) _ _ _ c.copy_weights.ensures c.copy_weights-2.ensures c.copy_weights-3.ensures _ _ _ scale c.sum.ensures counts _ c.store.ensures,
    )
