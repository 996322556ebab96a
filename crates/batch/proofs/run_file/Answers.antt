use Rattle.std.proofs.Common.{refl, length}
use Rattle.batch.specs.File.{file_loss, file_slots_def, call_loss, call_slots}
use Rattle.batch.proofs.Formed.{formed, refused_slots}
use Rattle.batch.proofs.run_file.Goals as goal

pub returns-in_err-sections-clause-slots : goal.returns-in_err-sections-clause-slots
returns-in_err-sections-clause-slots c = refused_slots c.args.file.now _ c.in_err-sections.ensures.header c.args.gw.now

pub returns-clause-loss : goal.returns-clause-loss
unfolding file_loss
returns-clause-loss c =
    let r = c.read-2.ensures in
    let s = r.sections in
    formed c.args.file.now (λ h xs ns. call_loss h xs ns (length c.args.gw.now)) _ _ _ _ _ c.in_ok-sections.ensures.header refl r.cells r.lengths (rw s at c.run.ensures.loss)

pub returns-clause-slots : goal.returns-clause-slots
unfolding file_slots_def
returns-clause-slots c =
    let r = c.read-2.ensures in
    let s = r.sections in
    formed c.args.file.now (λ h xs ns. call_slots h xs ns c.args.gw.now) _ _ _ _ _ c.in_ok-sections.ensures.header refl r.cells r.lengths (rw s at c.run.ensures.slots)
