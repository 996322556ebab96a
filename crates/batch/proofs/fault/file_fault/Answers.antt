use Rattle.std.proofs.Common.{refl, subst, false}
use Rattle.std.proofs.lemmas.Result.{err_from_is_err_and}
use Rattle.checks.specs.Faults.{PlacedWhere}
use Rattle.batch.specs.File.{file_fault_def, file_reads, call_fault_def, call_reads}
use Rattle.batch.proofs.Formed.{formed, refused_place}
use Rattle.batch.proofs.fault.file_fault.Goals as goal

pub returns-in_err-sections-clause-place : goal.returns-in_err-sections-clause-place
returns-in_err-sections-clause-place c =
    let p = err_from_is_err_and c.from_residual.result c.from_residual.ensures.1 in
    rw (p.1, p.2) (refused_place c.args.file.now _ c.in_err-sections.ensures.header)

pub returns-clause-fault : goal.returns-clause-fault
unfolding file_fault_def
returns-clause-fault c =
    let r = c.read-2.ensures in
    let s = r.sections in
    formed c.args.file.now call_fault_def _ _ _ _ _ c.in_ok-sections.ensures.header refl r.cells r.lengths (rw s at c.check.ensures.fault)

pub returns-clause-place : goal.returns-clause-place
unfolding file_reads
returns-clause-place c =
    let r = c.read-2.ensures in
    let s = r.sections in
    subst (λ b. PlacedWhere b c.check.result) (formed c.args.file.now call_reads _ _ _ _ false c.in_ok-sections.ensures.header refl r.cells r.lengths refl) (rw s at c.check.ensures.place)
