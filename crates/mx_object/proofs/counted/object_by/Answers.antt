use Rattle.std.proofs.Common.{sym, ◌∙◌}
use Rattle.mx_object.proofs.CountedObjects.{object-with}
use Rattle.mx_object.proofs.counted.object_by.Goals as goal

pub returns-in-Ok-clause-value : goal.returns-in-Ok-clause-value
returns-in-Ok-clause-value c =
    object-with c.args.tetras c.args.outcome c.args.counts.now _ _ _ c.with_sheet.ensures.same c.with_sheet.ensures.value c.as_slice.ensures c.in-Ok.ensures

pub returns-in-Ok-clause-lacking : goal.returns-in-Ok-clause-lacking
returns-in-Ok-clause-lacking c = λ ne e. ne (c.with_sheet.ensures.same ∙ e)

pub returns-in-Ok-clause-no_host_fault : goal.returns-in-Ok-clause-no_host_fault
returns-in-Ok-clause-no_host_fault c = λ ne e. ne (sym c.with_sheet.ensures.same ∙ e)

pub returns-in-Ok-clause-no_missing_file : goal.returns-in-Ok-clause-no_missing_file
returns-in-Ok-clause-no_missing_file c = λ ne e. ne (sym c.with_sheet.ensures.same ∙ e)
