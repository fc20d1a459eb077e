use Rattle.std.proofs.Common.{Ok, Err, sym, ap, ◌∙◌}
use Rattle.mx_object.specs.declared.counted.CountedObject.{CountedObject}
use Rattle.mx_object.proofs.CountedObjects.{tetras-told}
use Rattle.mx_object.proofs.counted.count_tetras.Goals as goal

-- ---- a machine ran

pub returns-in-Ok-clause-told : goal.returns-in-Ok-clause-told
returns-in-Ok-clause-told g c =
    tetras-told _ _ c.args.tetras (Ok (c.in-Ok.outcome, c.in-Ok.counts)) _ c.args.order.now c.args.arguments.now _ c.object_by.ensures.lacking c.object_by.ensures.value c.in-Ok.ensures.told

pub returns-in-Ok-clause-no_host_fault : goal.returns-in-Ok-clause-no_host_fault
returns-in-Ok-clause-no_host_fault g c = c.object_by.ensures.no_host_fault c.in-Ok.ensures.machine.0

pub returns-in-Ok-clause-no_missing_file : goal.returns-in-Ok-clause-no_missing_file
returns-in-Ok-clause-no_missing_file g c = c.object_by.ensures.no_missing_file c.in-Ok.ensures.machine.1

-- ---- none did

pub returns-in-Err-clause-told : goal.returns-in-Err-clause-told
returns-in-Err-clause-told g c =
    tetras-told _ _ c.args.tetras (Err c.in-Err.outcome) _ c.args.order.now c.args.arguments.now _
    (λ ne e. ne (ap (λ (r : CountedObject). r.outcome) c.without_sheet.ensures ∙ e)) (λ ne. c.without_sheet.ensures) c.in-Err.ensures.told

pub returns-in-Err-clause-no_host_fault : goal.returns-in-Err-clause-no_host_fault
returns-in-Err-clause-no_host_fault g c = λ e. c.in-Err.ensures.machine.0 (sym (ap (λ (r : CountedObject). r.outcome) c.without_sheet.ensures) ∙ e)

pub returns-in-Err-clause-no_missing_file : goal.returns-in-Err-clause-no_missing_file
returns-in-Err-clause-no_missing_file g c = λ e. c.in-Err.ensures.machine.1 (sym (ap (λ (r : CountedObject). r.outcome) c.without_sheet.ensures) ∙ e)
