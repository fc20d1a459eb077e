use Rattle.std.proofs.Common.{ap, sym, ◌∙◌, Ok}
use Rattle.mx_object.proofs.reading.note_all.Goals as goal

pub loop-e-preserved : goal.loop-e-preserved
loop-e-preserved c =
    let said = c.in-Ok-true.ensures in
    record {
      read = said.read (ap Ok c.in-Ok-true.field-0-test);
      left = c.loop-e.invariant.left ∙ said.next (ap Ok c.in-Ok-true.field-0-test);
    }

pub returns-in-Ok-false : goal.returns-in-Ok-false
returns-in-Ok-false c = sym (c.loop-e.invariant.left ∙ c.in-Ok-false.ensures.last (ap Ok c.in-Ok-false.field-0-test))
