use Rattle.std.proofs.Common.{Ok, ap}
use Rattle.mx_files.proofs.Parts.{works-on, leaves-all, leaves-on}
use Rattle.mx_files.proofs.typing.list_items.Goals as goal

pub loop-outcome-init : goal.loop-outcome-init
loop-outcome-init g c = record { read = c.requires; left = leaves-all _ _ _ }

pub loop-outcome-preserved : goal.loop-outcome-preserved
loop-outcome-preserved g c = record {
  read = c.in-Ok-true.ensures.read;
  left = leaves-on _ _ _ _ _ _ _ _ _ c.loop-outcome.invariant.left (c.in-Ok-true.ensures.more (ap Ok c.in-Ok-true.field-0-test));
}

pub returns-in-Ok-false-clause-last : goal.returns-in-Ok-false-clause-last
returns-in-Ok-false-clause-last g c =
    leaves-on _ _ _ _ _ _ _ _ _ c.loop-outcome.invariant.left (c.in-Ok-false.ensures.last (ap Ok c.in-Ok-false.field-0-test))

pub returns-in-Err-clause-ends : goal.returns-in-Err-clause-ends
returns-in-Err-clause-ends g c = works-on _ _ _ _ _ _ _ _ _ c.loop-outcome.invariant.left c.in-Err.ensures.ends
