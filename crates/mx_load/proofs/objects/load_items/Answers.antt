use Rattle.std.proofs.Common.{ap, Ok}
use Rattle.mx_load.proofs.Loading.{left-next, left-last}
use Rattle.mx_load.proofs.objects.load_items.Goals as goal

pub loop-fault-preserved : goal.loop-fault-preserved
loop-fault-preserved c =
    let said = c.in-Ok-true.ensures in
    record {
      read = said.read;
      left = left-next _ c.loop-fault.progress c.load_next.new.progress c.loop-fault.reader c.load_next.new.reader c.loop-fault.invariant.left
          (said.next (ap Ok c.in-Ok-true.field-0-test)) (said.less (ap Ok c.in-Ok-true.field-0-test));
    }

pub returns-in-Ok-false-clause-last : goal.returns-in-Ok-false-clause-last
returns-in-Ok-false-clause-last c =
    left-last _ _ c.loop-fault.progress c.loop-fault.reader c.loop-fault.invariant.left (c.in-Ok-false.ensures.last (ap Ok c.in-Ok-false.field-0-test))

pub returns-in-Err-clause-fault : goal.returns-in-Err-clause-fault
returns-in-Err-clause-fault c = λ ne. left-last _ _ c.loop-fault.progress c.loop-fault.reader c.loop-fault.invariant.left (c.in-Err.ensures.fault (λ e. ne (cc)))
