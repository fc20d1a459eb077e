use Rattle.mx_core.specs.Kept.{state_of}
use Rattle.mx_record.proofs.Fresh.{start-none}
use Rattle.mx_record.proofs.Recording.{begun-ready, leads-first, ready-of, refused-alike}
use Rattle.mx_record.proofs.recorder.Recorder.begin.Goals as goal

pub start_changes-started-requires : goal.start_changes-started-requires
start_changes-started-requires c = start-none c.in-Ok-begin.before c.args.program (state_of c.machine.result.now) c.in-Ok-begin.ensures.start c.machine.ensures

pub returns-in-Ok-started-clause-ready : goal.returns-in-Ok-started-clause-ready
returns-in-Ok-started-clause-ready c =
    ready-of (record { before = c.in-Ok-begin.before; after = c.in-Ok-begin-2.after; stacked = c.in-Ok-started.stacked }) c.args.program 0
    (begun-ready c.in-Ok-begin.before c.in-Ok-begin-2.after c.args.program c.in-Ok.copy (state_of c.machine.result.now) c.in-Ok-started.stacked c.in-Ok.ensures.alike c.in-Ok-begin.ensures.start c.in-Ok-begin-2.ensures.start c.machine.ensures c.in-Ok-started.ensures.stack)

pub returns-in-Ok-started-clause-record : goal.returns-in-Ok-started-clause-record
returns-in-Ok-started-clause-record c =
    leads-first c.in-Ok-begin.before c.args.program (state_of c.machine.result.now) c.in-Ok-started.record c.in-Ok-begin.ensures.start c.machine.ensures c.in-Ok-started.ensures.record

pub returns-in-Err-begin-clause-refused : goal.returns-in-Err-begin-clause-refused
returns-in-Err-begin-clause-refused c = λ ne. refused-alike c.args.program c.in-Ok.copy _ c.in-Ok.ensures.alike (c.in-Err-begin.ensures.refused ne)
