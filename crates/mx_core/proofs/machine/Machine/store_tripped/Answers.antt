use Rattle.std.proofs.Common.{Err}
use Rattle.mx_core.specs.Kept.{state_of}
use Rattle.mx_core.proofs.Results.Pages.{lacks_tripped}
use Rattle.mx_core.proofs.machine.Machine.store_tripped.Goals as goal

pub returns-in-Err-clause-lacks_memory : goal.returns-in-Err-clause-lacks_memory
returns-in-Err-clause-lacks_memory c =
    lacks_tripped (state_of c.args.self.now) c.args.i.now c.args.how c.args.a c.args.x c.args.handler c.tetra.result (Err c.in-Err.stop)
    c.requires.address c.tetra.ensures c.if-tetra-eq0.false c.in-Err.ensures.lacks_memory c.in-Err.ensures.room
