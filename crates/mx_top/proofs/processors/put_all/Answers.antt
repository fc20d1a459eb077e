use Rattle.mx_multi.specs.Joint.{joint_of}
use Rattle.mx_top.proofs.SharedDumps.{writes-lines, writes-alone, writes-unended}
use Rattle.mx_top.proofs.processors.put_all.Goals as goal

pub returns-in-Err : goal.returns-in-Err
returns-in-Err g c = writes-unended _ _ _ _ _ c.args.dump c.args.end (joint_of c.args.multi.now) c.in-Err.ensures

pub returns-then-dump : goal.returns-then-dump
returns-then-dump g c = rw c.if-dump.true (writes-lines _ _ _ _ _ _ _ c.args.end (joint_of c.args.multi.now) c.in-Ok.ensures c.put_memory.ensures)

pub returns : goal.returns
returns g c = rw c.if-dump.false (writes-alone _ _ _ _ c.args.end (joint_of c.args.multi.now) c.in-Ok.ensures)
