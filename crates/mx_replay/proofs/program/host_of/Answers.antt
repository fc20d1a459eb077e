use Rattle.mx_replay.proofs.Hosts.{file-put, files-put}
use Rattle.mx_replay.proofs.program.host_of.Goals as goal

pub loop-file-preserved : goal.loop-file-preserved
loop-file-preserved c = file-put _ _ _ _ _ _ _ c.as_slice-file-items.ensures c.loop-file-test.true c.file-item.is c.in_ok-put.ensures c.loop-file.invariant

pub returns : goal.returns
returns c = files-put _ _ _ _ _ c.as_slice-file-items.ensures c.loop-file-test.false c.loop-file.invariant
