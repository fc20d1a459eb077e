use Rattle.std.proofs.Common.{length}
use Rattle.mx_multi.proofs.Packed.{Packs}
use Rattle.mx_multi.proofs.queue.pack.Given as goal

abbrev pub invariant-loop-at : goal.invariant-loop-at
invariant-loop-at l = Packs (length l.halted) l.halted l.fn.names l.from l.fn.place l.at l.place l.names
