use Rattle.std.proofs.Common.{◌≡◌, [], take}
use Rattle.mx_multi.specs.Stretches.{running}
use Rattle.mx_multi.proofs.queue.has_any_running.Given as goal

abbrev pub invariant-loop-who : goal.invariant-loop-who
invariant-loop-who l = running l.halted (take l.who-index l.names) ≡ []
