use Rattle.std.proofs.Common.{sym, ◌∙◌}
use Rattle.mx_multi.proofs.Names.{part-runs}
use Rattle.mx_multi.proofs.Schedules.{name-below}
use Rattle.mx_multi.proofs.queue.has_any_running.Goals as goal

pub is_halted-requires : goal.is_halted-requires
is_halted-requires c = name-below _ _ _ _ c.loop-who-test.true c.requires

pub returns-then-not-is_halted-clause-some : goal.returns-then-not-is_halted-clause-some
returns-then-not-is_halted-clause-some c = λ e all. part-runs _ _ _ c.loop-who-test.true (sym c.is_halted.ensures ∙ c.if-not-is_halted.true) all
