use Rattle.std.proofs.Common.{◌≡◌, map, take}
use Rattle.mx_watch.specs.Reporting.{texts_now}
use Rattle.mx_watch.proofs.reporting.summaries.Given as goal

abbrev pub invariant-loop-at : goal.invariant-loop-at
invariant-loop-at g l = l.texts ≡ take l.at (texts_now (map (λ b. (goal.Watcher-dyn g (b.vtable, b.value)).meaning b.value) l.watchers.items))
