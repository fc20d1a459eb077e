use Rattle.std.proofs.Common.{◌≡◌, drop, length, map}
use Rattle.mx_watch.specs.Listening.{listening, watched}
use Rattle.mx_watch.proofs.watching.watch_all.Given as goal

abbrev pub invariant-loop-t : goal.invariant-loop-t
invariant-loop-t g l = record {
  heard : watched (drop l.t-index l.traces) (listening l.places.items (map (λ b. (goal.Watcher-dyn g (b.vtable, b.value)).meaning b.value) l.watchers.items) l.kept)
      ≡ watched l.traces (listening l.fn.places.items (map (λ b. (goal.Watcher-dyn g (b.vtable, b.value)).meaning b.value) l.fn.watchers.items) l.fn.kept);
  same : length l.places.items ≡ length l.watchers.items;
}
