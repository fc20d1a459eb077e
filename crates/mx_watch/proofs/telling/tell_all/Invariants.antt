use Rattle.std.proofs.Common.{◌≡◌, length, map}
use Rattle.mx_watch.specs.Listening.{listening}
use Rattle.mx_watch.proofs.Front.{Front}
use Rattle.mx_watch.proofs.telling.tell_all.Given as goal

abbrev pub invariant-loop-turn : goal.invariant-loop-turn
invariant-loop-turn g l = record {
  front : Front l.fn.t
      (listening l.fn.places.items (map (λ b. (goal.Watcher-dyn g (b.vtable, b.value)).meaning b.value) l.fn.watchers.items) l.fn.kept) l._turn
      (listening l.places.items (map (λ b. (goal.Watcher-dyn g (b.vtable, b.value)).meaning b.value) l.watchers.items) l.kept) l.at;
  same : length l.places.items ≡ length l.watchers.items;
  count : l._turn-end ≡ length l.fn.watchers.items;
}
