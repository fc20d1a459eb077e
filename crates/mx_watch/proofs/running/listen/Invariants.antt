use Rattle.std.proofs.Common.{IsTrue, false, ◌≡◌, ◌-◌, length, map}
use Rattle.mx_host.specs.HostModel.{tells, contents}
use Rattle.mx_plan.specs.Clauses.{KeepsHost}
use Rattle.mx_core.specs.Bounds.{as_list_state}
use Rattle.mx_core.specs.Kept.{state_of}
use Rattle.mx_run.specs.Runs.{IsLater, no_flags}
use Rattle.mx_run.specs.WildRuns.{run_by, window_machine, list_machine}
use Rattle.mx_run.proofs.AccompaniedRuns.{Rest, Made}
use Rattle.mx_watch.specs.Listening.{listening, watched}
use Rattle.mx_watch.specs.Traces.{traces}
use Rattle.mx_watch.proofs.ListTraces.{OrWild}
use Rattle.mx_watch.proofs.running.listen.Given as goal

abbrev pub invariant-loop-made : goal.invariant-loop-made
invariant-loop-made g l = record {
  told : IsTrue (tells (g.H.Host.told l.fn.host)) →
      Rest l.n (l.n - l._made) (state_of l.machine, contents (g.H.Host.told l.host)) (state_of l.fn.machine, contents (g.H.Host.told l.fn.host));
  made : IsTrue (tells (g.H.Host.told l.fn.host)) →
      Made l._made (state_of l.machine, contents (g.H.Host.told l.host)) (state_of l.fn.machine, contents (g.H.Host.told l.fn.host));
  so_far : IsTrue (tells (g.H.Host.told l.fn.host)) →
      listening l.places.items (map (λ b. (goal.Watcher-dyn g (b.vtable, b.value)).meaning b.value) l.watchers.items) l.kept
      ≡ watched (traces window_machine l._made (state_of l.fn.machine) (contents (g.H.Host.told l.fn.host)))
      (listening l.fn.places.items (map (λ b. (goal.Watcher-dyn g (b.vtable, b.value)).meaning b.value) l.fn.watchers.items) l.fn.kept);
  heard : IsTrue (tells (g.H.Host.told l.fn.host)) →
      watched (traces window_machine (l.n - l._made) (state_of l.machine) (contents (g.H.Host.told l.host)))
      (listening l.places.items (map (λ b. (goal.Watcher-dyn g (b.vtable, b.value)).meaning b.value) l.watchers.items) l.kept)
      ≡ watched (traces window_machine l.n (state_of l.fn.machine) (contents (g.H.Host.told l.fn.host)))
      (listening l.fn.places.items (map (λ b. (goal.Watcher-dyn g (b.vtable, b.value)).meaning b.value) l.fn.watchers.items) l.fn.kept);
  list_heard : IsTrue (tells (g.H.Host.told l.fn.host)) → (state_of l.fn.machine).touched ≡ false →
      OrWild (run_by list_machine l.n no_flags false (as_list_state (state_of l.fn.machine)) (contents (g.H.Host.told l.fn.host)))
      (watched (traces list_machine (l.n - l._made) (as_list_state (state_of l.machine)) (contents (g.H.Host.told l.host)))
      (listening l.places.items (map (λ b. (goal.Watcher-dyn g (b.vtable, b.value)).meaning b.value) l.watchers.items) l.kept)
      ≡ watched (traces list_machine l.n (as_list_state (state_of l.fn.machine)) (contents (g.H.Host.told l.fn.host)))
      (listening l.fn.places.items (map (λ b. (goal.Watcher-dyn g (b.vtable, b.value)).meaning b.value) l.fn.watchers.items) l.fn.kept));
  same : length l.places.items ≡ length l.watchers.items;
  bound : IsLater l._made (state_of l.fn.machine) (state_of l.machine);
  keeps : KeepsHost (g.H.Host.told l.fn.host) (g.H.Host.told l.host) (g.H.Host.faults l.fn.host) (g.H.Host.faults l.host);
}
