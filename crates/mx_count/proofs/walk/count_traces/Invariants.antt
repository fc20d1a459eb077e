use Rattle.std.proofs.Common.{IsTrue, false, ◌≡◌, ◌-◌}
use Rattle.mx_host.specs.HostModel.{tells, contents}
use Rattle.mx_plan.specs.Clauses.{KeepsHost}
use Rattle.mx_core.specs.Bounds.{as_list_state}
use Rattle.mx_core.specs.Kept.{state_of}
use Rattle.mx_run.specs.Runs.{IsLater, no_flags}
use Rattle.mx_run.specs.WildRuns.{run_by, window_machine, list_machine}
use Rattle.mx_run.proofs.AccompaniedRuns.{Rest, Made}
use Rattle.mx_watch.specs.Traces.{traces}
use Rattle.mx_watch.proofs.ListTraces.{OrWild}
use Rattle.mx_count.specs.Counting.{counts_with}
use Rattle.mx_count.proofs.walk.count_traces.Given as goal

abbrev pub invariant-loop-made : goal.invariant-loop-made
invariant-loop-made g l = record {
  told : IsTrue (tells (g.H.Host.told l.fn.host)) →
      Rest l.n (l.n - l._made) (state_of l.machine, contents (g.H.Host.told l.host)) (state_of l.fn.machine, contents (g.H.Host.told l.fn.host));
  made : IsTrue (tells (g.H.Host.told l.fn.host)) →
      Made l._made (state_of l.machine, contents (g.H.Host.told l.host)) (state_of l.fn.machine, contents (g.H.Host.told l.fn.host));
  counted : IsTrue (tells (g.H.Host.told l.fn.host)) →
      counts_with l.counts (traces window_machine (l.n - l._made) (state_of l.machine) (contents (g.H.Host.told l.host)))
      ≡ counts_with l.fn.counts (traces window_machine l.n (state_of l.fn.machine) (contents (g.H.Host.told l.fn.host)));
  list_counted : IsTrue (tells (g.H.Host.told l.fn.host)) → (state_of l.fn.machine).touched ≡ false →
      OrWild (run_by list_machine l.n no_flags false (as_list_state (state_of l.fn.machine)) (contents (g.H.Host.told l.fn.host)))
      (counts_with l.counts (traces list_machine (l.n - l._made) (as_list_state (state_of l.machine)) (contents (g.H.Host.told l.host)))
      ≡ counts_with l.fn.counts (traces list_machine l.n (as_list_state (state_of l.fn.machine)) (contents (g.H.Host.told l.fn.host))));
  bound : IsLater l._made (state_of l.fn.machine) (state_of l.machine);
  keeps : KeepsHost (g.H.Host.told l.fn.host) (g.H.Host.told l.host) (g.H.Host.faults l.fn.host) (g.H.Host.faults l.host);
}
