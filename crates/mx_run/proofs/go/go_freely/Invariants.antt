use Rattle.std.proofs.Common.{IsTrue, true, ◌≤◌, ◌-◌}
use Rattle.mx_host.specs.HostModel.{tells, contents}
use Rattle.mx_plan.specs.Clauses.{KeepsHost}
use Rattle.mx_core.specs.Kept.{state_of}
use Rattle.mx_run.specs.FlagMaps.{flags_at}
use Rattle.mx_run.specs.RunCourses.{RestsBoth}
use Rattle.mx_run.specs.RunPlans.{run_plan, SparesMemory}
use Rattle.mx_run.specs.Runs.{IsLater}
use Rattle.mx_run.proofs.go.go_freely.Given as goal

abbrev pub invariant-loop-left : goal.invariant-loop-left
invariant-loop-left g l = record {
  both : IsTrue (tells (g.H.Host.told l.fn.host)) →
      RestsBoth (run_plan l.left (flags_at l.flags) true) (state_of l.machine, contents (g.H.Host.told l.host))
      (run_plan l.n (flags_at l.flags) true) (state_of l.fn.machine, contents (g.H.Host.told l.fn.host));
  spared : SparesMemory l.n (state_of l.fn.machine) → SparesMemory l.left (state_of l.machine);
  few : l.left ≤ l.n;
  bound : IsLater (l.n - l.left) (state_of l.fn.machine) (state_of l.machine);
  keeps : KeepsHost (g.H.Host.told l.fn.host) (g.H.Host.told l.host) (g.H.Host.faults l.fn.host) (g.H.Host.faults l.host);
}

abbrev pub decreases-loop-left : goal.decreases-loop-left
decreases-loop-left g l = l.left
