use Rattle.std.proofs.Common.{IsTrue, ◌-◌}
use Rattle.mx_host.specs.HostModel.{tells, contents}
use Rattle.mx_plan.specs.Clauses.{KeepsHost}
use Rattle.mx_core.specs.Kept.{state_of}
use Rattle.mx_run.specs.FlagMaps.{flags_at}
use Rattle.mx_run.specs.RunCourses.{RestsBoth}
use Rattle.mx_run.specs.RunPlans.{run_plan, SparesMemory}
use Rattle.mx_run.specs.Runs.{IsLater}
use Rattle.mx_run.proofs.go.go_by_flags.Given as goal

abbrev pub invariant-loop-turn : goal.invariant-loop-turn
invariant-loop-turn g l = record {
  both : IsTrue (tells (g.H.Host.told l.fn.host)) →
      RestsBoth (run_plan (l.n - l.turn) (flags_at l.flags) l.first) (state_of l.machine, contents (g.H.Host.told l.host))
      (run_plan l.n (flags_at l.flags) l.pass) (state_of l.fn.machine, contents (g.H.Host.told l.fn.host));
  spared : SparesMemory l.n (state_of l.fn.machine) → SparesMemory (l.n - l.turn) (state_of l.machine);
  bound : IsLater l.turn (state_of l.fn.machine) (state_of l.machine);
  keeps : KeepsHost (g.H.Host.told l.fn.host) (g.H.Host.told l.host) (g.H.Host.faults l.fn.host) (g.H.Host.faults l.host);
}
