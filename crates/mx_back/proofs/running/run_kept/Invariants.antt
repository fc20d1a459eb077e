use Rattle.std.proofs.Common.{IsTrue, false, ◌-◌, ◌≡◌}
use Rattle.mx_host.specs.HostModel.{tells, contents}
use Rattle.mx_plan.specs.Clauses.{KeepsHost}
use Rattle.mx_core.specs.Kept.{state_of}
use Rattle.mx_run.specs.AccompaniedRuns.{list_run}
use Rattle.mx_run.specs.Runs.{IsLater}
use Rattle.mx_run.proofs.AccompaniedRuns.{Rest, Made}
use Rattle.mx_back.specs.History.{AreNotesOf, states_before, states_kept}
use Rattle.mx_back.specs.KeptLists.{AreUntouched, list_kept}
use Rattle.mx_back.specs.KeptRuns.{turns_of}
use Rattle.mx_back.proofs.KeptLists.{KeptSoFar}
use Rattle.mx_back.proofs.running.run_kept.Given as goal

abbrev pub invariant-loop-made : goal.invariant-loop-made
invariant-loop-made g l = record {
  plan : IsTrue (tells (g.H.Host.told l.fn.host)) →
      Rest l.n (l.n - l._made) (state_of l.machine, contents (g.H.Host.told l.host)) (state_of l.fn.machine, contents (g.H.Host.told l.fn.host));
  made : IsTrue (tells (g.H.Host.told l.fn.host)) →
      Made l._made (state_of l.machine, contents (g.H.Host.told l.host)) (state_of l.fn.machine, contents (g.H.Host.told l.fn.host));
  bound : IsLater l._made (state_of l.fn.machine) (state_of l.machine);
  keeps : KeepsHost (g.H.Host.told l.fn.host) (g.H.Host.told l.host) (g.H.Host.faults l.fn.host) (g.H.Host.faults l.host);
  fits : AreNotesOf l.back (state_of l.machine);
  kept : IsTrue (tells (g.H.Host.told l.fn.host)) →
      states_kept (turns_of (l.n - l._made) (state_of l.machine) (contents (g.H.Host.told l.host))) (states_before l.back (state_of l.machine))
      ≡ states_kept (turns_of l.n (state_of l.fn.machine) (contents (g.H.Host.told l.fn.host))) (states_before l.fn.back (state_of l.fn.machine));
  turns : IsTrue (tells (g.H.Host.told l.fn.host)) →
      states_before l.back (state_of l.machine) ≡ states_kept (turns_of l._made (state_of l.fn.machine) (contents (g.H.Host.told l.fn.host))) (states_before l.fn.back (state_of l.fn.machine));
  kept_listed : IsTrue (tells (g.H.Host.told l.fn.host)) → (state_of l.fn.machine).touched ≡ false → AreUntouched (states_before l.fn.back (state_of l.fn.machine)) →
      KeptSoFar (list_run (g.H.Host.told l.fn.host) (state_of l.fn.machine) l.n) (l.n - l._made) (state_of l.machine) (contents (g.H.Host.told l.host)) (states_before l.back (state_of l.machine))
      (list_kept (g.H.Host.told l.fn.host) (state_of l.fn.machine) l.n (states_before l.fn.back (state_of l.fn.machine)));
}
