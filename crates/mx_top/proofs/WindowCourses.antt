-- Over a window of registers nothing is wild: what a plan comes to is its end.
use Rattle.std.proofs.Common.{◌≡◌, [], false, Ok, Err, refl, sym, ◌∙◌, ap}
use Rattle.std.specs.Prelude.{Result}
use Rattle.mx_plan.specs.Plan.{returns, calls, end_of}
use Rattle.mx_plan.specs.Wild.{Course, ends, then_on, course, carried}
use Rattle.mx_core.specs.State.{State}
use Rattle.mx_run.specs.RunPlans.{run_plan}
use Rattle.mx_run.specs.Runs.{no_flags}
use Rattle.mx_run.specs.WildRuns.{window_machine, run_by}
use Rattle.mx_back.specs.History.{states_kept}
use Rattle.mx_back.specs.KeptRuns.{turns_of}
use Rattle.mx_con.specs.Session.{session}
use Rattle.mx_con.specs.SessionPlans.{session_plan}
use Rattle.mx_con.proofs.SessionCourses.{run-window, window-course}
use Rattle.mx_multi.proofs.TurnPlans.{plan-end}
use Rattle.mx_watch.specs.Traces.{traces}
use Rattle.mx_outcome.specs.declared.outcome.Outcome.{Outcome}
use Rattle.mx_top.specs.MachineWork as work
use Rattle.mx_top.specs.MachineWork.{Work, WorkCall, WorkPlan, working, work_goes, stepping, reporting, keeping, sitting}
use Rattle.mx_top.specs.Product as page
use Rattle.mx_top.specs.Product.{ProgramCall, ProgramWorld, on_machine, taking_turns, program_goes, at_start}
use Rattle.mx_begin.specs.Begun.{started}

work-call : (o : WorkCall) (w : Work) → work_goes window_machine o w ≡ carried working o w
unfolding working run_by session
work-call (stepping n) w = ap (work.ran w) (run-window (run_plan n no_flags false) (w.machine, w.host))
work-call (reporting n) w = ap (work.ran (record w { told = traces window_machine n w.machine w.host })) (run-window (run_plan n no_flags false) (w.machine, w.host))
work-call (keeping n) w = ap (work.ran (record w { kept = states_kept (turns_of n w.machine w.host) [] })) (run-window (run_plan n no_flags false) (w.machine, w.host))
work-call (sitting n) w = ap (work.sat w) (window-course (session_plan n) ((w.machine, w.host), no_flags))
work-call other w = refl

pub work-window : {A : Type 0} (p : WorkPlan A) (w : Work) → course (work_goes window_machine) p w ≡ ends (end_of working p w).0 (end_of working p w).1
unfolding course end_of
work-window (returns a) w = refl
work-window (calls o k) w = ap (λ (c : Course (work.WorkSays o) Work). then_on (λ r v. course (work_goes window_machine) (k r) v) c) (work-call o w) ∙ work-window (k (working.act o w).0) (working.act o w).1

program-call : (o : ProgramCall) (w : ProgramWorld) → program_goes window_machine o w ≡ carried page.program o w
unfolding page.program
program-call (page.of_host o) w = refl
program-call (on_machine ring image args plan) w = by (started window_machine ring image args)
  where
    by : (r : Result State Outcome) → page.work_on window_machine plan r w ≡ ends (page.work_end plan r w).0 (page.work_end plan r w).1
    by (Err outcome) = refl
    by (Ok s) = ap page.worked (work-window plan (at_start s w))
program-call (taking_turns ring image schedule steps dump) w = ap (page.turned dump w.1) (sym (plan-end schedule steps schedule (page.joint_at_start window_machine ring image schedule, w.0)))

pub program-window : {A : Type 0} (p : page.ProgramPlan A) (w : ProgramWorld) → course (program_goes window_machine) p w ≡ ends (end_of page.program p w).0 (end_of page.program p w).1
unfolding course end_of
program-window (returns a) w = refl
program-window (calls o k) w =
    ap (λ (c : Course (page.ProgramSays o) ProgramWorld). then_on (λ r v. course (program_goes window_machine) (k r) v) c) (program-call o w) ∙ program-window (k (page.program.act o w).0) (page.program.act o w).1
