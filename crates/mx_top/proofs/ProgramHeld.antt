-- What every call of a host keeps, the calls of the program keep.
use Rattle.std.proofs.Common.{◌≡◌, inl, inr, ℕ, ◌+◌, ◌-◌, false, Ok, Err, arith, sym, ◌∙◌, ap, subst}
use Rattle.std.specs.Prelude.{Result}
use Rattle.mx_host.specs.HostModel.{HostModel}
use Rattle.mx_plan.specs.Plan.{Stops, end_of}
use Rattle.mx_plan.specs.Held.{Held, KeepsStreams, OnlyAdds}
use Rattle.mx_plan.proofs.HeldLaws.{held-end, held-stop, held-on}
use Rattle.mx_plan.proofs.Streams.{streams-held}
use Rattle.mx_core.specs.State.{State}
use Rattle.mx_run.specs.RunPlans.{RunWorld, running, ended_world, run_plan}
use Rattle.mx_run.specs.Runs.{no_flags, run}
use Rattle.mx_run.specs.WildRuns.{window_machine}
use Rattle.mx_run.specs.declared.end.End.{End}
use Rattle.mx_run.proofs.FreeTurns.{run-from}
use Rattle.mx_run.proofs.HeldRuns.{run-held, streams-end}
use Rattle.mx_run.proofs.PlanEnds.{run-end}
use Rattle.mx_run.specs.AccompaniedRuns.{AfterSteps}
use Rattle.mx_con.specs.SessionPlans.{SessionWorld, conversing, session_plan}
use Rattle.mx_con.proofs.HeldSessions.{session-held}
use Rattle.mx_multi.specs.JointTurns.{JointWorld}
use Rattle.mx_multi.specs.MultiPlans.{multi, turns_plan}
use Rattle.mx_multi.proofs.HeldTurns.{multi-held}
use Rattle.mx_begin.specs.Begun.{started}
use Rattle.mx_outcome.specs.declared.outcome.Outcome.{Outcome}
use Rattle.mx_top.specs.MachineWork.{Work, WorkCall, WorkPlan, working, of_host, stepping, reporting, keeping, sitting, going_back, dumping, summing}
use Rattle.mx_top.specs.Product as page
use Rattle.mx_top.specs.Product.{ProgramCall, ProgramPlan, ProgramWorld, on_machine, taking_turns, program, at_start, MayStop, work_end}

abbrev OverRuns : RunWorld → RunWorld → Type 0
OverRuns v w = KeepsStreams v.1 w.1

abbrev OverSessions : SessionWorld → SessionWorld → Type 0
OverSessions v w = KeepsStreams v.0.1 w.0.1

abbrev OverTurns : JointWorld → JointWorld → Type 0
OverTurns v w = KeepsStreams v.1 w.1

runs-held : Held running OverRuns
runs-held = run-held KeepsStreams streams-held

sessions-held : Held conversing OverSessions
sessions-held = session-held KeepsStreams streams-held

turns-held : Held multi OverTurns
turns-held = multi-held KeepsStreams streams-held

-- to a step that was completed, and on from there
steps-kept : (n : ℕ) (s t : State) (m v : HostModel) → AfterSteps n (s, m) (t, v) → KeepsStreams m v
steps-kept n s t m v a =
    subst (λ (p : End × RunWorld). KeepsStreams m p.1.1) (run-end a.made no_flags false s m ∙ ap ended_world a.steps) (streams-end (run_plan a.made no_flags false) (s, m))

steps-on : (n : ℕ) (s t : State) (m v : HostModel) → AfterSteps n (s, m) (t, v) → KeepsStreams v (end_of running (run_plan n no_flags false) (s, m)).1.1
steps-on n s t m v a =
    let all : a.made + (n - a.made) ≡ n = omega (arith, a.few) in
    let same : run n no_flags false s m ≡ run (n - a.made) no_flags false t v = ap (λ (i : ℕ). run i no_flags false s m) (sym all) ∙ run-from a.made (n - a.made) s t m v a.steps in
    subst (λ (p : End × RunWorld). KeepsStreams v p.1.1)
    (run-end (n - a.made) no_flags false t v ∙ ap ended_world (sym same) ∙ sym (run-end n no_flags false s m)) (streams-end (run_plan (n - a.made) no_flags false) (t, v))

-- ---- the work on a machine

abbrev OverWork : Work → Work → Type 0
OverWork v w = KeepsStreams v.host w.host

work-held : Held working OverWork
unfolding working
work-held = record {
  self = λ w. streams-held.self w.host;
  through = λ u v w a b. streams-held.through u.host v.host w.host a b;
  acting = acts;
  lacking = lacks;
  between = between;
}
  where
    acts : (o : WorkCall) (w : Work) → OverWork w (working.act o w).1
    acts (of_host o) w = streams-held.acting o w.host
    acts (stepping n) w = held-end running OverRuns runs-held (run_plan n no_flags false) (w.machine, w.host)
    acts (reporting n) w = held-end running OverRuns runs-held (run_plan n no_flags false) (w.machine, w.host)
    acts (keeping n) w = held-end running OverRuns runs-held (run_plan n no_flags false) (w.machine, w.host)
    acts (sitting n) w = held-end conversing OverSessions sessions-held (session_plan n) ((w.machine, w.host), no_flags)
    acts (going_back last) w = streams-held.self w.host
    acts dumping w = streams-held.self w.host
    acts (summing blocks size) w = streams-held.self w.host

    lacks : (o : WorkCall) (w v : Work) → working.Lacks o w v → OverWork w v
    lacks (of_host o) w v l = streams-held.lacking o w.host v.host l.1
    lacks (stepping n) w v l = held-stop running OverRuns runs-held (run_plan n no_flags false) (v.machine, v.host) (w.machine, w.host) l
    lacks (reporting n) w v (inl l) = held-stop running OverRuns runs-held (run_plan n no_flags false) (v.machine, v.host) (w.machine, w.host) l
    lacks (reporting n) w v (inr l) = steps-kept n w.machine v.machine w.host v.host l
    lacks (keeping n) w v (inl l) = held-stop running OverRuns runs-held (run_plan n no_flags false) (v.machine, v.host) (w.machine, w.host) l
    lacks (keeping n) w v (inr l) = steps-kept n w.machine v.machine w.host v.host l
    lacks (sitting n) w v l = held-stop conversing OverSessions sessions-held (session_plan n) ((v.machine, v.host), l.flags) ((w.machine, w.host), no_flags) l.stops
    lacks (going_back last) w v l = absurd l
    lacks dumping w v l = absurd l
    lacks (summing blocks size) w v l = absurd l

    between : (o : WorkCall) (w v : Work) → working.Lacks o w v → OverWork v (working.act o w).1
    between (of_host o) w v l = streams-held.between o w.host v.host l.1
    between (stepping n) w v l = held-on running OverRuns runs-held (run_plan n no_flags false) (v.machine, v.host) (w.machine, w.host) l
    between (reporting n) w v (inl l) = held-on running OverRuns runs-held (run_plan n no_flags false) (v.machine, v.host) (w.machine, w.host) l
    between (reporting n) w v (inr l) = steps-on n w.machine v.machine w.host v.host l
    between (keeping n) w v (inl l) = held-on running OverRuns runs-held (run_plan n no_flags false) (v.machine, v.host) (w.machine, w.host) l
    between (keeping n) w v (inr l) = steps-on n w.machine v.machine w.host v.host l
    between (sitting n) w v l = held-on conversing OverSessions sessions-held (session_plan n) ((v.machine, v.host), l.flags) ((w.machine, w.host), no_flags) l.stops
    between (going_back last) w v l = absurd l
    between dumping w v l = absurd l
    between (summing blocks size) w v l = absurd l

-- ---- the program

abbrev OverProgram : ProgramWorld → ProgramWorld → Type 0
OverProgram v w = KeepsStreams v.0 w.0

started-end : (work : WorkPlan Outcome) (r : Result State Outcome) (w : ProgramWorld) → OverProgram w (work_end work r w).1
started-end work (Err outcome) w = streams-held.self w.0
started-end work (Ok s) w = held-end working OverWork work-held work (at_start s w)

started-lacks : (work : WorkPlan Outcome) (r : Result State Outcome) (w : ProgramWorld) (v : HostModel) → MayStop work r w v → KeepsStreams w.0 v
started-lacks work (Err outcome) w v l = absurd l
started-lacks work (Ok s) w v l = subst (KeepsStreams w.0) l.host (held-stop working OverWork work-held work l.left (at_start s w) l.stops)

started-on : (work : WorkPlan Outcome) (r : Result State Outcome) (w : ProgramWorld) (v : HostModel) → MayStop work r w v → KeepsStreams v (work_end work r w).1.0
started-on work (Err outcome) w v l = absurd l
started-on work (Ok s) w v l = subst (λ (h : HostModel). KeepsStreams h (end_of working work (at_start s w)).1.host) l.host (held-on working OverWork work-held work l.left (at_start s w) l.stops)

pub program-held : Held program OverProgram
unfolding program
program-held = record {
  self = λ w. streams-held.self w.0;
  through = λ u v w a b. streams-held.through u.0 v.0 w.0 a b;
  acting = acts;
  lacking = lacks;
  between = between;
}
  where
    acts : (o : ProgramCall) (w : ProgramWorld) → OverProgram w (program.act o w).1
    acts (page.of_host o) w = streams-held.acting o w.0
    acts (on_machine ring image args work) w = started-end work (started window_machine ring image args) w
    acts (taking_turns ring image schedule steps dump) w = held-end multi OverTurns turns-held (turns_plan schedule steps schedule) (page.joint_at_start window_machine ring image schedule, w.0)

    lacks : (o : ProgramCall) (w v : ProgramWorld) → program.Lacks o w v → OverProgram w v
    lacks (page.of_host o) w v l = streams-held.lacking o w.0 v.0 l
    lacks (on_machine ring image args work) w v l = started-lacks work (started window_machine ring image args) w v.0 l
    lacks (taking_turns ring image schedule steps dump) w v l =
        held-stop multi OverTurns turns-held (turns_plan schedule steps schedule) (l.processors, v.0) (page.joint_at_start window_machine ring image schedule, w.0) l.stops

    between : (o : ProgramCall) (w v : ProgramWorld) → program.Lacks o w v → OverProgram v (program.act o w).1
    between (page.of_host o) w v l = streams-held.between o w.0 v.0 l
    between (on_machine ring image args work) w v l = started-on work (started window_machine ring image args) w v.0 l
    between (taking_turns ring image schedule steps dump) w v l =
        held-on multi OverTurns turns-held (turns_plan schedule steps schedule) (l.processors, v.0) (page.joint_at_start window_machine ring image schedule, w.0) l.stops

-- what is on standard output where the work stops is a front of what would be there at its end
pub work-front : (p : ProgramPlan Outcome) (v w : ProgramWorld) → Stops program v p w → OnlyAdds v.0 (end_of program p w).1.0
work-front p v w s = (held-on program OverProgram program-held p v w s).growing

pub work-streams : (p : ProgramPlan Outcome) (v w : ProgramWorld) → Stops program v p w → KeepsStreams w.0 v.0
work-streams p v w s = held-stop program OverProgram program-held p v w s

pub ruleset stopping = (work-front, work-streams)
