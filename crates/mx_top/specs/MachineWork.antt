-- The work on a machine that was started: its runs and sessions, each one call, and what is looked at of it.
use Rattle.std.specs.Prelude.{ℕ, ◌≡◌, ◌⊎◌, ◌==◌, ◌&&◌, not, false, Bool, if◌then◌else◌, List, [], ◌∷◌, take, Result, Ok, Err}
use Rattle.mx_host.specs.HostModel.{HostModel}
use Rattle.mx_plan.specs.Plan.{Plan, returns, calls, bind, Acts, Stops, end_of}
use Rattle.mx_plan.specs.Calls.{HostCall, HostSays, HostPlan, host, need}
use Rattle.mx_plan.specs.Wild.{Course, ends, meets_wild}
use Rattle.mx_code.specs.declared.trace.Trace.{Trace}
use Rattle.mx_core.specs.State.{State}
use Rattle.mx_ring.specs.Stack.{register}
use Rattle.mx_run.specs.AccompaniedRuns.{AfterSteps}
use Rattle.mx_run.specs.RunPlans.{RunWorld, running, run_plan}
use Rattle.mx_run.specs.Runs.{FlagsOf, no_flags}
use Rattle.mx_run.specs.WildRuns.{MachineKind, window_machine, run_by}
use Rattle.mx_run.specs.declared.end.End.{End}
use Rattle.mx_back.specs.History.{states_kept}
use Rattle.mx_back.specs.KeptRuns.{turns_of}
use Rattle.mx_con.specs.Session.{session}
use Rattle.mx_con.specs.SessionPlans.{SessionWorld, conversing, session_plan}
use Rattle.mx_con.specs.declared.end.SessionEnd.{SessionEnd}
use Rattle.mx_watch.specs.Traces.{traces}
use Rattle.mx_words.specs.declared.order.Order.{Order}
use Rattle.mx_outcome.specs.Kinds.{leaves_machine}
use Rattle.mx_outcome.specs.declared.outcome.Outcome.{Outcome}
use Rattle.mx_outcome.specs.declared.outcome.Outcome.TheVariants.{Done}
use Rattle.mx_gen.specs.Generator.{summary}
use Rattle.mx_files.specs.FilePlans.{lines_plan}
use Rattle.mx_dump.specs.Dump.{Line, dump_lines}
use Rattle.mx_top.specs.Telling.{telling}
use Rattle.mx_begin.specs.Ends.{outcome_of}
use Rattle.mx_top.specs.Runs.{generator_steps, session_outcome, is_done, takes_back, state_lines, reached}

-- ---- the world and its calls

-- the machine, the states before its last steps that are kept, the traces that watchers are told, and the host
pub record Work : Type 0 where
  pub machine : State
  pub kept : List State
  pub told : List Trace
  pub host : HostModel

-- A call of the host; at most so many steps in one run, in one that watchers are told of, in one whose last states are kept, or in a
-- session of the console; at most so many steps back. A look answers lines: so two machines that show alike answer alike.
pub data WorkCall : Type 0 where
  of_host : HostCall → WorkCall
  stepping : ℕ → WorkCall
  reporting : ℕ → WorkCall
  keeping : ℕ → WorkCall
  sitting : ℕ → WorkCall
  going_back : ℕ → WorkCall
  dumping : WorkCall
  summing : ℕ → ℕ → WorkCall

abbrev pub WorkSays : WorkCall → Type 0
WorkSays (of_host o) = HostSays o
WorkSays (stepping n) = End
WorkSays (reporting n) = End
WorkSays (keeping n) = End
WorkSays (sitting n) = SessionEnd
WorkSays (going_back last) = List Line
WorkSays dumping = List Line
WorkSays (summing blocks size) = Line

-- ---- over a window of registers

-- what a run and a session leave of it
abbrev pub after_run : Work → End × RunWorld → End × Work
after_run w t = (t.0, record w { machine = t.1.0; host = t.1.1 })

abbrev pub after_session : Work → SessionEnd × SessionWorld → SessionEnd × Work
after_session w t = (t.0, record w { machine = t.1.0.0; host = t.1.0.1 })

abbrev pub work_act : (o : WorkCall) → Work → WorkSays o × Work
work_act (of_host o) w = ((host.act o w.host).0, record w { host = (host.act o w.host).1 })
work_act (stepping n) w = after_run w (end_of running (run_plan n no_flags false) (w.machine, w.host))
work_act (reporting n) w = after_run (record w { told = traces window_machine n w.machine w.host }) (end_of running (run_plan n no_flags false) (w.machine, w.host))
work_act (keeping n) w = after_run (record w { kept = states_kept (turns_of n w.machine w.host) [] }) (end_of running (run_plan n no_flags false) (w.machine, w.host))
work_act (sitting n) w = after_session w (end_of conversing (session_plan n) ((w.machine, w.host), no_flags))
work_act (going_back last) w = (state_lines (take last w.kept), record w { machine = reached w.machine (take last w.kept) })
work_act dumping w = (dump_lines w.machine, w)
work_act (summing blocks size) w = (summary blocks size w.machine.steps (register w.machine.stack 255), w)

-- a session may stop with these flags
pub record SessionLacks (n : ℕ) (w v : Work) : Type 0 where
  pub flags : FlagsOf
  pub stops : Stops conversing ((v.machine, v.host), flags) (session_plan n) ((w.machine, w.host), no_flags)

-- A run that watchers are told of, or whose states are kept, may also stop after a step, where a watcher, a report or what is kept
-- lacks memory. A look lacks none.
abbrev pub WorkLacks : WorkCall → Work → Work → Type 0
WorkLacks (of_host o) w v = (v ≡ record w { host = v.host }) × host.Lacks o w.host v.host
WorkLacks (stepping n) w v = Stops running (v.machine, v.host) (run_plan n no_flags false) (w.machine, w.host)
WorkLacks (reporting n) w v = Stops running (v.machine, v.host) (run_plan n no_flags false) (w.machine, w.host) ⊎ AfterSteps n (w.machine, w.host) (v.machine, v.host)
WorkLacks (keeping n) w v = Stops running (v.machine, v.host) (run_plan n no_flags false) (w.machine, w.host) ⊎ AfterSteps n (w.machine, w.host) (v.machine, v.host)
WorkLacks (sitting n) w v = SessionLacks n w v
WorkLacks (going_back last) w v = ⊥
WorkLacks dumping w v = ⊥
WorkLacks (summing blocks size) w v = ⊥

unfoldable pub working : Acts WorkCall WorkSays Work
working = record { act = work_act; Lacks = WorkLacks }

-- ---- by the kind of the machine

abbrev pub ran : Work → Course End RunWorld → Course End Work
ran w (ends end v) = ends end (record w { machine = v.0; host = v.1 })
ran w (meets_wild v) = meets_wild (record w { machine = v.0; host = v.1 })

abbrev pub sat : Work → Course SessionEnd SessionWorld → Course SessionEnd Work
sat w (ends end v) = ends end (record w { machine = v.0.0; host = v.0.1 })
sat w (meets_wild v) = meets_wild (record w { machine = v.0.0; host = v.0.1 })

-- what a call comes to: over a list runs and sessions may meet something wild
abbrev pub work_goes : MachineKind → (o : WorkCall) → Work → Course (WorkSays o) Work
work_goes kind (stepping n) w = ran w (run_by kind n no_flags false w.machine w.host)
work_goes kind (reporting n) w = ran (record w { told = traces kind n w.machine w.host }) (run_by kind n no_flags false w.machine w.host)
work_goes kind (keeping n) w = ran (record w { kept = states_kept (turns_of n w.machine w.host) [] }) (run_by kind n no_flags false w.machine w.host)
work_goes kind (sitting n) w = sat w (session kind n w.machine no_flags w.host)
work_goes kind other w = ends (work_act other w).0 (work_act other w).1

abbrev pub WorkPlan : Type 0 → Type 0
WorkPlan A = Plan WorkCall WorkSays A

unfoldable pub host_in_work : {A : Type 0} → HostPlan A → WorkPlan A
host_in_work (returns a) = returns a
host_in_work (calls o k) = calls (of_host o) (λ r. host_in_work (k r))

-- a call, and what follows its answer
abbrev pub calling : (o : WorkCall) → (WorkSays o → WorkPlan Outcome) → WorkPlan Outcome
calling o more = calls o more

-- ---- the work of `run` and `sim`

unfoldable pub dumped_plan : Bool → Outcome → WorkPlan Outcome
dumped_plan dump outcome = if dump && leaves_machine outcome then calling dumping (λ lines. host_in_work (telling outcome lines)) else returns outcome

-- the lines of the states that come back; one that is not written is the outcome
abbrev pub then_dumped : Bool → Outcome → Result (Unit {0}) Outcome → WorkPlan Outcome
then_dumped dump outcome (Ok u) = dumped_plan dump outcome
then_dumped dump outcome (Err other) = returns other

unfoldable pub back_plan : Order → Outcome → WorkPlan Outcome
back_plan o outcome =
    if takes_back outcome then calling (going_back o.last) (λ lines. bind (then_dumped o.dump outcome) (host_in_work (lines_plan lines)))
    else dumped_plan o.dump outcome

-- the user leads the machine through a session
abbrev pub sitting_plan : Order → WorkPlan Outcome
sitting_plan o = calling (sitting o.steps) (λ end. dumped_plan o.dump (session_outcome o.steps end))

-- its last steps are taken back; the room for what is kept takes memory
abbrev pub kept_plan : Order → WorkPlan Outcome
kept_plan o = bind (λ u. calling (keeping o.steps) (λ end. back_plan o (outcome_of o.steps end))) (host_in_work need)

-- watchers are told of its steps
abbrev pub reported_plan : Order → WorkPlan Outcome
reported_plan o = calling (reporting o.steps) (λ end. dumped_plan o.dump (outcome_of o.steps end))

abbrev pub stepped_plan : Order → WorkPlan Outcome
stepped_plan o = calling (stepping o.steps) (λ end. dumped_plan o.dump (outcome_of o.steps end))

unfoldable pub machine_plan : Order → WorkPlan Outcome
machine_plan o = if o.interactive then sitting_plan o else if not (o.last == 0) then kept_plan o else if o.report then reported_plan o else stepped_plan o

-- ---- the work of `gen`: where the program halts, one line tells what came of it

abbrev pub summed_plan : ℕ → ℕ → Outcome → WorkPlan Outcome
summed_plan blocks size outcome = if is_done outcome then calling (summing blocks size) (λ line. host_in_work (telling (Done 0) (line ∷ []))) else returns outcome

abbrev pub generated_work : ℕ → ℕ → WorkPlan Outcome
generated_work blocks size = calling (stepping generator_steps) (λ end. summed_plan blocks size (outcome_of generator_steps end))

-- ---- where memory runs out

-- the work may stop with this host
pub record WorkStops (work : WorkPlan Outcome) (w : Work) (v : HostModel) : Type 0 where
  pub left : Work
  pub stops : Stops working left work w
  pub host : left.host ≡ v
