-- The words of clauses over a run that watchers are told of. `old` and `new` are what the host told before and after,
-- `before` and `after` the states of the machine.
use Rattle.std.specs.Prelude.{ℕ, ◌≡◌, ◌≢◌, IsTrue, false, List, Option, Result, Ok, Err}
use Rattle.mx_host.specs.HostModel.{HostModel, tells, contents}
use Rattle.mx_plan.specs.Wild.{Course, ends, meets_wild}
use Rattle.mx_core.specs.Bounds.{as_list_state}
use Rattle.mx_core.specs.State.{State}
use Rattle.mx_code.specs.declared.trace.Trace.{Trace}
use Rattle.mx_run.specs.AccompaniedRuns.{list_run}
use Rattle.mx_run.specs.Clauses.{CarriesOutOnMachine}
use Rattle.mx_run.specs.RunPlans.{step_plan}
use Rattle.mx_run.specs.Runs.{no_flags}
use Rattle.mx_run.specs.Turns.{went_on, turn}
use Rattle.mx_run.specs.WildRuns.{window_machine, list_machine}
use Rattle.mx_run.specs.declared.end.End.{End}
use Rattle.mx_run.specs.declared.end.End.TheVariants.{OutOfMemory}
use Rattle.mx_watch.specs.Hearing.{Hears}
use Rattle.mx_watch.specs.Listening.{Listening, watched, watchers_left}
use Rattle.mx_watch.specs.Traces.{traces}
use Rattle.mx_watch.specs.Watching.{Watching}
use Rattle.mx_watch.specs.declared.telling.Report.{Report}

-- over a host that tells its contents, unless there was no memory, watchers heard the traces of the run of at most n steps:
-- `left` are those that are left, and the reports `earlier` became `later`
abbrev pub HearsRun : Option HostModel → State → ℕ → End → List Watching → List Watching → List Report → List Report → Type 0
HearsRun old before n result watchers left earlier later =
    IsTrue (tells old) → result ≢ OutOfMemory → Hears (traces window_machine n before (contents old)) watchers left earlier later

-- beside the list machine: where it comes to an end, and so meets nothing wild
abbrev pub UnlessWild : {A W : Type 0} → Course A W → Type 0 → Type 0
UnlessWild (ends a w) P = P
UnlessWild (meets_wild w) P = Unit {0}

-- the traces of the list machine in at most n steps from the list that a state represents
abbrev pub list_traces : Option HostModel → State → ℕ → List Trace
list_traces old before n = traces list_machine n (as_list_state before) (contents old)

-- over a host that tells its contents, unless there was no memory, and from a state where nothing was touched, the watchers
-- heard the traces of the list machine, unless that meets something wild
abbrev pub HearsAsList : Option HostModel → State → ℕ → End → List Watching → List Watching → List Report → List Report → Type 0
HearsAsList old before n result watchers left earlier later =
    IsTrue (tells old) → result ≢ OutOfMemory → before.touched ≡ false →
    UnlessWild (list_run old before n) (Hears (list_traces old before n) watchers left earlier later)

-- ---- on the way

-- over a host that tells its contents, a step of the run: it goes on with its trace, or the run ends
abbrev pub StepsTo : Option HostModel → Option HostModel → State → State → Result Trace End → Type 0
StepsTo old new before after (Ok trace) = IsTrue (tells old) → turn before (contents old) ≡ went_on after (contents new) trace
StepsTo old new before after (Err end) =
    CarriesOutOnMachine old new before after (Err OutOfMemory) (Err end) (step_plan no_flags false)

-- the watchers that are left, and the reports
abbrev pub left_with_reports : Listening → List Watching × List Report
left_with_reports l = (watchers_left l, l.kept)

-- as `HearsRun`, from any watchers with their places
abbrev pub HearsFrom : Option HostModel → State → ℕ → End → Listening → List Watching → List Report → Type 0
HearsFrom old before n result start left later =
    IsTrue (tells old) → result ≢ OutOfMemory →
    (left, later) ≡ left_with_reports (watched (traces window_machine n before (contents old)) start)

abbrev pub HearsFromList : Option HostModel → State → ℕ → End → Listening → List Watching → List Report → Type 0
HearsFromList old before n result start left later =
    IsTrue (tells old) → result ≢ OutOfMemory → before.touched ≡ false →
    UnlessWild (list_run old before n) ((left, later) ≡ left_with_reports (watched (list_traces old before n) start))
