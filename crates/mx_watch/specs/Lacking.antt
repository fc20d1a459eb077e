-- What watchers of a run were told by the time that there was no memory.
use Rattle.std.specs.Prelude.{ℕ, ◌≡◌, ◌≤◌, ◌+◌, IsTrue, false, List, [], ◌∷◌, ◌++◌, take, drop, map, Option}
use Rattle.mx_host.specs.HostModel.{HostModel, tells, contents}
use Rattle.mx_plan.specs.Plan.{Stops}
use Rattle.mx_core.specs.State.{State}
use Rattle.mx_code.specs.declared.trace.Trace.{Trace}
use Rattle.mx_run.specs.RunPlans.{RunWorld, running, step_plan}
use Rattle.mx_run.specs.Runs.{ended, no_flags, run}
use Rattle.mx_run.specs.WildRuns.{window_machine}
use Rattle.mx_run.specs.declared.end.End.{End}
use Rattle.mx_run.specs.declared.end.End.TheVariants.{OutOfMemory, Spent}
use Rattle.mx_watch.specs.Listening.{Listening, reports_at, still_listening, watched}
use Rattle.mx_watch.specs.Traces.{traces}
use Rattle.mx_watch.specs.Watching.{Watching, later}
use Rattle.mx_watch.specs.WatchedRuns.{left_with_reports}
use Rattle.mx_watch.specs.declared.telling.Report.{Report}

-- a watcher that was told a trace, and is left
abbrev pub told_one : Trace → ℕ × Watching → ℕ × Watching
told_one t w = (w.0, later t w.1)

-- Memory ran out when watchers were told a trace. The first ones were told it, in order: each of them is left or, where it
-- was full, has given its report. One more may have been told it, whose report lacked memory: it is left, too.
pub record ToldSome (t : Trace) (before after : Listening) : Type 0 where
  pub first : ℕ
  pub more : ℕ
  pub one : more ≤ 1
  pub left : after.left ≡
      still_listening t (take first before.left) ++ map (told_one t) (take more (drop first before.left)) ++ drop (first + more) before.left
  pub kept : after.kept ≡ before.kept ++ reports_at t (take first before.left)

-- Where memory ran out, after the steps of these traces: in the next step, and watchers were told all the traces; or before
-- the first one, and they were told nothing; or when they were told the last trace, and they were told all those before it.
pub data Lacks (h : List Trace) (between new : RunWorld) (start now : Listening) : Type 0 where
  in_step : Stops running new (step_plan no_flags false) between → now ≡ watched h start → Lacks h between new start now
  at_first : h ≡ [] → new ≡ between → now ≡ start → Lacks h between new start now
  in_telling : (g : List Trace) (t : Trace) → h ≡ g ++ t ∷ [] → new ≡ between → ToldSome t (watched g start) now →
      Lacks h between new start now

-- A run of at most n steps that these watchers were told of stopped because memory ran out: so many steps were made, and they
-- were told the traces of these, up to where it ran out. So those that are left are left, and the reports are kept.
pub record StopsTold (n : ℕ) (old new : RunWorld) (start : Listening) (left : List Watching) (reports : List Report) : Type 0 where
  pub made : ℕ
  pub few : made ≤ n
  pub between : RunWorld
  pub steps : run made no_flags false old.0 old.1 ≡ ended Spent between.0 between.1
  pub now : Listening
  pub seen : (left, reports) ≡ left_with_reports now
  pub lacked : Lacks (traces window_machine made old.0 old.1) between new start now

-- that is so over a host that tells its contents, where there was no memory
abbrev pub StopsHearing : Option HostModel → Option HostModel → State → State → ℕ → End → Listening → List Watching → List Report → Type 0
StopsHearing old new before after n result start left reports =
    IsTrue (tells old) → result ≡ OutOfMemory → StopsTold n (before, contents old) (after, contents new) start left reports

-- ---- on the way

-- the watcher at an index was not told the trace; or it was, and is left, and no report is kept
pub record LacksAt (t : Trace) (at : ℕ) (before after : Listening) : Type 0 where
  pub more : ℕ
  pub one : more ≤ 1
  pub left : after.left ≡
      take at before.left ++ map (told_one t) (take more (drop at before.left)) ++ drop (at + more) before.left
  pub kept : after.kept ≡ before.kept
