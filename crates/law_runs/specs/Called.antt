-- A call of the program over a host that tells its contents, and a call in which no call of the host fails.
use Rattle.std.specs.Prelude.{IsTrue, List, Option}
use Rattle.mx_host.specs.HostModel.{HostModel, tells}
use Rattle.mx_plan.specs.Counts.{NoneFailed}
use Rattle.mx_run.specs.WildRuns.{MachineKind, window_machine}
use Rattle.mx_files.specs.Answers.{AnswersAs}
use Rattle.mx_begin.specs.Arguments.{Word}
use Rattle.law_runs.specs.Detour.{host_of}
use Rattle.mx_top.specs.Product.{product}
use Rattle.mx_top.specs.Reports.{watched_product}
use Rattle.mx_watch.specs.Watching.{Watching}
use Rattle.mx_outcome.specs.declared.outcome.Outcome.{Outcome}

-- None of the calls of the host that the program makes by these words fails: the list has none of their numbers.
abbrev pub NoCallFails : MachineKind → List Word → HostModel → Type 0
NoCallFails kind words m = NoneFailed m (host_of (product kind words m))

-- The program was called with these words over a host that tells its contents, `old` before the call and `new` after it,
-- and it answered this. The clause `product` of the top call says so of each call.
pub record IsCalled (words : List Word) (old new : Option HostModel) (result : Outcome) : Type 0 where
  pub telling : IsTrue (tells old)
  pub answers : AnswersAs old new result (λ m. product window_machine words m)

-- It was called so with these watchers.
pub record IsWatched (words : List Word) (watchers : List Watching) (old new : Option HostModel) (result : Outcome) : Type 0 where
  pub telling : IsTrue (tells old)
  pub answers : AnswersAs old new result (λ m. watched_product window_machine words watchers m)
