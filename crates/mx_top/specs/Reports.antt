-- The reports of watchers: what is written of the traces that those are told in a call of the program.
use Rattle.std.specs.Prelude.{ℕ, ◌≡◌, ◌≢◌, IsTrue, true, if◌then◌else◌, List, [], Option, Result, Ok, Err}
use Rattle.std.specs.List.{range_with_len}
use Rattle.mx_host.specs.HostModel.{HostModel, tells, contents}
use Rattle.mx_code.specs.declared.trace.Trace.{Trace}
use Rattle.mx_run.specs.WildRuns.{MachineKind, window_machine, list_machine}
use Rattle.mx_watch.specs.Hearing.{heard_by}
use Rattle.mx_watch.specs.Reporting.{in_places, reports_on, texts_now}
use Rattle.mx_watch.specs.WatchedRuns.{UnlessWild}
use Rattle.mx_watch.specs.Watching.{Watching}
use Rattle.mx_watch.specs.declared.telling.Report.{Report}
use Rattle.mx_words.specs.Orders.{order_of}
use Rattle.mx_words.specs.declared.order.Order.{Order}
use Rattle.mx_words.specs.declared.order.WordsFault.{WordsFault}
use Rattle.mx_files.specs.Answers.{Answer}
use Rattle.mx_outcome.specs.declared.outcome.Outcome.{Outcome}
use Rattle.mx_outcome.specs.declared.outcome.Outcome.TheVariants.{OutOfMemory}
use Rattle.mx_begin.specs.Arguments.{Word}
use Rattle.mx_top.specs.Product.{product, product_traces}
use Rattle.mx_top.specs.Telling.{with_reports}

-- ---- the reports

-- where the order asks for them, that of each watcher on what it hears of these traces
abbrev pub due_reports : Result Order WordsFault → List Watching → List Trace → List (List ℕ)
due_reports (Err fault) watchers told = []
due_reports (Ok o) watchers told = if o.report then reports_on told watchers else []

-- what the program comes to with these watchers
abbrev pub watched_product : MachineKind → List Word → List Watching → HostModel → Answer
watched_product kind words watchers m = with_reports (due_reports (order_of words) watchers (product_traces kind words m)) (product kind words m)

-- whether the words ask for them
abbrev pub AreAsked : Result Order WordsFault → Type 0
AreAsked (Err fault) = ⊥
AreAsked (Ok o) = o.report ≡ true

-- as the code finds them: of the watchers that are left, and of those whose reports are kept
abbrev pub found_reports : Result Order WordsFault → ℕ → List Watching → List Report → List (List ℕ)
found_reports (Err fault) count left kept = []
found_reports (Ok o) count left kept = if o.report then in_places (range_with_len 0 count) kept (texts_now left) else []

-- ---- the words of clauses: `old` is what the host told before, `left` are the watchers that are left, and the reports `earlier`
-- became `later`

-- over a host that tells its contents, unless out of memory, the watchers heard the traces of f
abbrev pub HearsAs : Option HostModel → Outcome → List Watching → List Watching → List Report → List Report → (HostModel → List Trace) → Type 0
HearsAs old result watchers left earlier later f =
    IsTrue (tells old) → result ≢ OutOfMemory → (left, later) ≡ heard_by (f (contents old)) watchers earlier

-- the same, unless the answer of a is wild
abbrev pub HearsAsList : Option HostModel → Outcome → List Watching → List Watching → List Report → List Report → (HostModel → Answer) → (HostModel → List Trace) → Type 0
HearsAsList old result watchers left earlier later a f =
    IsTrue (tells old) → result ≢ OutOfMemory → UnlessWild (a (contents old)) ((left, later) ≡ heard_by (f (contents old)) watchers earlier)

-- both: they heard the traces of f, and, unless the answer of a is wild, those of g over the list machine
abbrev pub HearsBoth : Option HostModel → Outcome → List Watching → List Watching → List Report → List Report → (HostModel → List Trace) → (HostModel → Answer) → (HostModel → List Trace) → Type 0
HearsBoth old result watchers left earlier later f a g =
    HearsAs old result watchers left earlier later f × HearsAsList old result watchers left earlier later a g

-- the same, where an answer and its traces are told by the kind of machine
abbrev pub HearsByKind : Option HostModel → Outcome → List Watching → List Watching → List Report → List Report → (MachineKind → HostModel → Answer) → (MachineKind → HostModel → List Trace) → Type 0
HearsByKind old result watchers left earlier later a f = HearsBoth old result watchers left earlier later (f window_machine) (a list_machine) (f list_machine)

-- those that are left, over a host that tells its contents and unless out of memory, where f gives what all were told
abbrev pub LeavesWatchers : Option HostModel → Outcome → List Watching → List Watching → (HostModel → List Trace) → Type 0
LeavesWatchers old result watchers left f =
    IsTrue (tells old) → result ≢ OutOfMemory → left ≡ (heard_by (f (contents old)) watchers []).0
