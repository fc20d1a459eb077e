-- Calls of the program with watchers.
use Rattle.std.proofs.Common.{◌≡◌, ℕ, List, ap, ◌∙◌, Some}
use Rattle.std.specs.Prelude.{Option}
use Rattle.mx_host.specs.HostModel.{HostModel, contents}
use Rattle.mx_plan.specs.Calls.{host}
use Rattle.mx_plan.specs.Plan.{end_of}
use Rattle.mx_plan.specs.Wild.{ends, meets_wild}
use Rattle.mx_run.specs.WildRuns.{MachineKind, window_machine}
use Rattle.mx_watch.specs.Watching.{Watching}
use Rattle.mx_words.specs.Orders.{order_of}
use Rattle.mx_files.specs.Answers.{Answer}
use Rattle.mx_outcome.specs.declared.outcome.Outcome.{Outcome}
use Rattle.mx_begin.specs.Arguments.{Word}
use Rattle.mx_top.specs.Product.{product, product_traces}
use Rattle.mx_top.specs.Reports.{due_reports, watched_product}
use Rattle.mx_top.specs.Telling.{reports_plan, with_reports}
use Rattle.mx_top.proofs.Saying.{reports-said}
use Rattle.mx_top.proofs.Told.{plain-as}
use Rattle.law_runs.specs.Called.{IsCalled, IsWatched}
use Rattle.law_runs.specs.Detour.{host_of}

pub reports-after : (kind : MachineKind) (words : List Word) (ws : List Watching) (outcome : Outcome) (m n : HostModel) → product kind words m ≡ ends outcome n →
    watched_product kind words ws m ≡ ends outcome (end_of host (reports_plan outcome (due_reports (order_of words) ws (product_traces kind words m))) n).1
reports-after kind words ws outcome m n e =
    let due : List (List ℕ) = due_reports (order_of words) ws (product_traces kind words m) in
    ap (with_reports due) e ∙ plain-as outcome (end_of host (reports_plan outcome due) n) (reports-said outcome due n)

same-answer : (result : Outcome) (new : HostModel) (texts : List (List ℕ)) (due : Answer) → ends result new ≡ with_reports texts due → ends result (host_of due) ≡ due
same-answer result new texts (ends outcome n) e =
    let same : result ≡ outcome = cc (e ∙ plain-as outcome (end_of host (reports_plan outcome texts) n) (reports-said outcome texts n)) in
    ap (λ o. ends o n) same
same-answer result new texts (meets_wild n) e = absurd (cc e)

pub watched-called : (words : List Word) (ws : List Watching) (old new : Option HostModel) (result : Outcome) → IsWatched words ws old new result →
    IsCalled words old (Some (host_of (product window_machine words (contents old)))) result
unfolding contents
watched-called words ws old new result e = record {
  telling = e.telling;
  answers = λ t ne. same-answer result (contents new) (due_reports (order_of words) ws (product_traces window_machine words (contents old))) (product window_machine words (contents old)) (e.answers t ne);
}

pub ruleset watched_calls = (reports-after, watched-called)
