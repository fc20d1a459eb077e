-- The words of the clauses of the program, over a host that tells its contents. `old` and `new` are what it told before and after.
use Rattle.std.specs.Prelude.{◌≡◌, List, [], Option}
use Rattle.mx_host.specs.HostModel.{HostModel, contents, slot_at, to_errors}
use Rattle.mx_run.specs.WildRuns.{window_machine, list_machine}
use Rattle.mx_watch.specs.Watching.{Watching}
use Rattle.mx_words.specs.Orders.{order_of}
use Rattle.mx_files.specs.Answers.{AnswersAs, AnswersAsList, WritesFrontOf}
use Rattle.mx_outcome.specs.declared.outcome.Outcome.{Outcome}
use Rattle.mx_begin.specs.Arguments.{Word}
use Rattle.mx_top.specs.Product.{work_plan, product, product_traces}
use Rattle.mx_top.specs.Reports.{LeavesWatchers, due_reports, watched_product}
use Rattle.mx_top.specs.WorkClauses.{DoesAndTells}

-- What these words order is done: the work is its plan, and where memory runs out what was completed stays; unless it did, the
-- outcome and the contents are the product's; and where it did, standard output has a front of what that writes, if slot 260 led
-- to standard error.
pub record Produces (old new : Option HostModel) (result : Outcome) (words : List Word) : Type 0 where
  pub plan : DoesAndTells old new result (work_plan words (order_of words)) (λ told. [])
  pub answer : AnswersAs old new result (λ m. product window_machine words m)
  pub written : slot_at (contents old) 260 ≡ to_errors → WritesFrontOf old new result (λ m. product window_machine words m)

-- The same with these watchers, of which some are left: their reports follow all else, where the words ask for them.
pub record ProducesWatched (old new : Option HostModel) (result : Outcome) (words : List Word) (watchers left : List Watching) : Type 0 where
  pub plan : DoesAndTells old new result (work_plan words (order_of words)) (due_reports (order_of words) watchers)
  pub answer : AnswersAs old new result (λ m. watched_product window_machine words watchers m)
  pub left_over : LeavesWatchers old result watchers left (λ m. product_traces window_machine words m)
  pub written : slot_at (contents old) 260 ≡ to_errors → WritesFrontOf old new result (λ m. product window_machine words m)

-- They are also the product's over an unbounded list of registers, up to what is wild: there standard output begins with what was
-- written before.
abbrev pub AnswersOverList : Option HostModel → Option HostModel → Outcome → List Word → Type 0
AnswersOverList old new result words = AnswersAsList old new result (λ m. product list_machine words m)

-- the same with these watchers, of a host: `told` is what it tells
abbrev pub AnswersOverListWatched : {H : Type 0} → (H → Option HostModel) → H → H → Outcome → List Word → List Watching → Type 0
AnswersOverListWatched told old new result words watchers =
    AnswersAsList (told old) (told new) result (λ m. watched_product list_machine words watchers m)
