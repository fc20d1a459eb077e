-- The reports that are written after the message.
use Rattle.std.proofs.Common.{◌≡◌, ℕ, Bool, true, false, cond, List, [], map, refl, sym, ◌∙◌, ap, subst, Ok, Err}
use Rattle.std.specs.Prelude.{IsTrue, Option, Result}
use Rattle.mx_host.specs.HostModel.{HostModel}
use Rattle.mx_host.proofs.Keeping.{keeps-then}
use Rattle.mx_plan.specs.Plan.{end_of}
use Rattle.mx_plan.specs.Wild.{ends, meets_wild}
use Rattle.mx_run.specs.WildRuns.{MachineKind}
use Rattle.mx_code.specs.declared.trace.Trace.{Trace}
use Rattle.mx_watch.specs.Watching.{Watching}
use Rattle.mx_word.specs.Lists.{IsFront}
use Rattle.mx_word.proofs.Fronts.{front-through}
use Rattle.mx_words.specs.Orders.{order_of}
use Rattle.mx_words.specs.declared.order.Order.{Order}
use Rattle.mx_words.specs.declared.order.WordsFault.{WordsFault}
use Rattle.mx_files.specs.Answers.{Answer, GoesAs}
use Rattle.mx_outcome.specs.declared.outcome.Outcome.{Outcome}
use Rattle.mx_begin.specs.Arguments.{Word}
use Rattle.mx_top.specs.Product.{ProgramPlan, work_plan, product, product_traces}
use Rattle.mx_top.proofs.Spoken.{product-is-said}
use Rattle.mx_watch.specs.WatchedRuns.{UnlessWild}
use Rattle.mx_top.specs.Reports.{due_reports, watched_product}
use Rattle.mx_top.specs.Telling.{reports_plan, with_message, with_reports}
use Rattle.mx_top.specs.WorkClauses.{DoneAndTold, KeepsSaying, answer_by}
use Rattle.mx_top.proofs.Answering.{goes-as}

-- ---- the writes

-- one after another
pub saying-then : {H : Type 0} (told : H → Option HostModel) (faults : H → ℕ) (a b c : H) → KeepsSaying told faults a b → KeepsSaying told faults b c → KeepsSaying told faults a c
saying-then told faults a b c first second = record {
  output = λ e t. second.output (first.keeps.errors t e) (subst IsTrue (sym first.keeps.telling) t) ∙ first.output e t;
  keeps = keeps-then (told a) (told b) (told c) (faults a) (faults b) (faults c) first.keeps second.keeps;
}

-- ---- after the message

pub reported : (outcome result : Outcome) (here new : HostModel) (due : Answer) (texts dues : List (List ℕ)) → ends outcome here ≡ due → texts ≡ dues →
    ends result new ≡ with_reports texts (with_message (ends outcome here)) → ends result new ≡ with_reports dues (with_message due)
reported outcome result here new due texts dues e same said =
    said ∙ ap (λ ts. with_reports ts (with_message (ends outcome here))) same ∙ ap (λ a. with_reports dues (with_message a)) e

pub reported-goes : (outcome result : Outcome) (here new : HostModel) (due : Answer) (texts dues : List (List ℕ)) → GoesAs due outcome here → UnlessWild due (texts ≡ dues) →
    ends result new ≡ with_reports texts (with_message (ends outcome here)) → IsFront here.output new.output → GoesAs (with_reports dues (with_message due)) result new
reported-goes outcome result here new (ends o m) texts dues e same said grows =
    goes-as (with_reports dues (with_message (ends o m))) result new
    (said ∙ ap (λ ts. with_reports ts (with_message (ends outcome here))) same ∙ ap (λ p. with_reports dues (with_message (ends p here))) e.0
    ∙ ap (λ n. with_reports dues (with_message (ends o n))) e.1)
reported-goes outcome result here new (meets_wild m) texts dues e same said grows = front-through m.output here.output new.output e grows

-- what is told of the work, with its message and the reports after it, is what the program comes to
pub watched-so : (kind : MachineKind) (words : List Word) (ws : List Watching) (m : HostModel) →
    with_reports (due_reports (order_of words) ws (product_traces kind words m)) (with_message (answer_by kind (work_plan words (order_of words)) m)) ≡ watched_product kind words ws m
watched-so kind words ws m = ap (with_reports (due_reports (order_of words) ws (product_traces kind words m))) (sym (product-is-said kind words m))

-- ---- without watchers

no-text : (b : Bool) → ◌≡◌ {A = List (List ℕ)} (cond b [] []) []
no-text true = refl
no-text false = refl

pub none-due : (r : Result Order WordsFault) (told : List Trace) → due_reports r [] told ≡ []
none-due (Err fault) told = refl
none-due (Ok o) told = no-text o.report

pub none-ever : (r : Result Order WordsFault) → due_reports r [] ≡ (λ told. [])
none-ever r = λ i told. none-due r told i

none-written : (a : Answer) → with_reports [] a ≡ a
unfolding reports_plan end_of
none-written (ends outcome m) = refl
none-written (meets_wild m) = refl

pub none-mean : {A : Type 0} (f : A → Watching) (xs : List A) → xs ≡ [] → map f xs ≡ []
none-mean f xs e = ap (map f) e

pub unwatched : (kind : MachineKind) (words : List Word) (ws : List Watching) (m : HostModel) → ws ≡ [] → watched_product kind words ws m ≡ product kind words m
unwatched kind words ws m e =
    ap (λ w. watched_product kind words w m) e ∙ ap (λ ts. with_reports ts (product kind words m)) (none-due (order_of words) (product_traces kind words m)) ∙ none-written (product kind words m)

-- where nobody watches none is due
pub unwatched-doing : (m n : HostModel) (result : Outcome) (work : ProgramPlan Outcome) (due : List Trace → List (List ℕ)) → due ≡ (λ told. []) → DoneAndTold m n result work due → DoneAndTold m n result work (λ told. [])
unwatched-doing m n result work due nothing d = subst (λ (f : List Trace → List (List ℕ)). DoneAndTold m n result work f) nothing d
