-- What watchers hear, and what is written of it.
use Rattle.std.proofs.Common.{IsTrue, ◌≡◌, ◌≢◌, ◌≤◌, ℕ, Bool, true, false, cond, List, [], ◌∷◌, length, refl, sym, ◌∙◌, ap, subst, arith, Ok, Err}
use Rattle.std.specs.Prelude.{Option, Result}
use Rattle.std.specs.List.{range_with_len}
use Rattle.mx_host.specs.HostModel.{HostModel, tells, contents}
use Rattle.mx_plan.specs.Calls.{host}
use Rattle.mx_plan.specs.Clauses.{CarriesOutOnHost}
use Rattle.mx_plan.specs.Plan.{Comes}
use Rattle.mx_plan.specs.Wild.{Course, course}
use Rattle.mx_core.specs.Bounds.{as_list_state}
use Rattle.mx_core.specs.State.{State}
use Rattle.mx_code.specs.declared.trace.Trace.{Trace}
use Rattle.mx_run.specs.WildRuns.{MachineKind, window_machine, list_machine}
use Rattle.mx_watch.specs.Hearing.{heard_by}
use Rattle.mx_watch.specs.Reporting.{in_places, reports_on, texts_now}
use Rattle.mx_watch.specs.Watching.{Watching}
use Rattle.mx_watch.specs.declared.telling.Report.{Report}
use Rattle.mx_watch.proofs.AllReported.{all-reported}
use Rattle.mx_watch.proofs.HeardBy.{by-hears, nothing-heard}
use Rattle.mx_watch.proofs.Watched.{either-way}
use Rattle.mx_watch.specs.WatchedRuns.{UnlessWild}
use Rattle.mx_words.specs.Orders.{order_of}
use Rattle.mx_words.specs.declared.order.Order.{Order}
use Rattle.mx_words.specs.declared.order.WordsFault.{WordsFault}
use Rattle.mx_files.specs.Answers.{Answer}
use Rattle.mx_outcome.specs.declared.outcome.Outcome.{Outcome}
use Rattle.mx_outcome.specs.declared.outcome.Outcome.TheVariants.{OutOfMemory}
use Rattle.mx_begin.specs.Arguments.{Word}
use Rattle.mx_begin.specs.BeginPlans.{begin_plan}
use Rattle.mx_begin.specs.declared.images.Form.{Form}
use Rattle.mx_top.specs.MachineWork.{WorkPlan, machine_plan}
use Rattle.mx_top.specs.Product.{ProgramPlan, ProgramWorld, program_goes, run_file, work_plan, answer_of, told_of, product_traces}
use Rattle.mx_top.specs.Reports.{AreAsked, due_reports, found_reports}
use Rattle.mx_top.specs.WorkClauses.{HearsPlan, HearsWork, told_by, work_by}
use Rattle.mx_top.proofs.Spoken.{traces-of}
use Rattle.mx_top.proofs.WorkParts.{begun_by, file-course}
use Rattle.mx_top.proofs.WorkPlans.{tells-then}

-- ---- what is heard

-- no traces, so that the watchers stay as they are
quiet : (ts : List Trace) (ws : List Watching) (earlier : List Report) → ts ≡ [] → (ws, earlier) ≡ heard_by ts ws earlier
quiet ts ws earlier none = nothing-heard ws earlier ∙ ap (λ h. heard_by h ws earlier) (sym none)

pub quiet-work : (a : Option HostModel) (s : State) (r : Outcome) (ws : List Watching) (earlier : List Report) (work : WorkPlan Outcome) → ((kind : MachineKind) (t : State) (m : HostModel) → told_of (work_by kind work t m) ≡ []) → HearsWork a s r ws ws earlier earlier work
quiet-work a s r ws earlier work none = (
  λ t ne. quiet _ ws earlier (none window_machine s (contents a)),
  λ t ne. either-way _ _ (quiet _ ws earlier (none list_machine (as_list_state s) (contents a))),
)

pub quiet-plan : (a : Option HostModel) (r : Outcome) (ws : List Watching) (earlier : List Report) (plan : ProgramPlan Outcome) → (IsTrue (tells a) → r ≢ OutOfMemory → (kind : MachineKind) → told_by kind plan (contents a) ≡ []) → HearsPlan a r ws ws earlier earlier plan
quiet-plan a r ws earlier plan none = (λ t ne. quiet _ ws earlier (none t ne window_machine), λ t ne. either-way _ _ (quiet _ ws earlier (none t ne list_machine)))

-- what is heard in a run that was begun is heard in the whole
pub begun-heard : (a b : Option HostModel) (r : Outcome) (ws left : List Watching) (earlier later : List Report) (words : List Word) (o : Order) (form : Form) (s : State) → tells b ≡ tells a → CarriesOutOnHost a b (Err OutOfMemory) (Ok s) (begin_plan window_machine words o form) →
    CarriesOutOnHost a b (Err OutOfMemory) (Ok (as_list_state s)) (begin_plan list_machine words o form) → HearsWork b s r ws left earlier later (machine_plan o) → HearsPlan a r ws left earlier later (run_file words o form)
begun-heard a b r ws left earlier later words o form s e first listed h = (
  λ t ne. h.0 (tells-then a b e t) ne ∙ ap (λ (c : Course Outcome ProgramWorld). heard_by (told_of c) ws earlier) (begun window_machine s (first t)),
  λ t ne. subst (λ (c : Course Outcome ProgramWorld). UnlessWild (answer_of c) ((left, later) ≡ heard_by (told_of c) ws earlier)) (begun list_machine (as_list_state s) (listed t)) (h.1 (tells-then a b e t) ne),
)
  where
    begun : (kind : MachineKind) (x : State) → Comes host (contents a) (contents b) (Err OutOfMemory) (Ok x) (begin_plan kind words o form) → work_by kind (machine_plan o) x (contents b) ≡ course (program_goes kind) (run_file words o form) (contents a, [])
    begun kind x c = ap (begun_by kind (machine_plan o)) (c.ending (λ y. absurd (cc))) ∙ sym (file-course kind words o form (contents a))

pub unbegun-heard : (a b : Option HostModel) (r : Outcome) (ws : List Watching) (earlier : List Report) (words : List Word) (o : Order) (form : Form) → CarriesOutOnHost a b (Err OutOfMemory) (Err r) (begin_plan window_machine words o form) →
    CarriesOutOnHost a b (Err OutOfMemory) (Err r) (begin_plan list_machine words o form) → HearsPlan a r ws ws earlier earlier (run_file words o form)
unbegun-heard a b r ws earlier words o form first listed = quiet-plan a r ws earlier (run_file words o form) by
  where
    none : (kind : MachineKind) → r ≢ OutOfMemory → Comes host (contents a) (contents b) (Err OutOfMemory) (Err r) (begin_plan kind words o form) → told_by kind (run_file words o form) (contents a) ≡ []
    none kind ne c = ap told_of (file-course kind words o form (contents a) ∙ ap (begun_by kind (machine_plan o)) (sym (c.ending (λ y. ne (cc)))))

    by : IsTrue (tells a) → r ≢ OutOfMemory → (kind : MachineKind) → told_by kind (run_file words o form) (contents a) ≡ []
    by t ne window_machine = none window_machine ne (first t)
    by t ne list_machine = none list_machine ne (listed t)

-- from no reports
pub from-none : (h : List Trace) (ws : List Watching) (K : List Report) (x : List Watching × List Report) → K ≡ [] → x ≡ heard_by h ws K → x ≡ heard_by h ws []
from-none h ws K x none e = e ∙ ap (heard_by h ws) none

pub left-of : (kind : MachineKind) (words : List Word) (m : HostModel) (ws left : List Watching) (K later : List Report) → K ≡ [] → (left, later) ≡ heard_by (told_by kind (work_plan words (order_of words)) m) ws K →
    left ≡ (heard_by (product_traces kind words m) ws []).0
left-of kind words m ws left K later none e =
    ap (λ (p : List Watching × List Report). p.0) (from-none (told_by kind (work_plan words (order_of words)) m) ws K (left, later) none e) ∙ ap (λ h. (heard_by h ws []).0) (sym (traces-of kind words m))

-- ---- the reports

-- those that are found are those that are due
found-of : (b : Bool) (h : List Trace) (ws left : List Watching) (kept : List Report) (count : ℕ) → count ≡ length ws → (left, kept) ≡ heard_by h ws [] →
    cond b (in_places (range_with_len 0 count) kept (texts_now left)) [] ≡ cond b (reports_on h ws) []
found-of true h ws left kept count long e = ap (λ n. in_places (range_with_len 0 n) kept (texts_now left)) long ∙ all-reported h ws left kept (by-hears h ws left [] kept e)
found-of false h ws left kept count long e = refl

found-by : (r : Result Order WordsFault) (h : List Trace) (ws left : List Watching) (kept : List Report) (count : ℕ) → count ≡ length ws →
    (left, kept) ≡ heard_by h ws [] → found_reports r count left kept ≡ due_reports r ws h
found-by (Err fault) h ws left kept count long e = refl
found-by (Ok o) h ws left kept count long e = found-of o.report h ws left kept count long e

pub found-due : (kind : MachineKind) (words : List Word) (ws left : List Watching) (kept : List Report) (m : HostModel) (count : ℕ) → count ≡ length ws →
    (left, kept) ≡ heard_by (told_by kind (work_plan words (order_of words)) m) ws [] → found_reports (order_of words) count left kept ≡ due_reports (order_of words) ws (product_traces kind words m)
found-due kind words ws left kept m count long e =
    found-by (order_of words) (told_by kind (work_plan words (order_of words)) m) ws left kept count long e ∙ ap (due_reports (order_of words) ws) (sym (traces-of kind words m))

-- where nobody watches there is none to find
unwatched-if : (b : Bool) (kept : List Report) (left : List (List ℕ)) → cond b (in_places (range_with_len 0 0) kept left) [] ≡ []
unfolding in_places
unwatched-if true kept left = refl
unwatched-if false kept left = refl

pub unwatched-found : (r : Result Order WordsFault) (count : ℕ) (left : List Watching) (kept : List Report) → count ≡ 0 → found_reports r count left kept ≡ []
unwatched-found (Err fault) count left kept e = refl
unwatched-found (Ok o) count left kept e = ap (λ n. cond o.report (in_places (range_with_len 0 n) kept (texts_now left)) []) e ∙ unwatched-if o.report kept (texts_now left)

pub ruleset unwatched_found = unwatched-found

-- where the words ask for reports, and somebody watches, some are due
due-if : (b : Bool) (h : List Trace) (ws : List Watching) → b ≡ true → 1 ≤ length ws → cond b (reports_on h ws) [] ≢ []
due-if true h [] e l = absurd (omega (arith, l))
due-if true h (w ∷ ws) e l = λ n. absurd (cc)
due-if false h ws e l = absurd (cc)

pub some-due : (r : Result Order WordsFault) (h : List Trace) (ws : List Watching) → AreAsked r → 1 ≤ length ws → due_reports r ws h ≢ []
some-due (Err fault) h ws a l = absurd a
some-due (Ok o) h ws a l = due-if o.report h ws a l
