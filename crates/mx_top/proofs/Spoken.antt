-- The product is its work with the message after it, and the message tells watchers nothing.
use Rattle.std.proofs.Common.{◌≡◌, ◌≢◌, inl, inr, List, [], refl, sym, ◌∙◌, ap, subst}
use Rattle.mx_host.specs.HostModel.{HostModel}
use Rattle.mx_plan.specs.Calls.{host}
use Rattle.mx_plan.specs.Plan.{returns, calls, end_of, Stops, Comes}
use Rattle.mx_plan.specs.Wild.{Course, ends, meets_wild, then_on, course}
use Rattle.mx_plan.proofs.WildLaws.{course_bind}
use Rattle.mx_code.specs.declared.trace.Trace.{Trace}
use Rattle.mx_run.specs.WildRuns.{MachineKind, window_machine}
use Rattle.mx_word.specs.Lists.{IsFront}
use Rattle.mx_words.specs.Orders.{order_of}
use Rattle.mx_files.specs.Answers.{plainly, output_of}
use Rattle.mx_outcome.specs.declared.outcome.Outcome.{Outcome}
use Rattle.mx_outcome.specs.declared.outcome.Outcome.TheVariants.{OutOfMemory}
use Rattle.mx_begin.specs.Arguments.{Word}
use Rattle.mx_top.specs.Product as page
use Rattle.mx_top.specs.Product.{ProgramCall, ProgramPlan, ProgramWorld, program, program_goes, host_in_program, on_machine, taking_turns, work_plan, product_course, product, product_traces, answer_of, told_of}
use Rattle.mx_top.specs.Telling.{message_plan, with_message}
use Rattle.mx_top.specs.WorkClauses.{PlanComes, answer_by, told_by}
use Rattle.mx_top.proofs.ProgramHeld.{work-front}
use Rattle.mx_top.proofs.WindowCourses.{program-window}
use Rattle.mx_top.proofs.WorkPlans.{host-course}

-- ---- the message

abbrev said-by : MachineKind → Course Outcome ProgramWorld → Course Outcome ProgramWorld
said-by kind c = then_on (λ outcome w. course (program_goes kind) (host_in_program (message_plan outcome)) w) c

pub plain-so : (t : Outcome × HostModel) → ends t.0 t.1 ≡ plainly t
plain-so (outcome, m) = refl

said-answer : (kind : MachineKind) (c : Course Outcome ProgramWorld) → answer_of (said-by kind c) ≡ with_message (answer_of c)
said-answer kind (ends outcome w) = ap answer_of (host-course kind (message_plan outcome) w) ∙ plain-so (end_of host (message_plan outcome) w.0)
said-answer kind (meets_wild w) = refl

said-told : (kind : MachineKind) (c : Course Outcome ProgramWorld) → told_of (said-by kind c) ≡ told_of c
said-told kind (ends outcome w) = ap told_of (host-course kind (message_plan outcome) w)
said-told kind (meets_wild w) = refl

product-by : (kind : MachineKind) (words : List Word) (m : HostModel) → product_course kind words m ≡ said-by kind (course (program_goes kind) (work_plan words (order_of words)) (m, []))
unfolding product_course page.product_plan
product-by kind words m = course_bind (program_goes kind) (λ outcome. host_in_program (message_plan outcome)) (work_plan words (order_of words)) (m, [])

pub product-is-said : (kind : MachineKind) (words : List Word) (m : HostModel) → product kind words m ≡ with_message (answer_by kind (work_plan words (order_of words)) m)
unfolding product
product-is-said kind words m = ap answer_of (product-by kind words m) ∙ said-answer kind (course (program_goes kind) (work_plan words (order_of words)) (m, []))

pub traces-of : (kind : MachineKind) (words : List Word) (m : HostModel) → product_traces kind words m ≡ told_by kind (work_plan words (order_of words)) m
unfolding product_traces
traces-of kind words m = ap told_of (product-by kind words m) ∙ said-told kind (course (program_goes kind) (work_plan words (order_of words)) (m, []))

-- ---- what comes of a plan over a window

pub answer-is : (m v : HostModel) (r : Outcome) (plan : ProgramPlan Outcome) → PlanComes m v r plan → r ≢ OutOfMemory → ends r v ≡ answer_by window_machine plan m
answer-is m v r plan c ne = ap (λ (t : Outcome × HostModel). ends t.0 t.1) (c.ending ne) ∙ sym (ap answer_of (program-window plan (m, [])))

pub front-is : (m v : HostModel) (r : Outcome) (plan : ProgramPlan Outcome) → PlanComes m v r plan → r ≡ OutOfMemory → IsFront v.output (output_of (answer_by window_machine plan m))
front-is m v r plan c e =
    let s = c.stopping e in
    subst (λ (x : Course Outcome ProgramWorld). IsFront v.output (output_of (answer_of x))) (sym (program-window plan (m, []))) (work-front plan (v, s.heard) (m, []) s.stops)

-- where it stops, of the traces nothing is said
lacks-any : (o : ProgramCall) (v : HostModel) (heard other : List Trace) (w : ProgramWorld) → program.Lacks o w (v, heard) → program.Lacks o w (v, other)
unfolding program
lacks-any (page.of_host o) v heard other w l = l
lacks-any (on_machine ring image args work) v heard other w l = l
lacks-any (taking_turns ring image schedule steps dump) v heard other w l = l

stops-any : (p : ProgramPlan Outcome) (v : HostModel) (heard other : List Trace) (w : ProgramWorld) → Stops program (v, heard) p w → Stops program (v, other) p w
unfolding Stops
stops-any (returns a) v heard other w h = absurd h
stops-any (calls o k) v heard other w (inl l) = inl (lacks-any o v heard other w l)
stops-any (calls o k) v heard other w (inr h) = inr (stops-any (k (program.act o w).0) v heard other (program.act o w).1 h)

pub plan-comes : (m v : HostModel) (r : Outcome) (plan : ProgramPlan Outcome) (told : List Trace) → told ≡ told_by window_machine plan m → PlanComes m v r plan → Comes program (m, []) (v, told) OutOfMemory r plan
plan-comes m v r plan told is c = record {
  ending = λ ne.
      ap (λ (t : Outcome × HostModel). (t.0, (t.1, told))) (c.ending ne)
      ∙ ap (λ (ts : List Trace). ((end_of program plan (m, [])).0, ((end_of program plan (m, [])).1.0, ts))) (is ∙ ap told_of (program-window plan (m, [])));
  stopping = λ e. let s = c.stopping e in stops-any plan v s.heard told (m, []) s.stops;
}
