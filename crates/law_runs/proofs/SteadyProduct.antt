-- Where no call that is made fails, the program does and answers the same whatever the count of calls, and whatever the
-- list of those that fail.
use Rattle.std.proofs.Common.{◌≡◌, ◌⊎◌, inl, inr, List, [], Bool, refl, sym, ◌∙◌, ap, Ok, Err}
use Rattle.std.specs.Prelude.{Result}
use Rattle.mx_host.specs.HostModel.{HostModel}
use Rattle.mx_host.specs.HostAnswer.{Then}
use Rattle.mx_host.proofs.Still.{still}
use Rattle.mx_code.specs.declared.trace.Trace.{Trace}
use Rattle.mx_core.specs.State.{State}
use Rattle.mx_plan.specs.Calls.{HostSays, host}
use Rattle.mx_plan.specs.Counts.{NoneFailed, unscheduled, without_count}
use Rattle.mx_plan.specs.Plan.{returns, calls, end_of}
use Rattle.mx_plan.specs.Wild.{Course, ends, meets_wild, world_of, course}
use Rattle.mx_plan.proofs.Spared.{Spares, uncalled, after, plan-spared, uncounted-of, still-same}
use Rattle.mx_plan.proofs.WildLaws.{course_still, SparedCourse, course_spared}
use Rattle.mx_run.specs.WildRuns.{MachineKind}
use Rattle.mx_multi.specs.JointTurns.{JointWorld}
use Rattle.mx_multi.specs.MultiPlans.{turns_plan}
use Rattle.mx_multi.specs.Turns.{multi_goes, turns}
use Rattle.mx_multi.specs.declared.end.MultiEnd.{MultiEnd}
use Rattle.mx_files.specs.Answers.{Answer, plainly}
use Rattle.mx_begin.specs.Arguments.{Word}
use Rattle.mx_begin.specs.Begun.{started}
use Rattle.mx_outcome.specs.declared.outcome.Outcome.{Outcome}
use Rattle.mx_top.specs.MachineWork.{Work, WorkPlan, work_goes}
use Rattle.mx_top.specs.Product.{ProgramPlan, ProgramCall, of_host, on_machine, taking_turns, ProgramSays, ProgramWorld, program_goes, at_start, joint_at_start, worked, work_on, turned, product_plan, product_course, answer_of, product, told_of, product_traces}
use Rattle.mx_top.specs.Telling.{message_plan, with_message}
use Rattle.mx_top.specs.WorkClauses.{answer_by}
use Rattle.law_runs.specs.Detour.{host_of, answer_uncounted, answer_unscheduled}
use Rattle.law_runs.proofs.SteadyTurns.{joint_host, still_joint, turns-spared}
use Rattle.law_runs.proofs.SteadyWork.{left, left-spared, work_host, work_still, work_seen, work-spared}

-- ---- the calls of the program

abbrev program_host : ProgramWorld → HostModel
program_host w = w.0

abbrev program_still : ProgramWorld → ProgramWorld
program_still w = (still w.0, w.1)

abbrev worked_left : (Outcome × Work) ⊎ ProgramWorld → Course Outcome ProgramWorld
worked_left (inl (outcome, w)) = ends outcome (w.host, w.told)
worked_left (inr w) = meets_wild w

worked-spared : {m : HostModel} (c d : Course Outcome Work) → Spares m (work_host (world_of c)) (worked_left (left work_seen (course_still work_still c))) (worked_left (left work_seen d)) →
    Spares m (program_host (world_of (worked c))) (course_still program_still (worked c)) (worked d)
worked-spared (ends a w) (ends b v) h = h
worked-spared (ends a w) (meets_wild v) h = h
worked-spared (meets_wild w) (ends b v) h = h
worked-spared (meets_wild w) (meets_wild v) h = h

machine-spared : (kind : MachineKind) (work : WorkPlan Outcome) (r : Result State Outcome) (w : ProgramWorld) → SparedCourse program_host program_still w (work_on kind work r w) (work_on kind work r (program_still w))
machine-spared kind work (Err outcome) w = uncalled
machine-spared kind work (Ok s) w =
    worked-spared (course (work_goes kind) work (at_start s w)) (course (work_goes kind) work (at_start s (program_still w)))
    (after worked_left (left-spared work_seen work_host work_still (work_goes kind) (work-spared kind) work (at_start s w)) uncalled)

turned-case : (dump : Bool) (told : List Trace) (c : Course MultiEnd JointWorld) →
    Spares (joint_host (world_of c)) (program_host (world_of (turned dump told c))) (course_still program_still (turned dump told c)) (turned dump told (course_still still_joint c))
turned-case dump told (ends end w) = uncalled
turned-case dump told (meets_wild w) = uncalled

call-spared : (kind : MachineKind) (o : ProgramCall) (w : ProgramWorld) → SparedCourse program_host program_still w (program_goes kind o w) (program_goes kind o (program_still w))
unfolding end_of turns
call-spared kind (of_host o) w =
    let say : Then (HostSays o) → Course (ProgramSays (of_host o)) ProgramWorld = λ t. ends t.0 (t.1, w.1) in
    after say (plan-spared (calls o (λ r. returns r)) w.0) uncalled
call-spared kind (on_machine ring image arguments work) w = machine-spared kind work (started kind ring image arguments) w
call-spared kind (taking_turns ring image schedule steps dump) w =
    let start : JointWorld = (joint_at_start kind ring image schedule, w.0) in
    after (turned dump w.1) (turns-spared kind schedule steps schedule start) (turned-case dump w.1 (course (multi_goes kind) (turns_plan schedule steps schedule) start))

-- ---- answers

-- an answer with the still model in place of its own
abbrev pub answer_still : Answer → Answer
answer_still (ends outcome m) = ends outcome (still m)
answer_still (meets_wild m) = meets_wild (still m)

abbrev pub SparedAnswers : HostModel → Answer → Answer → Type 0
SparedAnswers m a b = Spares m (host_of a) (answer_still a) b

answer-case : (c : Course Outcome ProgramWorld) → Spares (program_host (world_of c)) (host_of (answer_of c)) (answer_still (answer_of c)) (answer_of (course_still program_still c))
answer-case (ends outcome w) = uncalled
answer-case (meets_wild w) = uncalled

told-case : (c : Course Outcome ProgramWorld) → Spares (program_host (world_of c)) (host_of (answer_of c)) (told_of c) (told_of (course_still program_still c))
told-case (ends outcome w) = uncalled
told-case (meets_wild w) = uncalled

product-spared : (kind : MachineKind) (words : List Word) (m : HostModel) → SparedCourse program_host program_still (m, []) (product_course kind words m) (product_course kind words (still m))
unfolding product_course
product-spared kind words m = course_spared program_host program_still (program_goes kind) (call-spared kind) (product_plan words) (m, [])

pub product-steady : (kind : MachineKind) (words : List Word) (m : HostModel) → SparedAnswers m (product kind words m) (product kind words (still m))
unfolding product
product-steady kind words m = after answer_of (product-spared kind words m) (answer-case (product_course kind words m))

traces-steady : (kind : MachineKind) (words : List Word) (m : HostModel) → Spares m (host_of (product kind words m)) (product_traces kind words m) (product_traces kind words (still m))
unfolding product product_traces
traces-steady kind words m = after told_of (product-spared kind words m) (told-case (product_course kind words m))

-- ---- a plan, and the message

pub plan-steady : (kind : MachineKind) (plan : ProgramPlan Outcome) (m : HostModel) → SparedAnswers m (answer_by kind plan m) (answer_by kind plan (still m))
plan-steady kind plan m = after answer_of (course_spared program_host program_still (program_goes kind) (call-spared kind) plan (m, [])) (answer-case (course (program_goes kind) plan (m, [])))

said-case : (t : Then Outcome) → Spares t.1 (host_of (plainly t)) (answer_still (plainly t)) (plainly (t.0, still t.1))
said-case (outcome, m) = uncalled

with-case : (a : Answer) → SparedAnswers (host_of a) (with_message a) (with_message (answer_still a))
with-case (ends outcome m) = after plainly (plan-spared (message_plan outcome) m) (said-case (end_of host (message_plan outcome) m))
with-case (meets_wild m) = uncalled

pub message-steady : {m : HostModel} (a b : Answer) → SparedAnswers m a b → SparedAnswers m (with_message a) (with_message b)
message-steady a b h = after with_message h (with-case a)

-- ---- two models that differ in the number of calls and the list of those that fail

pub answer-unscheduled : (a : Answer) → answer_unscheduled a ≡ answer_unscheduled (answer_still a)
answer-unscheduled (ends outcome m) = refl
answer-unscheduled (meets_wild m) = refl

pub product-same : (kind : MachineKind) (words : List Word) (m n : HostModel) → unscheduled m ≡ unscheduled n →
    NoneFailed m (host_of (product kind words m)) → NoneFailed n (host_of (product kind words n)) →
    answer_unscheduled (product kind words m) ≡ answer_unscheduled (product kind words n)
product-same kind words m n e h k =
    let a = (product-steady kind words m).same h in
    let b = (product-steady kind words n).same k in
    answer-unscheduled (product kind words m) ∙ ap answer_unscheduled (a ∙ ap (product kind words) (still-same m n e) ∙ sym b) ∙ sym (answer-unscheduled (product kind words n))

pub traces-same : (kind : MachineKind) (words : List Word) (m n : HostModel) → unscheduled m ≡ unscheduled n →
    NoneFailed m (host_of (product kind words m)) → NoneFailed n (host_of (product kind words n)) → product_traces kind words m ≡ product_traces kind words n
traces-same kind words m n e h k = (traces-steady kind words m).same h ∙ ap (product_traces kind words) (still-same m n e) ∙ sym ((traces-steady kind words n).same k)

pub product-list : (kind : MachineKind) (words : List Word) (m : HostModel) → (host_of (product kind words m)).failing ≡ m.failing
product-list kind words m = (product-steady kind words m).list

pub ruleset steady = (product-list)

-- ---- what is the same in the still model is the same but for the number of calls, where the lists are the same

pub answers-same : (a b : Answer) → answer_still a ≡ answer_still b → (host_of a).failing ≡ (host_of b).failing → answer_uncounted a ≡ answer_uncounted b
answers-same (ends x m) (ends y n) e h =
    let same : x ≡ y = cc in
    let models : still m ≡ still n = cc in
    let model = uncounted-of m n models h in
    ap (λ z. ends z (without_count m)) same ∙ ap (ends y) model
answers-same (meets_wild m) (meets_wild n) e h =
    let models : still m ≡ still n = cc in
    ap meets_wild (uncounted-of m n models h)
answers-same (ends x m) (meets_wild n) e h = absurd (cc)
answers-same (meets_wild m) (ends y n) e h = absurd (cc)
