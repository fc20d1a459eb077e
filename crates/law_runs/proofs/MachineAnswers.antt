-- What the page comes to for a machine that started: its run or its session, and the plan of the host that follows.
use Rattle.std.proofs.Common.{◌≡◌, ℕ, List, [], Bool, true, false, cond, take, refl, ◌∙◌, ap, ◌&&◌}
use Rattle.std.specs.Prelude.{◌==◌, not}
use Rattle.mx_host.specs.HostModel.{HostModel}
use Rattle.mx_host.specs.HostAnswer.{Then}
use Rattle.mx_plan.specs.Calls.{host, HostPlan, need}
use Rattle.mx_plan.specs.Plan.{returns, bind, end_of, end_after}
use Rattle.mx_plan.specs.Wild.{Course, ends, meets_wild, then_on, course}
use Rattle.mx_plan.proofs.Plans.{end_bind}
use Rattle.mx_code.specs.declared.trace.Trace.{Trace}
use Rattle.mx_core.specs.State.{State}
use Rattle.mx_run.specs.RunPlans.{RunWorld}
use Rattle.mx_run.specs.Runs.{no_flags}
use Rattle.mx_run.specs.WildRuns.{MachineKind, run_by}
use Rattle.mx_run.specs.declared.end.End.{End}
use Rattle.mx_run.specs.declared.end.End.TheVariants.{Halted}
use Rattle.mx_back.specs.History.{states_kept}
use Rattle.mx_back.specs.KeptRuns.{turns_of}
use Rattle.mx_con.specs.Session.{session}
use Rattle.mx_con.specs.SessionPlans.{SessionWorld}
use Rattle.mx_con.specs.declared.end.SessionEnd.{SessionEnd}
use Rattle.mx_watch.specs.Traces.{traces}
use Rattle.mx_words.specs.declared.order.Order.{Order}
use Rattle.mx_files.specs.Answers.{Answer, plainly, after_lines}
use Rattle.mx_files.specs.Clauses.{part_of}
use Rattle.mx_files.specs.FilePlans.{lines_plan}
use Rattle.mx_files.specs.Writing.{lines_put}
use Rattle.mx_files.proofs.FileEnds.{lines-end}
use Rattle.mx_outcome.specs.Kinds.{leaves_machine}
use Rattle.mx_outcome.specs.declared.outcome.Outcome.{Outcome}
use Rattle.mx_outcome.specs.declared.outcome.Outcome.TheVariants.{Done}
use Rattle.mx_dump.specs.Dump.{dump_lines}
use Rattle.mx_top.specs.Endings as end
use Rattle.mx_top.specs.MachineWork as work
use Rattle.mx_top.specs.MachineWork.{Work, WorkPlan, work_goes, calling, keeping}
use Rattle.mx_top.specs.Product.{at_start, worked, answer_of, told_of}
use Rattle.mx_begin.specs.Ends.{outcome_of}
use Rattle.mx_top.specs.Runs.{session_outcome}
use Rattle.mx_top.specs.Telling.{telling, written_with}
use Rattle.mx_top.specs.WorkClauses.{work_by}
use Rattle.mx_top.proofs.Followed.{ComesTo, beside, to-dumped, to-back}
use Rattle.mx_top.proofs.ListedPlans.{run-told, reported-told, kept-told, session-told}
use Rattle.mx_top.proofs.MachinePlans.{Follow, Made, told-taking}
use Rattle.mx_top.proofs.Spoken.{plain-so}

-- ---- a run, and a plan of the host after it

abbrev pub After : Type 0
After = Outcome → State → HostPlan Outcome

abbrev pub run_answer : ℕ → After → Course End RunWorld → Answer
run_answer n more (ends e w) = plainly (end_of host (more (outcome_of n e) w.0) w.1)
run_answer n more (meets_wild w) = meets_wild w.1

abbrev pub session_told : ℕ → After → Course SessionEnd SessionWorld → Answer
session_told n more (ends e w) = plainly (end_of host (more (session_outcome n e) w.0.0) w.0.1)
session_told n more (meets_wild w) = meets_wild w.0.1

beside-answer : (told : List Trace) (t : Outcome × HostModel) → answer_of (beside told t) ≡ plainly t
beside-answer told t = plain-so t

-- work that comes to a plan of the host
pub plan-answer : (kind : MachineKind) (plan : WorkPlan Outcome) (w : Work) (p : HostPlan Outcome) → ComesTo plan w p → answer_of (worked (course (work_goes kind) plan w)) ≡ plainly (end_of host p w.host)
plan-answer kind plan w p to = ap answer_of (to.goes kind) ∙ beside-answer w.told (end_of host p w.host)

pub run-answers : (kind : MachineKind) (n : ℕ) (plan : Outcome → WorkPlan Outcome) (follow : Follow) (w : Work) (c : Course End RunWorld) → Made plan follow →
    answer_of (worked (then_on (λ e v. course (work_goes kind) (plan (outcome_of n e)) v) (work.ran w c))) ≡ run_answer n (λ o s. follow o s w.kept) c
run-answers kind n plan follow w (ends e v) made =
    let left : Work = record w { machine = v.0; host = v.1 } in
    plan-answer kind (plan (outcome_of n e)) left (follow (outcome_of n e) v.0 w.kept) (made (outcome_of n e) left)
run-answers kind n plan follow w (meets_wild v) made = refl

pub session-answers : (kind : MachineKind) (n : ℕ) (plan : Outcome → WorkPlan Outcome) (follow : Follow) (w : Work) (c : Course SessionEnd SessionWorld) → Made plan follow →
    answer_of (worked (then_on (λ e v. course (work_goes kind) (plan (session_outcome n e)) v) (work.sat w c))) ≡ session_told n (λ o s. follow o s w.kept) c
session-answers kind n plan follow w (ends e v) made =
    let left : Work = record w { machine = v.0.0; host = v.0.1 } in
    plan-answer kind (plan (session_outcome n e)) left (follow (session_outcome n e) v.0.0 w.kept) (made (session_outcome n e) left)
session-answers kind n plan follow w (meets_wild v) made = refl

-- ---- a machine, by what an order says of it

-- the states that a run keeps
abbrev kept_by : ℕ → State → HostModel → List State
kept_by steps s m = states_kept (turns_of steps s m) []

-- what it comes to, whether reports are asked for or not: of a run, by whether no step is taken back; and of a run or a session
abbrev run_by_last : MachineKind → ℕ → ℕ → Bool → State → HostModel → Bool → Answer
run_by_last kind steps last dump s m none =
    cond none (run_answer steps (end.dumped_plan dump) (run_by kind steps no_flags false s m))
    (run_answer steps (λ outcome t. end.back_plan dump outcome (take last (kept_by steps s m)) t) (run_by kind steps no_flags false s m))

abbrev pub machine_by : MachineKind → ℕ → ℕ → Bool → State → HostModel → Bool → Answer
machine_by kind steps last dump s m seated =
    cond seated (session_told steps (end.dumped_plan dump) (session kind steps s no_flags m)) (run_by_last kind steps last dump s m (last == 0))

stepped-answer : (kind : MachineKind) (o : Order) (s : State) (m : HostModel) → answer_of (work_by kind (work.stepped_plan o) s m) ≡ run_by_last kind o.steps o.last o.dump s m true
unfolding course
stepped-answer kind o s m = run-answers kind o.steps (work.dumped_plan o.dump) (λ outcome t kept. end.dumped_plan o.dump outcome t) (at_start s (m, [])) (run_by kind o.steps no_flags false s m) (to-dumped o.dump)

reported-answer : (kind : MachineKind) (o : Order) (s : State) (m : HostModel) → answer_of (work_by kind (work.reported_plan o) s m) ≡ run_by_last kind o.steps o.last o.dump s m true
unfolding course
reported-answer kind o s m =
    run-answers kind o.steps (work.dumped_plan o.dump) (λ outcome t kept. end.dumped_plan o.dump outcome t) (at_start s (m, traces kind o.steps s m)) (run_by kind o.steps no_flags false s m) (to-dumped o.dump)

kept-answer : (kind : MachineKind) (o : Order) (s : State) (m : HostModel) → answer_of (work_by kind (work.kept_plan o) s m) ≡ run_by_last kind o.steps o.last o.dump s m false
unfolding course bind work.host_in_work need host
kept-answer kind o s m =
    run-answers kind o.steps (work.back_plan o) (λ outcome t kept. end.back_plan o.dump outcome (take o.last kept) t) (record (at_start s (m, [])) { kept = kept_by o.steps s m }) (run_by kind o.steps no_flags false s m) (to-back o)

-- a session of the console
pub sitting-answer : (kind : MachineKind) (o : Order) (s : State) (m : HostModel) → answer_of (work_by kind (work.sitting_plan o) s m) ≡ machine_by kind o.steps o.last o.dump s m true
unfolding course
sitting-answer kind o s m = session-answers kind o.steps (work.dumped_plan o.dump) (λ outcome t kept. end.dumped_plan o.dump outcome t) (at_start s (m, [])) (session kind o.steps s no_flags m) (to-dumped o.dump)

pub machine-answer : (kind : MachineKind) (o : Order) (s : State) (m : HostModel) → answer_of (work_by kind (work.machine_plan o) s m) ≡ machine_by kind o.steps o.last o.dump s m o.interactive
unfolding work.machine_plan
machine-answer kind o s m = by o.interactive (o.last == 0) o.report
  where
    by : (b d c : Bool) → answer_of (work_by kind (cond b (work.sitting_plan o) (cond (not d) (work.kept_plan o) (cond c (work.reported_plan o) (work.stepped_plan o)))) s m) ≡
        cond b (machine_by kind o.steps o.last o.dump s m true) (run_by_last kind o.steps o.last o.dump s m d)
    by true d c = sitting-answer kind o s m
    by false false c = kept-answer kind o s m
    by false true true = reported-answer kind o s m
    by false true false = stepped-answer kind o s m

-- a run, by which no step is taken back
pub forward-answer : (kind : MachineKind) (o : Order) (s : State) (m : HostModel) → o.interactive ≡ false → o.last ≡ 0 →
    answer_of (work_by kind (work.machine_plan o) s m) ≡ run_answer o.steps (end.dumped_plan o.dump) (run_by kind o.steps no_flags false s m)
forward-answer kind o s m i none =
    machine-answer kind o s m ∙ ap (machine_by kind o.steps o.last o.dump s m) i ∙ ap (λ n. machine_by kind o.steps n o.dump s m false) none

-- what watchers are told of it
abbrev pub heard_of : MachineKind → ℕ → State → HostModel → Bool → Bool → Bool → List Trace
heard_of kind steps s m seated none asked = cond seated [] (cond (not none) [] (cond asked (traces kind steps s m) []))

pub machine-heard : (kind : MachineKind) (o : Order) (s : State) (m : HostModel) → told_of (work_by kind (work.machine_plan o) s m) ≡ heard_of kind o.steps s m o.interactive (o.last == 0) o.report
unfolding work.machine_plan
machine-heard kind o s m = by o.interactive (o.last == 0) o.report
  where
    dumps : Made (work.dumped_plan o.dump) (λ outcome t kept. end.dumped_plan o.dump outcome t)
    dumps = to-dumped o.dump

    by : (b d c : Bool) → told_of (work_by kind (cond b (work.sitting_plan o) (cond (not d) (work.kept_plan o) (cond c (work.reported_plan o) (work.stepped_plan o)))) s m) ≡ heard_of kind o.steps s m b d c
    by true d c = session-told kind o.steps s m (work.dumped_plan o.dump) (λ outcome t kept. end.dumped_plan o.dump outcome t) dumps
    by false false c =
        told-taking kind (calling (keeping o.steps) (λ e. work.back_plan o (outcome_of o.steps e))) s m
        ∙ kept-told kind o.steps s m (work.back_plan o) (λ outcome t kept. end.back_plan o.dump outcome (take o.last kept) t) (to-back o)
    by false true true = reported-told kind o.steps s m (work.dumped_plan o.dump) (λ outcome t kept. end.dumped_plan o.dump outcome t) dumps
    by false true false = run-told kind o.steps s m (work.dumped_plan o.dump) (λ outcome t kept. end.dumped_plan o.dump outcome t) dumps

-- ---- a program that halts: no step is taken back

halted-by : (kind : MachineKind) (steps last : ℕ) (dump : Bool) (s ended : State) (m after : HostModel) (status : ℕ) (none : Bool) → run_by kind steps no_flags false s m ≡ ends (Halted status) (ended, after) →
    run_by_last kind steps last dump s m none ≡ plainly (end_of host (end.dumped_plan dump (Done status) ended) after)
unfolding end.back_plan
halted-by kind steps last dump s ended m after status true h = ap (run_answer steps (end.dumped_plan dump)) h
halted-by kind steps last dump s ended m after status false h = ap (run_answer steps (λ outcome t. end.back_plan dump outcome (take last (kept_by steps s m)) t)) h

pub halted-answer : (kind : MachineKind) (o : Order) (s ended : State) (m after : HostModel) (status : ℕ) → o.interactive ≡ false → run_by kind o.steps no_flags false s m ≡ ends (Halted status) (ended, after) →
    answer_of (work_by kind (work.machine_plan o) s m) ≡ plainly (end_of host (end.dumped_plan o.dump (Done status) ended) after)
halted-answer kind o s ended m after status i h =
    machine-answer kind o s m ∙ ap (machine_by kind o.steps o.last o.dump s m) i ∙ halted-by kind o.steps o.last o.dump s ended m after status (o.last == 0) h

-- ---- lines after an outcome

written-end : (outcome : Outcome) (t : Then Bool) → plainly (end_after host (λ r. returns (written_with outcome r)) (part_of t)) ≡ after_lines outcome t
unfolding end_of
written-end outcome (true, m) = refl
written-end outcome (false, m) = refl

pub telling-end : (outcome : Outcome) (lines : List (List ℕ)) (m : HostModel) → plainly (end_of host (telling outcome lines) m) ≡ after_lines outcome (lines_put lines m)
unfolding telling
telling-end outcome lines m =
    ap plainly (end_bind host (λ r. returns (written_with outcome r)) (lines_plan lines) m
    ∙ ap (end_after host (λ r. returns (written_with outcome r))) (lines-end lines m)) ∙ written-end outcome (lines_put lines m)

-- the dump
pub dumped-end : (dump : Bool) (outcome : Outcome) (s : State) (m : HostModel) →
    plainly (end_of host (end.dumped_plan dump outcome s) m) ≡ cond (dump && leaves_machine outcome) (after_lines outcome (lines_put (dump_lines s) m)) (ends outcome m)
unfolding end.dumped_plan end_of
dumped-end dump outcome s m = by (dump && leaves_machine outcome)
  where
    by : (b : Bool) → plainly (end_of host (cond b (telling outcome (dump_lines s)) (returns outcome)) m) ≡ cond b (after_lines outcome (lines_put (dump_lines s) m)) (ends outcome m)
    by true = telling-end outcome (dump_lines s) m
    by false = refl
