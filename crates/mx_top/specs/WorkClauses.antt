-- The words of clauses over the work of the program. `old` and `new` are what the host told before and after.
use Rattle.std.specs.Prelude.{ℕ, ◌≡◌, ◌≢◌, ◌⊎◌, IsTrue, Bool, true, false, List, [], Option, Result, Ok, Err}
use Rattle.mx_host.specs.HostModel.{HostModel, tells, contents, slot_at, to_errors}
use Rattle.mx_host.specs.Keeping.{Keeps, KeepsOutput}
use Rattle.mx_host.specs.declared.faults.HostFault.{HostFault}
use Rattle.mx_host.specs.declared.faults.HostFault.TheVariants as slot
use Rattle.mx_plan.specs.Plan.{Comes, Stops, end_of}
use Rattle.mx_plan.specs.Calls.{host, HostPlan}
use Rattle.mx_plan.specs.Clauses.{CarriesOutOnHost}
use Rattle.mx_plan.specs.Wild.{Course, course}
use Rattle.mx_code.specs.declared.trace.Trace.{Trace}
use Rattle.mx_core.specs.Bounds.{as_list_state}
use Rattle.mx_core.specs.State.{State}
use Rattle.mx_run.specs.WildRuns.{MachineKind, window_machine, list_machine}
use Rattle.mx_watch.specs.Watching.{Watching}
use Rattle.mx_watch.specs.declared.telling.Report.{Report}
use Rattle.mx_files.specs.Answers.{Answer, AnswersAsList}
use Rattle.mx_outcome.specs.declared.outcome.Outcome.{Outcome}
use Rattle.mx_outcome.specs.declared.outcome.Outcome.TheVariants.{OutOfMemory}
use Rattle.mx_files.specs.Failing.{FailsOnlyBy}
use Rattle.mx_top.specs.MachineWork.{Work, WorkPlan, WorkStops, working}
use Rattle.mx_top.specs.Product.{ProgramPlan, ProgramWorld, program, program_goes, at_start, work_on, answer_of, told_of}
use Rattle.mx_top.specs.Reports.{HearsBoth, HearsByKind}
use Rattle.mx_top.specs.Telling.{message_plan, reports_plan}

-- ---- A PLAN OF THE PROGRAM

abbrev pub host_of : Outcome × ProgramWorld → Outcome × HostModel
host_of t = (t.0, t.1.0)

-- it may stop with this host
pub record PlanStops (plan : ProgramPlan Outcome) (m v : HostModel) : Type 0 where
  pub heard : List Trace
  pub stops : Stops program (v, heard) plan (m, [])

-- What comes of it, as `Comes` says it, of a host and an outcome alone: what watchers heard is left out.
pub record PlanComes (old new : HostModel) (result : Outcome) (plan : ProgramPlan Outcome) : Type 0 where
  pub ending : result ≢ OutOfMemory → (result, new) ≡ host_of (end_of program plan (old, []))
  pub stopping : result ≡ OutOfMemory → PlanStops plan old new

-- a call carries out such a plan, where the host tells its contents
abbrev pub CarriesOutProgram : Option HostModel → Option HostModel → Outcome → ProgramPlan Outcome → Type 0
CarriesOutProgram old new result plan = IsTrue (tells old) → PlanComes (contents old) (contents new) result plan

-- what it comes to by the kind of its machines, and what watchers are told
abbrev pub answer_by : MachineKind → ProgramPlan Outcome → HostModel → Answer
answer_by kind plan m = answer_of (course (program_goes kind) plan (m, []))

abbrev pub told_by : MachineKind → ProgramPlan Outcome → HostModel → List Trace
told_by kind plan m = told_of (course (program_goes kind) plan (m, []))

-- So it is over a window of registers; and over the unbounded list that this represents, up to what is wild.
pub record CarriesOutProgramOnBoth (old new : Option HostModel) (result : Outcome) (plan : ProgramPlan Outcome) : Type 0 where
  pub window : CarriesOutProgram old new result plan
  pub list : AnswersAsList old new result (λ m. answer_by list_machine plan m)

-- A part of the program is done, of the host before and after: `Both` says of its plan that it is carried out over both, and it fails
-- only so.
pub record DoesProgramPart {H : Type 0} (told : H → Option HostModel) (faults : H → ℕ) (old new : H) (result : Outcome) (Both : Type 0) : Type 0 where
  pub both : Both
  pub causes : FailsOnlyBy told faults old new result

abbrev pub DoesProgram : {H : Type 0} → (H → Option HostModel) → (H → ℕ) → H → H → Outcome → ProgramPlan Outcome → Type 0
DoesProgram told faults old new result plan =
    DoesProgramPart told faults old new result (CarriesOutProgramOnBoth (told old) (told new) result plan)

abbrev pub HearsPlan : Option HostModel → Outcome → List Watching → List Watching → List Report → List Report → ProgramPlan Outcome → Type 0
HearsPlan old result watchers left earlier later plan =
    HearsByKind old result watchers left earlier later (λ kind m. answer_by kind plan m) (λ kind m. told_by kind plan m)

-- ---- WORK ON A MACHINE, which is dropped then

abbrev pub left_of : Outcome × Work → Outcome × HostModel
left_of t = (t.0, t.1.host)

pub record WorkComes (w : Work) (new : HostModel) (result : Outcome) (work : WorkPlan Outcome) : Type 0 where
  pub ending : result ≢ OutOfMemory → (result, new) ≡ left_of (end_of working work w)
  pub stopping : result ≡ OutOfMemory → WorkStops work w new

-- from a machine as it starts
abbrev pub work_by : MachineKind → WorkPlan Outcome → State → HostModel → Course Outcome ProgramWorld
work_by kind work s m = work_on kind work (Ok s) (m, [])

pub record CarriesOutWorkOnBoth (old new : Option HostModel) (s : State) (result : Outcome) (work : WorkPlan Outcome) : Type 0 where
  pub window : IsTrue (tells old) → WorkComes (at_start s (contents old, [])) (contents new) result work
  pub list : AnswersAsList old new result (λ m. answer_of (work_by list_machine work (as_list_state s) m))

abbrev pub DoesWork : {H : Type 0} → (H → Option HostModel) → (H → ℕ) → H → H → State → Outcome → WorkPlan Outcome → Type 0
DoesWork told faults old new s result work =
    DoesProgramPart told faults old new result (CarriesOutWorkOnBoth (told old) (told new) s result work)

abbrev pub HearsWork : Option HostModel → State → Outcome → List Watching → List Watching → List Report → List Report → WorkPlan Outcome → Type 0
HearsWork old s result watchers left earlier later work =
    HearsBoth old result watchers left earlier later (λ m. told_of (work_by window_machine work s m))
    (λ m. answer_of (work_by list_machine work (as_list_state s) m)) (λ m. told_of (work_by list_machine work (as_list_state s) m))

-- ---- WHAT FOLLOWS

-- What follows an outcome: nothing, where that is that there was no memory, and else a plan of the host.
pub record DoesNext {H : Type 0} (told : H → Option HostModel) (faults : H → ℕ) (old new : H) (outcome result : Outcome) (work : HostPlan Outcome) : Type 0 where
  pub lacked : outcome ≡ OutOfMemory → (result ≡ OutOfMemory) × (new ≡ old)
  pub plan : outcome ≢ OutOfMemory → CarriesOutOnHost (told old) (told new) OutOfMemory result work
  pub causes : FailsOnlyBy told faults old new result

-- Over such a host an outcome is told: the plan comes to its end, or memory runs out in it, which is then the outcome. Its own
-- end may be that too: that there was no memory is told as any other outcome.
abbrev pub Tells : HostModel → HostModel → Outcome → HostPlan Outcome → Type 0
Tells old new result plan = ((result, new) ≡ end_of host plan old) ⊎ ((result ≡ OutOfMemory) × Stops host new plan old)

abbrev pub TellsBy : Option HostModel → Option HostModel → Outcome → HostPlan Outcome → Type 0
TellsBy old new result plan = IsTrue (tells old) → Tells (contents old) (contents new) result plan

-- What is written to the tool's standard error, of the host before and after, over every host: where slot 260 leads there, standard
-- output is what it was; and what every function keeps is kept.
pub record KeepsSaying {H : Type 0} (told : H → Option HostModel) (faults : H → ℕ) (old new : H) : Type 0 where
  pub output : slot_at (contents (told old)) 260 ≡ to_errors → KeepsOutput (told old) (told new)
  pub keeps : Keeps (told old) (told new) (faults old) (faults new)

-- whether a write lacked memory
abbrev pub is_lacking : Result (Unit {0}) HostFault → Bool
is_lacking (Err slot.OutOfMemory) = true
is_lacking other = false

-- The outcome is told by its message, and reports follow that. Where the message finds no memory, that is the outcome from
-- there on.
pub record Telling (left new : HostModel) (result said : Outcome) (texts : List (List ℕ)) : Type 0 where
  pub between : HostModel
  pub spoken : Outcome
  pub message : Tells left between spoken (message_plan said)
  pub following : Tells between new result (reports_plan spoken texts)

abbrev pub TellsAll : Option HostModel → Option HostModel → Outcome → Outcome → List (List ℕ) → Type 0
TellsAll old new result said texts = IsTrue (tells old) → Telling (contents old) (contents new) result said texts

-- What is told of an outcome, where these reports are due: the outcome, with the reports after it, and with none where the work found
-- no memory. Only where some are due may there be no memory to make them; then that is told alone.
abbrev pub IsTold : Outcome → List (List ℕ) → Outcome → List (List ℕ) → Type 0
IsTold outcome due said texts =
    ((said ≡ outcome) × ((outcome ≢ OutOfMemory → texts ≡ due) × (outcome ≡ OutOfMemory → texts ≡ [])))
    ⊎ (((outcome ≢ OutOfMemory) × (due ≢ [])) × ((said ≡ OutOfMemory) × (texts ≡ [])))

-- What the program does, where these reports are due by the traces that watchers are told: the work comes to an outcome and leaves
-- the host and the traces so, or it stops because memory runs out; and what it came to is told.
pub record DoneAndTold (old new : HostModel) (result : Outcome) (work : ProgramPlan Outcome) (due : List Trace → List (List ℕ)) : Type 0 where
  pub left : HostModel
  pub heard : List Trace
  pub outcome : Outcome
  pub said : Outcome
  pub texts : List (List ℕ)
  pub works : Comes program (old, []) (left, heard) OutOfMemory outcome work
  pub reports : IsTold outcome (due heard) said texts
  pub told : Telling left new result said texts

abbrev pub DoesAndTells : Option HostModel → Option HostModel → Outcome → ProgramPlan Outcome → (List Trace → List (List ℕ)) → Type 0
DoesAndTells old new result work due = IsTrue (tells old) → DoneAndTold (contents old) (contents new) result work due
