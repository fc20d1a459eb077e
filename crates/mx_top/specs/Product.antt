-- What the program does, as one page: the calls that it makes of the host, with the work on a machine among them, up to its outcome.
-- What comes of that over a register window or over an unbounded list of registers is the course of this plan.
use Rattle.std.specs.Prelude.{ℕ, Bool, List, [], ◌∷◌, length, Result, Ok, Err, codes}
use Rattle.mx_host.specs.HostModel.{HostModel}
use Rattle.mx_plan.specs.Plan.{Plan, returns, calls, bind, Acts, Stops, end_of}
use Rattle.mx_plan.specs.Calls.{HostCall, HostSays, HostPlan, host, need}
use Rattle.mx_plan.specs.Wild.{Course, ends, meets_wild, course}
use Rattle.mx_mmo.specs.Image.{Image}
use Rattle.mx_code.specs.declared.trace.Trace.{Trace}
use Rattle.mx_core.specs.State.{State}
use Rattle.mx_run.specs.WildRuns.{MachineKind, window_machine}
use Rattle.mx_multi.specs.Joint.{Joint}
use Rattle.mx_multi.specs.Joint as joint
use Rattle.mx_multi.specs.JointTurns.{JointWorld}
use Rattle.mx_multi.specs.MultiPlans.{multi, turns_plan}
use Rattle.mx_multi.specs.Turns.{turns}
use Rattle.mx_multi.specs.declared.end.MultiEnd.{MultiEnd}
use Rattle.mx_words.specs.Orders.{order_of}
use Rattle.mx_words.specs.declared.order.Command.{Command}
use Rattle.mx_words.specs.declared.order.Command.TheVariants.{Run, Asm, Sim, Gen, Show, Multi}
use Rattle.mx_words.specs.declared.order.Order.{Order}
use Rattle.mx_words.specs.declared.order.WordsFault.{WordsFault}
use Rattle.mx_gen.specs.Generator.{generated}
use Rattle.mx_files.specs.Answers.{Answer}
use Rattle.mx_files.specs.Assembling.{refused_with}
use Rattle.mx_files.specs.ObjectPlans.{assemble_plan, list_plan}
use Rattle.mx_files.specs.Schedules.{schedule_plan}
use Rattle.mx_files.specs.Sources.{source_meaning}
use Rattle.mx_files.specs.declared.refusal.Refusal.{Refusal}
use Rattle.mx_outcome.specs.declared.outcome.Outcome.{Outcome}
use Rattle.mx_outcome.specs.declared.outcome.Outcome.TheVariants.{Usage}
use Rattle.mx_begin.specs.Arguments.{Word, word_at, arguments}
use Rattle.mx_begin.specs.BeginPlans.{image_file_plan}
use Rattle.mx_begin.specs.Begun.{started, stack_at_start}
use Rattle.mx_begin.specs.declared.images.Form.{Form}
use Rattle.mx_begin.specs.declared.images.Form.TheVariants.{Source, Object}
use Rattle.mx_dump.specs.Dump.{Line}
use Rattle.mx_top.specs.Processors.{multi_lines, multi_outcome, processors_named}
use Rattle.mx_top.specs.MachineWork.{Work, WorkPlan, WorkStops, working, work_goes, machine_plan, generated_work}
use Rattle.mx_top.specs.Telling.{telling, message_plan}

-- ---- THE CALLS

-- A call of the host; or a machine starts on an image with arguments, over a ring of so many registers, and work on it is done; or
-- the processors that a schedule names start on an image, and take turns by it, at most so many steps.
pub data ProgramCall : Type 0 where
  of_host : HostCall → ProgramCall
  on_machine : ℕ → Image → List Word → WorkPlan Outcome → ProgramCall
  taking_turns : ℕ → Image → List ℕ → ℕ → Bool → ProgramCall

abbrev pub ProgramSays : ProgramCall → Type 0
ProgramSays (of_host o) = HostSays o
ProgramSays (on_machine ring image arguments work) = Outcome
ProgramSays (taking_turns ring image schedule steps dump) = MultiEnd × List Line

-- the host, and the traces that watchers are told
abbrev pub ProgramWorld : Type 0
ProgramWorld = HostModel × List Trace

-- a machine as it starts, over a host, with traces that were told
abbrev pub at_start : State → ProgramWorld → Work
at_start s w = record { machine = s; kept = []; told = w.1; host = w.0 }

-- the processors of a schedule as they start, over windows or over lists
abbrev pub joint_at_start : MachineKind → ℕ → Image → List ℕ → Joint
joint_at_start kind ring image schedule = joint.started image (processors_named schedule) (stack_at_start kind ring)

-- ---- over windows of registers

abbrev pub after_work : Outcome × Work → Outcome × ProgramWorld
after_work t = (t.0, (t.1.host, t.1.told))

abbrev pub work_end : WorkPlan Outcome → Result State Outcome → ProgramWorld → Outcome × ProgramWorld
work_end work (Err outcome) w = (outcome, w)
work_end work (Ok s) w = after_work (end_of working work (at_start s w))

-- how the processors ended, and the lines that tell it
abbrev pub after_turns : Bool → List Trace → MultiEnd × JointWorld → (MultiEnd × List Line) × ProgramWorld
after_turns dump told t = ((t.0, multi_lines dump t.0 t.1.0), (t.1.1, told))

abbrev pub program_act : (o : ProgramCall) → ProgramWorld → ProgramSays o × ProgramWorld
program_act (of_host o) w = ((host.act o w.0).0, ((host.act o w.0).1, w.1))
program_act (on_machine ring image arguments work) w = work_end work (started window_machine ring image arguments) w
program_act (taking_turns ring image schedule steps dump) w = after_turns dump w.1 (end_of multi (turns_plan schedule steps schedule) (joint_at_start window_machine ring image schedule, w.0))

abbrev pub MayStop : WorkPlan Outcome → Result State Outcome → ProgramWorld → HostModel → Type 0
MayStop work (Err outcome) w v = ⊥
MayStop work (Ok s) w v = WorkStops work (at_start s w) v

-- turns may stop with this host
pub record TurnsStop (n : ℕ) (schedule : List ℕ) (j : Joint) (m v : HostModel) : Type 0 where
  pub processors : Joint
  pub stops : Stops multi (processors, v) (turns_plan schedule n schedule) (j, m)

-- where memory may run out, and which host that leaves; of the traces nothing is said there
abbrev pub ProgramLacks : ProgramCall → ProgramWorld → ProgramWorld → Type 0
ProgramLacks (of_host o) w v = host.Lacks o w.0 v.0
ProgramLacks (on_machine ring image arguments work) w v = MayStop work (started window_machine ring image arguments) w v.0
ProgramLacks (taking_turns ring image schedule steps dump) w v = TurnsStop steps schedule (joint_at_start window_machine ring image schedule) w.0 v.0

unfoldable pub program : Acts ProgramCall ProgramSays ProgramWorld
program = record { act = program_act; Lacks = ProgramLacks }

-- ---- by the kind of the machines

abbrev pub worked : Course Outcome Work → Course Outcome ProgramWorld
worked (ends outcome w) = ends outcome (w.host, w.told)
worked (meets_wild w) = meets_wild (w.host, w.told)

-- the work on a machine that started, or the outcome where none did
abbrev pub work_on : MachineKind → WorkPlan Outcome → Result State Outcome → ProgramWorld → Course Outcome ProgramWorld
work_on kind work (Err outcome) w = ends outcome w
work_on kind work (Ok s) w = worked (course (work_goes kind) work (at_start s w))

abbrev pub turned : Bool → List Trace → Course MultiEnd JointWorld → Course (MultiEnd × List Line) ProgramWorld
turned dump told (ends end w) = ends (end, multi_lines dump end w.0) (w.1, told)
turned dump told (meets_wild w) = meets_wild (w.1, told)

-- what a call comes to, by the kind of the machines: the window is seen here alone
abbrev pub program_goes : MachineKind → (o : ProgramCall) → ProgramWorld → Course (ProgramSays o) ProgramWorld
program_goes kind (of_host o) w = ends (host.act o w.0).0 ((host.act o w.0).1, w.1)
program_goes kind (on_machine ring image arguments work) w = work_on kind work (started kind ring image arguments) w
program_goes kind (taking_turns ring image schedule steps dump) w =
    turned dump w.1 (turns kind schedule steps schedule (joint_at_start kind ring image schedule) w.0)

abbrev pub ProgramPlan : Type 0 → Type 0
ProgramPlan A = Plan ProgramCall ProgramSays A

unfoldable pub host_in_program : {A : Type 0} → HostPlan A → ProgramPlan A
host_in_program (returns a) = returns a
host_in_program (calls o k) = calls (of_host o) (λ r. host_in_program (k r))

-- memory is taken, and then this follows
abbrev pub taking : ProgramPlan Outcome → ProgramPlan Outcome
taking p = bind (λ u. p) (host_in_program need)

-- a part on files is done, and then this follows what it gives; or it ends the work
abbrev pub on_part : {A : Type 0} → (A → ProgramPlan Outcome) → Result A Outcome → ProgramPlan Outcome
on_part more (Ok x) = more x
on_part more (Err outcome) = returns outcome

-- a machine takes memory to start
abbrev pub run_on : ℕ → List Word → WorkPlan Outcome → Image → ProgramPlan Outcome
run_on ring arguments work image = taking (calls (on_machine ring image arguments work) (λ outcome. returns outcome))

-- ---- THE COMMANDS

-- `run` and `sim`: a source is assembled or an object loaded, and its machine is run; its arguments take memory, too
unfoldable pub run_file : List Word → Order → Form → ProgramPlan Outcome
run_file words o form = taking (bind (on_part (run_on o.ring (arguments words o) (machine_plan o))) (host_in_program (image_file_plan form (word_at words o.file))))

-- `gen`: a source that is made is assembled and run
abbrev pub run_source : Order → ℕ → Result Image Refusal → ProgramPlan Outcome
run_source o size (Err refusal) = returns (refused_with refusal)
run_source o size (Ok image) = run_on o.ring (codes "gen" ∷ []) (generated_work o.number size) image

abbrev pub run_text : Order → List ℕ → ProgramPlan Outcome
run_text o source = taking (run_source o (length source) (source_meaning source))

-- `multi`: the object is read where the schedule is in order, and its processors run
abbrev pub turns_from : Order → List ℕ → Image → ProgramPlan Outcome
turns_from o schedule image = calls (taking_turns o.ring image schedule o.steps o.dump) (λ t. host_in_program (telling (multi_outcome o.steps t.0) t.1))

abbrev pub turns_on : Order → List ℕ → Image → ProgramPlan Outcome
turns_on o schedule image = taking (turns_from o schedule image)

abbrev pub object_file : Order → Word → List ℕ → ProgramPlan Outcome
object_file o object schedule = bind (on_part (turns_on o schedule)) (host_in_program (image_file_plan Object object))

abbrev pub multi_file : Order → Word → Word → ProgramPlan Outcome
multi_file o schedule object = bind (on_part (object_file o object)) (host_in_program (schedule_plan schedule))

unfoldable pub ordered_plan : List Word → Order → Command → ProgramPlan Outcome
ordered_plan words o Run = run_file words o Source
ordered_plan words o Sim = run_file words o Object
ordered_plan words o Asm = host_in_program (assemble_plan (word_at words o.file) (word_at words o.rest))
ordered_plan words o Gen = taking (run_text o (generated o.number))
ordered_plan words o Show = host_in_program (list_plan (word_at words o.file))
ordered_plan words o Multi = multi_file o (word_at words o.schedule) (word_at words o.file)

-- ---- THE WORDS, and the message of the outcome

abbrev pub work_plan : List Word → Result Order WordsFault → ProgramPlan Outcome
work_plan words (Err fault) = returns (Usage fault)
work_plan words (Ok o) = ordered_plan words o o.command

unfoldable pub product_plan : List Word → ProgramPlan Outcome
product_plan words = bind (λ outcome. host_in_program (message_plan outcome)) (work_plan words (order_of words))

-- ---- THE PRODUCT

unfoldable pub product_course : MachineKind → List Word → HostModel → Course Outcome ProgramWorld
product_course kind words m = course (program_goes kind) (product_plan words) (m, [])

abbrev pub answer_of : Course Outcome ProgramWorld → Answer
answer_of (ends outcome w) = ends outcome w.0
answer_of (meets_wild w) = meets_wild w.0

-- the outcome, and the host; or the host where something wild was met
unfoldable pub product : MachineKind → List Word → HostModel → Answer
product kind words m = answer_of (product_course kind words m)

-- the traces that watchers are told
abbrev pub told_of : Course Outcome ProgramWorld → List Trace
told_of (ends outcome w) = w.1
told_of (meets_wild w) = w.1

unfoldable pub product_traces : MachineKind → List Word → HostModel → List Trace
product_traces kind words m = told_of (product_course kind words m)
