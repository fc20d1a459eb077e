-- Programs that are run, with what has to hold of them: what the laws of whole runs speak of.
use Rattle.std.specs.Prelude.{ℕ, ◌≡◌, ◌≢◌, List, true, false, Some, Option}
use Rattle.std.specs.List.{concat}
use Rattle.mx_host.specs.HostModel.{HostModel, HasStartSlots, contents, place_of}
use Rattle.mx_host.specs.HostAnswer.{with_file}
use Rattle.mx_plan.specs.Counts.{NoneFailed, unscheduled}
use Rattle.mx_plan.specs.Wild.{ends}
use Rattle.mx_mmo.specs.Image.{Image}
use Rattle.mx_core.specs.State.{State}
use Rattle.mx_run.specs.Runs.{no_flags}
use Rattle.mx_run.specs.WildRuns.{MachineKind, run_by, window_machine}
use Rattle.mx_run.specs.declared.end.End.TheVariants.{Halted}
use Rattle.mx_words.specs.declared.order.Command.TheVariants.{Asm}
use Rattle.mx_words.specs.declared.order.Order.{Order}
use Rattle.mx_begin.specs.Arguments.{Word, word_at, arguments}
use Rattle.mx_begin.specs.declared.images.Form.{Form}
use Rattle.mx_dump.specs.Dump.{dump_lines}
use Rattle.mx_files.specs.Answers.{Answer}
use Rattle.mx_files.specs.Assembling.{assembled_outcome, refused_with}
use Rattle.mx_files.specs.declared.refusal.Refusal.{Refusal}
use Rattle.mx_files.specs.Objects.{source_object}
use Rattle.mx_files.specs.Source.{file_bytes, source_pieces}
use Rattle.mx_files.specs.Writing.{lines_put}
use Rattle.mx_top.specs.Product.{product}
use Rattle.mx_top.specs.Telling.{with_message}
use Rattle.mx_outcome.specs.declared.outcome.Outcome.{Outcome}
use Rattle.mx_outcome.specs.declared.outcome.Outcome.TheVariants.{BadObject, Done, OutOfMemory}
use Rattle.law_runs.specs.Called.{IsCalled, NoCallFails}
use Rattle.law_runs.specs.Complete.{HasProgram, IsGenerated, IsHalted, IsOrdered, IsPlayed, IsStarted, IsThere, IsWritten, ProgramIsThere, image_answer, session_answer, with_output}
use Rattle.law_runs.specs.Detour.{AreOrdered, HasOutcome, IsAssembled, answer_uncounted, answer_unscheduled, run_words, sim_words}

-- ---- an image that words order to run, over this host

pub record ImageRun : Type 0 where
  pub kind : MachineKind
  pub words : List Word
  pub order : Order
  pub image : Image
  pub host : HostModel

-- what it comes to
abbrev pub run_answer : ImageRun → Answer
run_answer x = image_answer x.kind x.order (arguments x.words x.order) x.image x.host

-- it halts in one run: the status, the state and the host then
pub record Halting (x : ImageRun) : Type 0 where
  pub status : ℕ
  pub ended : State
  pub after : HostModel
  pub halts : IsHalted x.kind x.words x.order x.image x.host status ended after

-- its answer, but for the number of calls
abbrev pub halted_answer : (x : ImageRun) → Halting x → Answer
halted_answer x r = ends (Done r.status) (unscheduled r.after)

-- each line of its dump is written, which leaves the host so
abbrev pub Dumps : (x : ImageRun) → Halting x → HostModel → Type 0
Dumps x r last = (x.order.dump ≡ true) × (lines_put (dump_lines r.ended) r.after ≡ (true, last))

-- its answer with the lines of the dump, but for the number of calls
abbrev pub dumped_answer : (x : ImageRun) → Halting x → Answer
dumped_answer x r = ends (Done r.status) (unscheduled (with_output r.after (concat (dump_lines r.ended))))

-- its machine starts in this state, with the console
abbrev pub StartsConsole : ImageRun → State → Type 0
StartsConsole x s = (x.order.interactive ≡ true) × IsStarted x.kind x.words x.order x.image s

abbrev pub console_answer : ImageRun → State → Answer
console_answer x s = session_answer x.kind x.order s x.host

-- a session comes to this: the outcome, the state and the host then
pub record Playing (x : ImageRun) : Type 0 where
  pub outcome : Outcome
  pub ended : State
  pub after : HostModel
  pub plays : IsPlayed x.kind x.words x.order x.image x.host outcome ended after

-- ---- a source or an object that is read, and means the image that is run

pub record ReadProgram : Type 0 where
  pub run : ImageRun
  pub form : Form
  pub old : HostModel
  pub has : HasProgram run.words run.order form run.image old run.host

abbrev pub read_answer : ReadProgram → Answer
read_answer p = product p.run.kind p.run.words p.old

-- ---- where no call fails: what is there

-- a file that is there, and is read in at most this many pieces; no call of the reading fails
pub record ReadableFile : Type 0 where
  pub most : ℕ
  pub name : List ℕ
  pub host : HostModel
  pub none : NoneFailed host (file_bytes most name host).1
  pub slots : HasStartSlots host
  pub place : ℕ
  pub found : place_of host.files name ≡ Some place

-- an answer with its message, but for the number of calls
abbrev pub said : Answer → Answer
said answer = answer_unscheduled (with_message answer)

-- a source or an object that is there, and means an image
pub record FoundProgram : Type 0 where
  pub kind : MachineKind
  pub words : List Word
  pub order : Order
  pub form : Form
  pub image : Image
  pub host : HostModel
  pub there : ProgramIsThere words order form image host
  pub none : NoCallFails kind words host

abbrev pub found_run : FoundProgram → ImageRun
found_run p = record { kind = p.kind; words = p.words; order = p.order; image = p.image; host = unscheduled p.host }

abbrev pub found_answer : FoundProgram → Answer
found_answer p = answer_unscheduled (product p.kind p.words p.host)

-- a source that is there, and is to be assembled
pub record FoundSource : Type 0 where
  pub kind : MachineKind
  pub words : List Word
  pub order : Order
  pub text : List ℕ
  pub host : HostModel
  pub ordered : IsOrdered words order Asm
  pub there : IsThere (word_at words order.file) source_pieces text host
  pub none : NoCallFails kind words host

abbrev pub source_answer : FoundSource → Answer
source_answer p = answer_unscheduled (product p.kind p.words p.host)

-- a host with what there is of its object in the file that the words name
abbrev pub with_object_of : FoundSource → HostModel → HostModel
with_object_of p m = with_file m (word_at p.words p.order.rest) (source_object p.text).0

abbrev pub assembled_answer : FoundSource → HostModel → Answer
assembled_answer p m = ends (assembled_outcome (source_object p.text).1) (with_object_of p m)

-- ---- a source that is assembled, and one that is generated

pub record WrittenSource : Type 0 where
  pub kind : MachineKind
  pub words : List Word
  pub text : List ℕ
  pub old : HostModel
  pub after : HostModel
  pub written : IsWritten words text old after

abbrev pub written_answer : WrittenSource → Answer
written_answer w = product w.kind w.words w.old

abbrev pub refused_answer : WrittenSource → Refusal → Answer
refused_answer w r = with_message (ends (refused_with r) w.after)

pub record GeneratedRun : Type 0 where
  pub kind : MachineKind
  pub words : List Word
  pub old : HostModel
  pub left : HostModel
  pub line : List ℕ
  pub generated : IsGenerated kind words old left line

abbrev pub generated_answer : GeneratedRun → Answer
generated_answer g = product g.kind g.words g.old

-- where no call fails
pub record SparedRun : Type 0 where
  pub kind : MachineKind
  pub words : List Word
  pub host : HostModel
  pub left : HostModel
  pub line : List ℕ
  pub slots : HasStartSlots host
  pub none : NoCallFails kind words host
  pub generated : IsGenerated kind words (unscheduled host) left line

abbrev pub spared_answer : SparedRun → Answer
spared_answer g = answer_unscheduled (product g.kind g.words g.host)

-- ---- calls of the program in which no call of the host fails, and that are answered

pub record CalledProgram : Type 0 where
  pub words : List Word
  pub order : Order
  pub form : Form
  pub image : Image
  pub old : Option HostModel
  pub new : Option HostModel
  pub outcome : Outcome
  pub called : IsCalled words old new outcome
  pub there : ProgramIsThere words order form image (contents old)
  pub none : NoCallFails window_machine words (contents old)
  pub enough : outcome ≢ OutOfMemory

abbrev pub called_run : CalledProgram → ImageRun
called_run p = record { kind = window_machine; words = p.words; order = p.order; image = p.image; host = unscheduled (contents p.old) }

pub record CalledAssembler : Type 0 where
  pub words : List Word
  pub order : Order
  pub text : List ℕ
  pub old : Option HostModel
  pub new : Option HostModel
  pub outcome : Outcome
  pub called : IsCalled words old new outcome
  pub ordered : IsOrdered words order Asm
  pub there : IsThere (word_at words order.file) source_pieces text (contents old)
  pub none : NoCallFails window_machine words (contents old)
  pub enough : outcome ≢ OutOfMemory

pub record CalledGenerator : Type 0 where
  pub words : List Word
  pub left : HostModel
  pub line : List ℕ
  pub old : Option HostModel
  pub new : Option HostModel
  pub outcome : Outcome
  pub called : IsCalled words old new outcome
  pub slots : HasStartSlots (contents old)
  pub none : NoCallFails window_machine words (contents old)
  pub generated : IsGenerated window_machine words (unscheduled (contents old)) left line
  pub enough : outcome ≢ OutOfMemory

-- ---- a run of a machine without flags that halts

pub record HaltedRun : Type 0 where
  pub kind : MachineKind
  pub steps : ℕ
  pub start : State
  pub host : HostModel
  pub status : ℕ
  pub ended : State
  pub after : HostModel
  pub halts : run_by kind steps no_flags false start host ≡ ends (Halted status) (ended, after)

-- ---- the same words over two hosts that differ in the number of calls, and in the list of those that fail; none fails

pub record SameRun : Type 0 where
  pub kind : MachineKind
  pub words : List Word
  pub one : HostModel
  pub other : HostModel
  pub same : unscheduled one ≡ unscheduled other
  pub first : NoCallFails kind words one
  pub second : NoCallFails kind words other

-- ---- a source that was assembled, and its object, each to be run with these options and arguments; no call fails

pub record DetourRun : Type 0 where
  pub kind : MachineKind
  pub options : List Word
  pub source : Word
  pub object : Word
  pub given : List Word
  pub text : List ℕ
  pub old : HostModel
  pub after : HostModel
  pub ordered : AreOrdered options source object given
  pub assembled : IsAssembled kind source object text old after
  pub simulated : NoCallFails kind (sim_words options object given) after
  pub ran : NoCallFails kind (run_words options source given) after

abbrev pub source_run : DetourRun → Answer
source_run d = product d.kind (run_words d.options d.source d.given) d.after

abbrev pub object_run : DetourRun → Answer
object_run d = product d.kind (sim_words d.options d.object d.given) d.after

-- both come to the same, but for the number of calls
abbrev pub DoTheSame : DetourRun → Type 0
DoTheSame d = answer_uncounted (object_run d) ≡ answer_uncounted (source_run d)

-- a source is refused for its pages, and so is the object that was run in its place
abbrev pub AreForPages : ℕ → Answer → Type 0
AreForPages fault answer = (fault ≡ 90) × (place : ℕ) × HasOutcome answer (BadObject place 90)
