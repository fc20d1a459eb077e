-- What has to hold for a run of the program to be done: the words, the file that is read, what it means, and how its
-- machine ends.
use Rattle.std.specs.Prelude.{ℕ, ◌≡◌, ◌*◌, List, [], ◌∷◌, ◌++◌, codes, length, take, true, false, Some, Ok}
use Rattle.mx_host.specs.HostModel.{HostModel, HasStartSlots, place_of}
use Rattle.mx_host.specs.HostAnswer.{open_answer, close_answer, bytes_at}
use Rattle.mx_host.specs.declared.slots.Mode.TheVariants.{BinaryWrite}
use Rattle.mx_mmo.specs.Image.{Image}
use Rattle.mx_core.specs.State.{State}
use Rattle.mx_ring.specs.Stack.{register}
use Rattle.mx_plan.specs.Wild.{ends}
use Rattle.mx_run.specs.Runs.{FlagsOf, no_flags}
use Rattle.mx_run.specs.WildRuns.{MachineKind, run_by}
use Rattle.mx_run.specs.declared.end.End.TheVariants.{Halted}
use Rattle.mx_con.specs.Session.{session}
use Rattle.mx_con.specs.declared.end.SessionEnd.{SessionEnd}
use Rattle.mx_words.specs.Orders.{order_of}
use Rattle.mx_words.specs.declared.order.Command.{Command}
use Rattle.mx_words.specs.declared.order.Command.TheVariants.{Run, Asm, Sim, Gen}
use Rattle.mx_words.specs.declared.order.Order.{Order}
use Rattle.mx_begin.specs.Arguments.{Word, word_at, arguments}
use Rattle.mx_gen.specs.Generator.{generated, summary}
use Rattle.mx_gen.specs.Program.{generated_image}
use Rattle.mx_files.specs.Answers.{Answer}
use Rattle.mx_files.specs.Objects.{source_object}
use Rattle.mx_files.specs.Writing.{put_text}
use Rattle.mx_files.specs.Assembling.{object_slot}
use Rattle.mx_top.specs.MachineWork.{machine_plan, sitting_plan}
use Rattle.mx_top.specs.Product.{run_on, answer_of}
use Rattle.mx_top.specs.Runs.{generator_steps, session_outcome}
use Rattle.mx_top.specs.WorkClauses.{answer_by, work_by}
use Rattle.mx_begin.specs.Begun.{image_in, most_pieces, started}
use Rattle.mx_begin.specs.declared.images.Form.{Form}
use Rattle.mx_begin.specs.declared.images.Form.TheVariants.{Object, Source}
use Rattle.mx_files.specs.Source.{file_bytes, source_pieces}
use Rattle.mx_outcome.specs.declared.outcome.Outcome.{Outcome}

-- What an image comes to that is run as an order says, with these arguments; and a session of the console on a machine that started.
abbrev pub image_answer : MachineKind → Order → List Word → Image → HostModel → Answer
image_answer kind o arguments image m = answer_by kind (run_on o.ring arguments (machine_plan o) image) m

abbrev pub session_answer : MachineKind → Order → State → HostModel → Answer
session_answer kind o s m = answer_of (work_by kind (sitting_plan o) s m)

-- The words order this, with this command.
pub record IsOrdered (words : List Word) (o : Order) (wanted : Command) : Type 0 where
  pub order : order_of words ≡ Ok o
  pub command : o.command ≡ wanted

-- The command that runs a source, and the one that runs an object.
abbrev pub command_for : Form → Command
command_for Source = Run
command_for Object = Sim

-- The words order to run a source or an object, which is read and means this image. The host is then `begun`.
pub record HasProgram (words : List Word) (o : Order) (form : Form) (image : Image) (m begun : HostModel) : Type 0 where
  pub ordered : IsOrdered words o (command_for form)
  pub bytes : List ℕ
  pub read : file_bytes (most_pieces form) (word_at words o.file) m ≡ (Ok bytes, begun)
  pub means : image_in form bytes ≡ Ok image

-- The machine of this image starts with the arguments of the words, in this state.
abbrev pub IsStarted : MachineKind → List Word → Order → Image → State → Type 0
IsStarted kind words o image s = started kind o.ring image (arguments words o) ≡ Ok s

-- The machine of this image starts, and in one run it halts within the steps of the order.
pub record IsHalted (kind : MachineKind) (words : List Word) (o : Order) (image : Image) (begun : HostModel)
    (status : ℕ) (ended : State) (after : HostModel) : Type 0 where
  pub plain : o.interactive ≡ false
  pub machine : State
  pub starts : IsStarted kind words o image machine
  pub halts : run_by kind o.steps no_flags false machine begun ≡ ends (Halted status) (ended, after)

-- The machine of this image starts, and in a session of the console it comes to this.
pub record IsPlayed (kind : MachineKind) (words : List Word) (o : Order) (image : Image) (begun : HostModel)
    (outcome : Outcome) (ended : State) (after : HostModel) : Type 0 where
  pub console : o.interactive ≡ true
  pub machine : State
  pub starts : IsStarted kind words o image machine
  pub end : SessionEnd
  pub flags : FlagsOf
  pub plays : session kind o.steps machine no_flags begun ≡ ends end ((ended, after), flags)
  pub comes : outcome ≡ session_outcome o.steps end

-- The words order to assemble a source from which this text is read; the object file opens, the bytes of the object are
-- written, and it is closed.
pub record IsWritten (words : List Word) (text : List ℕ) (m after : HostModel) : Type 0 where
  pub order : Order
  pub ordered : IsOrdered words order Asm
  pub begun : HostModel
  pub read : file_bytes source_pieces (word_at words order.file) m ≡ (Ok text, begun)
  pub opened : HostModel
  pub opens : open_answer begun object_slot (word_at words order.rest) BinaryWrite ≡ (Ok tt, opened)
  pub written : HostModel
  pub writes : put_text object_slot (source_object text).0 opened ≡ (true, written)
  pub closes : close_answer written object_slot ≡ (Ok tt, after)

-- The words order to generate a source; the machine of the image that it means starts and halts, which leaves the host
-- `left`; and this line tells what came of it.
pub record IsGenerated (kind : MachineKind) (words : List Word) (m left : HostModel) (line : List ℕ) : Type 0 where
  pub order : Order
  pub ordered : IsOrdered words order Gen
  pub machine : State
  pub starts : started kind order.ring (generated_image order.number) (codes "gen" ∷ []) ≡ Ok machine
  pub status : ℕ
  pub ended : State
  pub halts : run_by kind generator_steps no_flags false machine m ≡ ends (Halted status) (ended, left)
  pub told : line ≡ summary order.number (length (generated order.number)) ended.steps (register ended.stack 255)

-- ---- files that are there

-- the host with a text more on its standard output
abbrev pub with_output : HostModel → List ℕ → HostModel
with_output m text = record m { output = m.output ++ text }

-- The slots are as at the start, and the file of this name is there; this many pieces of it are this text.
pub record IsThere (name : Word) (most : ℕ) (text : List ℕ) (m : HostModel) : Type 0 where
  pub slots : HasStartSlots m
  pub place : ℕ
  pub found : place_of m.files name ≡ Some place
  pub bytes : text ≡ take (4096 * most) (bytes_at m.files place)

-- The words order to run a source or an object that is there, and that means this image.
pub record ProgramIsThere (words : List Word) (o : Order) (form : Form) (image : Image) (m : HostModel) : Type 0 where
  pub ordered : IsOrdered words o (command_for form)
  pub bytes : List ℕ
  pub there : IsThere (word_at words o.file) (most_pieces form) bytes m
  pub means : image_in form bytes ≡ Ok image
