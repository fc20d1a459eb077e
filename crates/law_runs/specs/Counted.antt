-- Orders to run a source or an object, as those that are counted, and the answers of runs that were counted. The machine is that over a
-- ring of registers, or that over an unbounded list.
use Rattle.std.specs.Prelude.{ℕ, ◌≡◌, ◌≤◌, ◌^◌, true, false, List, [], ◌++◌, length, Result, Ok, Err, Some}
use Rattle.mx_host.specs.HostModel.{HostModel}
use Rattle.mx_host.specs.HostAnswer.{Then}
use Rattle.mx_mmo.specs.Image.{Image}
use Rattle.mx_plan.specs.Wild.{ends, meets_wild}
use Rattle.mx_core.specs.State.{State}
use Rattle.mx_run.specs.Runs.{Ended}
use Rattle.mx_run.specs.WildRuns.{MachineKind, run_ended}
use Rattle.mx_words.specs.Orders.{order_of}
use Rattle.mx_words.specs.declared.order.Command.{Command}
use Rattle.mx_words.specs.declared.order.Command.TheVariants.{Run, Sim}
use Rattle.mx_words.specs.declared.order.Order.{Order}
use Rattle.mx_files.specs.Answers.{Answer}
use Rattle.mx_files.specs.Source.{file_bytes, object_pieces, source_pieces}
use Rattle.mx_files.specs.Sources.{source_meaning}
use Rattle.mx_outcome.specs.declared.outcome.Outcome.{Outcome}
use Rattle.mx_begin.specs.Arguments.{Word, word_at, arguments}
use Rattle.mx_begin.specs.Begun.{started}
use Rattle.mx_begin.specs.Ends.{outcome_of}
use Rattle.mx_top.specs.Product.{product_traces}
use Rattle.mx_count.specs.Runs.{AnswerForms, CountAnswer, by_lines, by_text, halting_after, ran, source_counted}
use Rattle.mx_count.specs.Sheets.{sheet_of}
use Rattle.mx_count.specs.declared.count.Counted.{Counted}
use Rattle.mx_count.specs.declared.lines.CountedLines.{CountedLines}
use Rattle.mx_object.specs.Runs.{object_counted, uncounted}
use Rattle.mx_object.specs.declared.counted.CountedObject.{CountedObject}

-- The words order to run something in one run, without a dump and with no steps taken back.
pub record RunsPlainly (words : List Word) (o : Order) (command : Command) : Type 0 where
  pub order : order_of words ≡ Ok o
  pub command_is : o.command ≡ command
  pub interactive : o.interactive ≡ false
  pub last : o.last ≡ 0
  pub dump : o.dump ≡ false

-- The file that an order names is read as this source, which leaves the host `begun`, and the machine of its image starts so.
pub record StartsWith (kind : MachineKind) (words : List Word) (o : Order) (source : List ℕ) (s : State) (m begun : HostModel) : Type 0 where
  pub read : file_bytes source_pieces (word_at words o.file) m ≡ (Ok source, begun)
  pub image : Image
  pub means : source_meaning source ≡ Ok image
  pub starts : started kind o.ring image (arguments words o) ≡ Ok s

-- ---- what is counted of the source in the file that an order names, which is read as `mmixware run` reads it

abbrev pub source_read : {A : Type 0} → MachineKind → Order → List (List ℕ) → (List ℕ → AnswerForms A) → Then (Result (List ℕ) Outcome) → CountAnswer A
source_read kind o given making (Err outcome, m) = ends ((making []).without outcome) m
source_read kind o given making (Ok source, m) = source_counted kind o given (making source) source m

abbrev pub source_file : {A : Type 0} → MachineKind → List Word → Order → (List ℕ → AnswerForms A) → HostModel → CountAnswer A
source_file kind words o making m = source_read kind o (arguments words o) making (file_bytes source_pieces (word_at words o.file) m)

-- ---- and of the object there, which is read as `mmixware sim` reads it

abbrev pub object_read : MachineKind → Order → List (List ℕ) → Then (Result (List ℕ) Outcome) → CountAnswer CountedObject
object_read kind o given (Err outcome, m) = ends (uncounted outcome) m
object_read kind o given (Ok bytes, m) = object_counted kind o given bytes m

abbrev pub object_file : MachineKind → List Word → Order → HostModel → CountAnswer CountedObject
object_file kind words o m = object_read kind o (arguments words o) (file_bytes object_pieces (word_at words o.file) m)

-- ---- the answer of a run that was counted, without its sheet, by the outcome of what was counted

abbrev pub answer_by : {A : Type 0} → (A → Outcome) → CountAnswer A → Answer
answer_by outcome (ends x m) = ends (outcome x) m
answer_by outcome (meets_wild m) = meets_wild m

-- ---- what the laws speak of

-- an order of one run, over this host
pub record PlainRun (command : Command) : Type 0 where
  pub kind : MachineKind
  pub words : List Word
  pub order : Order
  pub host : HostModel
  pub plain : RunsPlainly words order command

-- what comes of it, counted: the sheet as a text, as data, and that of an object
abbrev pub text_answer : PlainRun Run → Answer
text_answer r = answer_by (λ (c : Counted). c.outcome) (source_file r.kind r.words r.order by_text r.host)

abbrev pub data_answer : PlainRun Run → Answer
data_answer r = answer_by (λ (c : CountedLines). c.outcome) (source_file r.kind r.words r.order by_lines r.host)

abbrev pub object_answer : PlainRun Sim → Answer
object_answer r = answer_by (λ (c : CountedObject). c.outcome) (object_file r.kind r.words r.order r.host)

-- an order of one run whose watchers report: its source is read, its machine starts, and it ends so
pub record TracedRun : Type 0 where
  pub kind : MachineKind
  pub words : List Word
  pub order : Order
  pub source : List ℕ
  pub start : State
  pub host : HostModel
  pub begun : HostModel
  pub last : Ended
  pub plain : RunsPlainly words order Run
  pub reports : order.report ≡ true
  pub starts : StartsWith kind words order source start host begun
  pub comes : ran kind order.steps start begun ≡ run_ended last

-- its outcome, with the sheet of the traces that watchers are told, and of the step that halts
abbrev pub traced_counts : TracedRun → Counted
traced_counts r = record {
  outcome = outcome_of r.order.steps r.last.end;
  sheet = Some (sheet_of r.source (product_traces r.kind r.words r.host ++ halting_after r.last));
}

-- a file that is read as a source of at most 2^22 bytes
pub record ShortSource : Type 0 where
  pub name : List ℕ
  pub text : List ℕ
  pub host : HostModel
  pub after : HostModel
  pub short : length text ≤ 2 ^ 22
  pub read : file_bytes source_pieces name host ≡ (Ok text, after)
