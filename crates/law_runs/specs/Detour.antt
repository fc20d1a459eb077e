-- A source that is assembled into an object, and the object run in its place.
use Rattle.std.specs.Prelude.{ℕ, ◌≡◌, ◌+◌, List, [], ◌∷◌, ◌++◌, codes, false, length, None, Some, Ok, Err}
use Rattle.std.specs.Str.{bytes_eq}
use Rattle.mx_word.specs.Ranges.{AreBytes}
use Rattle.mx_word.specs.declared.symbols.Symbol.{Symbol}
use Rattle.mx_host.specs.HostModel.{HostModel}
use Rattle.mx_mmo.specs.Image.{Image}
use Rattle.mx_asm.specs.Entries.{source_entries, statements_in}
use Rattle.mx_asm.specs.Image.{symbols_of}
use Rattle.mx_asm.specs.Pages.{RunRefusal, run_refusal}
use Rattle.mx_asm.specs.Refusal.{refusal}
use Rattle.mx_load.specs.Objects.{object_loaded}
use Rattle.mx_plan.specs.Counts.{NoneFailed, unscheduled, without_count}
use Rattle.mx_plan.specs.Wild.{ends, meets_wild}
use Rattle.mx_run.specs.WildRuns.{MachineKind}
use Rattle.mx_words.specs.Orders.{order_of}
use Rattle.mx_words.specs.declared.order.Command.TheVariants.{Run, Sim}
use Rattle.mx_words.specs.declared.order.Order.{Order}
use Rattle.mx_files.specs.Answers.{Answer}
use Rattle.mx_begin.specs.Arguments.{Word, program_name}
use Rattle.mx_top.specs.Product.{product}
use Rattle.mx_files.specs.Objects.{source_object}
use Rattle.mx_files.specs.Source.{file_bytes, source_pieces}
use Rattle.mx_files.specs.Sources.{source_meaning}
use Rattle.mx_outcome.specs.declared.outcome.Outcome.{Outcome}
use Rattle.mx_outcome.specs.declared.outcome.Outcome.TheVariants.{Done}

-- the host as an answer leaves it
abbrev pub host_of : Answer → HostModel
host_of (ends outcome m) = m
host_of (meets_wild m) = m

-- the answer has this outcome
abbrev pub HasOutcome : Answer → Outcome → Type 0
HasOutcome (ends outcome m) other = outcome ≡ other
HasOutcome (meets_wild m) other = ⊥

-- an answer but for the number of calls
abbrev pub answer_uncounted : Answer → Answer
answer_uncounted (ends outcome m) = ends outcome (without_count m)
answer_uncounted (meets_wild m) = meets_wild (without_count m)

-- an answer but for the number of calls and the list of those that fail
abbrev pub answer_unscheduled : Answer → Answer
answer_unscheduled (ends outcome m) = ends outcome (unscheduled m)
answer_unscheduled (meets_wild m) = meets_wild (unscheduled m)

-- the words of the three commands
abbrev pub asm_words : Word → Word → List Word
asm_words source object = codes "asm" ∷ source ∷ object ∷ []

abbrev pub run_words : List Word → Word → List Word → List Word
run_words options source arguments = codes "run" ∷ options ++ source ∷ arguments

abbrev pub sim_words : List Word → Word → List Word → List Word
sim_words options object arguments = codes "sim" ∷ options ++ object ∷ arguments

-- The words order to run the source, and to run the object, in the same way: with these options and these arguments.
pub record AreOrdered (options : List Word) (source object : Word) (arguments : List Word) : Type 0 where
  pub order : Order
  pub run : order_of (run_words options source arguments) ≡ Ok (record order { command = Run })
  pub sim : order_of (sim_words options object arguments) ≡ Ok (record order { command = Sim })
  pub file : order.file ≡ length options + 1
  pub rest : order.rest ≡ length options + 2

-- The source, from which this text of bytes is read, is assembled into the object, which leaves the model `after`, and no
-- call that this makes fails. The model has the 261 slots of a host, and the two files have different names, which agree
-- but for a last `.mms` or `.mmo`.
pub record IsAssembled (kind : MachineKind) (source object : Word) (text : List ℕ) (m after : HostModel) : Type 0 where
  pub well : NoneFailed m after
  pub many : length m.slots ≡ 261
  pub apart : bytes_eq source object ≡ false
  pub alike : program_name source ≡ program_name object
  pub read : (file_bytes source_pieces source m).0 ≡ Ok text
  pub bytes : AreBytes text
  pub done : product kind (asm_words source object) m ≡ ends (Done 0) after

-- ---- the object of a source, and its symbols

abbrev pub object_bytes : List ℕ → List ℕ
object_bytes text = (source_object text).0

abbrev pub source_symbols : List ℕ → List Symbol
source_symbols text = symbols_of (statements_in (source_entries text))

-- a source of bytes that means this image
abbrev pub IsMeant : List ℕ → Image → Type 0
IsMeant text image = AreBytes text × (source_meaning text ≡ Ok image)

-- a source of bytes that is assembled, and yet refused when it is run
abbrev pub IsRefusedRun : List ℕ → RunRefusal → Type 0
IsRefusedRun text r = AreBytes text × (refusal text ≡ None) × (run_refusal text ≡ Some r)

-- it is refused for its pages, and so is its object
abbrev pub HasTooManyPages : List ℕ → RunRefusal → Type 0
HasTooManyPages text r = (r.number ≡ 90) × (place : ℕ) × (object_loaded (object_bytes text) ≡ Err (place, 90))
