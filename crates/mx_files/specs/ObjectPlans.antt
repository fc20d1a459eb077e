-- Objects, as plans: a source is assembled into a file, and the object in a file is listed.
use Rattle.std.specs.Prelude.{ℕ, List, [], ◌∷◌, Result, Ok, Err}
use Rattle.mx_host.specs.declared.faults.OpenFault.{OpenFault}
use Rattle.mx_host.specs.declared.faults.OpenFault.TheVariants as opening
use Rattle.mx_host.specs.declared.slots.Mode.TheVariants.{BinaryWrite}
use Rattle.mx_plan.specs.Plan.{returns, bind}
use Rattle.mx_plan.specs.Calls.{HostPlan, open_plan, need}
use Rattle.mx_files.specs.Assembling.{object_slot, refused_with}
use Rattle.mx_files.specs.FilePlans.{Part, on_ok, close_file, file_plan, text_plan, line_plan, lines_plan}
use Rattle.mx_files.specs.Objects.{Assembled, source_object}
use Rattle.mx_files.specs.Source.{source_pieces, object_pieces}
use Rattle.mx_files.specs.Typed.{Typed, typed}
use Rattle.mx_outcome.specs.declared.outcome.Outcome.{Outcome}
use Rattle.mx_outcome.specs.declared.outcome.Outcome.TheVariants.{Done, HostFault, OutOfMemory}
use Rattle.mx_files.specs.declared.refusal.Refusal.{Refusal}

-- the outcome of all of the work
abbrev pub outcome_of : Result (Unit {0}) Outcome → Outcome
outcome_of (Ok u) = Done 0
outcome_of (Err outcome) = outcome

abbrev pub whole_plan : Part (Unit {0}) → HostPlan Outcome
whole_plan p = bind (λ r. returns (outcome_of r)) p

-- ---- A SOURCE that is assembled

abbrev pub object_opened : Result (Unit {0}) OpenFault → Result (Unit {0}) Outcome
object_opened (Ok u) = Ok tt
object_opened (Err opening.Absent) = Err HostFault
object_opened (Err opening.Failed) = Err HostFault
object_opened (Err opening.OutOfMemory) = Err OutOfMemory

unfoldable pub open_object : List ℕ → Part (Unit {0})
open_object name = bind (λ r. returns (object_opened r)) (open_plan object_slot name BinaryWrite)

-- a source is assembled, or it is refused
abbrev pub assembled : Result (Unit {0}) Refusal → Result (Unit {0}) Outcome
assembled (Ok u) = Ok tt
assembled (Err refusal) = Err (refused_with refusal)

-- the object file is closed, also that of a source that is refused
unfoldable pub close_object : Result (Unit {0}) Refusal → Part (Unit {0})
close_object answer = bind (on_ok (λ u. returns (assembled answer))) (close_file object_slot)

-- what there is of an object is written in pieces
unfoldable pub put_object : Assembled → Part (Unit {0})
put_object a = bind (on_ok (λ u. close_object a.1)) (text_plan object_slot a.0)

-- the whole object is made before any of it is written: all that takes memory for it lies between the opening of the file and
-- its first write
unfoldable pub put_source : List ℕ → Part (Unit {0})
put_source source = bind (λ u. put_object (source_object source)) need

-- a source is assembled into the file of this name
unfoldable pub put_into : List ℕ → List ℕ → Part (Unit {0})
put_into object source = bind (on_ok (λ u. put_source source)) (open_object object)

-- the source in a file is assembled into the object file of this name
unfoldable pub assemble_part : List ℕ → List ℕ → Part (Unit {0})
assemble_part source object = bind (on_ok (put_into object)) (file_plan source_pieces source)

abbrev pub assemble_plan : List ℕ → List ℕ → HostPlan Outcome
assemble_plan source object = whole_plan (assemble_part source object)

-- ---- AN OBJECT that is listed

-- After the last line of an object nothing takes memory; to find the fault of bytes that are none does.
abbrev pub typed_end : Outcome → Part (Unit {0})
typed_end (Done status) = returns (Ok tt)
typed_end outcome = bind (λ u. returns (Err outcome)) need

-- lines are made and written in turn, up to one that is not written, and then the outcome is known
unfoldable pub typed_plan : Typed → Part (Unit {0})
typed_plan t = bind (on_ok (λ u. typed_end t.1)) (lines_plan t.0)

-- a text that has bytes is written as a line; and that of an item is made first, which takes memory
abbrev pub shown_plan : List ℕ → Part (Unit {0})
shown_plan [] = returns (Ok tt)
shown_plan (b ∷ text) = line_plan (b ∷ text)

unfoldable pub item_plan : List ℕ → Part (Unit {0})
item_plan text = bind (λ u. shown_plan text) need

-- the object in the file of this name is listed
unfoldable pub list_part : List ℕ → Part (Unit {0})
list_part name = bind (on_ok (λ object. typed_plan (typed object))) (file_plan object_pieces name)

abbrev pub list_plan : List ℕ → HostPlan Outcome
list_plan name = whole_plan (list_part name)
