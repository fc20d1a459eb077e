-- What is done with files and lines, as plans: a file is read whole, a text is written in pieces, and lines in turn.
use Rattle.std.specs.Prelude.{ℕ, zero, suc, ◌-◌, ◌/◌, ◌==◌, Bool, if◌then◌else◌, List, [], ◌∷◌, ◌++◌, length, take, drop, Result, Ok, Err}
use Rattle.mx_host.specs.declared.faults.HostFault.{HostFault}
use Rattle.mx_host.specs.declared.faults.OpenFault.{OpenFault}
use Rattle.mx_host.specs.declared.faults.OpenFault.TheVariants as opening
use Rattle.mx_host.specs.declared.slots.Mode.TheVariants.{BinaryRead}
use Rattle.mx_plan.specs.Plan.{returns, bind}
use Rattle.mx_plan.specs.Calls.{HostPlan, open_plan, close_plan, read_plan, write_plan, need}
use Rattle.mx_outcome.specs.declared.outcome.Outcome.{Outcome}
use Rattle.mx_outcome.specs.declared.outcome.Outcome.TheVariants.{NoFile, HostFault as Broken, OutOfMemory}

-- a part of the work: it is done with a value, or it ends the work with an outcome
abbrev pub Part : Type 0 → Type 0
Part A = HostPlan (Result A Outcome)

-- what follows where a part was done; where that ended the work, nothing does
abbrev pub on_ok : {A B : Type 0} → (A → Part B) → Result A Outcome → Part B
on_ok more (Ok x) = more x
on_ok more (Err outcome) = returns (Err outcome)

-- a call on a slot that is not carried out ends the work
abbrev pub carried : Result (Unit {0}) HostFault → Result (Unit {0}) Outcome
carried (Ok u) = Ok tt
carried (Err why) = Err Broken

unfoldable pub close_file : ℕ → Part (Unit {0})
close_file slot = bind (λ r. returns (carried r)) (close_plan slot)

-- ---- A FILE that is read

-- the longest piece
abbrev pub piece_size : ℕ
piece_size = 4096

-- the slot of the tool's input file
abbrev pub input_slot : ℕ
input_slot = 256

abbrev pub input_opened : Result (Unit {0}) OpenFault → Result (Unit {0}) Outcome
input_opened (Ok u) = Ok tt
input_opened (Err opening.Absent) = Err NoFile
input_opened (Err opening.Failed) = Err Broken
input_opened (Err opening.OutOfMemory) = Err OutOfMemory

unfoldable pub open_input : List ℕ → Part (Unit {0})
open_input name = bind (λ r. returns (input_opened r)) (open_plan input_slot name BinaryRead)

-- a piece that came is added to the bytes before it, which takes memory; whether it was a whole one
abbrev pub piece_added : List ℕ → Result (List ℕ) HostFault → Part (List ℕ × Bool)
piece_added got (Ok piece) = bind (λ u. returns (Ok (got ++ piece, length piece == piece_size))) need
piece_added got (Err why) = returns (Err Broken)

unfoldable pub read_piece : List ℕ → Part (List ℕ × Bool)
read_piece got = bind (piece_added got) (read_plan input_slot piece_size)

-- others follow a whole piece
abbrev pub read_next : (List ℕ → Part (List ℕ)) → List ℕ × Bool → Part (List ℕ)
read_next more (got, whole) = if whole then more got else returns (Ok got)

-- at most this many more pieces
unfoldable pub read_pieces : ℕ → List ℕ → Part (List ℕ)
read_pieces zero got = returns (Ok got)
read_pieces (suc left) got = bind (on_ok (read_next (read_pieces left))) (read_piece got)

-- the bytes of the file that is open, which is closed then
abbrev pub then_closed : List ℕ → Part (List ℕ)
then_closed bytes = bind (on_ok (λ u. returns (Ok bytes))) (close_file input_slot)

unfoldable pub read_open : ℕ → Part (List ℕ)
read_open most = bind (on_ok then_closed) (read_pieces most [])

-- the bytes of the file of this name, in pieces of 4,096 bytes up to a shorter one, or this many
unfoldable pub file_plan : ℕ → List ℕ → Part (List ℕ)
file_plan most name = bind (on_ok (λ u. read_open most)) (open_input name)

-- ---- A TEXT that is written

-- by one call
unfoldable pub write_piece : ℕ → List ℕ → Part (Unit {0})
write_piece slot piece = bind (λ r. returns (carried r)) (write_plan slot piece)

-- in this many whole pieces and the one after them
unfoldable pub write_pieces : ℕ → ℕ → List ℕ → Part (Unit {0})
write_pieces zero slot text = write_piece slot text
write_pieces (suc more) slot text = bind (on_ok (λ u. write_pieces more slot (drop piece_size text))) (write_piece slot (take piece_size text))

-- in pieces of 4,096 bytes, the last of which is shorter or whole; no bytes make one empty piece
unfoldable pub text_plan : ℕ → List ℕ → Part (Unit {0})
text_plan slot text = write_pieces ((length text - 1) / piece_size) slot text

-- ---- LINES on the tool's standard output

-- its slot
abbrev pub output_slot : ℕ
output_slot = 259

-- each by one call
abbrev pub line_plan : List ℕ → Part (Unit {0})
line_plan line = write_piece output_slot line

-- a line is made, which takes memory, and written
unfoldable pub made_plan : List ℕ → Part (Unit {0})
made_plan line = bind (λ u. line_plan line) need

-- lines in turn, up to one that is not written
unfoldable pub lines_plan : List (List ℕ) → Part (Unit {0})
lines_plan [] = returns (Ok tt)
lines_plan (line ∷ lines) = bind (on_ok (λ u. lines_plan lines)) (made_plan line)
