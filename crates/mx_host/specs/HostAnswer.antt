-- What each call answers and leaves, over a host that tells its contents.
-- A call that finds no memory is not spoken of here: it answers that and leaves `counted`.
-- (What the file traps ask for: MMIXware, the part on MMIX-SIM. Which places of a file can be sought: a rule of this
-- program.)
use Rattle.std.specs.Prelude.{ℕ, ◌+◌, ◌-◌, ℤ, pos, negsuc, Bool, false, true, List, [], ◌∷◌, ◌++◌, length, take, drop, slice_get, slice_set, Option, None, Some, Result, Ok, Err, nat_le, if◌then◌else◌}
use Rattle.std.specs.Option.{option_map}
use Rattle.mx_word.specs.Lists.{with_written}
use Rattle.mx_host.specs.HostModel.{HostModel, counted, is_failing, is_read_only, is_write_only, is_binary, slot_at, with_slot, place_of}
use Rattle.mx_host.specs.declared.files.StoredFile.{StoredFile}
use Rattle.mx_host.specs.declared.slots.Mode.{Mode}
use Rattle.mx_host.specs.declared.slots.Slot.{Slot}
use Rattle.mx_host.specs.declared.slots.Slot.TheVariants.{Closed, Open}
use Rattle.mx_host.specs.declared.slots.Lead.{Lead}
use Rattle.mx_host.specs.declared.slots.Lead.TheVariants.{Input, Output, Errors, File}
use Rattle.mx_host.specs.declared.faults.OpenFault.{OpenFault}
use Rattle.mx_host.specs.declared.faults.OpenFault.TheVariants as opening
use Rattle.mx_host.specs.declared.faults.HostFault.{HostFault}
use Rattle.mx_host.specs.declared.faults.HostFault.TheVariants.{Failed, Misused}

-- an answer and the model after it
abbrev pub Then : Type 0 → Type 0
Then A = A × HostModel

-- ---- the bytes of files

-- the files with other bytes in the one at a place, which is this
abbrev pub changed_at : List StoredFile → ℕ → List ℕ → Option StoredFile → List StoredFile
changed_at files at bytes None = files
changed_at files at bytes (Some f) = slice_set files at (record f { bytes = bytes })

-- the files with other bytes in the one at this place
abbrev pub with_bytes : List StoredFile → ℕ → List ℕ → List StoredFile
with_bytes files at bytes = changed_at files at bytes (slice_get files at)

-- a file of this name with no bytes
abbrev pub empty_file : List ℕ → StoredFile
empty_file name = record { name = name; bytes = [] }

-- the bytes of a file; one that does not exist has none
abbrev pub bytes_of : Option StoredFile → List ℕ
bytes_of None = []
bytes_of (Some f) = f.bytes

-- the bytes of the file at this place
abbrev pub bytes_at : List StoredFile → ℕ → List ℕ
bytes_at files at = bytes_of (slice_get files at)

-- ---- opening and closing

-- `open_file`, where it is not a failing call: m has the call counted, and `at` is the file's place
abbrev pub opened : Bool → HostModel → ℕ → List ℕ → Mode → Option ℕ → Then (Result (Unit {0}) OpenFault)
-- reading needs the file; a slot that was open is closed, also where the file is missing
opened true m slot name mode None = (Err opening.Absent, with_slot m slot Closed)
opened true m slot name mode (Some at) = (Ok tt, with_slot m slot (Open (File at) mode 0))
-- writing makes the file or empties it
opened false m slot name mode None =
    (Ok tt, with_slot (record m { files = m.files ++ empty_file name ∷ [] }) slot (Open (File (length m.files)) mode 0))
opened false m slot name mode (Some at) =
    (Ok tt, with_slot (record m { files = with_bytes m.files at [] }) slot (Open (File at) mode 0))

unfoldable pub open_answer : HostModel → ℕ → List ℕ → Mode → Then (Result (Unit {0}) OpenFault)
open_answer m slot name mode =
    if is_failing m then (Err opening.Failed, counted m)
    else opened (is_read_only mode) (counted m) slot name mode (place_of m.files name)

abbrev pub closed : HostModel → ℕ → Slot → Then (Result (Unit {0}) HostFault)
closed m slot Closed = (Err Misused, m)
closed m slot (Open lead mode place) = (Ok tt, with_slot m slot Closed)

unfoldable pub close_answer : HostModel → ℕ → Then (Result (Unit {0}) HostFault)
close_answer m slot = if is_failing m then (Err Failed, counted m) else closed (counted m) slot (slot_at m slot)

-- ---- reading and writing

-- at most len bytes: those that are next in the file or in the input left
abbrev pub read_lead : HostModel → ℕ → ℕ → Lead → Mode → ℕ → Then (Result (List ℕ) HostFault)
read_lead m slot len Input mode place = (Ok (take len m.input), record m { input = drop len m.input })
read_lead m slot len Output mode place = (Err Misused, m)
read_lead m slot len Errors mode place = (Err Misused, m)
read_lead m slot len (File at) mode place =
    let got = take len (drop place (bytes_at m.files at)) in
    (Ok got, with_slot m slot (Open (File at) mode (place + length got)))

abbrev pub read_from : HostModel → ℕ → ℕ → Slot → Then (Result (List ℕ) HostFault)
read_from m slot len Closed = (Err Misused, m)
read_from m slot len (Open lead mode place) =
    if is_write_only mode then (Err Misused, m) else read_lead m slot len lead mode place

unfoldable pub read_answer : HostModel → ℕ → ℕ → Then (Result (List ℕ) HostFault)
read_answer m slot len = if is_failing m then (Err Failed, counted m) else read_from (counted m) slot len (slot_at m slot)

-- a file's bytes are replaced at the place, and extended; a stream's are appended
abbrev pub write_lead : HostModel → ℕ → List ℕ → Lead → Mode → ℕ → Then (Result (Unit {0}) HostFault)
write_lead m slot from Input mode place = (Err Misused, m)
write_lead m slot from Output mode place = (Ok tt, record m { output = m.output ++ from })
write_lead m slot from Errors mode place = (Ok tt, record m { errors = m.errors ++ from })
write_lead m slot from (File at) mode place =
    (Ok tt, with_slot (record m { files = with_bytes m.files at (with_written (bytes_at m.files at) place from) }) slot (Open (File at) mode (place + length from)))

abbrev pub write_to : HostModel → ℕ → List ℕ → Slot → Then (Result (Unit {0}) HostFault)
write_to m slot from Closed = (Err Misused, m)
write_to m slot from (Open lead mode place) =
    if is_read_only mode then (Err Misused, m) else write_lead m slot from lead mode place

unfoldable pub write_answer : HostModel → ℕ → List ℕ → Then (Result (Unit {0}) HostFault)
write_answer m slot from = if is_failing m then (Err Failed, counted m) else write_to (counted m) slot from (slot_at m slot)

-- ---- the place

-- the place that is sought in a file of this length, where it lies inside: a number of at least 0 is
-- the place itself, and -1 - k, which is any other number, is k before the end
abbrev pub place_sought : ℕ → ℤ → Option ℕ
place_sought len (pos n) = if nat_le n len then Some n else None
place_sought len (negsuc k) = if nat_le k len then Some (len - k) else None

abbrev pub moved : HostModel → ℕ → Lead → Mode → Option ℕ → Then (Result (Unit {0}) HostFault)
moved m slot lead mode None = (Err Misused, m)
moved m slot lead mode (Some place) = (Ok tt, with_slot m slot (Open lead mode place))

abbrev pub seek_lead : HostModel → ℕ → ℤ → Lead → Mode → Then (Result (Unit {0}) HostFault)
seek_lead m slot to Input mode = (Err Misused, m)
seek_lead m slot to Output mode = (Err Misused, m)
seek_lead m slot to Errors mode = (Err Misused, m)
seek_lead m slot to (File at) mode = moved m slot (File at) mode (place_sought (length (bytes_at m.files at)) to)

abbrev pub seek_in : HostModel → ℕ → ℤ → Slot → Then (Result (Unit {0}) HostFault)
seek_in m slot to Closed = (Err Misused, m)
seek_in m slot to (Open lead mode place) = if is_binary mode then seek_lead m slot to lead mode else (Err Misused, m)

unfoldable pub seek_answer : HostModel → ℕ → ℤ → Then (Result (Unit {0}) HostFault)
seek_answer m slot to = if is_failing m then (Err Failed, counted m) else seek_in (counted m) slot to (slot_at m slot)

abbrev pub place_told : Lead → ℕ → Result ℕ HostFault
place_told Input place = Err Misused
place_told Output place = Err Misused
place_told Errors place = Err Misused
place_told (File at) place = Ok place

abbrev pub place_in : Slot → Result ℕ HostFault
place_in Closed = Err Misused
place_in (Open lead mode place) = if is_binary mode then place_told lead place else Err Misused

unfoldable pub tell_answer : HostModel → ℕ → Then (Result ℕ HostFault)
tell_answer m slot = if is_failing m then (Err Failed, counted m) else (place_in (slot_at m slot), counted m)

-- ---- files that are put there and looked at, which are no calls

abbrev pub file_at : List StoredFile → Option ℕ → Option (List ℕ)
file_at files None = None
file_at files (Some at) = option_map (λ f. f.bytes) (slice_get files at)

-- the bytes of the file of this name
abbrev pub file_of : HostModel → List ℕ → Option (List ℕ)
file_of m name = file_at m.files (place_of m.files name)

abbrev pub put_at : List StoredFile → List ℕ → List ℕ → Option ℕ → List StoredFile
put_at files name bytes None = files ++ record { name = name; bytes = bytes } ∷ []
put_at files name bytes (Some at) = with_bytes files at bytes

-- the model with a file of this name and these bytes, in place of one of that name
abbrev pub with_file : HostModel → List ℕ → List ℕ → HostModel
with_file m name bytes = record m { files = put_at m.files name bytes (place_of m.files name) }
