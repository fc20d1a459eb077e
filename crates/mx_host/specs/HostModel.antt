-- What a host that tells its contents is seen as: files, slots, the standard streams, and calls that
-- are numbered from 0.
-- (The modes of Fopen, and the standard handles: MMIXware, the part on MMIX-SIM. The tool's own slots, and calls that
-- are numbered and fail: a rule of this program.)
use Rattle.std.specs.Prelude.{ℕ, ◌≡◌, ◌+◌, ◌<◌, ◌^◌, ◌⊎◌, Bool, false, true, not, List, [], ◌∷◌, ◌++◌, length, map, replicate, All, slice_get, slice_set, nat_lt, is_some, unwrap_or, Option, None, Some, ◌&&◌, ◌==◌, if◌then◌else◌}
use Rattle.std.specs.List.{IsDistinct, list_any, position}
use Rattle.std.specs.Str.{bytes_eq}
use Rattle.mx_host.specs.declared.files.StoredFile.{StoredFile}
use Rattle.mx_host.specs.declared.slots.Lead.TheVariants.{Input, Output, Errors, File}
use Rattle.mx_host.specs.declared.slots.Mode.{Mode}
use Rattle.mx_host.specs.declared.slots.Mode.TheVariants.{TextRead, TextWrite, BinaryRead, BinaryWrite, BinaryReadWrite}
use Rattle.mx_host.specs.declared.slots.Slot.{Slot}
use Rattle.mx_host.specs.declared.slots.Slot.TheVariants.{Closed, Open}

pub record HostModel : Type 0 where
  -- the files, each with its name
  pub files : List StoredFile
  -- slots 0 to 260
  pub slots : List Slot
  -- what standard input has left, and what standard output and standard error were given
  pub input : List ℕ
  pub output : List ℕ
  pub errors : List ℕ
  -- the number of calls made, and the numbers of the calls that fail
  pub calls : ℕ
  pub failing : List ℕ

-- whether a host of which this is told tells its contents
unfoldable pub tells : Option HostModel → Bool
tells told = is_some told

-- the contents that are told; where there are none, a model that means nothing
unfoldable pub contents : Option HostModel → HostModel
contents (Some m) = m
contents None = record { files = []; slots = []; input = []; output = []; errors = []; calls = 0; failing = [] }

-- ---- the modes

-- nothing may be written
abbrev pub is_read_only : Mode → Bool
is_read_only TextRead = true
is_read_only BinaryRead = true
is_read_only TextWrite = false
is_read_only BinaryWrite = false
is_read_only BinaryReadWrite = false

-- nothing may be read
abbrev pub is_write_only : Mode → Bool
is_write_only TextRead = false
is_write_only BinaryRead = false
is_write_only TextWrite = true
is_write_only BinaryWrite = true
is_write_only BinaryReadWrite = false

-- the place may be told and changed
abbrev pub is_binary : Mode → Bool
is_binary TextRead = false
is_binary TextWrite = false
is_binary BinaryRead = true
is_binary BinaryWrite = true
is_binary BinaryReadWrite = true

-- ---- calls and faults

-- the number of calls stays at the largest octa
abbrev pub last_call : ℕ
last_call = 0xffff_ffff_ffff_ffff

-- the model after a call that changes nothing but the number of calls
abbrev pub counted : HostModel → HostModel
counted m = record m { calls = if nat_lt m.calls last_call then m.calls + 1 else m.calls }

-- whether a call number is in a failing list
abbrev pub is_listed : ℕ → List ℕ → Bool
is_listed call failing = list_any (λ k. k == call) failing

-- whether the next call is one that fails
abbrev pub is_failing : HostModel → Bool
is_failing m = nat_lt m.calls last_call && is_listed m.calls m.failing

-- how many of the calls below a number failed: the numbers in the failing list, each of them once
unfoldable pub fault_count : ℕ → List ℕ → ℕ
fault_count calls [] = 0
fault_count calls (k ∷ ks) = (if nat_lt k calls && not (is_listed k ks) then 1 else 0) + fault_count calls ks

-- a count rose; one that cannot rise counts as risen
abbrev pub Rose : ℕ → ℕ → Type 0
Rose old new = (old < new) ⊎ (new ≡ 0xffff_ffff_ffff_ffff)

-- ---- slots

-- what the slot is; one that does not exist is closed
abbrev pub slot_at : HostModel → ℕ → Slot
slot_at m slot = unwrap_or (slice_get m.slots slot) Closed

-- the model with another slot
abbrev pub with_slot : HostModel → ℕ → Slot → HostModel
with_slot m slot s = record m { slots = slice_set m.slots slot s }

abbrev pub to_input : Slot
to_input = Open Input TextRead 0

abbrev pub to_output : Slot
to_output = Open Output TextWrite 0

abbrev pub to_errors : Slot
to_errors = Open Errors TextWrite 0

abbrev pub standard_streams : List Slot
standard_streams = to_input ∷ to_output ∷ to_errors ∷ []

-- the slots at the start: 0, 1 and 2 and again 258, 259 and 260 lead to the standard streams
unfoldable pub start_slots : List Slot
start_slots = standard_streams ++ replicate 255 Closed ++ standard_streams

-- the model's slots are as at the start
abbrev pub HasStartSlots : HostModel → Type 0
HasStartSlots m = m.slots ≡ start_slots

-- the model at the start
abbrev pub start_model : List ℕ → List ℕ → HostModel
start_model input failing = record { files = []; slots = start_slots; input = input; output = []; errors = []; calls = 0; failing = failing }

-- ---- files

-- the place of the file of this name
abbrev pub place_of : List StoredFile → List ℕ → Option ℕ
place_of files name = position (λ f. bytes_eq f.name name) files

abbrev pub names_of : List StoredFile → List (List ℕ)
names_of files = map (λ f. f.name) files

-- no two files have one name
unfoldable pub HasDistinctNames : List StoredFile → Type 0
HasDistinctNames files = IsDistinct bytes_eq (names_of files)

-- a slot leads to a stream in the stream's mode, or to one of the first n files at a place that a
-- list can have
abbrev pub Leads : ℕ → Slot → Type 0
Leads n Closed = Unit {0}
Leads n (Open Input mode place) = mode ≡ TextRead
Leads n (Open Output mode place) = mode ≡ TextWrite
Leads n (Open Errors mode place) = mode ≡ TextWrite
Leads n (Open (File at) mode place) = (at < n) × (place < 2 ^ 63)

-- what holds of the files and slots of every model that a host in memory tells: 261 slots, distinct
-- names, and no slot that leads nowhere
abbrev pub IsSound : List StoredFile → List Slot → Type 0
IsSound files slots = (length slots ≡ 261) × HasDistinctNames files × All (Leads (length files)) slots
