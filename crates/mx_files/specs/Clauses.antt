-- The words of clauses over a host: `old` and `new` are what the host told before and after, `earlier` and `later` its counts of
-- faults.
use Rattle.std.specs.Prelude.{ℕ, IsTrue, ◌≡◌, Bool, true, false, not, Option, Result, Ok, Err, IfErr, ◌&&◌, ◌<◌, length}
use Rattle.mx_host.specs.HostModel.{HostModel, tells, contents, Rose, slot_at, is_read_only, is_write_only, to_output}
use Rattle.mx_host.specs.HostAnswer.{Then}
use Rattle.mx_host.specs.Keeping.{Answers, ComesByFault, WritesFront}
use Rattle.mx_host.specs.declared.slots.Lead.{Lead}
use Rattle.mx_host.specs.declared.slots.Lead.TheVariants.{Input, Output, Errors, File}
use Rattle.mx_host.specs.declared.slots.Slot.{Slot}
use Rattle.mx_host.specs.declared.slots.Slot.TheVariants.{Closed, Open}
use Rattle.mx_plan.specs.Calls.{HostCall, closing, reading, writing, host, HostPlan}
use Rattle.mx_plan.specs.Clauses.{CarriesOutOnHost, KeepsHost}
use Rattle.mx_plan.specs.Held.{Makes}
use Rattle.mx_plan.specs.Plan.{IsRest, end_of}
use Rattle.mx_files.specs.FilePlans.{Part}
use Rattle.mx_outcome.specs.declared.outcome.Outcome.{Outcome}
use Rattle.mx_outcome.specs.declared.outcome.Outcome.TheVariants.{NoFile, HostFault, Refused, BadObject, BadSchedule, OutOfMemory}

-- ---- CAUSES of a fault

abbrev pub gives : Lead → Bool
gives Input = true
gives Output = false
gives Errors = false
gives (File at) = true

abbrev pub takes : Lead → Bool
takes Input = false
takes Output = true
takes Errors = true
takes (File at) = true

-- whether a slot can be read, written, and closed
abbrev pub can_read : Slot → Bool
can_read Closed = false
can_read (Open lead mode place) = not (is_write_only mode) && gives lead

abbrev pub can_write : Slot → Bool
can_write Closed = false
can_write (Open lead mode place) = not (is_read_only mode) && takes lead

abbrev pub is_open : Slot → Bool
is_open Closed = false
is_open (Open lead mode place) = true

-- a call on a slot that serves it: it can only fail, or lack memory
abbrev pub Serves : HostCall → HostModel → Type 0
Serves (reading slot len) m = can_read (slot_at m slot) ≡ true
Serves (writing slot from) m = can_write (slot_at m slot) ≡ true
Serves (closing slot) m = is_open (slot_at m slot) ≡ true
Serves call m = Unit {0}

-- Over every host, an answer comes only where the count of faults rose, or where that is at its end; over one that tells its
-- contents, as long as each call of the plan is on a slot that serves it.
abbrev pub ComesByFailing : {A B : Type 0} → Option HostModel → A → A → ℕ → ℕ → HostPlan B → Type 0
ComesByFailing old answer result earlier later plan =
    (IsTrue (tells old) → Makes host Serves plan (contents old)) → result ≡ answer → Rose earlier later

-- the same of the outcome of a whole: `told` is what a host tells, `faults` its count of faults, `old` and `new` are the host before
-- and after
abbrev pub FailsByPlan : {H B : Type 0} → (H → Option HostModel) → (H → ℕ) → H → H → Outcome → HostPlan B → Type 0
FailsByPlan told faults old new result plan = ComesByFailing (told old) HostFault result (faults old) (faults new) plan

-- the slots of the tool's files are there, and that of its standard output leads to it
abbrev pub HasToolSlots : HostModel → Type 0
HasToolSlots m = (257 < length m.slots) × (slot_at m 259 ≡ to_output)

-- ---- PARTS of the work

-- the ends of the work on files: one is not there, its bytes are refused, the host fails, or there is no memory
abbrev pub is_end : Outcome → Bool
is_end NoFile = true
is_end (Refused line fault from_line) = true
is_end (BadObject place fault) = true
is_end (BadSchedule place) = true
is_end HostFault = true
is_end OutOfMemory = true
is_end outcome = false

-- A part is carried out. Over every host it ends the work only so; with a fault of the host only by a call that failed; over a host
-- that tells nothing a file is missing only where the count of faults rose; and that count does not fall.
pub record DoesPartBetween {A : Type 0} (old new : Option HostModel) (earlier later : ℕ) (result : Result A Outcome) (part : Part A) : Type 0 where
  pub told : CarriesOutOnHost old new (Err OutOfMemory) result part
  pub cause : ComesByFailing old (Err HostFault) result earlier later part
  pub absent : ComesByFault old (Err NoFile) result earlier later
  pub ends : IfErr result (λ outcome. is_end outcome ≡ true)
  pub keeps : KeepsHost old new earlier later

-- the same of a host: `told` is what it tells, `faults` its count of faults, `old` and `new` are the host before and after
abbrev pub DoesPart : {H A : Type 0} → (H → Option HostModel) → (H → ℕ) → H → H → Result A Outcome → Part A → Type 0
DoesPart told faults old new result part = DoesPartBetween (told old) (told new) (faults old) (faults new) result part

-- a part is carried out over a host
abbrev pub CarriesOutFilePart : {H A : Type 0} → (H → Option HostModel) → H → H → Result A Outcome → Part A → Type 0
CarriesOutFilePart told old new result part = CarriesOutOnHost (told old) (told new) (Err OutOfMemory) result part

-- over a host that tells its contents, the outcome and what the host then holds are the end of a plan, unless there was no memory;
-- where there was none, what standard output has is a front of what the plan writes
abbrev pub AnswersPlan : {H : Type 0} → (H → Option HostModel) → H → H → Outcome → HostPlan Outcome → Type 0
AnswersPlan told old new result plan = Answers (told old) (told new) OutOfMemory result (λ m. end_of host plan m)

abbrev pub WritesFrontOfPlan : {H : Type 0} → (H → Option HostModel) → H → H → Outcome → HostPlan Outcome → Type 0
WritesFrontOfPlan told old new result plan = WritesFront (told old) (told new) OutOfMemory result (λ m. end_of host plan m)

-- of a whole, this is what is left to do
pub record Leaves {A : Type 0} (old new : Option HostModel) (earlier later : ℕ) (rest whole : Part A) : Type 0 where
  pub told : IsTrue (tells old) → IsRest host rest (contents new) whole (contents old)
  pub cause : (IsTrue (tells old) → Makes host Serves whole (contents old)) → IsTrue (tells new) → Makes host Serves rest (contents new)
  pub keeps : KeepsHost old new earlier later

-- whether all was written, as a part of the work, with the model after it
abbrev pub part_of : Then Bool → Then (Result (Unit {0}) Outcome)
part_of (true, m) = (Ok tt, m)
part_of (false, m) = (Err HostFault, m)
