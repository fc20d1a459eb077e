-- Steps along the page of instructions that memory keeps. An instruction there is told by its number, from 0 to 1,023; the
-- number 1,024 means the address after the page.
use Rattle.std.specs.Prelude.{ℕ, ◌≡◌, ◌≢◌, ◌≤◌, ◌+◌, ◌*◌, ◌%◌, ◌^◌, Result, Ok}
use Rattle.mx_mem.specs.Memory.{IsCode, KeepsCode}
use Rattle.mx_code.specs.Instructions.{operation_in, z_of}
use Rattle.mx_code.specs.SpecialRegisters.{rC}
use Rattle.mx_code.specs.declared.instruction.Instruction.{Instruction}
use Rattle.mx_code.specs.declared.operation.Operation.TheVariants as op
use Rattle.mx_code.specs.declared.reason.Reason.{Reason}
use Rattle.mx_core.specs.Deeds.{onward}
use Rattle.mx_core.specs.Kept.{Kept, state_of}
use Rattle.mx_core.specs.State.{State}
use Rattle.mx_core.specs.Step.{step}
use Rattle.mx_core.specs.Way.Calls.{left}
use Rattle.mx_core.specs.Way.Stepping.{advanced}
use Rattle.mx_core.specs.declared.step.Advance.TheVariants as advance
use Rattle.mx_core.specs.declared.along.Next.{Next}
use Rattle.mx_core.specs.declared.along.Next.TheVariants as next

-- the address of an instruction
abbrev pub address_in : Kept → ℕ → ℕ
address_in k index = k.memory.code_start + 4 * index

-- a page is kept, and has an instruction with this number or ends there
abbrev pub IsHere : Kept → ℕ → Type 0
IsHere k index = IsCode k.memory × (index ≤ 1024)

-- the machine at another address, a multiple of 4, with another count of steps
abbrev pub placed : State → ℕ → ℕ → State
placed s a n = record s { pc = a; steps = n }

-- where a step leads, as a number on the page, modulo 2^64 also of what is elsewhere; and as an address
abbrev pub number_of : Next → ℕ
number_of (next.At j) = j
number_of (next.To j) = j
number_of next.Unmade = 0

abbrev pub address_of : ℕ → ℕ → ℕ
address_of start j = (start + 4 * j) % 2 ^ 64

-- it stays on the page
abbrev pub IsReached : Next → Type 0
IsReached (next.At j) = j ≤ 1024
IsReached other = Unit {0}

-- The step that is made of an instruction does not depend on the count of steps.
abbrev pub ReadsNoCount : Instruction → Type 0
ReadsNoCount i = (operation_in i ≢ op.Resume) × (operation_in i ≡ op.Get → z_of i ≢ rC)

-- a step that is made makes this of the old machine, once the machine goes where it leads
abbrev pub MakesNext : (State → Result State Reason) → Next → Kept → Kept → Type 0
MakesNext f n old new = n ≢ next.Unmade →
    (Ok tt, onward (state_of new) (address_of old.memory.code_start (number_of n))) ≡ left (state_of old) (f (state_of old))

-- the step at an instruction after `made` steps that the machine does not count yet
abbrev pub GoesAt : ℕ → ℕ → Next → Kept → Kept → Type 0
GoesAt made index n old new =
    (advance.Went, placed (state_of new) (address_of old.memory.code_start (number_of n)) ((made + 1) % 2 ^ 64))
    ≡ advanced (placed (state_of old) (address_in old index) made) (step (placed (state_of old) (address_in old index) made))

-- the same page of instructions is kept, and no step is counted
abbrev pub KeepsPlace : Kept → Kept → Type 0
KeepsPlace old new = KeepsCode old.memory new.memory × (new.steps ≡ old.steps)

-- one that is not made changes nothing
abbrev pub KeepsUnmade : Next → Kept → Kept → Type 0
KeepsUnmade n old new = n ≡ next.Unmade → state_of new ≡ state_of old
