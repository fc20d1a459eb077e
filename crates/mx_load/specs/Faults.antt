-- The faults of loading, and what they tell of items.
-- A rule of this program.
use Rattle.std.specs.Prelude.{ℕ, Result, Ok, Err}
use Rattle.mx_mmo.specs.Meaning.{Meaningless}
use Rattle.mx_mmo.specs.Meaning as why
use Rattle.mx_load.specs.declared.fault.LoadFault.{LoadFault}
use Rattle.mx_load.specs.declared.fault.LoadFault.TheVariants.{PagesFull, BadPlace, NoFile, OutOfMemory}

-- the number of a fault; 0 for out of memory
abbrev pub number_of : LoadFault → ℕ
number_of PagesFull = 90
number_of BadPlace = 95
number_of NoFile = 96
number_of OutOfMemory = 0

-- the fault that tells why items have no meaning
abbrev pub fault_of : Meaningless → LoadFault
fault_of why.PagesFull = PagesFull
fault_of why.BadPlace = BadPlace
fault_of why.NoFile = NoFile

-- what items mean, or the fault that tells why they mean nothing
abbrev pub told : {A : Type 0} → Result A Meaningless → Result A LoadFault
told (Ok x) = Ok x
told (Err e) = Err (fault_of e)

-- what there is after a call, or its fault
abbrev pub given : {A : Type 0} → Result (Unit {0}) LoadFault → A → Result A LoadFault
given (Ok u) x = Ok x
given (Err fault) x = Err fault
