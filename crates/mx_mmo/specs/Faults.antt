-- The numbers and places of the faults of objects.
-- A rule of this program.
use Rattle.std.specs.Prelude.{ℕ, Option, Some, None}
use Rattle.mx_mmo.specs.declared.faults.MmoFault.{MmoFault}
use Rattle.mx_mmo.specs.declared.faults.MmoFault.TheVariants.{NotTetras, NoPre, BadLop, BadFields, Truncated, TooLong, OutOfMemory}

-- the number of a fault; 0 for out of memory
abbrev pub number_of : MmoFault → ℕ
number_of (NotTetras place) = 60
number_of (NoPre place) = 61
number_of (BadLop place) = 62
number_of (BadFields place) = 63
number_of (Truncated place) = 64
number_of (TooLong place) = 65
number_of OutOfMemory = 0

-- the byte place that a fault carries
abbrev pub place_of : MmoFault → Option ℕ
place_of (NotTetras place) = Some place
place_of (NoPre place) = Some place
place_of (BadLop place) = Some place
place_of (BadFields place) = Some place
place_of (Truncated place) = Some place
place_of (TooLong place) = Some place
place_of OutOfMemory = None
