-- The numbers of the faults; there is none where there was no memory.
-- A rule of this program.
use Rattle.std.specs.Prelude.{ℕ}
use Rattle.mx_names.specs.declared.fault.NameFault.{NameFault}
use Rattle.mx_names.specs.declared.fault.NameFault.TheVariants.{Twice, Predefined, NameTooLong, OutOfMemory}

abbrev pub number_of : NameFault → ℕ
number_of Twice = 30
number_of Predefined = 31
number_of NameTooLong = 33
number_of OutOfMemory = 0
