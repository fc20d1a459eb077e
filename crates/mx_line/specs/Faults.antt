-- The numbers of a line's faults.
-- A rule of this program.
use Rattle.std.specs.Prelude.{ℕ}
use Rattle.mx_line.specs.declared.faults.LineFault.{LineFault}
use Rattle.mx_line.specs.declared.faults.LineFault.TheVariants.{TooLong, BadLabel, BadLocal, BadOpcode, OpenString, OpenChar, NoOpcode}

abbrev pub fault_number : LineFault → ℕ
fault_number TooLong = 1
fault_number BadLabel = 2
fault_number BadLocal = 3
fault_number BadOpcode = 4
fault_number OpenString = 5
fault_number OpenChar = 6
fault_number NoOpcode = 7
