-- The numbers of the refusals of the register stack.
-- A rule of this program.
use Rattle.std.specs.Prelude.{ℕ}
use Rattle.mx_registers.specs.declared.fault.RingFault.{RingFault}
use Rattle.mx_registers.specs.declared.fault.RingFault.TheVariants.{StackFull, Underflow, BadFrame, OutOfMemory}

-- out of memory has no number
abbrev pub fault_number : RingFault → ℕ
fault_number StackFull = 100
fault_number Underflow = 101
fault_number BadFrame = 102
fault_number OutOfMemory = 0
