-- The numbers of the faults.
use Rattle.std.specs.Prelude.{ℕ}
use Rattle.mx_mem.specs.declared.fault.MemFault.{MemFault}
use Rattle.mx_mem.specs.declared.fault.MemFault.TheVariants.{PagesFull, OutOfMemory}

-- out of memory has no number
abbrev pub fault_number : MemFault → ℕ
fault_number PagesFull = 90
fault_number OutOfMemory = 0
