-- The faults of sources: their numbers, and refusals.
-- A rule of this program.
use Rattle.std.specs.Prelude.{◌≡◌, ◌<◌, ◌⊎◌, ℕ, Bool, true, false}
use Rattle.mx_line.specs.Faults as lines
use Rattle.mx_stmt.specs.Faults as statements
use Rattle.mx_names.specs.Numbers as names
use Rattle.mx_asm.specs.declared.faults.AsmFault.{AsmFault}
use Rattle.mx_asm.specs.declared.faults.AsmFault.TheVariants.{Line, Stmt, Name, UndefinedSymbol, UndefinedLocal, MainUndefined, MainRegister, FutureRegister, FutureTooFar, SymbolsTooMany, LocalAboveGlobals, SourceTooLong, FutureNotMultiple, OutOfMemory}
use Rattle.mx_asm.specs.declared.refused.Refused.{Refused}

abbrev pub fault_number : AsmFault → ℕ
fault_number (Line fault) = lines.fault_number fault
fault_number (Stmt fault) = statements.fault_number fault
fault_number (Name fault) = names.number_of fault
fault_number UndefinedSymbol = 80
fault_number UndefinedLocal = 81
fault_number MainUndefined = 82
fault_number MainRegister = 83
fault_number FutureRegister = 84
fault_number FutureTooFar = 85
fault_number SymbolsTooMany = 86
fault_number LocalAboveGlobals = 87
fault_number SourceTooLong = 88
fault_number FutureNotMultiple = 89
fault_number OutOfMemory = 0

-- whether a fault is found before a statement has changed anything: that of a reference which waited for its label is not, nor is that
-- memory ran out
abbrev pub is_early : AsmFault → Bool
is_early FutureRegister = false
is_early FutureTooFar = false
is_early FutureNotMultiple = false
is_early OutOfMemory = false
is_early fault = true

-- the refusal of a line, with no line of a reference
abbrev pub refused : ℕ → AsmFault → Refused
refused line fault = record { line = line; fault = fault; from_line = 0 }

-- the refusal of a line because of a reference on another
abbrev pub refused_from : ℕ → AsmFault → ℕ → Refused
refused_from line fault from = record { line = line; fault = fault; from_line = from }

abbrev pub no_memory : Refused
no_memory = refused 0 OutOfMemory

-- A refusal has a fault with a number above 0; or it is out of memory, with no line.
abbrev pub IsTold : Refused → Type 0
IsTold r = (0 < fault_number r.fault) ⊎ (r ≡ no_memory)
