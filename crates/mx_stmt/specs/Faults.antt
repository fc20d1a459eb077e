-- The faults of statements: their numbers, and those that come from expressions.
-- A rule of this program.
use Rattle.std.specs.Prelude.{ℕ}
use Rattle.mx_expr.specs.declared.faults.ExprFault.TheVariants as expr
use Rattle.mx_expr.specs.declared.faults.ExprFault.{ExprFault}
use Rattle.mx_expr.specs.Faults as expressions
use Rattle.mx_stmt.specs.declared.faults.StmtFault.{StmtFault}
use Rattle.mx_stmt.specs.declared.faults.StmtFault.TheVariants.{Expr, UnknownOpcode, Operands, NotRegister, NotPure, Fit, NoBase, TooFar, NotMultiple, TooManyGregs, LabelNotAllowed, BadPlace, OutOfMemory}

abbrev pub fault_number : StmtFault → ℕ
fault_number (Expr fault) = expressions.fault_number fault
fault_number UnknownOpcode = 39
fault_number Operands = 40
fault_number NotRegister = 41
fault_number NotPure = 42
fault_number Fit = 43
fault_number NoBase = 44
fault_number TooFar = 45
fault_number NotMultiple = 46
fault_number TooManyGregs = 47
fault_number LabelNotAllowed = 48
fault_number BadPlace = 49
fault_number OutOfMemory = 0

-- a fault of an expression as one of its statement; out of memory stays what it is
abbrev pub fault_of : ExprFault → StmtFault
fault_of expr.OutOfMemory = OutOfMemory
fault_of fault = Expr fault
