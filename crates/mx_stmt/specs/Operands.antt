-- What an operand is: a value that is known, or a future reference (MMIXware, MMIXAL; TAOCP 1, Fascicle 1, section
-- 1.3.2').
use Rattle.std.specs.Prelude.{ℕ, nat_lt, if◌then◌else◌, List, Option, None, Some, Result, Ok, Err}
use Rattle.mx_word.specs.declared.symbols.Value.{Value}
use Rattle.mx_word.specs.declared.symbols.Value.TheVariants.{Pure, Reg}
use Rattle.mx_word.specs.declared.waits.Awaited.{Awaited}
use Rattle.mx_word.specs.declared.waits.Awaited.TheVariants as awaited
use Rattle.mx_expr.specs.declared.faults.ExprFault.{ExprFault}
use Rattle.mx_expr.specs.declared.faults.ExprFault.TheVariants.{NameTooLong}
use Rattle.mx_expr.specs.Tree.{Tree, number, name, back, ahead, here, unary, binary}
use Rattle.mx_expr.specs.Value.{Knowledge, Valued, knowledge, value_of}
use Rattle.mx_names.specs.declared.fault.NameFault.{NameFault}
use Rattle.mx_names.specs.Names.{NameTable, value_of_name, back_of}
pub use Rattle.mx_names.specs.Names.{symbol_form}
use Rattle.mx_stmt.specs.declared.env.Env.{Env}
use Rattle.mx_stmt.specs.declared.operands.RegisterOrByte.{RegisterOrByte}
use Rattle.mx_stmt.specs.declared.operands.RegisterOrByte.TheVariants.{Register, Byte}
use Rattle.mx_stmt.specs.declared.operands.Target.{Target}
use Rattle.mx_stmt.specs.declared.operands.Target.TheVariants as target
use Rattle.mx_stmt.specs.declared.faults.StmtFault.TheVariants.{NotRegister, NotPure, Fit}
use Rattle.mx_stmt.specs.Faults.{fault_of}
use Rattle.mx_stmt.specs.Steps.{Answer, and_then}

-- what is known at a statement: the names with the prefix and the last local labels, the place `@`, and the
-- values of the allocated global registers
pub record Known : Type 0 where
  pub names : NameTable
  pub at : ℕ
  pub gregs : List ℕ

abbrev pub known_of : Env → Known
known_of env = record { names = env.names.now.names; at = env.at; gregs = env.gregs.now }

-- the value of a symbol as it is written; nothing where it is not known
abbrev pub value_in : NameTable → Result (List ℕ) NameFault → Result (Option Value) ExprFault
value_in names (Err fault) = Err NameTooLong
value_in names (Ok full) = Ok (value_of_name names full)

abbrev pub symbol_value : NameTable → List ℕ → Result (Option Value) ExprFault
symbol_value names text = value_in names (symbol_form names text)

abbrev pub knowledge_of : Known → Knowledge
knowledge_of known = knowledge (symbol_value known.names) (back_of known.names) known.at

-- the value of an operand
abbrev pub answer_of : Valued → Answer Value
answer_of (Err fault) = Err (fault_of fault)
answer_of (Ok value) = Ok value

abbrev pub operand_value : Known → Tree → Answer Value
operand_value known e = answer_of (value_of (knowledge_of known) e)

-- a value that has to be a register, a pure number, one that fits its field, or a register or a byte
abbrev pub register_number : Value → Answer ℕ
register_number (Pure n) = Err NotRegister
register_number (Reg r) = Ok r

abbrev pub pure_number : Value → Answer ℕ
pure_number (Pure n) = Ok n
pure_number (Reg r) = Err NotPure

abbrev pub number_below : ℕ → ℕ → Answer ℕ
number_below limit n = if nat_lt n limit then Ok n else Err Fit

abbrev pub field_number : ℕ → Value → Answer ℕ
field_number limit value = and_then (pure_number value) (number_below limit)

abbrev pub byte_operand : ℕ → Answer RegisterOrByte
byte_operand n = if nat_lt n 256 then Ok (Byte n) else Err Fit

abbrev pub register_or_byte : Value → Answer RegisterOrByte
register_or_byte (Pure n) = byte_operand n
register_or_byte (Reg r) = Ok (Register r)

-- an operand `$X`
abbrev pub register_at : Known → Tree → Answer ℕ
register_at known e = and_then (operand_value known e) register_number

-- a pure operand
abbrev pub pure_at : Known → Tree → Answer ℕ
pure_at known e = and_then (operand_value known e) pure_number

-- a pure operand that fits a field, with the least number that does not
abbrev pub field_at : ℕ → Known → Tree → Answer ℕ
field_at limit known e = and_then (operand_value known e) (field_number limit)

-- an operand `$Z|n`
abbrev pub register_or_byte_at : Known → Tree → Answer RegisterOrByte
register_or_byte_at known e = and_then (operand_value known e) register_or_byte

-- What a future reference waits for: the operand is a symbol that is not known, or `dF`. Parentheses leave no trace in it.
abbrev pub name_unless_known : List ℕ → Option Value → Option Awaited
name_unless_known full None = Some (awaited.Name full)
name_unless_known full (Some value) = None

abbrev pub awaited_name : NameTable → Result (List ℕ) NameFault → Option Awaited
awaited_name names (Err fault) = None
awaited_name names (Ok full) = name_unless_known full (value_of_name names full)

abbrev pub reference_of : Known → Tree → Option Awaited
reference_of known (number n) = None
reference_of known (name text) = awaited_name known.names (symbol_form known.names text)
reference_of known (back d) = None
reference_of known (ahead d) = Some (awaited.Local d)
reference_of known here = None
reference_of known (unary op e) = None
reference_of known (binary op l r) = None

-- an operand that may be a future reference, as that of OCTA and a relative address may
abbrev pub known_target : Answer ℕ → Answer Target
known_target (Err fault) = Err fault
known_target (Ok n) = Ok (target.Known n)

abbrev pub target_by : Option Awaited → Answer ℕ → Answer Target
target_by (Some who) n = Ok (target.Future who)
target_by None n = known_target n

abbrev pub target_at : Known → Tree → Answer Target
target_at known e = target_by (reference_of known e) (pure_at known e)

-- The value that each future reference has. One without a value has zero in its place.
abbrev pub Targets : Type 0
Targets = Awaited → Option ℕ

abbrev pub no_targets : Targets
no_targets who = None
