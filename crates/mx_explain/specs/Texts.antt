-- The text of a row: a line that says what it is called and what it is; what the tables say of it, and its sentences, each line after
-- two blanks; an example, and how to fix it.
use Rattle.std.specs.Prelude.{ℕ, ◌==◌, List, [], ◌∷◌, ◌++◌, Option, None, Some, codes, decimal, if◌then◌else◌}
use Rattle.std.specs.List.{flat_map}
use Rattle.mx_ops.specs.Opcodes.{operation_of}
use Rattle.mx_ops.specs.declared.op.Op.{Op}
use Rattle.mx_ops.specs.declared.op.Op.TheVariants.{Pseudo, Code}
use Rattle.mx_explain.specs.declared.row.Topic.{Topic}
use Rattle.mx_explain.specs.declared.row.Topic.TheVariants.{Source, Object, Stop, Kind, Warning, Status, Inside, Operation, Unperformed, Symbol}
use Rattle.mx_explain.specs.Topics.{Row, number_of, name_of}
use Rattle.mx_explain.specs.Operands.{operands}
use Rattle.mx_explain.specs.Facts.{operation_codes, operation_cost, value_line, value_of}

-- ---- its first line

abbrev pub number_text : Option ℕ → List ℕ
number_text None = []
number_text (Some number) = decimal number ++ codes " "

-- what it is called: its number, if it has one, and its name
abbrev pub label : Row → List ℕ
label row = number_text (number_of row.topic) ++ name_of row

abbrev pub operation_kind : Option Op → List ℕ
operation_kind (Some (Pseudo pseudo)) = codes "a pseudo-operation"
operation_kind (Some (Code code)) = codes "an instruction"
operation_kind other = codes "an instruction that the operands choose"

-- what a topic is, of an operation by its name
abbrev pub kind_of : Topic → List ℕ → List ℕ
kind_of (Source number) name = codes "a fault of a source"
kind_of (Object number) name = codes "a fault of an object"
kind_of (Stop number) name = codes "a reason of a stop"
kind_of (Kind number) name = codes "a command-line error"
kind_of (Warning number) name = codes "a warning of a source"
kind_of (Status number) name = codes "an exit status"
kind_of (Inside number) name = codes "a number inside the program"
kind_of Operation name = operation_kind (operation_of name)
kind_of Unperformed name = codes "an instruction that this machine does not perform"
kind_of Symbol name = codes "a predefined symbol"

unfoldable pub head : Row → List ℕ
head row = label row ++ codes ": " ++ kind_of row.topic row.name ++ codes "\n"

-- ---- what the tables say of it

-- how an operation is written
abbrev pub form : List ℕ → List ℕ
form name = codes "  " ++ name ++ codes " " ++ operands (operation_of name) ++ codes "\n"

-- in front of its sentences
unfoldable pub front : Topic → List ℕ → List ℕ
front Operation name = form name
front Unperformed name = form name
front Symbol name = value_line (value_of name)
front numbered name = []

-- after them
unfoldable pub back : Topic → List ℕ → List ℕ
back Operation name = operation_codes name ++ operation_cost name
back Unperformed name = operation_codes name
back other name = []

-- ---- its sentences, and its example

-- a byte, and after the end of a line the blanks at the front of the next one
abbrev pub indented : ℕ → List ℕ
indented b = if b == 10 then codes "\n  " else b ∷ []

unfoldable pub sentences : List ℕ → List ℕ
sentences says = codes "  " ++ flat_map indented says ++ codes "\n"

-- a line with a title, unless it would be empty
unfoldable pub part : List ℕ → List ℕ → List ℕ
part title [] = []
part title (b ∷ bs) = title ++ (b ∷ bs) ++ codes "\n"

-- ---- the whole

unfoldable pub row_text : Row → List ℕ
row_text row =
    head row ++ front row.topic row.name ++ sentences row.says ++ part (codes "  Example:  ") row.example
    ++ part (codes "  Fixed:    ") row.mended ++ back row.topic row.name
