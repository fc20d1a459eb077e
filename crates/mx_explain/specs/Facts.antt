-- What the tables say of an operation or a symbol: codes, costs, values.
use Rattle.std.specs.Prelude.{ℕ, ◌+◌, ◌%◌, true, false, ◌==◌, nat_lt, List, [], ◌∷◌, ◌++◌, Option, None, Some, codes, decimal, if◌then◌else◌}
use Rattle.mx_costs.specs.Costs.{oops, mems}
use Rattle.mx_ops.specs.Opcodes.{opcode_kind, is_immediate, is_backward, operation_of}
use Rattle.mx_ops.specs.Predefined.{predefined_value}
use Rattle.mx_ops.specs.declared.op.Op.{Op}
use Rattle.mx_ops.specs.declared.op.Op.TheVariants.{Code}
use Rattle.mx_text.specs.Numbers.{hex_digits, hex_text}

-- ---- the codes of an instruction

abbrev pub code_text : ℕ → List ℕ
code_text code = codes "#" ++ hex_digits 2 code

-- what is said of the code after the one of a name: it may be a second one of this name
abbrev pub second_text : ℕ → List ℕ
second_text code =
    if is_immediate (opcode_kind code) then codes ", and " ++ code_text code ++ codes " with Z as a number"
    else if is_backward (opcode_kind code) then codes ", and " ++ code_text code ++ codes " for an address before its own"
    else []

unfoldable pub codes_line : ℕ → List ℕ
codes_line code = codes "  Opcode:   " ++ code_text code ++ second_text ((code + 1) % 256) ++ codes "\n"

-- ---- what it costs

-- the letters υ and μ, in UTF-8
abbrev pub upsilon : List ℕ
upsilon = 207 ∷ 133 ∷ []

abbrev pub mu : List ℕ
mu = 206 ∷ 188 ∷ []

abbrev pub oops_text : ℕ → List ℕ
oops_text count = decimal count ++ upsilon

abbrev pub mems_text : ℕ → List ℕ
mems_text count = if count == 0 then [] else codes " + " ++ decimal count ++ mu

-- what a branch costs that is taken, if it is not what it costs otherwise
abbrev pub taken_text : ℕ → ℕ → List ℕ
taken_text taken otherwise = if taken == otherwise then [] else codes ", and " ++ oops_text taken ++ codes " where the branch is taken"

unfoldable pub cost_line : ℕ → List ℕ
cost_line code = codes "  Cost:     " ++ oops_text (oops code false) ++ mems_text (mems code) ++ taken_text (oops code true) (oops code false) ++ codes "\n"

-- ---- those of an operation, which is an instruction or has none

abbrev pub codes_of : Option Op → List ℕ
codes_of (Some (Code code)) = codes_line code
codes_of other = []

abbrev pub cost_of : Option Op → List ℕ
cost_of (Some (Code code)) = cost_line code
cost_of other = []

abbrev pub operation_codes : List ℕ → List ℕ
operation_codes name = codes_of (operation_of name)

abbrev pub operation_cost : List ℕ → List ℕ
operation_cost name = cost_of (operation_of name)

-- ---- the value of a symbol

-- the value of a name without its colon
abbrev pub value_of : List ℕ → Option ℕ
value_of name = predefined_value (58 ∷ name)

-- a number of one byte is decimal, and each greater one hexadecimal
unfoldable pub number_text : ℕ → List ℕ
number_text value = if nat_lt value 256 then decimal value else hex_text value

abbrev pub value_line : Option ℕ → List ℕ
value_line None = []
value_line (Some value) = codes "  Value:    " ++ number_text value ++ codes "\n"
