-- The texts of instructions.
-- A rule of this program.
use Rattle.std.specs.Prelude.{ℕ, ◌+◌, ◌-◌, ◌*◌, ◌/◌, ◌%◌, ◌^◌, List, [], ◌∷◌, ◌++◌, map, if◌then◌else◌, codes, decimal, slice_index_or}
use Rattle.std.specs.List.{join_with_byte}
use Rattle.mx_ops.specs.Opcodes.{opcode_name, opcode_kind, is_immediate, is_backward}
use Rattle.mx_ops.specs.Shapes.{shapes_of}
use Rattle.mx_ops.specs.declared.op.Shape.{Shape}
use Rattle.mx_ops.specs.declared.op.Shape.TheVariants.{Three, Regs, Round, Neg, Rel, Mem, MemPure, Wyde, Jump, Put, Get, Pop, One, Save, Unsave, Free}
use Rattle.mx_text.specs.Numbers.{hex_text}
use Rattle.mx_text.specs.declared.operands.Operand.{Operand}
use Rattle.mx_text.specs.declared.operands.Operand.TheVariants.{Register, Number, Address}

-- the fields of a tetra
abbrev pub field_code : ℕ → ℕ
field_code word = word / 2 ^ 24

abbrev pub field_x : ℕ → ℕ
field_x word = word / 2 ^ 16 % 2 ^ 8

abbrev pub field_y : ℕ → ℕ
field_y word = word / 2 ^ 8 % 2 ^ 8

abbrev pub field_z : ℕ → ℕ
field_z word = word % 2 ^ 8

abbrev pub field_yz : ℕ → ℕ
field_yz word = word % 2 ^ 16

abbrev pub field_xyz : ℕ → ℕ
field_xyz word = word % 2 ^ 24

-- the shape of a code's operands
abbrev pub shape : ℕ → Shape
shape code = slice_index_or (shapes_of code) 0 Free

-- The target of a relative address in the field n at the address pc. A forward one lies n tetras ahead; at a
-- backward code it is as many less the number of values of the field. Addresses are modulo 2^64.
abbrev pub target : ℕ → ℕ → ℕ → ℕ → ℕ
target code pc n values =
    if is_backward (opcode_kind code) then (2 ^ 64 + pc + 4 * n - 4 * values) % 2 ^ 64 else (pc + 4 * n) % 2 ^ 64

-- $Z, or the byte Z at an immediate code
abbrev pub last : ℕ → ℕ → Operand
last code z = if is_immediate (opcode_kind code) then Number z else Register z

-- The operands that are shown for each shape. Y is not shown where it has to be 0.
abbrev pub operands : Shape → ℕ → ℕ → List Operand
operands Three word pc = Register (field_x word) ∷ Register (field_y word) ∷ last (field_code word) (field_z word) ∷ []
operands Regs word pc = Register (field_x word) ∷ Register (field_y word) ∷ Register (field_z word) ∷ []
operands Round word pc = Register (field_x word) ∷ Number (field_y word) ∷ last (field_code word) (field_z word) ∷ []
operands Neg word pc = Register (field_x word) ∷ Number (field_y word) ∷ last (field_code word) (field_z word) ∷ []
operands Rel word pc = Register (field_x word) ∷ Address (target (field_code word) pc (field_yz word) (2 ^ 16)) ∷ []
operands Mem word pc = Register (field_x word) ∷ Register (field_y word) ∷ last (field_code word) (field_z word) ∷ []
operands MemPure word pc = Number (field_x word) ∷ Register (field_y word) ∷ last (field_code word) (field_z word) ∷ []
operands Wyde word pc = Register (field_x word) ∷ Number (field_yz word) ∷ []
operands Jump word pc = Address (target (field_code word) pc (field_xyz word) (2 ^ 24)) ∷ []
operands Put word pc = Number (field_x word) ∷ last (field_code word) (field_z word) ∷ []
operands Get word pc = Register (field_x word) ∷ Number (field_z word) ∷ []
operands Pop word pc = Number (field_x word) ∷ Number (field_yz word) ∷ []
operands One word pc = Number (field_xyz word) ∷ []
operands Save word pc = Register (field_x word) ∷ Number (field_z word) ∷ []
operands Unsave word pc = Number (field_x word) ∷ Register (field_z word) ∷ []
operands Free word pc = Number (field_x word) ∷ Number (field_y word) ∷ Number (field_z word) ∷ []

-- the operands of a tetra at the address pc
unfoldable pub shown_operands : ℕ → ℕ → List Operand
shown_operands word pc = operands (shape (field_code word)) word pc

-- a register as `$` and its number, a number in decimal digits, an address as `#` and its 16 digits
abbrev pub operand_text : Operand → List ℕ
operand_text (Register k) = codes "$" ++ decimal k
operand_text (Number n) = decimal n
operand_text (Address a) = hex_text a

-- an operand after a comma
abbrev pub next_text : Operand → List ℕ
next_text operand = codes "," ++ operand_text operand

-- the operands with commas between them
unfoldable pub operands_text : List Operand → List ℕ
operands_text list = join_with_byte 44 (map operand_text list)

-- the name, a blank and the operands of a tetra at the address pc
abbrev pub instruction_text : ℕ → ℕ → List ℕ
instruction_text word pc = opcode_name (field_code word) ++ codes " " ++ operands_text (shown_operands word pc)
