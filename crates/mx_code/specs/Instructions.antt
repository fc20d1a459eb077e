-- Instructions: a tetra, the address where it is carried out, and the fields that it has (MMIXware, the part on MMIX;
-- TAOCP 1, Fascicle 1, section 1.3.1').
use Rattle.std.specs.Prelude.{ℕ, ◌+◌, ◌-◌, ◌*◌, ◌/◌, ◌%◌, ◌^◌, Option, None, Some, if◌then◌else◌}
use Rattle.mx_alu.specs.Names.{wyde_of}
use Rattle.mx_ops.specs.Opcodes.{opcode_kind, is_backward}
use Rattle.mx_code.specs.Operations.{operation_of, has_destination}
use Rattle.mx_code.specs.declared.instruction.Instruction.{Instruction}
use Rattle.mx_code.specs.declared.operation.Operation.{Operation}

-- an instruction of a program, at its own address
abbrev pub instruction : ℕ → ℕ → Instruction
instruction at word = record { at = at; word = word; given = None }

-- an instruction whose operands are given
abbrev pub operands_given : ℕ → ℕ → ℕ → ℕ → Instruction
operands_given at word y z = record { at = at; word = word; given = Some (y, z) }

-- OP, X, Y and Z, and the longer fields YZ and XYZ
abbrev pub code_of : Instruction → ℕ
code_of i = i.word / 2 ^ 24 % 2 ^ 8

abbrev pub x_of : Instruction → ℕ
x_of i = i.word / 2 ^ 16 % 2 ^ 8

abbrev pub y_of : Instruction → ℕ
y_of i = i.word / 2 ^ 8 % 2 ^ 8

abbrev pub z_of : Instruction → ℕ
z_of i = i.word % 2 ^ 8

abbrev pub yz_of : Instruction → ℕ
yz_of i = i.word % 2 ^ 16

abbrev pub xyz_of : Instruction → ℕ
xyz_of i = i.word % 2 ^ 24

-- what it does
abbrev pub operation_in : Instruction → Operation
operation_in i = operation_of (code_of i)

-- the address of the instruction after it
abbrev pub next_of : Instruction → ℕ
next_of i = (i.at + 4) % 2 ^ 64

-- the address that n tetras after it mean; at a code for a backward address the field of this many values counts
-- from its end
abbrev pub relative : Instruction → ℕ → ℕ → ℕ
relative i n values =
    if is_backward (opcode_kind (code_of i)) then (i.at + (2 ^ 64 - 4 * values) + 4 * n) % 2 ^ 64
    else (i.at + 4 * n) % 2 ^ 64

-- the relative address of YZ, and that of XYZ
abbrev pub near_address : Instruction → ℕ
near_address i = relative i (yz_of i) (2 ^ 16)

abbrev pub far_address : Instruction → ℕ
far_address i = relative i (xyz_of i) (2 ^ 24)

-- the immediate wyde at its place
abbrev pub wyde_value : Instruction → ℕ
wyde_value i = yz_of i * 2 ^ (wyde_of (code_of i)).1

-- the register that it sets, where its operation has a destination
abbrev pub destination_of : Operation → Instruction → Option ℕ
destination_of operation i = if has_destination operation then Some (x_of i) else None
