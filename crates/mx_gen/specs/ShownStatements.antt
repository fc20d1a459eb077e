-- The text of an instruction as a statement.
use Rattle.std.specs.Prelude.{◌≡◌, ◌≤◌, ℕ, ◌+◌, ◌*◌, ◌^◌, true, List, [], ◌++◌, codes, None}
use Rattle.mx_word.specs.Words.{tetra_to_bytes}
use Rattle.mx_ops.specs.Opcodes.{opcode_name, opcode_kind, is_backward}
use Rattle.mx_ops.specs.declared.op.Shape.{Shape}
use Rattle.mx_ops.specs.declared.op.Shape.TheVariants.{Rel, Jump}
use Rattle.mx_stmt.specs.declared.placed.Placed.{Placed}
use Rattle.mx_stmt.specs.Reading.{Fields}
use Rattle.mx_text.specs.Instructions.{field_code, field_yz, field_xyz, shape, shown_operands, operands_text, instruction_text}
use Rattle.mx_text.specs.Reading.{shown_part}

-- The fields of a line with the text of a tetra at the address pc: no label, the name, and the operands after the blank.
abbrev pub shown_fields : ℕ → ℕ → Fields
shown_fields word pc = record { label = None; op = opcode_name (field_code word); operands = operands_text (shown_operands word pc) }

-- the line with a blank and the text of a tetra at the address pc
abbrev pub shown_line : ℕ → ℕ → List ℕ
shown_line word pc = codes " " ++ instruction_text word pc

-- The tetra without the Y that is not shown is placed at the address pc, and no reference waits.
pub record IsShownPart (word pc : ℕ) (placed : Placed) : Type 0 where
  pub start : placed.start ≡ pc
  pub bytes : placed.bytes ≡ tetra_to_bytes (shown_part word)
  pub waits : placed.waits ≡ []

-- A target in the field n at pc has not wrapped round 2^64: it lies ahead, or before pc at 0 or above.
abbrev pub StaysAbove : ℕ → ℕ → ℕ → ℕ → Type 0
StaysAbove code pc n values = is_backward (opcode_kind code) ≡ true → 4 * values ≤ pc + 4 * n

abbrev pub TargetStays : Shape → ℕ → ℕ → Type 0
TargetStays Rel word pc = StaysAbove (field_code word) pc (field_yz word) (2 ^ 16)
TargetStays Jump word pc = StaysAbove (field_code word) pc (field_xyz word) (2 ^ 24)
TargetStays shape word pc = Unit {0}

-- The tetra lies below Stack_Segment, and its relative address, if it has one, has not wrapped round 2^64.
pub record IsPlaceable (word pc : ℕ) : Type 0 where
  pub place : pc + 4 ≤ 0x6000_0000_0000_0000
  pub target : TargetStays (shape (field_code word)) word pc
