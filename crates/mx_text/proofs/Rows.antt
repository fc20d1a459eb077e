-- Worked rows of instructions.
use Rattle.std.proofs.Common.{◌≡◌, refl, codes}
use Rattle.mx_text.proofs.Words.{digits, opcode_kind, opcode_kinds, opcode_name, opcode_names, opcode_rows, shape_spans, shapes_of, hex_digits, instruction_text, operands_text, shown_operands}

pub stopped : instruction_text 0 0x100 ≡ codes "TRAP 0,0,0"
unfolding digits hex_digits opcode_name opcode_names opcode_kind opcode_kinds opcode_rows shapes_of shape_spans operands_text shown_operands
stopped = refl

pub nothing_done : instruction_text 0xfd000000 0x100 ≡ codes "SWYM 0,0,0"
unfolding digits hex_digits opcode_name opcode_names opcode_kind opcode_kinds opcode_rows shapes_of shape_spans operands_text shown_operands
nothing_done = refl

-- a jump one tetra back
pub backward : instruction_text 0xf1ffffff 0x108 ≡ codes "JMP #0000000000000104"
unfolding digits hex_digits opcode_name opcode_names opcode_kind opcode_kinds opcode_rows shapes_of shape_spans operands_text shown_operands
backward = refl
