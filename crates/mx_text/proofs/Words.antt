-- The words that the proofs of this crate cite, passed on from one place. Declares nothing.
pub use Rattle.std.proofs.Math.Nat.{add-mul, mod-eq_of_lt, mod-lt, mul_assoc, pow-succ'}
pub use Rattle.std.proofs.lemmas.Bool.{and_parts, eqb-true, false≢true, not-true}
pub use Rattle.std.proofs.lemmas.Bool.Decides.{nat_tests}
pub use Rattle.std.proofs.lemmas.Fmt.{decimal_injective, decimal_is_IsNumeral}
pub use Rattle.std.proofs.lemmas.Grind.{common_steps}
pub use Rattle.std.proofs.lemmas.List.{take_more_set}
pub use Rattle.std.proofs.lemmas.Nat.{mod-pow-add, pow-add}
pub use Rattle.std.specs.Char.{digit_value}
pub use Rattle.std.specs.Fmt.{decimal, signed_decimal}
unfoldable pub use Rattle.std.specs.Fmt.{digits}
pub use Rattle.std.specs.List.{flat_map, join_with_byte, range_with_len}
pub use Rattle.std.specs.Str.Parse.{AllDigits, IsNumeral, digits_value, digits_value_after}
pub use Rattle.mx_ops.specs.Opcodes.{is_backward, is_immediate}
unfoldable pub use Rattle.mx_ops.specs.Opcodes.{chosen_operations, opcode_kind, opcode_kinds, opcode_name, opcode_names, opcode_rows, operation_of, operations, pseudo_operations}
unfoldable pub use Rattle.mx_ops.specs.Shapes.{shape_spans, shapes_of}
pub use Rattle.mx_ops.specs.declared.op.Op.TheVariants.{Code}
pub use Rattle.mx_ops.specs.declared.op.Shape.{Shape}
pub use Rattle.mx_ops.specs.declared.op.Shape.TheVariants.{Free, Get, Jump, Mem, MemPure, Neg, One, Pop, Put, Regs, Rel, Round, Save, Three, Unsave, Wyde}
pub use Rattle.mx_text.specs.Instructions.{field_code, field_x, field_xyz, field_y, field_yz, field_z, instruction_text, next_text, operand_text, operands, shape}
unfoldable pub use Rattle.mx_text.specs.Instructions.{operands_text, shown_operands}
pub use Rattle.mx_text.specs.Numbers.{decimal_text, hex_digit, hex_text}
unfoldable pub use Rattle.mx_text.specs.Numbers.{hex_digits}
pub use Rattle.mx_text.specs.Reading.{hides_y, lowest_code, shown_part}
pub use Rattle.mx_text.specs.declared.operands.Operand.{Operand}
pub use Rattle.mx_text.specs.declared.operands.Operand.TheVariants.{Address, Number, Register}
