-- The words that the proofs of this crate cite, passed on from one place. Declares nothing.
pub use Rattle.std.proofs.lemmas.Bool.{and_parts, cases_lt, le-leb, le-ltb, lt-ltb, ltb-false}
pub use Rattle.std.proofs.lemmas.Bool.Decides.{nat_tests}
pub use Rattle.std.proofs.lemmas.Fmt.{decimal_is_IsNumeral, length-decimal-le}
pub use Rattle.std.specs.Char.{digit_value}
pub use Rattle.std.specs.Fmt.{decimal}
unfoldable pub use Rattle.std.specs.Fmt.{digits}
pub use Rattle.std.specs.List.{join_with_byte, list_all, range_with_len, slice_range}
pub use Rattle.std.specs.Result.{IsOk}
pub use Rattle.std.specs.Str.Parse.{AllDigits, digits_value_after}
pub use Rattle.mx_expr.specs.Bytes.{is_digit, is_hexadecimal}
pub use Rattle.mx_expr.specs.Reading.{Mode, Waiting, next_reading, operand, passed_bound, reading, reading_end, sign, start, step, too_deep, with_strong, within}
unfoldable pub use Rattle.mx_expr.specs.Reading.{steps}
pub use Rattle.mx_expr.specs.Spelling.{Constant, Faultless, Spells, digits_value}
pub use Rattle.mx_expr.specs.Tree.{Tree, number, unary}
pub use Rattle.mx_expr.specs.declared.tree.UnOp.TheVariants.{Register}
pub use Rattle.mx_line.specs.Cutting.{cuts_from, is_bad_local}
pub use Rattle.mx_line.specs.Statements.{IsField, Operands, Operation, Statement, StatementOf, begins, is_other}
pub use Rattle.mx_line.specs.declared.cutter.Cut.{Cut}
pub use Rattle.mx_ops.specs.Opcodes.{is_backward, is_immediate, operation_of}
unfoldable pub use Rattle.mx_ops.specs.Opcodes.{opcode_kind, opcode_kinds, opcode_name, opcode_names, opcode_rows}
unfoldable pub use Rattle.mx_ops.specs.Shapes.{shape_spans, shapes_of}
pub use Rattle.mx_ops.specs.declared.op.Op.TheVariants.{Code}
pub use Rattle.mx_ops.specs.declared.op.Shape.{Shape}
pub use Rattle.mx_ops.specs.declared.op.Shape.TheVariants.{Free, Get, Jump, Mem, MemPure, Neg, One, Pop, Put, Regs, Rel, Round, Save, Three, Unsave, Wyde}
pub use Rattle.mx_stmt.specs.Encoding.{StatementTree, alignment, encoding, known_at_place, op_form, with_tetra}
pub use Rattle.mx_stmt.specs.Forms.{backward_word, byte_form, form, form_by, forward_word, free_at, free_form, last_form, last_register, last_two, last_word, plain_tetra, relative_word, takes_byte, tetra_whole, tetra_wyde, tetra_xyz, whole_form, wyde_form}
pub use Rattle.mx_stmt.specs.Operands.{Known, field_at, no_targets, register_at, register_or_byte, register_or_byte_at}
pub use Rattle.mx_stmt.specs.Reading.{Fields, IsRead, fields_of, label_in, label_of, operation_with}
pub use Rattle.mx_stmt.specs.Steps.{Answer, and_then}
pub use Rattle.mx_stmt.specs.declared.placed.Placed.{Placed}
pub use Rattle.mx_stmt.specs.declared.statement.Label.{Label}
pub use Rattle.mx_text.proofs.HexValues.{hex-numeral, hex-value}
pub use Rattle.mx_text.specs.Instructions.{field_code, field_x, field_xyz, field_y, field_yz, field_z, last, operand_text, operands, shape, target}
unfoldable pub use Rattle.mx_text.specs.Instructions.{operands_text, shown_operands}
pub use Rattle.mx_text.specs.Numbers.{hex_text}
unfoldable pub use Rattle.mx_text.specs.Numbers.{hex_digits}
pub use Rattle.mx_text.specs.Reading.{hides_y, lowest_code}
pub use Rattle.mx_gen.specs.ShownStatements.{IsPlaceable, IsShownPart, TargetStays, shown_fields, shown_line}
