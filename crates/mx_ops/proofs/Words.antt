-- The words that the proofs of this crate cite, passed on from one place. Declares nothing.
pub use Rattle.std.proofs.lemmas.Bool.{and_parts, cases_lt, eqb-true, false≢true, not-true}
pub use Rattle.std.proofs.lemmas.Fn.{always_returns_same}
pub use Rattle.std.proofs.lemmas.Slice.Eq.{bytes_eq-Decides}
pub use Rattle.std.specs.Cmp.Lexicographic.{slice_cmp}
pub use Rattle.mx_ops.specs.Opcodes.{IsCodeOf, IsLowestCode, Kind, Row, instruction, is_code, is_instruction, own_code, row_kinds, row_length, row_names, rows_follow}
unfoldable pub use Rattle.mx_ops.specs.Opcodes.{chosen_operations, opcode_kind, opcode_kinds, opcode_name, opcode_names, opcode_rows, operation_of, operations, pseudo_operations}
unfoldable pub use Rattle.mx_ops.specs.Predefined.{predefined_names, predefined_value, special_code, special_name, special_registers}
unfoldable pub use Rattle.mx_ops.specs.Shapes.{shape_spans, shapes_of}
pub use Rattle.mx_ops.specs.Tables.{first_of, lacks, names_once, numbered}
pub use Rattle.mx_ops.specs.declared.op.Op.{Op}
pub use Rattle.mx_ops.specs.declared.table.TheConstants.{OPERATIONS, SHAPES}
