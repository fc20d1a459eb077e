-- The words that the proofs of this crate cite, passed on from one place. Declares nothing.
pub use Rattle.std.proofs.lemmas.Bool.Decides.{nat_tests}
pub use Rattle.std.proofs.lemmas.Grind.{common_steps}
pub use Rattle.std.proofs.lemmas.Bool.{and_parts, cond_both, eqb-true, false≢true, leb-false, leb-true, ltb-false, ltb-true}
pub use Rattle.std.proofs.lemmas.List.{drop_all, drop_more, length-append, length-drop, length-set}
pub use Rattle.std.proofs.lemmas.Nat.{pow-add, xor_block, xor_comm, xor_mod, xor_shr}
pub use Rattle.std.proofs.lemmas.Result.{err_from_is_err_and}
pub use Rattle.std.specs.Int.Bits.{xor_assoc, xor_zero_l, xor_zero_r}
pub use Rattle.std.specs.List.{AllByRecursion, position, range_with_len}
pub use Rattle.std.specs.Option.{IfSome}
pub use Rattle.mx_expr.specs.Spelling.{Faultless, IsFirst, Spells}
pub use Rattle.mx_expr.specs.Tree.{Tree, ahead, back, binary, here, name, number, tree_of, trees_of, unary}
pub use Rattle.mx_expr.specs.Value.{Valued, after_both, after_operand, binary_value, of_symbol, register, unary_value, value_of}
pub use Rattle.mx_expr.specs.declared.faults.ExprFault.{ExprFault}
pub use Rattle.mx_names.specs.Gregs.{IsAllocable, lowest_of, with_greg}
pub use Rattle.mx_names.specs.Names.{NameTable, pure_of, start, value_of_name, with_symbol}
pub use Rattle.mx_names.specs.declared.fault.NameFault.{NameFault}
unfoldable pub use Rattle.mx_ops.specs.Opcodes.{chosen_operations, opcode_name, opcode_names, opcode_rows, operation_of, operations, pseudo_operations}
unfoldable pub use Rattle.mx_ops.specs.Shapes.{shape_spans, shapes_of}
pub use Rattle.mx_ops.specs.declared.op.Op.{Op}
pub use Rattle.mx_ops.specs.declared.op.Op.TheVariants.{Code, Lda, Set}
pub use Rattle.mx_ops.specs.declared.op.Pseudo.{Pseudo}
pub use Rattle.mx_ops.specs.declared.op.Shape.{Shape}
pub use Rattle.mx_ops.specs.declared.op.Shape.TheVariants.{Free, Get, Jump, Mem, MemPure, Neg, One, Pop, Put, Regs, Rel, Round, Three, Unsave, Wyde}
pub use Rattle.mx_word.specs.Words.{octa_to_bytes, tetra_to_bytes}
pub use Rattle.mx_word.specs.declared.symbols.Value.{Value}
pub use Rattle.mx_word.specs.declared.symbols.Value.TheVariants.{Pure, Reg}
pub use Rattle.mx_word.specs.declared.waits.Awaited.{Awaited}
pub use Rattle.mx_word.specs.declared.waits.Wait.{Wait}
pub use Rattle.mx_word.specs.declared.waits.WaitKind.{WaitKind}
pub use Rattle.mx_word.specs.declared.waits.WaitKind.TheVariants.{Far, Near, Octa}
pub use Rattle.mx_stmt.specs.Data.{data_form, data_number, data_target, datum, joined_data, low_bytes, no_data, size_bytes, with_rest}
unfoldable pub use Rattle.mx_stmt.specs.Data.{data_of}
pub use Rattle.mx_stmt.specs.Encoding.{IsPossible, StatementTree, alignment, complete_symbol, encoding, greg_register, known_at_place, label_value, one_form, one_operand, op_form, place_at, prefix_form, pseudo_form, tetra_data, tetra_waits, with_bytes, with_data, with_tetra, without_bytes}
pub use Rattle.mx_stmt.specs.Faults.{fault_of}
pub use Rattle.mx_stmt.specs.Fixes.{HasRegisterNumber, IsFixed, IsOperation, IsSound, fix_bytes, fix_placements}
pub use Rattle.mx_stmt.specs.Forms.{address_form, address_of, address_word, backward_word, branch_form, byte_form, far_reach, form, form_by, forward_word, free_at, free_form, future_word, has_second, jump_form, last_form, last_register, last_two, last_word, near_reach, plain_tetra, relative_form, relative_word, rounded_last, set_form, set_to, takes_byte, tetra_whole, tetra_wyde, tetra_xyz, whole_form, with_byte, with_register, wyde_form}
pub use Rattle.mx_stmt.specs.Operands.{Known, Targets, answer_of, awaited_name, field_at, knowledge_of, known_of, known_target, name_unless_known, no_targets, number_below, operand_value, pure_at, reference_of, register_at, register_number, register_or_byte_at, symbol_form, target_at, target_by, value_in}
pub use Rattle.mx_stmt.specs.Placements.{from_place, placed}
pub use Rattle.mx_stmt.specs.Reading.{Fields, IsFault, IsRead, fields_of, label_in, operation_for, operation_with, takes_label}
pub use Rattle.mx_stmt.specs.Reading.IsFault.{operand_list, operation}
pub use Rattle.mx_stmt.specs.Steps.{Answer, and_then}
unfoldable pub use Rattle.mx_stmt.specs.Steps.{AreAlike}
pub use Rattle.mx_stmt.specs.declared.data.Data.{Data}
pub use Rattle.mx_stmt.specs.declared.faults.StmtFault.{StmtFault}
pub use Rattle.mx_stmt.specs.declared.faults.StmtFault.TheVariants.{BadPlace, LabelNotAllowed, NotMultiple, Operands, OutOfMemory, TooFar}
pub use Rattle.mx_stmt.specs.declared.forms.Tetra.{Tetra}
pub use Rattle.mx_stmt.specs.declared.operands.Target.{Target}
pub use Rattle.mx_stmt.specs.declared.placed.Effect.TheVariants.{Greg, Local, Plain, Prefix}
pub use Rattle.mx_stmt.specs.declared.placed.Placed.{Placed}
pub use Rattle.mx_stmt.specs.declared.statement.Label.{Label}
