-- The words that the proofs of this crate cite, passed on from one place. Declares nothing.
pub use Rattle.std.proofs.lemmas.Bool.{and_parts, cases_lt, cond_both, le-leb, le-ltb, lt-ltb}
pub use Rattle.std.proofs.lemmas.Bool.Decides.{nat_tests}
pub use Rattle.std.proofs.lemmas.Fmt.{decimal_injective, decimal_is_IsNumeral, length-decimal-le}
pub use Rattle.std.proofs.lemmas.Grind.{common_steps}
pub use Rattle.std.specs.Char.{digit_value}
pub use Rattle.std.specs.Fmt.{decimal}
pub use Rattle.std.specs.List.{AllByRecursion, list_all, list_any, slice_range}
pub use Rattle.std.specs.Str.Parse.{AllDigits}
pub use Rattle.mx_gen.proofs.CutLines.{labelled-cut, line-cut}
pub use Rattle.mx_asm.specs.Emission.{main_name, padded_trie, zeros_after}
pub use Rattle.mx_asm.specs.Entries.{Entry, entries_of, entry_of, entry_with, refusal_in, source_entries, statement_in, statements_in, with_operands, with_operation}
pub use Rattle.mx_asm.specs.Pages.{accepted_in, page_refusal, run_refusal, run_refusal_with}
unfoldable pub use Rattle.mx_asm.specs.Pages.{outlined, page_refusal_from}
pub use Rattle.mx_asm.specs.Refusal.{at_line, end_fault, end_refusal, entries_refusal, fault_after, fault_with, first_of, label_fault, last_fault, last_line, local_in, local_of, name_fault, name_refusal, refusal, refusal_of, statement_fault, trie_limit, undefined}
unfoldable pub use Rattle.mx_asm.specs.Refusal.{first_fault, first_undefined, locals, unreferenced}
pub use Rattle.mx_asm.specs.TwoPass.{Piece, Sight, final_known, is_local, known_following, known_with, nothing_known, outline, piece_with, referent, sights_of, waits_in}
unfoldable pub use Rattle.mx_asm.specs.TwoPass.{known_after, next_local, references, sights_from}
pub use Rattle.mx_asm.specs.Whole.{accepted_with}
unfoldable pub use Rattle.mx_asm.specs.Whole.{accepted}
pub use Rattle.mx_expr.specs.Reading.{reading, sign, step}
unfoldable pub use Rattle.mx_expr.specs.Reading.{steps}
pub use Rattle.mx_expr.specs.Tree.{Tree, ahead, name, number}
pub use Rattle.mx_line.specs.Bytes.{is_name_byte}
pub use Rattle.mx_line.specs.Cutting.{cuts_from, is_bad_local}
pub use Rattle.mx_line.specs.Lines.{is_too_far, lines_of, size_up_to}
pub use Rattle.mx_line.specs.Statements.{Operands, Operation, Statement, StatementOf, is_other}
pub use Rattle.mx_line.specs.declared.cutter.Cut.{Cut}
pub use Rattle.mx_names.specs.Names.{NameTable, complete_form, first_value, pure_of, symbols_with, value_in, value_of_name}
unfoldable pub use Rattle.mx_ops.specs.Predefined.{predefined_names, predefined_value, special_registers}
pub use Rattle.mx_ops.specs.declared.op.Op.{Op}
pub use Rattle.mx_ops.specs.declared.op.Op.TheVariants.{Code, Pseudo, Set}
pub use Rattle.mx_ops.specs.declared.op.Pseudo.TheVariants.{Loc}
pub use Rattle.mx_stmt.specs.Encoding.{StatementTree, encoding, label_value, op_form, place_at, tetra_waits, with_tetra}
pub use Rattle.mx_stmt.specs.Forms.{backward_word, form_by, forward_word, free_at, free_byte, last_form, near_reach, plain_tetra, relative_form, relative_word, tetra_wyde, tetra_xyz}
pub use Rattle.mx_stmt.specs.Operands.{Known, answer_of, awaited_name, field_number, known_target, name_unless_known, no_targets, operand_value, pure_at, pure_number, reference_of, register_or_byte, symbol_form, target_by}
pub use Rattle.mx_stmt.specs.Reading.{Fields, fields_of, label_of, operation_with}
pub use Rattle.mx_stmt.specs.declared.placed.Placed.{Placed}
pub use Rattle.mx_stmt.specs.declared.statement.Label.{Label}
pub use Rattle.mx_stmt.specs.declared.statement.Label.TheVariants.{Local, Name}
pub use Rattle.mx_word.specs.declared.symbols.Symbol.{Symbol}
pub use Rattle.mx_word.specs.declared.symbols.Value.{Value}
pub use Rattle.mx_word.specs.declared.symbols.Value.TheVariants.{Pure, Reg}
pub use Rattle.mx_word.specs.declared.waits.Awaited.{Awaited}
pub use Rattle.mx_word.specs.declared.waits.Wait.{Wait}
pub use Rattle.mx_word.specs.declared.waits.WaitKind.TheVariants.{Near}
pub use Rattle.mx_gen.specs.Generator.{block_with, closing, depth, increment, opening}
unfoldable pub use Rattle.mx_gen.specs.Generator.{blocks, generated, random}
pub use Rattle.mx_gen.specs.Program.{block_before, block_name, closing_at, procedure_at, procedure_name, program, reg, stated}
unfoldable pub use Rattle.mx_gen.specs.Program.{blocks_at}
