-- The words that the proofs of this crate cite, passed on from one place. Declares nothing.
pub use Rattle.std.proofs.lemmas.Bool.{and_parts, cond-false, cond_both, eq-eqb, eqb-true}
pub use Rattle.std.proofs.lemmas.Bool.Decides.{eqb_tells, nat_tests}
pub use Rattle.std.proofs.lemmas.List.{drop-drop, length-drop, length-take, length_push}
pub use Rattle.std.proofs.lemmas.List.Folds.{length-prefix_len}
pub use Rattle.std.specs.List.{list_all, onto_first, position, position_or_len, prefix_len, slice_split}
pub use Rattle.mx_line.specs.Bytes.{is_blank, is_name_byte, past, run}
pub use Rattle.mx_line.specs.Cutting.{CutInOrder, LabelBefore, cuts_from, ends_label, is_bad_local, is_too_long, labelled_at, list_with, next_after, next_from, no_opcode, opcode_at, operands_at, operation_at, statement_at, with_field}
unfoldable pub use Rattle.mx_line.specs.Cutting.{cuts_within, statement_of}
pub use Rattle.mx_line.specs.Fields.{Within, after_first, ends_field, ends_here, field_length, more}
unfoldable pub use Rattle.mx_line.specs.Fields.{field_from}
pub use Rattle.mx_line.specs.Fields.Within.{closing, constant, nothing, string}
pub use Rattle.mx_line.specs.Lines.{size_up_to, without_empty_last}
unfoldable pub use Rattle.mx_line.specs.Lines.{lines_of}
unfoldable pub use Rattle.mx_line.specs.Pieces.{split}
pub use Rattle.mx_line.specs.Spans.{span}
pub use Rattle.mx_line.specs.Statements.{Found, IsField, Next, Operands, Operation, Run, Statement, StatementOf, Statements, begins, closes, is_no_quote, is_other}
pub use Rattle.mx_line.specs.declared.cutter.Cut.{Cut}
pub use Rattle.mx_line.specs.declared.faults.LineFault.{LineFault}
pub use Rattle.mx_line.specs.declared.faults.LineFault.TheVariants.{BadLabel, BadLocal, BadOpcode, NoOpcode, OpenChar, OpenString, TooLong}
pub use Rattle.mx_line.specs.declared.spans.Span.{Span}
