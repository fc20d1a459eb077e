-- The words that the proofs of this crate cite, passed on from one place. Declares nothing.
pub use Rattle.std.proofs.lemmas.Grind.{common_steps}
pub use Rattle.std.proofs.lemmas.Bool.{and_parts, cases_lt, cond_both, eqb-true, le-leb, leb-true, not-true}
pub use Rattle.std.proofs.lemmas.Bool.Decides.{nat_tests}
pub use Rattle.std.specs.List.{All, AllByRecursion, list_all}
pub use Rattle.mx_expr.specs.Bytes.{digit_value, is_digit, is_hexadecimal, is_letter, is_name_byte, is_no_quote}
pub use Rattle.mx_expr.specs.Frames.{AllHaveDigits, FrameHasDigits, nodes, nodes_left, nodes_of, value_after, value_through}
pub use Rattle.mx_expr.specs.Machine.{all_waiting, mode_of}
pub use Rattle.mx_expr.specs.Reading.{Mode, Read, State, Waiting, after, and_then, beyond, bounded_step, character, closed, decimal, digit, field_end, greater, hash, hexadecimal, in_string, less, listed, mark_start, next_operand, next_reading, operand, parenthesis, passed_bound, primary_end, primary_start, quote, reading, reading_end, sign, slash, start, step, string, string_start, strong, strongly, symbol, too_deep, too_wide, weak, weakly, weakly_or_end, whole, with_strong, with_weak, within}
unfoldable pub use Rattle.mx_expr.specs.Reading.{steps}
pub use Rattle.mx_expr.specs.Spelling.{Before, Begins, Constant, FaultAt, Faultless, IsFirst, IsList, Operand, Operands, Primary, Product, Sign, Spells, StrongOperator, Sum, WeakOperator, digits_value}
pub use Rattle.mx_expr.specs.Spelling.Before.{first}
pub use Rattle.mx_expr.specs.Spelling.FaultAt.{no_front, no_list}
pub use Rattle.mx_expr.specs.Spelling.Operand.{expression}
pub use Rattle.mx_expr.specs.Spelling.Operands.{more, none}
pub use Rattle.mx_expr.specs.Spelling.Primary.{constant, enclosed, last_label, next_label, place, signed}
pub use Rattle.mx_expr.specs.Spelling.Product.{primary, times}
pub use Rattle.mx_expr.specs.Spelling.Sign.{minus, not, plus, register}
pub use Rattle.mx_expr.specs.Spelling.Spells.{empty, operands}
pub use Rattle.mx_expr.specs.Spelling.StrongOperator.{and, div, fraction, left, mul, rem, right}
pub use Rattle.mx_expr.specs.Spelling.Sum.{product}
pub use Rattle.mx_expr.specs.Spelling.WeakOperator.{add, or, sub, xor}
pub use Rattle.mx_expr.specs.Tree.{HasDigits, Tree, ahead, back, binary, here, name, number, tree_of, trees_of, unary}
pub use Rattle.mx_expr.specs.Value.{Knowledge, Valued, knowledge, value_of}
pub use Rattle.mx_expr.specs.declared.faults.ExprFault.{ExprFault}
pub use Rattle.mx_expr.specs.declared.faults.ExprFault.TheVariants.{EmptyString, OutOfMemory, Syntax, TooDeep, TooWide}
pub use Rattle.mx_expr.specs.declared.tree.BinOp.{BinOp}
pub use Rattle.mx_expr.specs.declared.tree.BinOp.TheVariants.{Add, And, Div, Fraction, Left, Mul, Or, Rem, Right, Sub, Xor}
pub use Rattle.mx_expr.specs.declared.tree.UnOp.{UnOp}
