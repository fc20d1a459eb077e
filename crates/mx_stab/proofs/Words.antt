-- The words that the proofs of this crate cite, passed on from one place. Declares nothing.
pub use Rattle.std.proofs.lemmas.Bool.Decides.{nat_tests}
pub use Rattle.std.proofs.Math.Bool.{and-false, or_assoc, or_comm}
pub use Rattle.std.proofs.Math.Nat.{add-mul, mul-le-mul_right, mul_assoc, mul_comm, pow-le-pow_right, pow-zero}
pub use Rattle.std.proofs.lemmas.Bool.{and_parts, cases_lt, cond-false, cond-true, cond_both, eqb-false, eqb-true, le-leb, le-ltb, leb-false, leb-true, lt-leb, lt-ltb, ltb-false, ltb-true, ne_eqb, or_parts}
pub use Rattle.std.proofs.lemmas.Grind.{pow_more, take_at_read, common_steps}
pub use Rattle.std.proofs.lemmas.List.{drop_at, length-replicate, length-take-le, take-append-drop, take_at}
pub use Rattle.std.proofs.lemmas.Slice.Eq.{bytes_eq-Decides}
unfoldable pub use Rattle.std.specs.Char.{encode_utf8}
pub use Rattle.std.specs.Cmp.Lexicographic.{slice_cmp}
pub use Rattle.std.specs.List.{AllByRecursion, list_any}
pub use Rattle.std.specs.Ordering.{MatchOrdering, is_eq, is_lt, match_ordering, nat_cmp, ordering_then}
pub use Rattle.std.specs.declared.cmp.Ordering.TheVariants.{Equal, Greater, Less}
pub use Rattle.mx_word.proofs.Ranges.{bytes-append, bytes-each}
pub use Rattle.mx_word.specs.Ranges.{AreBytes}
pub use Rattle.mx_word.specs.Symbols.{InByteOrder, IsNamed, IsValue}
pub use Rattle.mx_word.specs.Words.{octa_to_bytes}
pub use Rattle.mx_word.specs.declared.symbols.Symbol.{Symbol}
pub use Rattle.mx_word.specs.declared.symbols.Value.{Value}
pub use Rattle.mx_word.specs.declared.symbols.Value.TheVariants.{Pure, Reg}
pub use Rattle.mx_stab.specs.Characters.{is_wide_character, wide_number}
pub use Rattle.mx_stab.specs.Due.{Point, Progress, after_all, after_character, after_due, all_weight, and_next, cap, due_if, due_weight, longer_path, next_point, node_due, reading_of, serial_cap, symbol_due, weight, with_path}
pub use Rattle.mx_stab.specs.FaultTable.{CountsTooFar, EndsWithin, FaultOf, HasCharacter, IsDue, IsTooDeep, IsWideBare, LacksWide, NamesAgain, UpToCharacter, UpToLeft, UpToSymbol, flag}
pub use Rattle.mx_stab.specs.Grammar.{AreBelow, AreDistinct, IsSubtrie, IsTrie, SpellsCharacter, SpellsSerial, SpellsValue, number, number_after}
pub use Rattle.mx_stab.specs.Names.{HasNames, is_above, is_key}
pub use Rattle.mx_stab.specs.Numbers.{fewest_digits, is_offset, kind, octa_digits, serial_bytes, value_bytes}
pub use Rattle.mx_stab.specs.Reading.{Answer, Character, Reading, and_then, are_zeros, character, character_of, character_part, fault_in, has, has_character, is_among, is_padding, is_wide_bare, next_subtrie, node, node_rest, part_if, serial_after, start, symbol, symbol_with, symbols_at_end, trie_answer, two_bytes, value_of, value_size, with_character}
unfoldable pub use Rattle.mx_stab.specs.Reading.{subtrie}
pub use Rattle.mx_stab.specs.Trie.{bit, groups_of, groups_with, has_symbols, is_last_byte, longest, next_byte, node_front, nodes, symbols_below, trie_from, trie_of}
unfoldable pub use Rattle.mx_stab.specs.Trie.{trie}
pub use Rattle.mx_stab.specs.Writing.{bytes_due, group_size, run_length}
pub use Rattle.mx_stab.specs.declared.due.Due.{Due}
pub use Rattle.mx_stab.specs.declared.due.Due.TheVariants.{Rest, Right, Subtrie}
pub use Rattle.mx_stab.specs.declared.faults.StabFault.{StabFault}
pub use Rattle.mx_stab.specs.declared.faults.StabFault.TheVariants.{BadSerial, OutOfMemory, Padding, TooLong, Truncated, Twice, Wide}
