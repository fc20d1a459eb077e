-- The words that the proofs of this crate cite, passed on from one place. Declares nothing.
pub use Rattle.std.proofs.lemmas.Bool.Decides.{nat_tests}
pub use Rattle.std.proofs.lemmas.Bool.{cond_both, false≢true, le-ltb, lt-ltb, ltb-false, ltb-true}
pub use Rattle.std.proofs.lemmas.Map.Text.{is_eq-slice_cmp}
pub use Rattle.std.proofs.lemmas.Result.{on_err_weaker, on_ok_weaker}
pub use Rattle.std.proofs.lemmas.Slice.Eq.{bytes_eq-Decides}
pub use Rattle.std.specs.BTreeMap.{insert_entry, is_at}
pub use Rattle.std.specs.Cmp.Lexicographic.{slice_cmp}
pub use Rattle.std.specs.List.{AllByRecursion, zip}
pub use Rattle.std.specs.Map.{keys_of, lookup, remove_entry, set_value}
pub use Rattle.std.specs.Option.{option_map}
pub use Rattle.std.specs.Ordering.{is_eq, is_lt, match_ordering, nat_cmp}
pub use Rattle.std.specs.declared.cmp.Ordering.TheVariants.{Equal, Greater, Less}
pub use Rattle.mx_ops.specs.Predefined.{predefined_value}
pub use Rattle.mx_word.specs.Symbols.{InByteOrder, IsNamed}
pub use Rattle.mx_word.specs.declared.symbols.Symbol.{Symbol}
pub use Rattle.mx_word.specs.declared.symbols.Value.{Value}
pub use Rattle.mx_word.specs.declared.waits.Wait.{Wait}
pub use Rattle.mx_names.specs.Entries.{IsInRange, symbol_of}
pub use Rattle.mx_names.specs.Names.{AreNames, IsFullName, NameTable, Naming, first_value, pure_of, symbols_with, value_in, value_of_name, with_symbol}
pub use Rattle.mx_names.specs.Waiting.{AreGroups, AreRising, IsGroup, Numbered, all_in_order, earlier_of_two, first_of, key_of, waits_for, waits_for_others, waits_of, with_group, with_one}
