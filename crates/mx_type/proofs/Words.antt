-- The words that the proofs of this crate cite, passed on from one place. Declares nothing.
pub use Rattle.std.proofs.lemmas.Grind.{common_steps}
pub use Rattle.std.specs.List.{AllByRecursion, flat_map}
pub use Rattle.mx_mmo.specs.Valid.{Fits, IsMiddle, IsName, Valid}
pub use Rattle.mx_mmo.specs.declared.items.Item.{Item}
pub use Rattle.mx_mmo.specs.declared.items.Item.TheVariants.{File, FixFar, FixNear, FixOcta, Line, Load, Loc, Post, Pre, Skip, Spec, Stab}
pub use Rattle.mx_stab.specs.Grammar.{AreBelow, IsSubtrie, IsTrie, SpellsCharacter, SpellsSerial, SpellsValue}
pub use Rattle.mx_text.proofs.Parts.{cut-first, lacks}
pub use Rattle.mx_text.specs.Numbers.{hex_text}
unfoldable pub use Rattle.mx_text.specs.Numbers.{hex_digits}
pub use Rattle.mx_word.specs.Ranges.{AreBytes}
pub use Rattle.mx_word.specs.declared.symbols.Symbol.{Symbol}
pub use Rattle.mx_type.specs.Lambda.{lambda_after, lambda_of}
unfoldable pub use Rattle.mx_type.specs.Lambda.{lambda_following}
pub use Rattle.mx_type.specs.Lines.{IsLine, bytes_text, ended, next_octa, next_tetra, stab_line, symbol_line}
pub use Rattle.mx_type.specs.Listing.{AreLines, HasListed, IsListing}
pub use Rattle.mx_type.specs.Texts.{item_text, listing_text, name_text, tail_text}
unfoldable pub use Rattle.mx_type.specs.Texts.{items_text}
