-- How a map entry means a symbol.
use Rattle.std.specs.Prelude.{◌<◌, ◌^◌, ℕ, List}
use Rattle.mx_word.specs.Ranges.{AreBytes}
use Rattle.mx_word.specs.Symbols.{IsValue}
use Rattle.mx_word.specs.declared.symbols.Symbol.{Symbol}
use Rattle.mx_names.specs.declared.names.Definition.{Definition}

abbrev pub symbol_of : List ℕ → Definition → Symbol
symbol_of name definition = record { name = name; value = definition.value; serial = definition.serial }

-- a symbol of bytes, with a value and a serial number in their ranges
pub record IsInRange (s : Symbol) : Type 0 where
  pub bytes : AreBytes s.name
  pub value : IsValue s.value
  pub serial : s.serial < 2 ^ 32
