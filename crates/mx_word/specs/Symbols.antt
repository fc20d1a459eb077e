-- Symbols: their names, values and order.
-- (MMIXware, the part on MMIXAL, "The symbol table".)
use Rattle.std.specs.Prelude.{◌^◌, ◌<◌, ◌≤◌, List, length, map}
use Rattle.std.specs.Cmp.Lexicographic.{slice_cmp}
use Rattle.std.specs.List.Sorted.{IsStrictlySortedBy}
use Rattle.std.specs.Ordering.{nat_cmp}
use Rattle.mx_word.specs.Ranges.{AreBytes}
use Rattle.mx_word.specs.declared.symbols.Symbol.{Symbol}
use Rattle.mx_word.specs.declared.symbols.Value.{Value}
use Rattle.mx_word.specs.declared.symbols.Value.TheVariants.{Pure, Reg}

-- each name is below the next one, byte by byte
abbrev pub InByteOrder : List Symbol → Type 0
InByteOrder symbols = IsStrictlySortedBy (slice_cmp nat_cmp) (map (λ (s : Symbol). s.name) symbols)

-- values that are octas, and registers that are bytes
abbrev pub IsValue : Value → Type 0
IsValue (Pure x) = x < 2 ^ 64
IsValue (Reg k) = k < 2 ^ 8

-- a symbol with a name of 1 to 1,024 bytes
pub record IsNamed (s : Symbol) : Type 0 where
  pub bytes : AreBytes s.name
  pub least : 0 < length s.name
  pub most : length s.name ≤ 1024
  pub value : IsValue s.value
  pub serial : s.serial < 2 ^ 32
