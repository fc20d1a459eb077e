-- The names of a source: the defined symbols, the prefix, the last label of each local one, and the references that wait.
-- (MMIXware, the part on MMIXAL: symbols, PREFIX, local symbols and future references.)
use Rattle.std.specs.Prelude.{◌≡◌, ◌≤◌, IsTrue, ℕ, ◌+◌, ◌==◌, Bool, nat_lt, List, [], ◌∷◌, ◌++◌, length, replicate, slice_index, slice_index_or, Option, None, Some, is_some, Result, Ok, Err, bytes_eq, if◌then◌else◌}
use Rattle.std.specs.Ordering.{nat_cmp, is_lt}
use Rattle.std.specs.Cmp.Lexicographic.{slice_cmp}
use Rattle.std.specs.List.{AllByRecursion}
use Rattle.mx_word.specs.declared.symbols.Value.{Value}
use Rattle.mx_word.specs.declared.symbols.Value.TheVariants.{Pure}
use Rattle.mx_word.specs.declared.symbols.Symbol.{Symbol}
use Rattle.mx_word.specs.declared.waits.Wait.{Wait}
use Rattle.mx_ops.specs.Predefined.{predefined_value}
use Rattle.mx_names.specs.declared.fault.NameFault.{NameFault}
use Rattle.mx_names.specs.declared.fault.NameFault.TheVariants.{Twice, Predefined, NameTooLong}

-- The defined symbols in byte order of their names, the prefix, and the values of the last labels 0H to 9H.
pub record NameTable : Type 0 where
  pub symbols : List Symbol
  pub prefix : List ℕ
  pub backs : List Value

-- the names that a source has so far, and the references that wait, in the order in which they were made
pub record Naming : Type 0 where
  pub names : NameTable
  pub waiting : List Wait

-- before the first statement: nothing is defined, the prefix is a colon, and each local label is 0
abbrev pub start : NameTable
start = record { symbols = []; prefix = 58 ∷ []; backs = replicate 10 (Pure 0) }

-- and nothing waits
abbrev pub naming_at_start : Naming
naming_at_start = record { names = start; waiting = [] }

-- a symbol that begins with a colon is complete
abbrev pub is_complete : List ℕ → Bool
is_complete name = slice_index name 0 == 58

-- the complete form of a symbol: itself, or the prefix followed by it
abbrev pub complete_form : List ℕ → List ℕ → List ℕ
complete_form prefix name = if is_complete name then name else prefix ++ name

-- the complete form of a symbol among these names
abbrev pub full_form : NameTable → List ℕ → List ℕ
full_form table name = complete_form table.prefix name

-- a complete form that is not too long
abbrev pub fitting_form : List ℕ → Result (List ℕ) NameFault
fitting_form full = if nat_lt 1024 (length full) then Err NameTooLong else Ok full

-- the complete form of a symbol, where it is not too long
abbrev pub symbol_form : NameTable → List ℕ → Result (List ℕ) NameFault
symbol_form table name = fitting_form (full_form table name)

-- A complete name of 1 to 1,024 bytes.
pub record IsFullName (name : List ℕ) : Type 0 where
  pub complete : IsTrue (is_complete name)
  pub least : 1 ≤ length name
  pub most : length name ≤ 1024

-- What always holds of the names of a source: the prefix and the names of the symbols are complete and of 1 to 1,024
-- bytes, and there are ten local labels.
pub record AreNames (table : NameTable) : Type 0 where
  pub prefix : IsFullName table.prefix
  pub symbols : AllByRecursion (λ (s : Symbol). IsFullName s.name) table.symbols
  pub backs : length table.backs ≡ 10

-- the value of a symbol among those that are defined
abbrev pub value_in : List ℕ → List Symbol → Option Value
value_in name [] = None
value_in name (symbol ∷ symbols) = if bytes_eq name symbol.name then Some symbol.value else value_in name symbols

-- a predefined symbol is pure
abbrev pub pure_of : Option ℕ → Option Value
pure_of None = None
pure_of (Some value) = Some (Pure value)

-- the first of two values that is there
abbrev pub first_value : Option Value → Option Value → Option Value
first_value None other = other
first_value (Some value) other = Some value

-- the value of a complete name that is defined or predefined
abbrev pub value_of_name : NameTable → List ℕ → Option Value
value_of_name table name = first_value (value_in name table.symbols) (pure_of (predefined_value name))

-- symbols in byte order with one more
abbrev pub symbols_with : Symbol → List Symbol → List Symbol
symbols_with new [] = new ∷ []
symbols_with new (symbol ∷ symbols) = if is_lt (slice_cmp nat_cmp new.name symbol.name) then new ∷ symbol ∷ symbols else symbol ∷ symbols_with new symbols

-- whether a name may be defined
abbrev pub define_answer : NameTable → List ℕ → Result (Unit {0}) NameFault
define_answer table name =
    if is_some (predefined_value name) then Err Predefined
    else if is_some (value_in name table.symbols) then Err Twice
    else Ok tt

-- the names with one more symbol, whose serial number is the count of symbols with it
abbrev pub with_symbol : NameTable → List ℕ → Value → NameTable
with_symbol table name value =
    record table { symbols = symbols_with (record { name = name; value = value; serial = length table.symbols + 1 }) table.symbols }

-- a complete form as the prefix
abbrev pub with_prefix : Naming → List ℕ → Naming
with_prefix naming prefix = record naming { names = record naming.names { prefix = prefix } }

-- one more name has a value, and each other one what it had
abbrev pub KnowsAlso : NameTable → NameTable → List ℕ → Value → Type 0
KnowsAlso old new full value =
    (name : List ℕ) → value_of_name new name ≡ (if bytes_eq name full then Some value else value_of_name old name)

-- the last label dH, or pure 0 before any
abbrev pub back_of : NameTable → ℕ → Value
back_of table d = slice_index_or table.backs d (Pure 0)
