-- Which bytes have which fault: a table of the causes and places, apart from how a trie is read. The nodes are those
-- of the grammar (MMIXware, MMIXAL, "Binary MMO output", the symbol table); the faults are rules of this program.
use Rattle.std.specs.Prelude.{◌≡◌, ◌≢◌, ℕ, ◌+◌, ◌*◌, ◌/◌, ◌%◌, ◌^◌, ◌<◌, ◌≤◌, ◌⊎◌, List, [], ◌∷◌, ◌++◌, length, replicate, IsTrue}
use Rattle.mx_word.specs.declared.symbols.Symbol.{Symbol}
use Rattle.mx_word.specs.declared.symbols.Value.{Value}
use Rattle.mx_stab.specs.Characters.{wide_number, is_wide_character}
use Rattle.mx_stab.specs.Grammar.{AreBelow, AreDistinct, IsSubtrie, SpellsCharacter, SpellsSerial, SpellsValue, number}
use Rattle.mx_stab.specs.Reading.{value_size}
use Rattle.mx_stab.specs.declared.faults.StabFault.{StabFault}
use Rattle.mx_stab.specs.declared.faults.StabFault.TheVariants.{Truncated, Padding, Wide, Twice, TooLong, BadSerial}

-- a bit of the byte m of a node, as 0 or 1
abbrev pub flag : ℕ → ℕ → ℕ
flag weight m = m / weight % 2

-- a node has a character where a name ends with it or goes on after it
abbrev pub HasCharacter : ℕ → Type 0
HasCharacter m = (m % 16 ≢ 0) ⊎ (flag 0x20 m ≡ 1)

-- a mark for a character of two bytes where there is no character
abbrev pub IsWideBare : ℕ → Type 0
IsWideBare m = (flag 0x80 m ≡ 1) × ¬ HasCharacter m

-- a node with the byte m, to the end of its left subtrie: the path to it and the symbols before it; its bytes so far,
-- and all symbols so far, among which no name is there twice
pub data UpToLeft : List ℕ → List Symbol → ℕ → List ℕ → List Symbol → Type 0 where
  left : (path : List ℕ) (before : List Symbol) (m : ℕ) (left : List ℕ) (symbols : List Symbol) → ¬ IsWideBare m →
      IsSubtrie (flag 0x40 m) path left symbols → AreDistinct (before ++ symbols) →
      UpToLeft path before m (m ∷ left) (before ++ symbols)

-- the same to the end of its character, with the name that the character ends
pub data UpToCharacter : List ℕ → List Symbol → ℕ → List ℕ → List ℕ → List Symbol → Type 0 where
  character : (path : List ℕ) (before : List Symbol) (m : ℕ) (node : List ℕ) (found : List Symbol)
      (name character : List ℕ) → UpToLeft path before m node found → HasCharacter m →
      SpellsCharacter (0x80 * flag 0x80 m) name character → length (path ++ name) ≤ 1024 →
      UpToCharacter path before m (node ++ character) (path ++ name) found

-- the same to the end of its symbol, if a name ends there
pub data UpToSymbol : List ℕ → List Symbol → ℕ → List ℕ → List ℕ → List Symbol → Type 0 where
  none : (path : List ℕ) (before : List Symbol) (m : ℕ) (node name : List ℕ) (found : List Symbol) →
      UpToCharacter path before m node name found → m % 16 ≡ 0 → UpToSymbol path before m node name found
  symbol : (path : List ℕ) (before : List Symbol) (m : ℕ) (node name : List ℕ) (found : List Symbol)
      (value : Value) (serial : ℕ) (told counted : List ℕ) → UpToCharacter path before m node name found →
      SpellsValue (m % 16) value told → SpellsSerial serial counted →
      AreDistinct (found ++ record { name = name; value = value; serial = serial } ∷ []) →
      UpToSymbol path before m (node ++ told ++ counted) name
      (found ++ record { name = name; value = value; serial = serial } ∷ [])

-- after these first bytes of a trie a node is due: the path to it, and the symbols before it
pub data IsDue : List ℕ → List ℕ → List Symbol → Type 0 where
  first : IsDue [] [] []
  left : (front path : List ℕ) (before : List Symbol) (m : ℕ) → IsDue front path before → ¬ IsWideBare m →
      flag 0x40 m ≡ 1 → IsDue (front ++ m ∷ []) path before
  middle : (front path : List ℕ) (before : List Symbol) (m : ℕ) (node name : List ℕ) (found : List Symbol) →
      IsDue front path before → UpToSymbol path before m node name found → flag 0x20 m ≡ 1 →
      IsDue (front ++ node) name found
  right_of_bare : (front path : List ℕ) (before : List Symbol) (m : ℕ) (node : List ℕ) (found : List Symbol) →
      IsDue front path before → UpToLeft path before m node found → ¬ HasCharacter m → flag 0x10 m ≡ 1 →
      IsDue (front ++ node) path found
  right : (front path : List ℕ) (before : List Symbol) (m : ℕ) (node name : List ℕ) (found : List Symbol)
      (middle : List ℕ) (symbols : List Symbol) → IsDue front path before →
      UpToSymbol path before m node name found →
      IsSubtrie (flag 0x20 m) name middle symbols → AreDistinct (found ++ symbols) → flag 0x10 m ≡ 1 →
      IsDue (front ++ (node ++ middle)) path (found ++ symbols)

-- bytes that end within the node that they begin with, or before it: at its byte m, at its character, at its value, or
-- at its serial number
pub data EndsWithin (path : List ℕ) (before : List Symbol) : List ℕ → Type 0 where
  at_byte : EndsWithin path before []
  at_character : (m : ℕ) (node rest : List ℕ) (found : List Symbol) → UpToLeft path before m node found →
      HasCharacter m → length rest < 1 + flag 0x80 m → EndsWithin path before (node ++ rest)
  at_value : (m : ℕ) (node name rest : List ℕ) (found : List Symbol) → UpToCharacter path before m node name found →
      m % 16 ≢ 0 → length rest < value_size (m % 16) → EndsWithin path before (node ++ rest)
  at_serial : (m : ℕ) (node name : List ℕ) (found : List Symbol) (value : Value) (told digits : List ℕ) →
      UpToCharacter path before m node name found → SpellsValue (m % 16) value told → AreBelow 128 digits →
      EndsWithin path before (node ++ told ++ digits)

-- a node that begins these bytes is marked as one with a character of two bytes, and has none: no character at all, or
-- two bytes that are none
pub data LacksWide (path : List ℕ) (before : List Symbol) : List ℕ → Type 0 where
  bare : (m : ℕ) (rest : List ℕ) → IsWideBare m → LacksWide path before (m ∷ rest)
  no_character : (m high low : ℕ) (node rest : List ℕ) (found : List Symbol) → UpToLeft path before m node found →
      HasCharacter m → flag 0x80 m ≡ 1 → ¬ IsTrue (is_wide_character (wide_number high low)) →
      LacksWide path before (node ++ high ∷ low ∷ rest)

-- the path after its character has more than 1,024 bytes
pub data IsTooDeep (path : List ℕ) (before : List Symbol) : List ℕ → Type 0 where
  path_is : (m : ℕ) (node name character rest : List ℕ) (found : List Symbol) → UpToLeft path before m node found →
      HasCharacter m → SpellsCharacter (0x80 * flag 0x80 m) name character → 1024 < length (path ++ name) →
      IsTooDeep path before (node ++ character ++ rest)

-- its serial number is 2^32 or more
pub data CountsTooFar (path : List ℕ) (before : List Symbol) : List ℕ → Type 0 where
  serial_is : (m last : ℕ) (node name : List ℕ) (found : List Symbol) (value : Value) (told digits rest : List ℕ) →
      UpToCharacter path before m node name found → SpellsValue (m % 16) value told → AreBelow 128 digits →
      last < 128 → 2 ^ 32 ≤ number 128 (digits ++ last ∷ []) →
      CountsTooFar path before (node ++ told ++ digits ++ (last + 128) ∷ rest)

-- its name is that of a symbol before it
pub data NamesAgain (path : List ℕ) (before : List Symbol) : List ℕ → Type 0 where
  name_is : (m : ℕ) (node : List ℕ) (earlier : List Symbol) (s : Symbol) (later : List Symbol)
      (value : Value) (serial : ℕ) (told counted rest : List ℕ) →
      UpToCharacter path before m node s.name (earlier ++ s ∷ later) → SpellsValue (m % 16) value told →
      SpellsSerial serial counted → NamesAgain path before (node ++ told ++ counted ++ rest)

-- the fault of bytes, with its place: where bytes are missing, their number; where more than three zeros follow a
-- trie, or other bytes, the first byte after it; and else where the node begins that has the fault
pub data FaultOf : List ℕ → StabFault → Type 0 where
  cut_off : (front path rest : List ℕ) (before : List Symbol) → IsDue front path before → EndsWithin path before rest →
      0 < length (front ++ rest) → FaultOf (front ++ rest) (Truncated (length (front ++ rest)))
  padding : (trie rest : List ℕ) (symbols : List Symbol) → IsSubtrie 1 [] trie symbols → AreDistinct symbols →
      ((zeros : ℕ) → zeros ≤ 3 → rest ≢ replicate zeros 0) → FaultOf (trie ++ rest) (Padding (length trie))
  wide : (front path rest : List ℕ) (before : List Symbol) → IsDue front path before → LacksWide path before rest →
      FaultOf (front ++ rest) (Wide (length front))
  twice : (front path rest : List ℕ) (before : List Symbol) → IsDue front path before → NamesAgain path before rest →
      FaultOf (front ++ rest) (Twice (length front))
  too_long : (front path rest : List ℕ) (before : List Symbol) → IsDue front path before → IsTooDeep path before rest →
      FaultOf (front ++ rest) (TooLong (length front))
  bad_serial : (front path rest : List ℕ) (before : List Symbol) → IsDue front path before →
      CountsTooFar path before rest → FaultOf (front ++ rest) (BadSerial (length front))
