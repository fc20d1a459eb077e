-- The grammar of symbol tries (MMIXware, MMIXAL, "Binary MMO output", the symbol table). That a path has at most
-- 1,024 bytes, and a serial number is below 2^32, are rules of this program.
use Rattle.std.specs.Prelude.{◌≢◌, ℕ, ◌+◌, ◌*◌, ◌^◌, ◌<◌, ◌≤◌, List, [], ◌∷◌, ◌++◌, length, replicate, IsTrue}
use Rattle.std.specs.Char.{encode_utf8}
use Rattle.std.specs.List.{AllByRecursion}
use Rattle.mx_word.specs.Ranges.{AreBytes}
use Rattle.mx_word.specs.declared.symbols.Symbol.{Symbol}
use Rattle.mx_word.specs.declared.symbols.Value.{Value}
use Rattle.mx_word.specs.declared.symbols.Value.TheVariants.{Pure, Reg}
use Rattle.mx_stab.specs.Characters.{wide_number, is_wide_character}

-- digits below a bound
abbrev pub AreBelow : ℕ → List ℕ → Type 0
AreBelow bound digits = AllByRecursion (λ d. d < bound) digits

-- the number of digits of a base that follow those of a number, from the high end
abbrev pub number_after : ℕ → ℕ → List ℕ → ℕ
number_after base x [] = x
number_after base x (d ∷ more) = number_after base (x * base + d) more

-- the number of digits of a base, from the high end
abbrev pub number : ℕ → List ℕ → ℕ
number base digits = number_after base 0 digits

-- a value of a kind: 1 to 8 are pure in this many bytes, 9 to 14 are pure and 2^61 more than what 1 to 6
-- bytes tell, 15 is a register
pub data SpellsValue : ℕ → Value → List ℕ → Type 0 where
  pure : (bytes : List ℕ) → AreBytes bytes → 1 ≤ length bytes → length bytes ≤ 8 →
      SpellsValue (length bytes) (Pure (number 256 bytes)) bytes
  offset : (bytes : List ℕ) → AreBytes bytes → 1 ≤ length bytes → length bytes ≤ 6 →
      SpellsValue (8 + length bytes) (Pure (2 ^ 61 + number 256 bytes)) bytes
  register : (k : ℕ) → k < 256 → SpellsValue 15 (Reg k) (k ∷ [])

-- a serial number in base 128 from the high end, zeros in front allowed; #80 is added to its last digit
pub data SpellsSerial : ℕ → List ℕ → Type 0 where
  digits : (front : List ℕ) (last : ℕ) → AreBelow 128 front → last < 128 →
      number 128 (front ++ last ∷ []) < 2 ^ 32 →
      SpellsSerial (number 128 (front ++ last ∷ [])) (front ++ (last + 128) ∷ [])

-- a character, with the bit that it puts into a node's byte m and the bytes that it adds to a name: one
-- byte means itself, two bytes for the UTF-8 form of their number
pub data SpellsCharacter : ℕ → List ℕ → List ℕ → Type 0 where
  one_byte : (c : ℕ) → c < 256 → SpellsCharacter 0 (c ∷ []) (c ∷ [])
  two_bytes : (high low : ℕ) → high < 256 → low < 256 → IsTrue (is_wide_character (wide_number high low)) →
      SpellsCharacter 0x80 (encode_utf8 (wide_number high low)) (high ∷ low ∷ [])

-- whether a subtrie is there, the name on the way to it, its bytes, and its symbols in their order
pub data IsSubtrie : ℕ → List ℕ → List ℕ → List Symbol → Type 0 where
  none : (path : List ℕ) → IsSubtrie 0 path [] []
  -- a node without a character
  bare : (path : List ℕ) (l r : ℕ) (left right : List ℕ) (before after : List Symbol) →
      IsSubtrie l path left before → IsSubtrie r path right after →
      IsSubtrie 1 path ((0x40 * l + 0x10 * r) ∷ left ++ right) (before ++ after)
  -- a node with a character where no name ends
  passage : (path name character : List ℕ) (wide l r : ℕ)
      (left middle right : List ℕ) (before below after : List Symbol) →
      SpellsCharacter wide name character → length (path ++ name) ≤ 1024 →
      IsSubtrie l path left before → IsSubtrie 1 (path ++ name) middle below → IsSubtrie r path right after →
      IsSubtrie 1 path ((wide + 0x40 * l + 0x20 + 0x10 * r) ∷ left ++ character ++ middle ++ right)
      (before ++ below ++ after)
  -- a node where a name ends
  symbol : (path name character : List ℕ) (wide l m r kind serial : ℕ) (value : Value)
      (left told counted middle right : List ℕ) (before below after : List Symbol) →
      SpellsCharacter wide name character → length (path ++ name) ≤ 1024 →
      SpellsValue kind value told → SpellsSerial serial counted →
      IsSubtrie l path left before → IsSubtrie m (path ++ name) middle below → IsSubtrie r path right after →
      IsSubtrie 1 path
      ((wide + 0x40 * l + 0x20 * m + 0x10 * r + kind) ∷ left ++ character ++ told ++ counted ++ middle ++ right)
      (before ++ record { name = path ++ name; value = value; serial = serial } ∷ below ++ after)

-- no name is there twice
abbrev pub AreDistinct : List Symbol → Type 0
AreDistinct [] = Unit {0}
AreDistinct (s ∷ more) = AllByRecursion (λ (t : Symbol). s.name ≢ t.name) more × AreDistinct more

-- a trie with its symbols: no bytes tell none; after a trie are at most three zeros
pub data IsTrie : List ℕ → List Symbol → Type 0 where
  empty : IsTrie [] []
  whole : (trie : List ℕ) (zeros : ℕ) (symbols : List Symbol) → IsSubtrie 1 [] trie symbols → zeros ≤ 3 →
      AreDistinct symbols → IsTrie (trie ++ replicate zeros 0) symbols
