-- The lines of a listing. What items and symbols are: MMIXware, "MMIX Object Format" and "The symbol table" in MMIXAL.
use Rattle.std.specs.Prelude.{ℕ, ◌*◌, ◌/◌, ◌&&◌, nat_le, List, [], ◌∷◌, ◌++◌, map, Some, None, if◌then◌else◌, codes, decimal}
use Rattle.std.specs.List.{flat_map}
use Rattle.mx_word.specs.declared.symbols.Symbol.{Symbol}
use Rattle.mx_word.specs.declared.symbols.Value.{Value}
use Rattle.mx_word.specs.declared.symbols.Value.TheVariants.{Pure, Reg}
use Rattle.mx_mmo.specs.declared.items.Item.{Item}
use Rattle.mx_mmo.specs.declared.items.Item.TheVariants.{Load, Loc, Skip, FixOcta, FixNear, FixFar, File, Line, Spec, Pre, Post}
use Rattle.mx_text.specs.Numbers.{hex_digits, hex_text}
use Rattle.mx_text.specs.Instructions.{instruction_text}

-- a line with the newline that ends it
abbrev pub ended : List ℕ → List ℕ
ended line = line ++ codes "\n"

-- the address of the tetra that holds an address
abbrev pub tetra_address : ℕ → ℕ
tetra_address a = 4 * (a / 4)

-- bytes as two hexadecimal digits each
abbrev pub bytes_text : List ℕ → List ℕ
bytes_text bytes = flat_map (hex_digits 2) bytes

-- a tetra as eight hexadecimal digits, and an octa as `#` and 16 of them, each after a blank
abbrev pub next_tetra : ℕ → List ℕ
next_tetra t = codes " " ++ hex_digits 8 t

abbrev pub next_octa : ℕ → List ℕ
next_octa x = codes " " ++ hex_text x

-- The line of an item where lambda is an address: a row for each item but `stab`, whose line follows those of all
-- items.
pub data IsLine : ℕ → Item → List ℕ → Type 0 where
  load : (lambda t : ℕ) → IsLine lambda (Load t)
      (hex_text (tetra_address lambda) ++ codes " " ++ hex_digits 8 t ++ codes " "
      ++ instruction_text t (tetra_address lambda))
  loc : (lambda a : ℕ) → IsLine lambda (Loc a) (codes "loc " ++ hex_text a)
  skip : (lambda n : ℕ) → IsLine lambda (Skip n) (codes "skip " ++ decimal n)
  fixo : (lambda a : ℕ) → IsLine lambda (FixOcta a) (codes "fixo " ++ hex_text a)
  fixr : (lambda n : ℕ) → IsLine lambda (FixNear n) (codes "fixr " ++ decimal n)
  fixrx : (lambda bits t : ℕ) → IsLine lambda (FixFar bits t)
      (codes "fixrx " ++ decimal bits ++ codes " " ++ hex_digits 8 t)
  selected : (lambda number : ℕ) → IsLine lambda (File number None) (codes "file " ++ decimal number)
  named : (lambda number : ℕ) (name : List ℕ) → IsLine lambda (File number (Some name))
      (codes "file " ++ decimal number ++ codes " " ++ bytes_text name)
  line : (lambda n : ℕ) → IsLine lambda (Line n) (codes "line " ++ decimal n)
  spec : (lambda n : ℕ) → IsLine lambda (Spec n) (codes "spec " ++ decimal n)
  pre : (lambda : ℕ) (tetras : List ℕ) → IsLine lambda (Pre tetras) (codes "pre" ++ flat_map next_tetra tetras)
  post : (lambda g : ℕ) (values : List ℕ) → IsLine lambda (Post g values)
      (codes "post " ++ decimal g ++ flat_map next_octa values)

-- the line of the trie: `stab` alone where there is no trie
abbrev pub stab_line : List ℕ → List ℕ
stab_line [] = codes "stab"
stab_line (b ∷ more) = codes "stab " ++ bytes_text (b ∷ more)

-- a byte of a name as it is shown: itself from 33 to 126, otherwise a dot
abbrev pub name_byte : ℕ → ℕ
name_byte b = if nat_le 33 b && nat_le b 126 then b else 46

-- the value of a symbol: an octa as `#` and 16 digits, a register as `$` and its number
abbrev pub value_text : Value → List ℕ
value_text (Pure x) = hex_text x
value_text (Reg k) = codes "$" ++ decimal k

-- the line of a symbol: its name, its value and its serial number
abbrev pub symbol_line : Symbol → List ℕ
symbol_line s =
    codes "symbol " ++ map name_byte s.name ++ codes " " ++ value_text s.value ++ codes " " ++ decimal s.serial
