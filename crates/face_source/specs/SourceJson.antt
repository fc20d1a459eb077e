-- The listing of a source and the lines of an address as JSON. The names of members are this program's own; they are in byte order.
use Rattle.std.specs.Prelude.{ℕ, List, ◌++◌, Option, codes, decimal}
use Rattle.std.specs.Option.{is_none}
use Rattle.mx_face.specs.RefusalJson.{refusal_json}
use Rattle.mx_files.specs.declared.refusal.Refusal.{Refusal}
use Rattle.mx_json.specs.Json.{array, flag, object_of, quoted, string}
use Rattle.mx_text.specs.Numbers.{hex_digits, hex_text}
use Rattle.mx_view.specs.declared.cells.Cell.{Cell}
use Rattle.mx_view.specs.declared.lines.ListedLine.{ListedLine}
use Rattle.mx_view.specs.declared.view.Listed.{Listed}
use Rattle.mx_word.specs.declared.symbols.Symbol.{Symbol}
use Rattle.mx_word.specs.declared.symbols.Value.{Value}
use Rattle.mx_word.specs.declared.symbols.Value.TheVariants.{Pure, Reg}

-- an address, as `#` and 16 digits
unfoldable pub address_json : ℕ → List ℕ
address_json a = quoted (hex_text a)

-- the beginning of an object that has an address
unfoldable pub address_name : List ℕ
address_name = codes "{\"address\":"

unfoldable pub at_address : ℕ → List ℕ
at_address a = address_name ++ address_json a

-- the digits of a tetra
unfoldable pub tetra_json : ℕ → List ℕ
tetra_json tetra = quoted (hex_digits 8 tetra)

-- a tetra with its address
unfoldable pub cell_json : Cell → List ℕ
cell_json c = at_address c.address ++ codes ",\"tetra\":" ++ tetra_json c.tetra ++ codes "}"

-- a line with its tetras
unfoldable pub line_json : ListedLine → List ℕ
line_json l =
    object_of l.text ++ codes "\"cells\":" ++ array cell_json l.cells ++ codes ",\"line\":" ++ decimal l.number
    ++ codes ",\"text\":" ++ string l.text ++ codes "}"

-- what a symbol means: an octa as `#` and 16 digits, or a register as `$` and its number
unfoldable pub value_json : Value → List ℕ
value_json (Pure octa) = address_json octa
value_json (Reg register) = quoted (codes "$" ++ decimal register)

unfoldable pub symbol_json : Symbol → List ℕ
symbol_json s =
    object_of s.name ++ codes "\"name\":" ++ string s.name ++ codes ",\"serial\":" ++ decimal s.serial
    ++ codes ",\"value\":" ++ value_json s.value ++ codes "}"

unfoldable pub accepted_name : List ℕ
accepted_name = codes "{\"accepted\":"

-- the listing, as a line
unfoldable pub listing_json : Listed → List ℕ
listing_json l =
    accepted_name ++ flag (is_none l.refused) ++ codes ",\"lines\":" ++ array line_json l.lines
    ++ codes ",\"refused\":" ++ refusal_json l.refused ++ codes ",\"symbols\":" ++ array symbol_json l.symbols ++ codes "}\n"

-- the lines of an address, as a line
unfoldable pub holding_json : ℕ → Listed → List ℕ
holding_json address l =
    at_address address ++ codes ",\"lines\":" ++ array line_json l.lines
    ++ codes ",\"refused\":" ++ refusal_json l.refused ++ codes "}\n"
