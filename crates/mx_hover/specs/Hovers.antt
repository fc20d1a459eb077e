-- What an editor is told of a place of a text: of a name its value and the line of its label, else of the statement there what its line
-- loads and what its operation means; elsewhere nothing. (Language Server Protocol, "Hover Request".)
use Rattle.std.specs.Prelude.{ℕ, Bool, false, List, [], ◌∷◌, ◌++◌, length, Option, None, Some, codes, decimal}
use Rattle.std.specs.List.{find}
use Rattle.std.specs.Str.{bytes_eq}
use Rattle.mx_json.specs.Json.{string}
use Rattle.mx_line.specs.Lines.{lines_of}
use Rattle.mx_marks.specs.Mending.{line_text}
use Rattle.mx_occurrences.specs.Occurrences.{definition_of, occurrence_at, occurrences_of}
use Rattle.mx_occurrences.specs.declared.occurrence.Named.{Named}
use Rattle.mx_occurrences.specs.declared.occurrence.Named.TheVariants.{Symbol as NamedSymbol, Local}
use Rattle.mx_occurrences.specs.declared.occurrence.Occurrence.{Occurrence}
use Rattle.mx_ops.specs.Opcodes.{operation_of}
use Rattle.mx_ops.specs.Predefined.{predefined_value}
use Rattle.mx_references.specs.Uses.{range_of}
use Rattle.mx_slips.specs.Sources.{unloaded_lines}
use Rattle.mx_slips.specs.declared.pieces.Piece.{Piece}
use Rattle.mx_slips.specs.declared.sources.Statement.{Statement}
use Rattle.mx_text.specs.Numbers.{hex_text}
use Rattle.mx_view.specs.Listing.{lines_listed, symbols_listed}
use Rattle.mx_view.specs.declared.cells.Wanted.TheVariants.{All}
use Rattle.mx_view.specs.declared.lines.ListedLine.{ListedLine}
use Rattle.mx_wire.specs.Ranges.{end_of, range}
use Rattle.mx_word.specs.declared.symbols.Symbol.{Symbol}
use Rattle.mx_word.specs.declared.symbols.Value.{Value}
use Rattle.mx_word.specs.declared.symbols.Value.TheVariants.{Pure, Reg}
use Rattle.mx_hover.specs.Loads.{is_instruction, loads}
use Rattle.mx_hover.specs.Meanings.{meaning}
use Rattle.mx_hover.specs.Statements.{statement_at}

-- ---- a name

abbrev pub value_text : Value → List ℕ
value_text (Pure x) = hex_text x
value_text (Reg k) = codes "$" ++ decimal k

-- a symbol by its complete name, with its value
unfoldable pub symbol_line : List ℕ → Value → List ℕ
symbol_line name value = name ++ codes " = " ++ value_text value ++ codes "\n"

-- a complete name without the colon at its front
abbrev pub without_colon : List ℕ → List ℕ
without_colon [] = []
without_colon (b ∷ bs) = bs

-- a predefined symbol that the source does not name otherwise
abbrev pub predefined_text : List ℕ → Option ℕ → List ℕ
predefined_text name None = []
predefined_text name (Some value) = meaning (without_colon name)

abbrev pub symbol_with : List ℕ → Option Symbol → List ℕ
symbol_with name None = predefined_text name (predefined_value name)
symbol_with name (Some s) = symbol_line name s.value

abbrev pub has_name : List ℕ → Symbol → Bool
has_name name s = bytes_eq s.name name

abbrev pub symbol_text : List Symbol → List ℕ → List ℕ
symbol_text symbols name = symbol_with name (find (has_name name) symbols)

abbrev pub value_told : List Symbol → Named → List ℕ
value_told symbols (NamedSymbol name) = symbol_text symbols name
value_told symbols (Local d n) = []

-- the line of a label, and what it loads
unfoldable pub label_line : List ℕ → ℕ → List ℕ
label_line source number = codes "line " ++ decimal number ++ codes ": " ++ line_text number (lines_of source) ++ codes "\n"

abbrev pub label_told : List ℕ → List ListedLine → Option Occurrence → List ℕ
label_told source lines None = []
label_told source lines (Some label) = label_line source label.line ++ loads false label.line lines

-- a name among all names of a source
abbrev pub name_text : List ℕ → List ListedLine → List Symbol → List Occurrence → Occurrence → List ℕ
name_text source lines symbols names o = value_told symbols o.named ++ label_told source lines (definition_of names o.named)

-- ---- a statement

-- of a line with this number
abbrev pub statement_text : List ListedLine → ℕ → Statement → List ℕ
statement_text lines number s = loads (is_instruction (operation_of s.op.text)) number lines ++ meaning s.op.text

abbrev pub piece_range : List ℕ → ℕ → Piece → List ℕ
piece_range line number p = range number line p.from (end_of line p.from (length p.text))

-- ---- what is answered

unfoldable pub shown : List ℕ → List ℕ → List ℕ
shown told range = codes "{\"contents\":{\"kind\":\"plaintext\",\"value\":" ++ string told ++ codes "},\"range\":" ++ range ++ codes "}"

-- what is told of a range, if something is
abbrev pub shown_or : List ℕ → List ℕ → List ℕ → List ℕ
shown_or [] range otherwise = otherwise
shown_or (b ∷ bs) range otherwise = shown (b ∷ bs) range

abbrev pub statement_hover : List ℕ → List ListedLine → ℕ → Option Statement → List ℕ
statement_hover source lines number None = codes "null"
statement_hover source lines number (Some s) =
    shown_or (statement_text lines number s) (piece_range (line_text number (lines_of source)) number s.op) (codes "null")

-- of a name, if something is told of it, else what is answered otherwise
abbrev pub name_hover : List ℕ → List ListedLine → List Symbol → List Occurrence → Option Occurrence → List ℕ → List ℕ
name_hover source lines symbols names None otherwise = otherwise
name_hover source lines symbols names (Some o) otherwise = shown_or (name_text source lines symbols names o) (range_of source o) otherwise

abbrev pub hover_in : List ℕ → List ListedLine → List Symbol → List Occurrence → ℕ → ℕ → List ℕ
hover_in source lines symbols names number from =
    name_hover source lines symbols names (occurrence_at names number from)
    (statement_hover source lines number (statement_at (unloaded_lines source) number from))

-- at a place of line number
abbrev pub hover : ℕ → ℕ → List ℕ → List ℕ
hover number from source = hover_in source (lines_listed All source) (symbols_listed source) (occurrences_of source) number from
