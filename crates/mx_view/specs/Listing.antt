-- The listing of a source: its lines, in order, up to the first one that is refused, and its symbols. As a text, each line has its
-- rows, and the symbols follow. (MMIXware, MMIXAL, the option -l.)
use Rattle.std.specs.Prelude.{ℕ, ◌+◌, List, [], ◌∷◌, ◌++◌, length, drop, Option, None, Some, Result, Ok, Err, codes}
use Rattle.std.specs.List.{flat_map}
use Rattle.std.specs.Result.{result_err}
use Rattle.mx_word.specs.declared.symbols.Symbol.{Symbol}
use Rattle.mx_line.specs.Lines.{lines_of}
use Rattle.mx_mmo.specs.declared.items.Item.{Item}
use Rattle.mx_stab.specs.Reading.{trie_answer}
use Rattle.mx_stab.specs.declared.faults.StabFault.{StabFault}
use Rattle.mx_type.specs.Lambda.{lambda_of}
use Rattle.mx_type.specs.Lines.{ended, symbol_line}
use Rattle.mx_asm.specs.Whole.{Line, lines_items, lines_refusal, assembled_source}
use Rattle.mx_asm.specs.declared.refused.Refused.{Refused}
use Rattle.mx_files.specs.Sources.{source_meaning}
use Rattle.mx_files.specs.declared.refusal.Refusal.{Refusal}
use Rattle.mx_view.specs.declared.cells.Cell.{Cell}
use Rattle.mx_view.specs.declared.cells.Wanted.{Wanted}
use Rattle.mx_view.specs.declared.cells.Wanted.TheVariants.{All, Holding}
use Rattle.mx_view.specs.Cells.{cells_of}
use Rattle.mx_view.specs.declared.lines.ListedLine.{ListedLine}
use Rattle.mx_view.specs.Rows.{Meaning, listed, rows_of}

-- ---- the lines

-- the items that a line adds to those of the lines before it
abbrev pub added_items : List Line → Line → List Item
added_items before line = drop (length (lines_items before)) (lines_items (before ++ line ∷ []))

-- the wanted tetras that a line loads after the lines before it
abbrev pub line_cells : Wanted → List Line → Line → List Cell
line_cells wanted before line = cells_of wanted (lambda_of (lines_items before)) (added_items before line)

-- a line after others, if it is listed: no line before it is refused then
abbrev pub listed_unless : Option Refused → List ListedLine → List ListedLine
listed_unless None lines = lines
listed_unless (Some refused) lines = []

abbrev pub line_listed : Meaning → Wanted → List Line → Line → List ListedLine
line_listed m wanted before line =
    listed_unless (lines_refusal before) (listed m wanted (length before + 1) line (line_cells wanted before line))

-- those of lines after others that are listed
unfoldable pub listed_after : Meaning → Wanted → List Line → List Line → List ListedLine
listed_after m wanted before [] = []
listed_after m wanted before (line ∷ later) =
    line_listed m wanted before line ++ listed_after m wanted (before ++ line ∷ []) later

-- the tetras of lines that follow others, one after another
unfoldable pub cells_after : Wanted → List Line → List Line → List Cell
cells_after wanted before [] = []
cells_after wanted before (line ∷ later) = line_cells wanted before line ++ cells_after wanted (before ++ line ∷ []) later

-- ---- the end

-- why a source is refused when it is run, if it is
abbrev pub refusal_in : List ℕ → Option Refusal
refusal_in source = result_err (source_meaning source)

-- the symbols of a trie, in the order of their names
abbrev pub symbols_told : Result (List Symbol) StabFault → List Symbol
symbols_told (Ok symbols) = symbols
symbols_told (Err fault) = []

-- those of a source, by the trie that it is assembled into; one that is refused has none
abbrev pub symbols_at_end : Meaning → Result (List ℕ) Refused → List Symbol
symbols_at_end (Ok image) (Ok trie) = symbols_told (trie_answer trie)
symbols_at_end m ended = []

-- as a text, after an empty line, unless the source is refused
abbrev pub symbols_text : Wanted → Option Refusal → List Symbol → List ℕ
symbols_text All None symbols = codes "\n" ++ flat_map (λ s. ended (symbol_line s)) symbols
symbols_text wanted refused symbols = []

-- ---- the whole

-- the lines of a source that are listed: all lines and tetras, or those of an address
abbrev pub lines_listed : Wanted → List ℕ → List ListedLine
lines_listed wanted source = listed_after (source_meaning source) wanted [] (lines_of source)

abbrev pub symbols_listed : List ℕ → List Symbol
symbols_listed source = symbols_at_end (source_meaning source) (assembled_source source).1

-- as a text
abbrev pub shown_source : Wanted → List ℕ → List ℕ
shown_source wanted source = flat_map rows_of (lines_listed wanted source) ++ symbols_text wanted (refusal_in source) (symbols_listed source)

abbrev pub listing_of : List ℕ → List ℕ
listing_of source = shown_source All source

-- the lines of an address, each with the tetra that holds it
abbrev pub lines_holding : ℕ → List ℕ → List ℕ
lines_holding address source = shown_source (Holding address) source
