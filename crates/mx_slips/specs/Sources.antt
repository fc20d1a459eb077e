-- A source as its warnings see it: its lines, each with its number, its text, its statements, and the tetras that it loads.
-- A line has no statements from its first faulty one on, and a source that is refused loads nothing.
use Rattle.std.specs.Prelude.{ℕ, ◌+◌, List, [], ◌∷◌, drop, option_map, Result, Ok, Err}
use Rattle.mx_line.specs.Cutting.{cuts_from}
use Rattle.mx_line.specs.Lines.{lines_of}
use Rattle.mx_line.specs.Spans.{part}
use Rattle.mx_line.specs.declared.cutter.Cut.{Cut}
use Rattle.mx_line.specs.declared.faults.LineFault.{LineFault}
use Rattle.mx_view.specs.declared.cells.Cell.{Cell}
use Rattle.mx_slips.specs.Loads.{first_cells, loads_in}
use Rattle.mx_slips.specs.declared.sources.Statement.{Statement}
use Rattle.mx_slips.specs.declared.sources.SourceLine.{SourceLine}
use Rattle.mx_line.specs.declared.spans.Span.{Span}
use Rattle.mx_slips.specs.declared.tokens.Token.{Token}
use Rattle.mx_slips.specs.Tokens.{piece_at, tokens_of}

-- the tokens of an operand field
abbrev pub tokens_at : List ℕ → Span → List Token
tokens_at line span = tokens_of span.to (part line span)

-- the statement that is cut from a line: what follows its operands reaches to the end of the line
abbrev pub statement_at : List ℕ → Cut → Statement
statement_at line cut = record {
  label = option_map (piece_at line) cut.label;
  op = piece_at line cut.op;
  tokens = tokens_at line cut.operands;
  rest = record { from = cut.operands.to; text = drop cut.operands.to line };
}

unfoldable pub statements_in : List ℕ → List (Result Cut LineFault) → List Statement
statements_in line [] = []
statements_in line (Err why ∷ cuts) = []
statements_in line (Ok cut ∷ cuts) = statement_at line cut ∷ statements_in line cuts

abbrev pub line_with : ℕ → List Cell → List ℕ → SourceLine
line_with number cells line =
    record { number = number; text = line; statements = statements_in line (cuts_from line 0); cells = cells }

-- lines with what each of them loads, of which the first has this number
unfoldable pub numbered_from : ℕ → List (List Cell) → List (List ℕ) → List SourceLine
numbered_from number loads [] = []
numbered_from number loads (line ∷ later) =
    line_with number (first_cells loads) line ∷ numbered_from (number + 1) (drop 1 loads) later

-- the lines of a source without what they load
abbrev pub unloaded_lines : List ℕ → List SourceLine
unloaded_lines source = numbered_from 1 [] (lines_of source)

abbrev pub source_lines : List ℕ → List SourceLine
source_lines source = numbered_from 1 (loads_in source) (lines_of source)
