-- The sheet of a run: each line of the source with what is counted of the steps at the tetras that it loads, then the sum of all
-- steps. The form of the rows is this program's own.
use Rattle.std.specs.Prelude.{ℕ, ◌≡◌, ◌+◌, ◌-◌, ◌==◌, ◌||◌, Bool, true, false, if◌then◌else◌, List, [], ◌∷◌, ◌++◌, length, take, drop, Option, None, Some, codes, decimal}
use Rattle.std.specs.List.{flat_map}
use Rattle.mx_code.specs.declared.trace.Trace.{Trace}
use Rattle.mx_line.specs.Lines.{lines_of}
use Rattle.mx_view.specs.Loads.{loads_of}
use Rattle.mx_view.specs.Rows.{numbered}
use Rattle.mx_view.specs.declared.cells.Cell.{Cell}
use Rattle.mx_count.specs.Tallies.{added, tally_in}
use Rattle.mx_count.specs.declared.lines.CountedLine.{CountedLine}
use Rattle.mx_count.specs.declared.lines.LineSheet.{LineSheet}
use Rattle.mx_count.specs.declared.tally.Tally.{Tally}

-- what is counted of a run: the tally of the steps whose address passes a test
abbrev pub Counts : Type 0
Counts = (ℕ → Bool) → Tally

-- that of the steps of these traces
abbrev pub tallies_in : List Trace → Counts
tallies_in h = λ test. tally_in test h

-- whether an address is that of one of these tetras
unfoldable pub is_among : List Cell → ℕ → Bool
is_among [] a = false
is_among (c ∷ cells) a = c.address == a || is_among cells a

-- the tally of these tetras is that of the first, and that of the others
abbrev pub AddsTally : Cell → List Cell → List Trace → Type 0
AddsTally c cells h = tally_in (is_among (c ∷ cells)) h ≡ added (tally_in (λ a. a == c.address) h) (tally_in (is_among cells) h)

-- ---- as data

-- the tally of a line, by the tetras that it loads
abbrev pub LineTally : Type 0
LineTally = List Cell → Tally

abbrev pub line_tally : Counts → LineTally
line_tally counts cells = counts (is_among cells)

-- the tally of a line, if it loads anything
abbrev pub tally_of_line : List Cell → Tally → Option Tally
tally_of_line [] y = None
tally_of_line (c ∷ cells) y = Some y

abbrev pub line_with : ℕ → List ℕ → List Cell → Tally → CountedLine
line_with number line cells y = record { number = number; text = line; tally = tally_of_line cells y }

-- the tetras of the first line, where they are told line by line
abbrev pub first_load : List (List Cell) → List Cell
first_load [] = []
first_load (cells ∷ loads) = cells

-- the lines, which are counted from a number, with the tetras that they load
unfoldable pub counted_lines : LineTally → ℕ → List (List ℕ) → List (List Cell) → List CountedLine
counted_lines tally number [] loads = []
counted_lines tally number (line ∷ lines) loads =
    line_with number line (first_load loads) (tally (first_load loads)) ∷ counted_lines tally (number + 1) lines (drop 1 loads)

abbrev pub sheet_data : List ℕ → List (List Cell) → Counts → LineSheet
sheet_data source loads counts = record {
  lines = counted_lines (line_tally counts) 1 (lines_of source) loads;
  total = counts (λ a. true);
}

-- the sheet of a source, by what is counted of a run
abbrev pub source_sheet : List ℕ → Counts → LineSheet
source_sheet source counts = sheet_data source (loads_of source) counts

-- ---- rows

-- a blank, and then a number that is filled up with blanks on the left to ten places
abbrev pub column : ℕ → List ℕ
column n = codes " " ++ take (10 - length (decimal n)) (codes "          ") ++ decimal n

abbrev pub figures : Tally → List ℕ
figures y = column y.times ++ column y.away ++ column y.oops ++ column y.mems

-- a line that loads nothing, and one whose tetras were never carried out
abbrev pub no_figures : List ℕ
no_figures = codes "                                            "

abbrev pub never : List ℕ
never = codes "          -                                 "

abbrev pub line_figures : Option Tally → List ℕ
line_figures None = no_figures
line_figures (Some y) = if y.times == 0 then never else figures y

-- the row of a line
abbrev pub line_row : CountedLine → List ℕ
line_row l = line_figures l.tally ++ codes " " ++ numbered l.number l.text

-- ---- as a text

abbrev pub heading : List ℕ
heading = codes "\n--------------------------------------------------------\n      times       away       oops       mems\n"

abbrev pub last_row : Tally → List ℕ
last_row y = figures y ++ codes "  all steps\n"

unfoldable pub sheet_text : LineSheet → List ℕ
sheet_text sheet = heading ++ flat_map line_row sheet.lines ++ last_row sheet.total

-- the sheet of a source and of the traces of a run of it
abbrev pub sheet_of : List ℕ → List Trace → List ℕ
sheet_of source h = sheet_text (source_sheet source (tallies_in h))
