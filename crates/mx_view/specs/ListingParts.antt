-- What holds of a listing: its tetras, joined; its lines, each line of the source once; and the lines of an address among them.
use Rattle.std.specs.Prelude.{ℕ, ◌+◌, ◌==◌, Bool, List, [], ◌∷◌, ◌++◌, length, if◌then◌else◌}
use Rattle.std.specs.List.{filter, flat_map}
use Rattle.mx_asm.specs.Whole.{Line}
use Rattle.mx_type.specs.Lines.{tetra_address}
use Rattle.mx_view.specs.declared.cells.Cell.{Cell}
use Rattle.mx_view.specs.declared.cells.Wanted.TheVariants.{All}
use Rattle.mx_view.specs.declared.lines.ListedLine.{ListedLine}
use Rattle.mx_view.specs.Listing.{line_cells}
use Rattle.mx_view.specs.Rows.{Meaning, listed_line}

-- the tetras of lines, one after another
abbrev pub all_tetras : List ListedLine → List Cell
all_tetras lines = flat_map (λ (l : ListedLine). l.cells) lines

-- what tetras show at an address: the first one that holds it, and 0 where none does
unfoldable pub tetra_shown_at : List Cell → ℕ → ℕ
tetra_shown_at [] a = 0
tetra_shown_at (c ∷ cells) a = if c.address == tetra_address a then c.tetra else tetra_shown_at cells a

-- ---- lines

-- each line once, in order, after lines before them
unfoldable pub each_line_once : Meaning → List Line → List Line → List ListedLine
each_line_once m before [] = []
each_line_once m before (line ∷ later) =
    listed_line m (length before + 1) line (line_cells All before line) ∷ each_line_once m (before ++ line ∷ []) later

-- ---- the lines of an address

-- whether a tetra holds an address
abbrev pub holds : ℕ → Cell → Bool
holds a c = tetra_address a == c.address

-- a line with these of its tetras; with none it is left out
abbrev pub kept_line : ListedLine → List Cell → List ListedLine
kept_line l [] = []
kept_line l (c ∷ cells) = record l { cells = c ∷ cells } ∷ []

abbrev pub line_at_address : ℕ → ListedLine → List ListedLine
line_at_address a l = kept_line l (filter (holds a) l.cells)

-- of lines those with a tetra that holds an address, each with this tetra alone
abbrev pub lines_at_address : ℕ → List ListedLine → List ListedLine
lines_at_address a lines = flat_map (line_at_address a) lines
