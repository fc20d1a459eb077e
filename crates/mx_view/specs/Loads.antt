-- The tetras that each line of a source loads, line after line.
use Rattle.std.specs.Prelude.{ℕ, List, [], ◌∷◌, ◌++◌}
use Rattle.mx_line.specs.Lines.{lines_of}
use Rattle.mx_asm.specs.Whole.{Line}
use Rattle.mx_type.specs.Lambda.{lambda_following}
use Rattle.mx_asm.specs.OnePass.{Status}
use Rattle.mx_view.specs.declared.cells.Cell.{Cell}
use Rattle.mx_view.specs.declared.cells.Wanted.TheVariants.{All}
use Rattle.mx_view.specs.Cells.{cells_of}
use Rattle.mx_view.specs.InTurn.{items_at, status_at}
use Rattle.mx_view.specs.Listing.{line_cells}

-- those of lines that follow others; a line after a faulty one loads none
unfoldable pub loads_after : List Line → List Line → List (List Cell)
loads_after before [] = []
loads_after before (line ∷ later) = line_cells All before line ∷ loads_after (before ++ line ∷ []) later

abbrev pub loads_of : List ℕ → List (List Cell)
loads_of source = loads_after [] (lines_of source)

-- ---- as the code finds them

-- the tetras of a line, where lambda is an address before it
abbrev pub load_at : ℕ → Status → Line → List Cell
load_at lambda a line = cells_of All lambda (items_at a line)

unfoldable pub loads_in_turn : ℕ → Status → List Line → List (List Cell)
loads_in_turn lambda a [] = []
loads_in_turn lambda a (line ∷ later) =
    load_at lambda a line ∷ loads_in_turn (lambda_following lambda (items_at a line)) (status_at a line) later
