-- A text of lines of an address has a byte where there is a line.
use Rattle.std.proofs.Common.{◌≡◌, ℕ, true, List, [], ◌∷◌, ◌++◌, refl, rules}
use Rattle.std.specs.List.{flat_map}
use Rattle.mx_view.specs.Listing.{lines_holding, lines_listed}
use Rattle.mx_view.specs.Rows.{first_cell, rows_of}
use Rattle.mx_view.specs.declared.cells.Cell.{Cell}
use Rattle.mx_view.specs.declared.cells.Wanted.TheVariants.{Holding}
use Rattle.mx_view.specs.declared.lines.ListedLine.{ListedLine}
use Rattle.face_source.specs.SourcePages.{is_filled}

cell-filled : (cells : List Cell) (rest : List ℕ) → is_filled (first_cell cells ++ rest) ≡ true
cell-filled [] rest = refl
cell-filled (c ∷ more) rest = refl

rows-filled : (lines : List ListedLine) → is_filled (flat_map rows_of lines ++ []) ≡ is_filled lines
rows-filled [] = refl
rows-filled (line ∷ lines) = search (rules, cell-filled)

pub lines-filled : (address : ℕ) (source : List ℕ) → is_filled (lines_holding address source) ≡ is_filled (lines_listed (Holding address) source)
lines-filled address source = rows-filled (lines_listed (Holding address) source)

pub ruleset filled = (lines-filled)
