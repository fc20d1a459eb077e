-- The words of the laws of views.
use Rattle.std.specs.Prelude.{ℕ, ◌≡◌, ◌≢◌, List, []}
use Rattle.std.specs.List.{AllPairs}
use Rattle.mx_line.specs.Lines.{lines_of}
use Rattle.mx_mem.specs.Memory.{tetra_of}
use Rattle.mx_asm.specs.Entries.{source_entries, statements_in}
use Rattle.mx_asm.specs.Image.{image}
use Rattle.mx_files.specs.Sources.{source_meaning}
use Rattle.mx_view.specs.Listing.{listed_after, lines_listed}
use Rattle.mx_view.specs.ListingParts.{all_tetras, each_line_once, tetra_shown_at}
use Rattle.mx_view.specs.Rows.{Meaning, shown}
use Rattle.mx_view.specs.declared.cells.Cell.{Cell}
use Rattle.mx_view.specs.declared.cells.Wanted.TheVariants.{All}

-- tetras of which no two have one address
abbrev pub AreApart : List Cell → Type 0
AreApart cells = AllPairs (λ (c d : Cell). c.address ≢ d.address) cells

-- the tetra that the image of a source has at an address
abbrev pub image_tetra : List ℕ → ℕ → ℕ
image_tetra source a = tetra_of ((image (statements_in (source_entries source))).memory a) a

-- the tetra that is shown is that of the image
abbrev pub ShowsImage : List ℕ → Cell → Type 0
ShowsImage source c = shown (source_meaning source) c ≡ image_tetra source c.address

-- the tetra of the image is the one that the listing shows
abbrev pub ListsImage : List ℕ → ℕ → Type 0
ListsImage source a = image_tetra source a ≡ tetra_shown_at (all_tetras (lines_listed All source)) a

-- each line of a source is listed once
abbrev pub ListsEachLine : Meaning → List ℕ → Type 0
ListsEachLine m source = listed_after m All [] (lines_of source) ≡ each_line_once m [] (lines_of source)
