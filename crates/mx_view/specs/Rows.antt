-- The lines of a listing, and their rows: the address and the bytes of a tetra, then the number and the text of the line that it came
-- from; each further tetra of a line has a row of its own.
-- The form of the rows is this program's own.
use Rattle.std.specs.Prelude.{ℕ, ◌-◌, ◌^◌, ◌==◌, Bool, nat_lt, bit_xor, List, [], ◌∷◌, ◌++◌, length, map, take, drop, fold, Result, Ok, Err, if◌then◌else◌, codes, decimal}
use Rattle.std.specs.List.{flat_map, list_any}
use Rattle.mx_text.specs.Numbers.{hex_digits, hex_text}
use Rattle.mx_mem.specs.Memory.{tetra_of}
use Rattle.mx_load.specs.Kept.{Kept, image_of}
use Rattle.mx_mmo.specs.Image.{Image}
use Rattle.mx_files.specs.declared.refusal.Refusal.{Refusal}
use Rattle.mx_view.specs.declared.cells.Cell.{Cell}
use Rattle.mx_view.specs.declared.cells.Wanted.{Wanted}
use Rattle.mx_view.specs.declared.cells.Wanted.TheVariants.{All, Holding}
use Rattle.mx_view.specs.declared.lines.ListedLine.{ListedLine}

-- the image of a source, or its refusal
abbrev pub Meaning : Type 0
Meaning = Result Image Refusal

-- as the code has it
abbrev pub meaning_in : Result Kept Refusal → Meaning
meaning_in (Ok image) = Ok (image_of image)
meaning_in (Err refusal) = Err refusal

-- The tetra that is shown: that of the image. Where a source has no image, the references that wait are shown as zeros.
abbrev pub shown : Meaning → Cell → ℕ
shown (Err refusal) c = c.tetra
shown (Ok image) c = if nat_lt c.address (2 ^ 63) then tetra_of (image.memory c.address) c.address else c.tetra

-- ---- the tetras of a line, each once

-- whether one of these tetras is at an address
abbrev pub is_loaded_at : List Cell → ℕ → Bool
is_loaded_at cells a = list_any (λ c. c.address == a) cells

-- a tetra, joined with another one that is loaded at its address: memory has the exclusive or of what is loaded there
abbrev pub joined_with : Cell → Cell → Cell
joined_with c d = if d.address == c.address then record { address = d.address; tetra = bit_xor d.tetra c.tetra } else d

-- tetras of different addresses, with one that is loaded after them
abbrev pub with_cell : List Cell → Cell → List Cell
with_cell cells c = if is_loaded_at cells c.address then map (joined_with c) cells else cells ++ c ∷ []

-- the tetras that a line loads, each address once
unfoldable pub once : List Cell → List Cell
once cells = fold with_cell [] cells

-- ---- lines

abbrev pub shown_cell : Meaning → Cell → Cell
shown_cell m c = record { address = c.address; tetra = shown m c }

-- the line with this number and this text, which loads these tetras: each tetra is shown once
abbrev pub listed_line : Meaning → ℕ → List ℕ → List Cell → ListedLine
listed_line m number line cells = record { number = number; text = line; cells = map (shown_cell m) (once cells) }

-- a line with no tetra is listed, unless tetras of an address are wanted
abbrev pub bare_line : Wanted → ℕ → List ℕ → List ListedLine
bare_line All number line = record { number = number; text = line; cells = [] } ∷ []
bare_line (Holding a) number line = []

-- a line, if it is listed
abbrev pub listed : Meaning → Wanted → ℕ → List ℕ → List Cell → List ListedLine
listed m wanted number line [] = bare_line wanted number line
listed m wanted number line (c ∷ more) = listed_line m number line (c ∷ more) ∷ []

-- ---- rows

abbrev pub cell_text : Cell → List ℕ
cell_text c = hex_text c.address ++ codes ": " ++ hex_digits 8 c.tetra

-- as many blanks as a cell has bytes
abbrev pub no_cell : List ℕ
no_cell = codes "                           "

-- the first tetra of a line, or blanks in its place
abbrev pub first_cell : List Cell → List ℕ
first_cell [] = no_cell
first_cell (c ∷ more) = cell_text c

-- the number of a line, which is filled up with blanks on the left to five places
abbrev pub padded : List ℕ → List ℕ
padded digits = take (5 - length digits) (codes "     ") ++ digits

-- the number and the text of a line
abbrev pub numbered : ℕ → List ℕ → List ℕ
numbered number line = padded (decimal number) ++ codes ": " ++ line ++ codes "\n"

abbrev pub further_row : Cell → List ℕ
further_row c = cell_text c ++ codes "\n"

-- the rows of a line: the one with its number and its text, and then one for each further tetra
abbrev pub rows_of : ListedLine → List ℕ
rows_of l = first_cell l.cells ++ codes "  " ++ numbered l.number l.text ++ flat_map further_row (drop 1 l.cells)
