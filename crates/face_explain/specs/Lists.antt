-- A list of all that is explained, in columns below titles.
use Rattle.std.specs.Prelude.{ℕ, ◌-◌, ◌==◌, Bool, List, [], ◌∷◌, ◌++◌, length, replicate, codes, if◌then◌else◌}
use Rattle.mx_explain.specs.Texts.{label}
use Rattle.face_explain.specs.Tables.{Part, part_of, sections}
use Rattle.face_explain.specs.declared.sections.Section.{Section}
use Rattle.std.specs.List.{flat_map}
use Rattle.mx_explain.specs.Topics.{Row}

-- what follows a cell: the end of the list; the end of a line, if no cell is left to its right; or blanks up to the next column
abbrev pub gap : Bool → ℕ → ℕ → List ℕ
gap is_last left blanks = if is_last then codes "\n" else if left == 0 then codes "\n  " else replicate blanks 32

abbrev pub cell : ℕ → Bool → ℕ → Row → List ℕ
cell width is_last left row = label row ++ gap is_last left (width - length (label row))

-- how many cells are to the right of the next one
abbrev pub next_left : ℕ → ℕ → ℕ
next_left most left = if left == 0 then most else left - 1

-- the cells of the rows of elements, the first of which has this many to its right, and the first of a line the most
unfoldable pub cells : {A : Type 0} → (A → Row) → ℕ → ℕ → ℕ → List A → List ℕ
cells g width most left [] = []
cells g width most left (x ∷ xs) = cell width (length xs == 0) left (g x) ++ cells g width most (next_left most left) xs

-- the cells of a section
unfoldable pub part_cells : Part → List ℕ
part_cells p = cells (λ r. r) p.width p.most p.most p.rows

-- a section below its title
unfoldable pub part_text : Part → List ℕ
part_text p = p.title ++ codes "\n  " ++ part_cells p

unfoldable pub section_text : Section → List ℕ
section_text s = part_text (part_of s)

-- all sections, one below another
unfoldable pub whole_list : List ℕ
whole_list = flat_map section_text sections
