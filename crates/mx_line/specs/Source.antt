-- The statements of a source, line by line.
-- (MMIXware, the part on MMIXAL: the form of a line. That the first fault ends a source: a rule of this program.)
use Rattle.std.specs.Prelude.{ℕ, ◌+◌, List, [], ◌∷◌, map, if◌then◌else◌, Option, Result, Ok, Err}
use Rattle.std.specs.Option.{option_map}
use Rattle.mx_line.specs.declared.faults.LineFault.{LineFault}
use Rattle.mx_line.specs.declared.cutter.Cut.{Cut}
use Rattle.mx_line.specs.Lines.{lines_of, is_too_far}
use Rattle.mx_line.specs.Spans.{part}
use Rattle.mx_line.specs.Cutting.{cuts_from}

-- what is listed for a line, which has a number: a statement by its fields, a fault of the line,
-- or that the line is too far into the source
pub data Item : Type 0 where
  statement : (line : ℕ) (label : Option (List ℕ)) (op operands : List ℕ) → Item
  faulty : (line : ℕ) (why : LineFault) → Item
  too_far : (line : ℕ) → Item

abbrev pub item_of : ℕ → List ℕ → Result Cut LineFault → Item
item_of number line (Ok cut) = statement number (option_map (part line) cut.label) (part line cut.op) (part line cut.operands)
item_of number line (Err why) = faulty number why

-- these items and the later ones; a fault ends the list
abbrev pub before : List Item → List Item → List Item
before [] later = later
before (statement line label op operands ∷ items) later = statement line label op operands ∷ before items later
before (faulty line why ∷ items) later = faulty line why ∷ []
before (too_far line ∷ items) later = too_far line ∷ []

abbrev pub items_of : ℕ → List ℕ → List Item
items_of number line = map (item_of number line) (cuts_from line 0)

-- the items of the lines from one with this number on, among all lines
unfoldable pub items_from : List (List ℕ) → ℕ → List (List ℕ) → List Item
items_from all number [] = []
items_from all number (line ∷ lines) =
    if is_too_far all number then too_far number ∷ []
    else before (items_of number line) (items_from all (number + 1) lines)

-- The statements of a source, in order, each with its line. A statement that cannot be cut is
-- listed as its fault, a line of more than 4,096 bytes and the first one that is too far are
-- listed as theirs, and a fault ends the list.
abbrev pub statements_of : List ℕ → List Item
statements_of source = items_from (lines_of source) 1 (lines_of source)
