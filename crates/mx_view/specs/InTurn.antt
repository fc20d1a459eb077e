-- A listing as the code makes it, which takes one line after another. What a listing is, `Listing` says; a law says
-- that both are the same.
use Rattle.std.specs.Prelude.{ℕ, ◌+◌, List, [], ◌∷◌, ◌++◌, Result, Ok, Err}
use Rattle.mx_mmo.specs.declared.items.Item.{Item}
use Rattle.mx_type.specs.Lambda.{lambda_following}
use Rattle.mx_asm.specs.Whole.{Line}
use Rattle.mx_asm.specs.OnePass.{Status, beginning, line_following, end_following}
use Rattle.mx_asm.specs.declared.refused.Refused.{Refused}
use Rattle.mx_view.specs.declared.cells.Wanted.{Wanted}
use Rattle.mx_view.specs.declared.lines.ListedLine.{ListedLine}
use Rattle.mx_view.specs.Cells.{cells_of}
use Rattle.mx_view.specs.Rows.{Meaning, listed}

-- the items that a line gives, and what follows it
abbrev pub items_at : Status → Line → List Item
items_at a line = (line_following [] a line).0

abbrev pub status_at : Status → Line → Status
status_at a line = (line_following [] a line).1

-- a line with this number, if it is listed, where lambda is an address before it
abbrev pub listed_at : Meaning → Wanted → ℕ → ℕ → Status → Line → List ListedLine
listed_at m wanted number lambda a line = listed m wanted number line (cells_of wanted lambda (items_at a line))

-- those of lines that are listed, up to one that is refused
unfoldable pub listed_in_turn : Meaning → Wanted → ℕ → ℕ → Status → List Line → List ListedLine
listed_in_turn m wanted number lambda a [] = []
listed_in_turn m wanted number lambda (Err refused) (line ∷ later) = []
listed_in_turn m wanted number lambda (Ok a) (line ∷ later) =
    listed_at m wanted number lambda (Ok a) line
    ++ listed_in_turn m wanted (number + 1) (lambda_following lambda (items_at (Ok a) line)) (status_at (Ok a) line) later

-- what follows lines
unfoldable pub status_after_lines : Status → List Line → Status
status_after_lines a [] = a
status_after_lines a (line ∷ later) = status_after_lines (status_at a line) later

-- those of all lines that are listed
abbrev pub all_listed : Meaning → Wanted → List Line → List ListedLine
all_listed m wanted lines = listed_in_turn m wanted 1 0 (Ok beginning) lines

-- the trie or the refusal after all lines
abbrev pub end_of : List Line → Result (List ℕ) Refused
end_of lines = (end_following [] (status_after_lines (Ok beginning) lines)).1
