-- A text in which names that name one thing are changed, where this leaves the program as it is; or why they are not. (Language Server Protocol, "Rename Request".)
use Rattle.std.specs.Prelude.{◌≡◌, ℕ, ◌+◌, ◌-◌, ◌==◌, ◌&&◌, nat_le, nat_lt, Bool, true, false, List, [], ◌∷◌, ◌++◌, length, take, drop, Option, None, Some, codes, if◌then◌else◌}
use Rattle.std.specs.List.{flat_map}
use Rattle.mx_json.specs.Json.{array, string}
use Rattle.mx_line.specs.Lines.{lines_of}
use Rattle.mx_occurrences.specs.Occurrences.{is_same, occurrence_at, occurrences_of}
use Rattle.mx_occurrences.specs.declared.occurrence.Named.{Named}
use Rattle.mx_occurrences.specs.declared.occurrence.Occurrence.{Occurrence}
use Rattle.mx_references.specs.Uses.{range_of}
use Rattle.mx_wire.specs.Ranges.{end_of}
use Rattle.mx_changes.specs.Images.{Compares}
use Rattle.mx_changes.specs.Names.{may_have}
use Rattle.mx_changes.specs.declared.images.Compared.{Compared}
use Rattle.mx_changes.specs.declared.images.Compared.TheVariants.{Same, Different, FirstRefused, SecondRefused}
use Rattle.mx_changes.specs.declared.renaming.Change.{Change}
use Rattle.mx_changes.specs.declared.renaming.Change.TheVariants.{Done, Refused}
pub use Rattle.mx_changes.specs.Names.{new_text}

-- ---- the changed text

abbrev pub part : List ℕ → ℕ → ℕ → List ℕ
part line from to = if nat_le from to && nat_le to (length line) then take (to - from) (drop from line) else []

abbrev pub next : ℕ → ℕ
next number = if nat_lt number 0xffff_ffff then number + 1 else number

abbrev pub is_in_line : Named → ℕ → Occurrence → Bool
is_in_line named number o = o.line == number && is_same named o.named

abbrev pub place_after : List ℕ → Occurrence → ℕ
place_after line o = end_of line o.from (length o.text)

-- a line from a place on, with those of the names that name this changed
unfoldable pub changed_line : Named → List ℕ → ℕ → List ℕ → ℕ → List Occurrence → List ℕ
changed_line named name number line done [] = part line done (length line)
changed_line named name number line done (o ∷ names) =
    if is_in_line named number o then part line done o.from ++ new_text o name ++ changed_line named name number line (place_after line o) names
    else changed_line named name number line done names

-- lines, of which the first has this number, each with a newline
unfoldable pub changed_lines : List Occurrence → Named → List ℕ → ℕ → List (List ℕ) → List ℕ
changed_lines names named name number [] = []
changed_lines names named name number (line ∷ later) =
    changed_line named name number line 0 names ++ codes "\n" ++ changed_lines names named name (next number) later

-- ---- the changes

unfoldable pub edit_text : List ℕ → List ℕ → Occurrence → List ℕ
edit_text source name o = codes "{\"range\":" ++ range_of source o ++ codes ",\"newText\":" ++ string (new_text o name) ++ codes "}"

abbrev pub edit_if : List ℕ → Named → List ℕ → Occurrence → List (List ℕ)
edit_if source named name o = if is_same named o.named then edit_text source name o ∷ [] else []

unfoldable pub edits : List ℕ → List Occurrence → Named → List ℕ → List ℕ → List ℕ
edits uri names named name source =
    codes "{\"changes\":{" ++ string uri ++ codes ":" ++ array (λ value. value) (flat_map (edit_if source named name) names) ++ codes "}}"

-- ---- what is answered

abbrev pub IsDone : List ℕ → Change → Type 0
IsDone edit (Done text) = text ≡ edit
IsDone edit (Refused said) = ⊥

abbrev pub IsRefused : List ℕ → Change → Type 0
IsRefused why (Done text) = ⊥
IsRefused why (Refused said) = said.now ≡ why

-- What is refused of a change by what the source and the changed text come to: a source with faults, a text with faults, and another
-- program.
abbrev pub IsChangeOf : List ℕ → Compared → Change → Type 0
IsChangeOf edit Same r = IsDone edit r
IsChangeOf edit Different r = IsRefused (codes "the program would be another one: its memory or its registers change") r
IsChangeOf edit FirstRefused r =
    IsRefused (codes "the source has faults, so that it cannot be known whether the program stays the same") r
IsChangeOf edit SecondRefused r = IsRefused (codes "the source would have a fault then") r

-- a change of a source into a text: it is done where the program stays as it is, and only there
pub record IsChecked (source text edit : List ℕ) (r : Change) : Type 0 where
  pub compared : Compared
  pub compares : Compares source text compared
  pub change : IsChangeOf edit compared r

abbrev pub IsRenamed : List ℕ → List Occurrence → Named → List ℕ → List ℕ → Change → Type 0
IsRenamed uri names named name source r =
    IsChecked source (changed_lines names named name 1 (lines_of source)) (edits uri names named name source) r

-- all names that name this are changed, if it may have the new name
abbrev pub IsRenamedIf : Bool → List ℕ → List Occurrence → Named → List ℕ → List ℕ → Change → Type 0
IsRenamedIf true uri names named name source r = IsRenamed uri names named name source r
IsRenamedIf false uri names named name source r = IsRefused (codes "this is no name") r

abbrev pub IsRenamedAt : List ℕ → List Occurrence → Option Occurrence → List ℕ → List ℕ → Change → Type 0
IsRenamedAt uri names None name source r = IsRefused (codes "no name is here") r
IsRenamedAt uri names (Some o) name source r = IsRenamedIf (may_have o.named name) uri names o.named name source r

abbrev pub RenamesIn : List ℕ → List Occurrence → ℕ → ℕ → List ℕ → List ℕ → Change → Type 0
RenamesIn uri names line from name source r = IsRenamedAt uri names (occurrence_at names line from) name source r

abbrev pub Renames : List ℕ → ℕ → ℕ → List ℕ → List ℕ → Change → Type 0
Renames uri line from name source r = RenamesIn uri (occurrences_of source) line from name source r
