-- A search that walks over the lines of a source, and takes what is left of a faulty line in its place.
use Rattle.std.specs.Prelude.{◌≡◌, ◌≤◌, ◌+◌, ℕ, true, List, ◌∷◌, ◌++◌, codes, Option, None, Some}
use Rattle.mx_asm.specs.Whole.{Line}
use Rattle.mx_marks.specs.Mending.{label_alone}
use Rattle.mx_walk.specs.Walks.{ArePlain, HasTurned, IsAt, IsPlain, IsRefused, IsText, text_of}
use Rattle.mx_walk.specs.declared.walk.Stop.{Stop}
use Rattle.mx_view.specs.declared.mending.Search.{Search}
use Rattle.mx_view.specs.declared.search.Finding.{Finding}
use Rattle.mx_view.specs.declared.search.Finding.TheVariants.{New, Again}
use Rattle.mx_view.specs.declared.search.Found.{Found}
use Rattle.mx_view.specs.declared.search.Looked.{Looked}
use Rattle.mx_view.specs.Search.{ended_as, found}

-- what a search finds in a source, and after what it looked at
abbrev pub is_found : Search → List ℕ → Found
is_found s source = found s.left s.lines.items source

abbrev pub is_found_by : Search → Looked → Found
is_found_by s looked = ended_as (found s.left) s.lines.items looked

-- what it finds where these lines follow those that it has taken
abbrev pub to_come : Search → List Line → Found
to_come s later = is_found s (s.walk.front ++ text_of later)

-- what is left of a line: its label, or nothing
abbrev pub left_as : Finding → Line → Option Line
left_as New line = Some (label_alone line)
left_as Again line = Some (codes " ")
left_as finding line = None

-- What is found from a line on is what is found from the next line on: the line was taken, or what is left of it.
pub record IsTaken (old new : Search) (line : Line) : Type 0 where
  pub at : IsAt new.walk
  pub fewer : new.left ≤ old.left
  pub come : (later : List Line) → ArePlain later → to_come old (line ∷ later) ≡ to_come new later

-- It is what is found from a text in its place on, which is refused.
pub record IsStopped (old new : Search) (line : Line) (stop : Stop) : Type 0 where
  pub text : IsText new.walk.front
  pub plain : IsPlain stop.text
  pub refused : IsRefused new.walk.front stop.text stop.refused
  pub at : stop.is_kept ≡ true → IsAt new.walk
  pub fewer : new.left ≤ old.left
  pub come : (later : List Line) → ArePlain later → to_come old (line ∷ later) ≡ to_come new (stop.text ∷ later)

abbrev pub HasGone : Search → Search → Line → Option Stop → Type 0
HasGone old new line None = IsTaken old new line
HasGone old new line (Some stop) = IsStopped old new line stop

-- a text in place of a line was taken, or is refused
pub record IsReplaced (old new : Search) (line : Line) (next : Option Stop) : Type 0 where
  pub text : Line
  pub plain : IsPlain text
  pub turned : HasTurned old.walk new.walk text next
  pub fewer : new.left + 1 ≡ old.left
  pub come : (later : List Line) → ArePlain later → to_come old (line ∷ later) ≡ found new.left new.lines.items (old.walk.front ++ text_of (text ∷ later))

abbrev pub HasReplaced : Search → Search → Stop → Option (Option Stop) → Type 0
HasReplaced old new stop None = (new.walk ≡ old.walk) × (new.left ≡ old.left) × (new.lines.items ≡ old.lines.items)
HasReplaced old new stop (Some next) = IsReplaced old new stop.text next
