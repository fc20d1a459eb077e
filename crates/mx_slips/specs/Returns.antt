-- A subroutine that calls another one and does not save rJ. It begins at a label that a PUSHJ names, and reaches to the next POP; where
-- rJ is named, or SAVE, UNSAVE, GO or RESUME are used, nothing is said of it, nor where a JMP or Halt comes between the call and the
-- POP. A source with UNSAVE is left alone.
use Rattle.std.specs.Prelude.{ℕ, ◌==◌, ◌&&◌, ◌||◌, List, [], ◌∷◌, Bool, codes, if◌then◌else◌, Option, None, Some}
use Rattle.std.specs.List.{list_any}
use Rattle.std.specs.Str.{bytes_eq}
use Rattle.mx_slips.specs.declared.pieces.Piece.{Piece}
use Rattle.mx_slips.specs.declared.returns.Place.{Place}
use Rattle.mx_slips.specs.declared.returns.Place.TheVariants.{Outside, Inside, After}
use Rattle.mx_slips.specs.declared.sources.SourceLine.{SourceLine}
use Rattle.mx_slips.specs.declared.sources.Statement.{Statement}
use Rattle.mx_slips.specs.declared.surveys.Survey.{Survey}
use Rattle.mx_slips.specs.declared.surveys.Use.{Use}
use Rattle.mx_slips.specs.declared.tokens.Token.{Token}
use Rattle.mx_slips.specs.declared.marks.Mark.{Mark}
use Rattle.mx_slips.specs.Cases.{begins_letter, ends_with}
use Rattle.mx_slips.specs.Marks.{mark_of}

-- ---- labels that are called

abbrev pub without_colon : List ℕ → List ℕ
without_colon [] = []
without_colon (b ∷ bs) = if b == 58 then bs else b ∷ bs

abbrev pub is_name_of : List ℕ → Token → Bool
is_name_of label t = bytes_eq (without_colon t.text) (without_colon label)

-- a name that PUSHJ has
abbrev pub is_call_of : List ℕ → Use → Bool
is_call_of label u = u.is_call && is_name_of label u.token

abbrev pub is_called : List Use → List ℕ → Bool
is_called uses label = begins_letter label && list_any (is_call_of label) uses

-- ---- statements

abbrev pub is_call : List ℕ → Bool
is_call op = bytes_eq op (codes "PUSHJ") || bytes_eq op (codes "PUSHGO")

abbrev pub is_pop : List ℕ → Bool
is_pop op = bytes_eq op (codes "POP")

abbrev pub keeps_return : List ℕ → Bool
keeps_return op =
    bytes_eq op (codes "SAVE") || bytes_eq op (codes "UNSAVE") || bytes_eq op (codes "GO") || bytes_eq op (codes "RESUME")

abbrev pub is_ending : List ℕ → Token → Bool
is_ending end t = ends_with t.text end

abbrev pub has_ending : List ℕ → List Token → Bool
has_ending end tokens = list_any (is_ending end) tokens

-- whether a statement may save rJ, or leads elsewhere without it
abbrev pub may_save : Statement → Bool
may_save s = keeps_return s.op.text || has_ending (codes "rJ") s.tokens

abbrev pub is_halt : Statement → Bool
is_halt s = bytes_eq s.op.text (codes "TRAP") && has_ending (codes "Halt") s.tokens

abbrev pub leads_away : Statement → Bool
leads_away s = bytes_eq s.op.text (codes "JMP") || is_halt s

-- ---- one statement after another

-- at a label that is called a subroutine begins
abbrev pub place_at_label : List Use → Option Piece → Place → Place
place_at_label uses None place = place
place_at_label uses (Some label) place = if is_called uses label.text then Inside else place

abbrev pub place_after_call : ℕ → Place → Place
place_after_call number Inside = After number
place_after_call number place = place

abbrev pub place_after_jump : Place → Place
place_after_jump (After number) = Outside
place_after_jump place = place

-- after a statement of the line with this number
abbrev pub place_by : ℕ → Statement → Place → Place
place_by number s place =
    if may_save s || is_pop s.op.text then Outside
    else if is_call s.op.text then place_after_call number place
    else if leads_away s then place_after_jump place
    else place

unfoldable pub place_after : List Use → ℕ → Statement → Place → Place
place_after uses number s place = place_by number s (place_at_label uses s.label place)

abbrev pub is_unsave : Statement → Bool
is_unsave s = bytes_eq s.op.text (codes "UNSAVE")

abbrev pub line_unsaves : SourceLine → Bool
line_unsaves line = list_any is_unsave line.statements

-- the call that a statement comes after, by its line
abbrev pub call_mark : Statement → Place → Option Mark
call_mark s (After number) = Some (mark_of s.op.from s.op.text number)
call_mark s place = None

abbrev pub unless_unsaved : List SourceLine → Option Mark → Option Mark
unless_unsaved lines None = None
unless_unsaved lines (Some mark) = if list_any line_unsaves lines then None else Some mark

-- a POP after a call
unfoldable pub lost_return : Survey → Statement → Place → Option Mark
lost_return survey s place =
    if is_pop s.op.text then unless_unsaved survey.lines (call_mark s (place_at_label survey.uses s.label place)) else None
