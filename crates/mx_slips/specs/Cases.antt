-- A label that is never used, where a name is used and not defined that differs from it in the case of letters alone.
use Rattle.std.specs.Prelude.{ℕ, ◌&&◌, List, [], ◌∷◌, drop, length, ◌-◌, Bool, false, not, codes, Option, None, Some, if◌then◌else◌}
use Rattle.std.specs.List.{find, list_any}
use Rattle.std.specs.Option.{option_map}
use Rattle.std.specs.Str.{bytes_eq, str_eq_ignore_ascii_case}
use Rattle.mx_word.specs.Kinds.{is_letter}
use Rattle.mx_slips.specs.declared.pieces.Piece.{Piece}
use Rattle.mx_slips.specs.declared.sources.SourceLine.{SourceLine}
use Rattle.mx_slips.specs.declared.sources.Statement.{Statement}
use Rattle.mx_slips.specs.declared.surveys.Survey.{Survey}
use Rattle.mx_slips.specs.declared.surveys.Use.{Use}
use Rattle.mx_slips.specs.declared.tokens.Token.{Token}
use Rattle.mx_slips.specs.declared.marks.Mark.{Mark}
use Rattle.mx_slips.specs.Marks.{mark_of}

-- whether a text ends with another one
abbrev pub ends_with : List ℕ → List ℕ → Bool
ends_with text end = bytes_eq (drop (length text - length end) text) end

-- A token that ends with a label uses it: a prefix may come before it.
abbrev pub is_use : List ℕ → Token → Bool
is_use label t = ends_with t.text label

abbrev pub is_use_of : List ℕ → Use → Bool
is_use_of label u = is_use label u.token

-- a name that differs from a label in the case of letters alone, and is not predefined
abbrev pub is_other_case : List ℕ → Token → Bool
is_other_case label t = not t.is_predefined && str_eq_ignore_ascii_case t.text label

-- whether a statement, a line or a source has a label that a token uses
abbrev pub is_label_of : Token → Option Piece → Bool
is_label_of t None = false
is_label_of t (Some label) = is_use label.text t

abbrev pub line_defines : Token → SourceLine → Bool
line_defines t line = list_any (λ (s : Statement). is_label_of t s.label) line.statements

abbrev pub is_defined : List SourceLine → Token → Bool
is_defined lines t = list_any (line_defines t) lines

abbrev pub is_misspelled : List SourceLine → List ℕ → Token → Bool
is_misspelled lines label t = is_other_case label t && not (is_defined lines t)

-- A label that begins with a letter; the program begins at Main, so that is used.
abbrev pub begins_letter : List ℕ → Bool
begins_letter [] = false
begins_letter (b ∷ bs) = is_letter b

abbrev pub is_named : List ℕ → Bool
is_named label = begins_letter label && not (ends_with label (codes "Main"))

abbrev pub is_used : List Use → List ℕ → Bool
is_used uses label = list_any (is_use_of label) uses

abbrev pub is_unused : List Use → List ℕ → Bool
is_unused uses label = is_named label && not (is_used uses label)

-- the first line that uses the other name
abbrev pub differs_from : List SourceLine → List ℕ → Use → Bool
differs_from lines label u = is_misspelled lines label u.token

unfoldable pub other_line : Survey → List ℕ → Option ℕ
other_line survey label = option_map (λ (u : Use). u.line) (find (differs_from survey.lines label) survey.uses)

abbrev pub other_mark : Piece → Option ℕ → Option Mark
other_mark label None = None
other_mark label (Some number) = Some (mark_of label.from label.text number)

-- the label, with that line
abbrev pub label_case : Survey → Option Piece → Option Mark
label_case survey None = None
label_case survey (Some label) =
    if is_unused survey.uses label.text then other_mark label (other_line survey label.text) else None

unfoldable pub other_case : Survey → Statement → Option Mark
other_case survey s = label_case survey s.label
